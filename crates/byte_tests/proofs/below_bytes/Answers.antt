use native.Mathlib.Omega.{arith}
use mathlib.Core.Path.{sym, ◌∙◌}
use Rattle.byte_tests.proofs.Below.{below-differ, below-go, below_lengths}
use Rattle.byte_tests.proofs.below_bytes.Goals as goal

pub returns-then-a-i : goal.returns-then-a-i
returns-then-a-i c = let a = c.args in sym (c.loop-i.invariant ∙ below-differ a.a.now a.b.now c.loop-i.i (omega arith) (omega arith) c.if-a-i.true)

pub loop-i-preserved : goal.loop-i-preserved
loop-i-preserved c = let a = c.args in c.loop-i.invariant ∙ below-go a.a.now a.b.now c.loop-i.i (omega arith) (omega arith) c.if-a-i.false

pub returns : goal.returns
returns c = let a = c.args in sym (c.loop-i.invariant ∙ below_lengths a.a.now a.b.now c.loop-i.i (omega arith) (omega arith) (λ p q. omega (arith, p, q)))
