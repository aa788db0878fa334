use native.Mathlib.Omega.{arith}
use Prim.Native.Nat.{◌≤◌}
use mathlib.Core.Path.{sym, ◌∙◌}
use lib.ListN.{length}
use Rattle.byte_tests.proofs.Same.{same-go, same_stop, same_none, same-other}
use Rattle.byte_tests.proofs.same_bytes.Goals as goal

pub returns-then-a-b : goal.returns-then-a-b
returns-then-a-b c = same-other _ _ c.if-a-b.true

pub returns-then-a-i : goal.returns-then-a-i
returns-then-a-i c = sym (c.loop-i.invariant ∙ same_stop _ _ _ c.if-a-b.false c.loop-i-test.true c.if-a-i.true)

pub loop-i-preserved : goal.loop-i-preserved
loop-i-preserved c = c.loop-i.invariant ∙ same-go _ _ _ c.if-a-b.false c.loop-i-test.true c.if-a-i.false

pub returns : goal.returns
returns c = let h : length c.args.b.now ≤ c.loop-i.i = omega arith in sym (c.loop-i.invariant ∙ same_none _ _ _ c.loop-i-test.false h)
