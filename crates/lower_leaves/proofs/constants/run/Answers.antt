use Prim.Native.Nat.{ℕ, ◌-◌}
use mathlib.Core.Path.{ap, ◌∙◌}
use native.Mathlib.Omega.{arith}
use Rattle.state.specs.Words.{word}
use Rattle.lower_leaves.proofs.Runs.{running-start, running-inside, running-known, running-next}
use Rattle.lower_leaves.proofs.constants.run.Goals as goal

pub loop-i-init : goal.loop-i-init
loop-i-init c = running-start c.requires.0

pub bounds-tree-at : goal.bounds-tree-at
bounds-tree-at c = running-inside c.loop-i.invariant c.loop-i-test.true

pub of-requires : goal.of-requires
of-requires c = running-known c.loop-i.invariant c.loop-i-test.true

pub loop-i-preserved : goal.loop-i-preserved
loop-i-preserved c =
    let k = c.in-Some.ensures in
    running-next c.loop-i.invariant c.loop-i-test.true _ (omega (arith, k.0, c.of.ensures)) (k.1 ∙ ap (λ (b : ℕ). word (5 - b) 0 0) c.of.ensures)
