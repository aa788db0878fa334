use native.Mathlib.Omega.{arith}
use mathlib.Core.Path.{sym, ◌∙◌}
use Rattle.module.proofs.Rising.{next-onward, rising-start, rising-next, rising-done}
use Rattle.module.proofs.heights.height_of.Goals as goal
use Rattle.module.proofs.heights.height_of.Goals.{then-onward, else-onward}

pub loop-i-init : goal.loop-i-init
loop-i-init c = rising-start _

pub loop-i-preserved : goal.loop-i-preserved
loop-i-preserved c =
    let e = c.left_by-left.ensures in
    elim c.if-onward.branch [
      | then-onward w ↦
          rising-next c.loop-i.invariant c.loop-i-test.true e.left.0 e.left.1 c.max-most.ensures
          (λ t. w.h-is ∙ e.left.0 t ∙ next-onward _ _ (sym (e.onward t) ∙ w.if-onward.true)) (omega (arith, w.h-is))
      | else-onward w ↦
          let n = w.height_turned-h.ensures in
          rising-next c.loop-i.invariant c.loop-i-test.true e.left.0 e.left.1 c.max-most.ensures (λ t. w.h-is ∙ n.0 t) (omega (arith, w.h-is, n.1))
    ]

pub returns : goal.returns
returns c = rising-done c.loop-i.invariant c.loop-i-test.false
