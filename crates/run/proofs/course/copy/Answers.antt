use mathlib.Core.Path.{refl, sym, ◌∙◌}
use native.Mathlib.Omega.{arith}
use lib.ListN.{length-set}
use Rattle.run.proofs.Storing.{stored_at, copy_start, copy-next, copy-end}
use Rattle.run.proofs.course.copy.Goals as goal

pub loop-i-init : goal.loop-i-init
loop-i-init c = let a = c.args in (omega arith, refl, copy_start a.events.now a.bytes.now a.at)

pub loop-i-preserved : goal.loop-i-preserved
loop-i-preserved c = let l = c.loop-i in (omega arith, simp length-set l.invariant.1, l.invariant.2 ∙ copy-next _ _ _ _ c.loop-i-test.true)

pub shape_of-events : goal.shape_of-events
shape_of-events c = c.loop-i.invariant.1

pub returns-after-loop-i : goal.returns-after-loop-i
returns-after-loop-i c = stored_at _ _ _ _ (sym (c.loop-i.invariant.2 ∙ copy-end _ _ _ _ c.loop-i-test.false))
