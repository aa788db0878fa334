use mathlib.Core.Path.{refl, sym, subst, ◌∙◌}
use denote.Param.Always.{always_mut, mut_next}
use Rattle.std.proofs.Math.Nat.{le_antisymm}
use Rattle.vectors.specs.Lines.{over, bare}
use Rattle.vectors.proofs.Calls.{reads-on, fails-so, from-there, spent-at}
use Rattle.vectors.proofs.Lines.each_case.Goals.{then-has_field+in_ok-read, else-has_field}
use Rattle.vectors.proofs.Lines.each_case.Goals as goal

pub returns-then-has_ended-clause-cases : goal.returns-then-has_ended-clause-cases
returns-then-has_ended-clause-cases g c = c.loop.invariant.1 _ _ (over (sym c.has_ended.ensures ∙ c.if-has_ended.true))

pub returns-in_err-read-clause-cases : goal.returns-in_err-read-clause-cases
returns-in_err-read-clause-cases g c =
    c.loop.invariant.1 _ _ (fails-so _ _ _ _ _ _ _ _ _ _ _ c.from_residual.ensures.1 (sym c.has_ended.ensures ∙ c.if-has_ended.false) (sym c.has_field.ensures ∙ c.if-has_field.true) c.in_err-read.ensures)

pub loop-preserved : goal.loop-preserved
loop-preserved g c = elim c.if-has_field.branch [
  | then-has_field+in_ok-read w ↦ (
    λ h. mut_next g.F.FnMut _ _ _ _ _ w.in_ok-read.ensures (sym w.read-is) (c.loop.invariant.0 h),
    λ r z rest. c.loop.invariant.1 r z
        (reads-on _ _ _ _ _ _ _ _ _ w.skip_line.new.self _ _ (sym c.has_ended.ensures ∙ c.if-has_ended.false) (sym c.has_field.ensures ∙ w.if-has_field.true) w.in_ok-read.ensures
        (record { ends = w.skip_line.ensures.ends; stays = w.skip_line.ensures.stays }) (from-there _ _ _ _ _ _ _ _ _ _ _ refl w.read-is w.self-is rest)),
  )
  | else-has_field w ↦ (
    λ h. subst (always_mut g.F.FnMut) (sym w.read-is) (c.loop.invariant.0 h),
    λ r z rest. c.loop.invariant.1 r z
        (bare c.skip_name.new.self (sym c.has_ended.ensures ∙ c.if-has_ended.false) c.skip_name.ensures (sym c.has_field.ensures ∙ w.if-has_field.false) (from-there _ _ _ _ _ _ _ _ _ _ _ refl w.read-is w.self-is rest)),
  )
]

pub returns-clause-cases : goal.returns-clause-cases
returns-clause-cases g c = c.loop.invariant.1 _ _ (spent-at _ _ _ _ _ _ _ (le_antisymm c.loop.auto.counter-end c.loop-test.false) refl)
