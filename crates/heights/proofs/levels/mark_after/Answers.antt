use mathlib.Core.Path.{sym, ◌∙◌, refl}
use Rattle.heights.proofs.Instructions.{not-nothing, met, marked-here}
use Rattle.heights.proofs.levels.mark_after.Goals as goal

pub returns-in_default : goal.returns-in_default
returns-in_default c = absurd (not-nothing c.requires.0 refl (sym c.instruction_at.ensures ∙ c.in_default.is))

pub returns : goal.returns
returns c =
    let M = met c.requires.0 refl (λ i. (c.type_inv.code i).fits) (sym c.instruction_at.ensures ∙ c.in-Some.is) in
    marked-here M _ c.height_after.ensures.0
