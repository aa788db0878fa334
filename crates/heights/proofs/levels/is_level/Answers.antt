use mathlib.Core.Path.{sym, ◌∙◌, refl}
use Rattle.heights.proofs.Instructions.{not-nothing, met, popped-here, left_here}
use Rattle.heights.proofs.Marked.{level-none, level-few, level-over, level-next}
use Rattle.heights.proofs.levels.is_level.Goals as goal

pub returns-then-mark-eq0 : goal.returns-then-mark-eq0
returns-then-mark-eq0 c = let a = c.args in level-none a.code.now a.area.now a.number a.p _ c.mark_at-mark.ensures.0 c.if-mark-eq0.true

pub returns-in_default : goal.returns-in_default
returns-in_default c = absurd (not-nothing c.requires refl (sym c.instruction_at.ensures ∙ c.in_default.is))

pub returns-then-mark-popped : goal.returns-then-mark-popped
returns-then-mark-popped c = let M = met c.requires refl (λ i. (c.type_inv.code i).fits) (sym c.instruction_at.ensures ∙ c.in-Some.is) in let a = c.args in
    level-few a.code.now a.area.now a.number a.p _ c.mark_at-mark.ensures.0 c.if-mark-eq0.false (popped-here M c.popped.ensures.0) c.if-mark-popped.true

pub returns-then-number-left : goal.returns-then-number-left
returns-then-number-left c = let M = met c.requires refl (λ i. (c.type_inv.code i).fits) (sym c.instruction_at.ensures ∙ c.in-Some.is) in let a = c.args in
    level-over a.code.now a.area.now a.number a.p _ c.mark_at-mark.ensures.0 c.if-mark-eq0.false (popped-here M c.popped.ensures.0) c.if-mark-popped.false
    (left_here M _ c.height_after-left.ensures.0) c.if-number-left.true

pub returns : goal.returns
returns c = let M = met c.requires refl (λ i. (c.type_inv.code i).fits) (sym c.instruction_at.ensures ∙ c.in-Some.is) in let a = c.args in
    level-next a.code.now a.area.now a.number a.p _ c.mark_at-mark.ensures.0 c.if-mark-eq0.false (popped-here M c.popped.ensures.0) c.if-mark-popped.false
    M (left_here M _ c.height_after-left.ensures.0) c.if-number-left.false c.are_next.ensures
