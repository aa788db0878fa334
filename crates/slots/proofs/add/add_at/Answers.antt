use mathlib.Core.Path.{refl, sym, ◌∙◌}
use mathlib.Core.Option.{none, some}
use Rattle.slots.proofs.Adding.{added-there, added_new, place-found, place-missed}
use Rattle.slots.proofs.add.add_at.Goals as goal

pub returns-then-is_some : goal.returns-then-is_some
returns-then-is_some c =
    let a = c.args in
    let k = place-found c.find_from.result (sym c.is_some.ensures ∙ c.if-is_some.true) in
    added-there a.tree.now a.slots.now a.n a.at a.b (some k.0) _ c.requires.0 c.requires.1 c.requires.4 c.name_part.ensures.result_value (sym k.1 ∙ c.find_from.ensures) k.0 refl

pub returns : goal.returns
returns c =
    let a = c.args in
    let k = place-missed c.find_from.result (sym c.is_some.ensures ∙ c.if-is_some.false) in
    added_new a.tree.now a.slots.now a.n a.at a.b none _ c.requires.0 c.requires.1 c.requires.4 c.name_part.ensures.result_value (sym k ∙ c.find_from.ensures) c.start-first.result c.start-first.ensures.0 c.start-first.ensures.1 refl
