use native.Mathlib.Omega.{arith}
use mathlib.Core.Path.{sym, ap, ◌∙◌}
use mathlib.Core.Option.{none, some}
use Rattle.definitions.proofs.Resolve.{position-lt}
use Rattle.names.specs.Sought.{place_in}
use Rattle.names.proofs.Indexing.{slot-found, slots-count}
use Rattle.names.proofs.emit.find_slot.Goals as goal

pub returns-in_err-slot : goal.returns-in_err-slot
returns-in_err-slot c = let a = c.args in ap place_in c.from_residual.ensures ∙ slot-found a.tree.now a.slots.now _ _ _ none c.requires c.name_part-name.ensures.result_value c.slot_bucket.ensures.0 c.in_err-slot.ensures

pub overflow_cast-result : goal.overflow_cast-result
overflow_cast-result c =
    let a = c.args in
    let e = slot-found a.tree.now a.slots.now _ _ _ (some _) c.requires c.name_part-name.ensures.result_value c.slot_bucket.ensures.0 c.in_ok-slot.ensures in
    omega (arith, position-lt _ _ _ (sym e), slots-count a.tree.now a.slots.now c.requires)

pub returns : goal.returns
returns c = let a = c.args in slot-found a.tree.now a.slots.now _ _ _ (some c.in_ok-slot.slot) c.requires c.name_part-name.ensures.result_value c.slot_bucket.ensures.0 c.in_ok-slot.ensures
