use native.Mathlib.Omega.{arith}
use Rattle.std.specs.Prelude.{Ok, Err}
use Rattle.methods.proofs.Sorting.{rising-lent, insert-here, insert-before, slotted-as, here-below, before-below}
use Rattle.methods.proofs.insert_method.Goals as goal

pub offset_bounds-list-i : goal.offset_bounds-list-i
offset_bounds-list-i c = omega (arith, c.requires.1, here-below c.in-Ok.i _ _ _ _ _ c.requires.0 c.method_name-name.ensures.result_value c.in-Ok.ensures)

pub bounds-list-i : goal.bounds-list-i
bounds-list-i c = omega (arith, c.requires.0, here-below c.in-Ok.i _ _ _ _ _ c.requires.0 c.method_name-name.ensures.result_value c.in-Ok.ensures)

pub find_slot-requires : goal.find_slot-requires
find_slot-requires c = rising-lent _ _ _ c.requires.2

pub insert_at-requires : goal.insert_at-requires
insert_at-requires c = (c.requires.0, before-below c.in-Err.i _ _ _ _ _ c.requires.0 c.method_name-name.ensures.result_value c.in-Err.ensures)

pub returns-in-Ok : goal.returns-in-Ok
returns-in-Ok c = insert-here _ _ _ _ c.requires.0 _ (slotted-as c.in-Ok.i _ _ _ _ _ c.requires.0 c.method_name-name.ensures.result_value (Ok c.in-Ok.i) c.in-Ok.ensures)

pub returns-in-Err : goal.returns-in-Err
returns-in-Err c = insert-before _ _ _ _ c.requires.0 _ _ (slotted-as c.in-Err.i _ _ _ _ _ c.requires.0 c.method_name-name.ensures.result_value (Err c.in-Err.i) c.in-Err.ensures) c.insert_at.ensures
