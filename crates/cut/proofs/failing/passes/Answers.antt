use Rattle.cut.proofs.Sifting.{alone-slots, alone-fine, alone-no}
use Rattle.cut.proofs.failing.passes.Goals as goal

pub returns-in-Slots : goal.returns-in-Slots
returns-in-Slots c = alone-slots _ _ c.in-Slots.is c.check_top_slots.ensures

pub returns-in-Ok : goal.returns-in-Ok
returns-in-Ok c = alone-fine _ _ c.in_default.not-Slots c.check_top.ensures c.in-Ok.is

pub returns-in-Err : goal.returns-in-Err
returns-in-Err c = alone-no _ _ c.in_default.not-Slots c.check_top.ensures c.in-Err.is c.number.ensures c.number-in-Err.ensures
