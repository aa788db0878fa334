use native.Mathlib.Omega.{arith}
use Rattle.definitions.specs.Calls.{sheet_call}
use Rattle.definitions.specs.Sheet.{sheet}
use Rattle.exports.proofs.Telling.{text-few, text-told}
use Rattle.exports.proofs.rulketoos_count_sheet.Goals as goal

pub tell_count-requires : goal.tell_count-requires
unfolding sheet_call
tell_count-requires c = text-few 32 sheet _ _ _ _ c.count_sheet.ensures (omega (arith, c.well_formed))

pub returns : goal.returns
unfolding sheet_call
returns c = text-told 32 sheet _ _ _ _ c.count_sheet.ensures _ c.tell_count.ensures
