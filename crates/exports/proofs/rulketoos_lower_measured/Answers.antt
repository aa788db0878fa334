use native.Mathlib.Omega.{arith}
use Rattle.exports.proofs.Telling.{lowered-few, lowered-told}
use Rattle.exports.proofs.rulketoos_lower_measured.Goals as goal

pub tell_count-requires : goal.tell_count-requires
tell_count-requires c = let h = c.well_formed.1.1.1.1.1 in lowered-few _ _ _ c.limits_by.ensures _ _ _ c.args.out.now _ _ _ c.lower_measured.ensures (omega arith)

pub returns : goal.returns
returns c = lowered-told _ _ _ c.limits_by.ensures _ _ _ _ _ _ _ c.lower_measured.ensures _ c.tell_count.ensures
