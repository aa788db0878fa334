use native.Mathlib.Omega.{arith}
use Rattle.exports.proofs.Telling.{cut-few, cut-told}
use Rattle.exports.proofs.rulketoos_cut.Goals as goal

pub tell_found-requires : goal.tell_found-requires
tell_found-requires c = let h = c.well_formed.1.1.1.1.1 in cut-few _ _ _ c.limits_by.ensures _ _ _ _ _ _ _ c.cut.ensures c.cut.auto.out (omega arith)

pub returns : goal.returns
returns c = cut-told _ _ _ c.limits_by.ensures _ _ _ _ _ _ _ c.cut.ensures _ c.tell_found.ensures
