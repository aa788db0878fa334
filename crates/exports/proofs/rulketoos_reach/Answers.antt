use native.Mathlib.Omega.{arith}
use Rattle.exports.proofs.Telling.{reached-few, seeks-told}
use Rattle.exports.proofs.rulketoos_reach.Goals as goal

pub tell_found-requires : goal.tell_found-requires
tell_found-requires c = let h = c.well_formed.1.1.1.1.1 in reached-few _ c.reach.ensures c.reach.auto.out (omega arith)

pub returns : goal.returns
returns c = seeks-told _ c.reach.ensures _ c.tell_found.ensures
