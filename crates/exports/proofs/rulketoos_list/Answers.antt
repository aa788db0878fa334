use native.Mathlib.Omega.{arith}
use Rattle.definitions.specs.Calls.{list_call}
use Rattle.definitions.specs.Listing.{listing}
use Rattle.exports.proofs.Telling.{text-few, text-told}
use Rattle.exports.proofs.rulketoos_list.Goals as goal

pub tell_count-requires : goal.tell_count-requires
unfolding list_call
tell_count-requires c = text-few 31 listing _ _ _ _ c.list.ensures (omega (arith, c.well_formed))

pub returns : goal.returns
unfolding list_call
returns c = text-told 31 listing _ _ _ _ c.list.ensures _ c.tell_count.ensures
