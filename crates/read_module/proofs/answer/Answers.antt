-- The constants are the last list of an accepted module.
use Rattle.reader.proofs.Deciding.{constants-inside}
use Rattle.read_module.proofs.answer.Goals as goal

pub part_of-requires : goal.part_of-requires
part_of-requires g c = constants-inside _ _ c.in-Ok.ensures.sections
