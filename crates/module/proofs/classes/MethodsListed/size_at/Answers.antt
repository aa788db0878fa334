-- the name, its count and a number of two bytes
use Rattle.module.proofs.Lengths.{length-method}
use Rattle.module.proofs.classes.MethodsListed.size_at.Goals as goal

pub returns : goal.returns
returns c = length-method _ _ _ c.name_part.ensures.result_value c.requires
