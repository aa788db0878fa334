use Rattle.heights.proofs.Checking.{part-in, part-coded, part-many, part-held}
use Rattle.heights.proofs.part_holds.Goals as goal

pub part_of-requires : goal.part_of-requires
part_of-requires c = part-in c.requires.0

pub code_holds-requires : goal.code_holds-requires
code_holds-requires c = let e = c.part_of.ensures.result_value in (part-coded c.requires.0 e (λ i. (c.type_inv.bytes i).fits), part-many c.requires.0 e, c.requires.1)

pub returns : goal.returns
returns c = part-held c.requires.0 c.part_of.ensures.result_value _ c.code_holds.ensures
