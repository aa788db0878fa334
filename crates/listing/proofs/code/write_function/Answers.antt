use Rattle.tally.proofs.Parts.{part-inside}
use Rattle.listing.proofs.CodeLaws.{code_fits, code-lined}
use Rattle.listing.proofs.code.write_function.Goals as goal

pub count_code-end-requires : goal.count_code-end-requires
count_code-end-requires c = c.requires.0

pub overflow_sub-code : goal.overflow_sub-code
overflow_sub-code c = (part-inside c.requires.0 c.count_code-end.ensures.ends).0

pub part_of-requires : goal.part_of-requires
part_of-requires c = (part-inside c.requires.0 c.count_code-end.ensures.ends).1

pub write_code-put-requires : goal.write_code-put-requires
write_code-put-requires c = code_fits c.requires.0 c.count_code-end.ensures.ends c.part_of.ensures.result_value _ _ _ c.requires.1 c.requires.2 c.requires.3 c.requires.4

pub returns : goal.returns
returns c = code-lined c.requires.0 c.count_code-end.ensures.ends c.part_of.ensures.result_value c.write_code-put.ensures
