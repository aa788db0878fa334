use mathlib.Core.Path.{◌∙◌}
use native.Mathlib.Omega.{arith}
use Rattle.reader.proofs.Deciding.{located-inside, located-part, located-start}
use Rattle.reader.proofs.function_code.Goals as goal

pub part_of-requires : goal.part_of-requires
part_of-requires c = located-inside _ _ _ c.locate.ensures

pub returns-clause-result_value : goal.returns-clause-result_value
returns-clause-result_value c = c.part_of.ensures.result_value ∙ located-part _ _ _ c.locate.ensures

pub returns-clause-begins : goal.returns-clause-begins
returns-clause-begins c = let b = c.part_of.ensures.begins in let k = b.1 in let e = located-start _ _ _ c.locate.ensures in (b.0, omega arith)
