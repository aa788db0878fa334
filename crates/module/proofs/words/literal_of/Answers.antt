-- an integer or a float keeps its bits
use mathlib.Core.Path.{◌∙◌}
use mathlib.Core.List.{[]}
use Rattle.exprs.proofs.LiteralLaws.{int-bits, float-bits}
use Rattle.module.proofs.words.literal_of.Goals as goal

pub returns-then-w-lt-WORD_OP : goal.returns-then-w-lt-WORD_OP
returns-then-w-lt-WORD_OP c = let h = c.int_literal.ensures [] in (h.plain, int-bits _ _ [] h ∙ c.eight_at-bits.ensures)

pub returns-else-w-lt-WORD_OP : goal.returns-else-w-lt-WORD_OP
returns-else-w-lt-WORD_OP c = let h = c.float_literal.ensures [] in (h.plain, float-bits _ _ [] h ∙ c.eight_at-bits.ensures)
