use native.Mathlib.Omega.{arith}
use Rattle.reader.proofs.Questions.{symbols-count, counts-are}
use Rattle.reader.proofs.layout.counts_of.Goals as goal

pub number_at-requires : goal.number_at-requires
number_at-requires c = let k = (symbols-count _ _ _ _ _ c.requires.laid).0 in (k, omega arith)

pub returns : goal.returns
returns c = let r = c.requires in counts-are _ _ _ _ _ r.laid _ _ _ _ _ c.number_at.ensures.0 r.strings.1 r.functions.1 r.classes.1 r.constants.1
