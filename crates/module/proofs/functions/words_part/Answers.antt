-- the rest from the place on, and of that the words
use Rattle.state.specs.Words.{region}
use Rattle.module.proofs.Parts.{cut_part}
use Rattle.module.proofs.functions.words_part.Goals as goal

pub returns : goal.returns
unfolding region
returns c = cut_part _ _ _ _ _ c.min.ensures c.min-2.ensures
