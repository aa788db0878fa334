use mathlib.Core.Path.{◌∙◌}
use Rattle.exports.proofs.Telling.{read-told}
use Rattle.exports.proofs.rulketoos_heights.Goals as goal

pub returns : goal.returns
returns c = let G = c.check_heights.ensures in record { answer = c.tell.ensures ∙ read-told _ _ G.answer; left = G.leaves }
