use mathlib.Core.Path.{◌∙◌}
use Rattle.exports.proofs.Telling.{check-told}
use Rattle.exports.proofs.rulketoos_check.Goals as goal

pub returns : goal.returns
returns c = c.tell.ensures ∙ check-told _ _ c.check_tree.ensures
