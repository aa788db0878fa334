use mathlib.Core.Path.{◌∙◌}
use Rattle.exports.proofs.Telling.{read-told}
use Rattle.exports.proofs.rulketoos_read.Goals as goal

pub returns : goal.returns
returns c = c.tell.ensures ∙ read-told _ _ c.read_module.ensures.answer
