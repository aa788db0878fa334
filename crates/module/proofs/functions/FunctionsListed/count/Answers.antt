-- as many as there are heads with a place
use mathlib.Core.Path.{◌∙◌}
use Rattle.module.proofs.CodeLengths.{functions-count}
use Rattle.module.proofs.functions.FunctionsListed.count.Goals as goal

pub returns : goal.returns
returns c = c.min.ensures ∙ functions-count _ _ _ _
