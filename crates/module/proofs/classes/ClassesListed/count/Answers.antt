-- as many as there are names with a place
use mathlib.Core.Path.{◌∙◌}
use Rattle.module.proofs.CodeLengths.{classes-count}
use Rattle.module.proofs.classes.ClassesListed.count.Goals as goal

pub returns : goal.returns
returns c = c.min.ensures ∙ classes-count _ _ _ _
