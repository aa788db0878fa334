use mathlib.Core.Path.{ap, sym, ◌∙◌}
use Rattle.told.specs.Tells.{asked_as_number}
use Rattle.told.proofs.Four.{counted-run, counted-no}
use Rattle.told.proofs.tell_run.Goals as goal

pub returns-in-Ok-clause-answer : goal.returns-in-Ok-clause-answer
unfolding asked_as_number
returns-in-Ok-clause-answer c = ap asked_as_number (sym c.in-Ok.is)

pub returns-in-Ok-clause-counts : goal.returns-in-Ok-clause-counts
returns-in-Ok-clause-counts c = counted-run _ _ _ _ c.in-Ok.is c.number-ending.ensures c.put_four.ensures

pub returns-in-Err-clause-answer : goal.returns-in-Err-clause-answer
unfolding asked_as_number
returns-in-Err-clause-answer c = c.number.ensures ∙ ap asked_as_number (sym c.in-Err.is)

pub returns-in-Err-clause-counts : goal.returns-in-Err-clause-counts
returns-in-Err-clause-counts c = counted-no _ _ _ _ c.in-Err.is c.put_four-in-Err.ensures
