use Rattle.cut.specs.Seeking.{Tops}
use Rattle.cut.proofs.begin.likely_count.Given as goal

abbrev pub invariant-loop-step : goal.invariant-loop-step
invariant-loop-step l = Tops l.tree l.last

abbrev pub decreases-loop-step : goal.decreases-loop-step
decreases-loop-step l = l.step
