use Rattle.run.proofs.Tabled.{Stopping}
use Rattle.run.proofs.tables.fill_stops.Given as goal

abbrev pub invariant-loop-k : goal.invariant-loop-k
invariant-loop-k l = Stopping l.function.code.now l.function.n l.k l.stop l.initial.stops l.stops
