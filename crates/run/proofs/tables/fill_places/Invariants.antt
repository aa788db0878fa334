use Rattle.run.proofs.Tabled.{Filling}
use Rattle.run.proofs.tables.fill_places.Given as goal

abbrev pub invariant-loop-placed : goal.invariant-loop-placed
invariant-loop-placed l = Filling l.code l.placed-iterator l.initial.places l.places
