use Rattle.slots.proofs.Reindexing.{IndexLeft}
use Rattle.slots.proofs.index.index_places.Given as goal

abbrev pub invariant-loop-j : goal.invariant-loop-j
invariant-loop-j l = IndexLeft l.tree l.places l.index l.j
