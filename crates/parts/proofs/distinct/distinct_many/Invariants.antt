use Rattle.parts.proofs.SearchLaws.{Sifting}
use Rattle.parts.proofs.distinct.distinct_many.Given as goal

abbrev pub invariant-loop-count : goal.invariant-loop-count
invariant-loop-count l = Sifting l.tree l.n l.at l.count l.p l.table
