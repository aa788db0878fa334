use Rattle.tree_view.specs.Places.{name_from, names_from}
use Rattle.parts.specs.Search.{Searches}
use Rattle.parts.proofs.SearchLaws.{Seeking}
use Rattle.parts.proofs.distinct.put_name.Given as goal

abbrev pub invariant-loop-k : goal.invariant-loop-k
invariant-loop-k l = Searches l.tree l.table l.root (names_from l.tree l.count l.root) × Seeking l.tree l.table l.root (names_from l.tree l.count l.root) (name_from l.tree l.at) l.k l.p
