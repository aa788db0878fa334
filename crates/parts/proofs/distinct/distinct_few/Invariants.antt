use mathlib.Core.Path.{◌≡◌}
use Rattle.tree_view.specs.Places.{names_from, AllThere}
use Rattle.definitions.specs.Wellformed.{distinct}
use Rattle.parts.proofs.distinct.distinct_few.Given as goal

abbrev pub invariant-loop-after : goal.invariant-loop-after
invariant-loop-after l = (distinct (names_from l.tree l.n l.at) ≡ distinct (names_from l.tree l.after l.p)) × AllThere l.tree l.after l.p
