use Prim.Native.Nat.{◌-◌}
use mathlib.Core.Path.{◌≡◌}
use Rattle.tree_view.specs.Places.{name_from, names_from, AllThere}
use Rattle.definitions.specs.Bytes.{member}
use Rattle.parts.proofs.distinct.occurs.Given as goal

abbrev pub invariant-loop : goal.invariant-loop
invariant-loop l =
    (member (name_from l.tree l.at) (names_from l.tree l.n l.from) ≡ member (name_from l.tree l.at) (names_from l.tree (l.n - l.counter) l.p)) × AllThere l.tree (l.n - l.counter) l.p
