-- What a measure knows of the functions and classes so far: what the tables hold, and what began in what is measured.
use Rattle.std.specs.Prelude.{ℕ, ◌/◌, ◌^◌, Bool, false, ◌||◌, List, map, eqb}
use Rattle.std.proofs.Math.Option.{none, some}
use Rattle.definitions.specs.Bytes.{Name, same, position}
use Rattle.definitions.specs.Measured.{SoFar, is_there}
use Rattle.state.specs.Words.{region}
use Rattle.state.specs.State.{heads_from, class_names_from, spelled, names_at, slot_names}
use Rattle.measure.specs.declared.measurer.Measurer.{Measurer}

-- the names of the slots
abbrev pub names_in : Measurer → List Name
names_in m = slot_names m.scope.tree.now m.scope.slots.now

-- a name is among those at places of the tree
unfoldable pub stands_in : List ℕ → List ℕ → Name → Bool
stands_in tree ps x = is_there (position (same x) (names_at tree ps))

-- the tables hold a function with the name
unfoldable pub holds_function : Measurer → Name → Bool
holds_function m x =
    elim (position (same x) (map (spelled m.scope.tree.now m.made.now) (region 0 m.symbols m.entries.now))) [
      | none ↦ false
      | some k ↦ is_there (position (λ h. eqb k (h / 2 ^ 16)) (region heads_from m.functions m.entries.now))
    ]

-- with the functions and classes whose names stand at these places
unfoldable pub known_with : Measurer → List ℕ → List ℕ → SoFar
known_with m fs cs = record {
  is_function = λ x. holds_function m x || stands_in m.scope.tree.now fs x;
  is_class = λ x. stands_in m.scope.tree.now (region class_names_from m.classes m.entries.now) x || stands_in m.scope.tree.now cs x;
}

abbrev pub known : Measurer → SoFar
known m = known_with m m.new_functions.now m.new_classes.now
