-- Where no names are noted, what is known is what is so far in the tables that the slices show.
use Prim.Native.Nat.{ℕ, ◌/◌, ◌^◌}
use mathlib.Core.Path.{◌≡◌, refl, sym, ap, ◌∙◌}
use mathlib.Core.Bool.{Bool, false, ◌||◌}
use mathlib.Core.Option.{Option, none, some}
use mathlib.Core.List.{List, [], map}
use lib.Dec.{eqb}
use lib.ListN.{drop}
use native.Mathlib.Omega.{arith}
use Rattle.std.proofs.Math.Bool.{or-false}
use Rattle.definitions.specs.Bytes.{Name, same, position}
use Rattle.definitions.specs.Tables.{Function, Tables}
use Rattle.definitions.specs.Measured.{is_there, function_in, class_in, so_far}
use Rattle.state.specs.Words.{region}
use Rattle.state.specs.State.{heads_from, class_names_from, spelled, names_at, codes_from, class_methods_from, methods_from, done_from, tables_of, Sound}
use Rattle.state.specs.declared.Counts.{Counts}
use Rattle.state.specs.declared.Limits.{Limits}
use Rattle.state.proofs.Regions.{region-length}
use Rattle.names.proofs.Calling.{classes-place, functions-place}
use Rattle.measure.specs.declared.measurer.Measurer.{Measurer}
use Rattle.measure.specs.Known.{stands_in, holds_function, known_with}

-- no place is noted
nothing : (tree : List ℕ) (x : Name) (a : Bool) → (a || stands_in tree [] x) ≡ a
unfolding stands_in names_at position is_there
nothing tree x a = or-false a

-- the counts of a measurer are those of the tables
pub record Counted (m : Measurer) (c : Counts) : Type 0 where
  pub symbols : m.symbols ≡ c.symbols
  pub functions : m.functions ≡ c.functions
  pub classes : m.classes ≡ c.classes

module _ (m : Measurer) (code : List ℕ) (c : Counts) (l : Limits) (s : Sound m.scope.tree.now m.made.now code m.entries.now c l) (n : Counted m c) where
  abbrev shown : Tables
  shown = tables_of m.scope.tree.now m.made.now code m.entries.now c

  module _ (x : Name) where
    -- by the number of the name's symbol
    by-heads : Option ℕ → ℕ → Bool
    by-heads o k = elim o as (λ z. Bool) [ none ↦ false | some i ↦ is_there (position (λ h. eqb i (h / 2 ^ 16)) (region heads_from k m.entries.now)) ]

    by-functions : Option ℕ → Bool
    by-functions o = elim o as (λ z. Bool) [ none ↦ false | some i ↦ is_there (position (λ (f : Function). eqb i f.symbol) shown.functions) ]

    either : (o : Option ℕ) → by-heads o c.functions ≡ by-functions o
    unfolding tables_of by-heads by-functions
    either none = refl
    either (some i) = ap is_there (sym (functions-place i m.scope.tree.now (drop done_from code) (region heads_from c.functions m.entries.now) (region codes_from c.functions m.entries.now)
        (region-length heads_from c.functions m.entries.now (omega (arith, s.limited)) ∙ sym (region-length codes_from c.functions m.entries.now (omega (arith, s.limited))))))

    held-function : holds_function m x ≡ function_in shown x
    unfolding holds_function function_in tables_of by-heads by-functions
    held-function =
        (λ i. by-heads (position (same x) (map (spelled m.scope.tree.now m.made.now) (region 0 (n.symbols i) m.entries.now))) (n.functions i))
        ∙ either (position (same x) (map (spelled m.scope.tree.now m.made.now) (region 0 c.symbols m.entries.now)))

    held-class : stands_in m.scope.tree.now (region class_names_from m.classes m.entries.now) x ≡ class_in shown x
    unfolding stands_in class_in tables_of
    held-class =
        ap (λ (k : ℕ). is_there (position (same x) (names_at m.scope.tree.now (region class_names_from k m.entries.now)))) n.classes
        ∙ ap is_there (sym (classes-place x m.scope.tree.now (region methods_from 256 m.entries.now) (region class_names_from c.classes m.entries.now) (region class_methods_from c.classes m.entries.now)
        (region-length class_names_from c.classes m.entries.now (omega (arith, s.limited)) ∙ sym (region-length class_methods_from c.classes m.entries.now (omega (arith, s.limited))))))

  pub known-tables : known_with m [] [] ≡ so_far shown
  unfolding known_with so_far
  known-tables = λ i. record {
    is_function = λ x. (nothing m.scope.tree.now x (holds_function m x) ∙ held-function x) i;
    is_class = λ x. (nothing m.scope.tree.now x (stands_in m.scope.tree.now (region class_names_from m.classes m.entries.now) x) ∙ held-class x) i;
  }
