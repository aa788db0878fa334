-- A name more is a function or class more so far.
use Prim.Native.Nat.{ℕ, ◌+◌, ◌<◌}
use mathlib.Core.Path.{◌≡◌, refl, ap, ◌∙◌}
use mathlib.Core.Bool.{Bool, true, false, ◌||◌}
use mathlib.Core.List.{List, [], ◌∷◌, ◌++◌, map}
use native.Mathlib.Omega.{arith}
use lib.ListN.{length, take, set}
use Rattle.std.specs.Prelude.{Some}
use Rattle.std.proofs.lemmas.List.{map-append, take_more_set}
use Rattle.definitions.specs.Bytes.{Name, same, position}
use Rattle.definitions.specs.Measured.{is_there, add_function, add_class}
use Rattle.definitions.proofs.SoFarNames.{there-snoc}
use Rattle.state.specs.Words.{region, name_at}
use Rattle.state.specs.State.{class_names_from, names_at}
use Rattle.measure.specs.declared.measurer.Measurer.{Measurer}
use Rattle.measure.specs.Known.{stands_in, holds_function, known_with}
use Rattle.measure_stmts.specs.declared.begun.Begun.{Begun}
use Rattle.measure_stmts.specs.Walked.{Notes}
use Rattle.measure_stmts.proofs.Steps.{none-some}

or-more : (a b c : Bool) → (a || (b || c)) ≡ ((a || b) || c)
or-more true b c = refl
or-more false b c = refl

-- a place more
stands-more : (tree ps : List ℕ) (p : ℕ) (x : Name) → stands_in tree (ps ++ p ∷ []) x ≡ (stands_in tree ps x || same x (name_at tree p))
unfolding stands_in names_at
stands-more tree ps p x = ap (λ (ys : List Name). is_there (position (same x) ys)) (map-append (name_at tree) ps (p ∷ [])) ∙ there-snoc (same x) (map (name_at tree) ps) (name_at tree p)

module _ (m : Measurer) (fs cs : List ℕ) (p : ℕ) where
  abbrev tree : List ℕ
  tree = m.scope.tree.now

  function-more : known_with m (fs ++ p ∷ []) cs ≡ add_function (name_at tree p) (known_with m fs cs)
  unfolding known_with add_function
  function-more = λ i. record {
    is_function = λ x. (
        ap (λ (b : Bool). holds_function m x || b) (stands-more tree fs p x) ∙ or-more (holds_function m x) (stands_in tree fs x) (same x (name_at tree p))
        ) i;
    is_class = λ x. stands_in tree (region class_names_from m.classes m.entries.now) x || stands_in tree cs x;
  }

  class-more : known_with m fs (cs ++ p ∷ []) ≡ add_class (name_at tree p) (known_with m fs cs)
  unfolding known_with add_class
  class-more = λ i. record {
    is_function = λ x. holds_function m x || stands_in tree fs x;
    is_class = λ x. (
        ap (λ (b : Bool). stands_in tree (region class_names_from m.classes m.entries.now) x || b) (stands-more tree cs p x)
        ∙ or-more (stands_in tree (region class_names_from m.classes m.entries.now) x) (stands_in tree cs x) (same x (name_at tree p))
        ) i;
  }

-- ---- a name noted

module _ (a b : Begun) (p : ℕ) where
  pub noted-function : b.functions ≡ set a.functions a.function_count p → b.function_count ≡ a.function_count + 1 → b.classes ≡ a.classes → b.class_count ≡ a.class_count
      → a.function_count < length a.functions → Notes (Some (tt {0})) (λ t s. add_function (name_at t p) s) a b
  noted-function e f g h l = record {
    knows = λ x q m.
        (λ i. known_with m (take (f i) (e i)) (take (h i) (g i))) ∙ ap (λ (fs : List ℕ). known_with m fs (take a.class_count a.classes)) (take_more_set a.functions a.function_count p l)
        ∙ function-more m (take a.function_count a.functions) (take a.class_count a.classes) p;
    count = λ x q. omega arith;
    full = λ q. none-some q refl;
  }

  pub noted-class : b.functions ≡ a.functions → b.function_count ≡ a.function_count → b.classes ≡ set a.classes a.class_count p → b.class_count ≡ a.class_count + 1
      → a.class_count < length a.classes → Notes (Some (tt {0})) (λ t s. add_class (name_at t p) s) a b
  noted-class e f g h l = record {
    knows = λ x q m.
        (λ i. known_with m (take (f i) (e i)) (take (h i) (g i))) ∙ ap (λ (cs : List ℕ). known_with m (take a.function_count a.functions) cs) (take_more_set a.classes a.class_count p l)
        ∙ class-more m (take a.function_count a.functions) (take a.class_count a.classes) p;
    count = λ x q. omega arith;
    full = λ q. none-some q refl;
  }
