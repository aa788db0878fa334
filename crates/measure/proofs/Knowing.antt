-- What a search tells of the functions and classes so far; and a call by name, one way out at a time.
use Prim.Native.Nat.{ℕ, ◌+◌, ◌-◌, ◌/◌, ◌^◌}
use mathlib.Core.Path.{◌≡◌, refl, sym, ap, ◌∙◌}
use mathlib.Core.Bool.{Bool, true, false, ◌||◌, true≢false}
use mathlib.Core.List.{List, map}
use mathlib.Core.Option as definitions
use mathlib.Core.Option.{none, some}
use native.Mathlib.Omega.{arith}
use lib.Dec.{eqb}
use lib.ListN.{take, drop}
use Rattle.std.specs.Prelude.{Option, Some, None}
use Rattle.std.specs.Option.{is_some}
use Rattle.definitions.specs.Bytes.{Name, same, position}
use Rattle.definitions.specs.Builtins.{builtin}
use Rattle.definitions.specs.Measured.{SoFar, is_there, direct}
use Rattle.state.specs.Words.{region}
use Rattle.state.specs.State.{heads_from, class_names_from, spelled, names_at}
use Rattle.names.specs.Sought.{place_in}
use Rattle.names.proofs.Finding.{sought-word}
use Rattle.measure.specs.declared.measurer.Measurer.{Measurer}
use Rattle.measure.specs.Known.{stands_in, holds_function, known_with, known}

-- ---- a place that is found

pub found-there : (r : Option ℕ) {o : definitions.Option ℕ} → place_in r ≡ o → is_some r ≡ is_there o
unfolding is_there
found-there (Some k) e = ap is_there e
found-there None e = ap is_there e

-- among the n words of an area from a on
part-there : (test : ℕ → Bool) (ts : List ℕ) (a n : ℕ) (r : Option ℕ) → place_in r ≡ position test (take (a + n - a) (drop a ts)) → is_some r ≡ is_there (position test (region a n ts))
part-there test ts a n r e = found-there r (sought-word test ts a (a + n - a) n (place_in r) (omega arith) e)

-- a name among those at places of the tree
pub stands-found : (tree ps : List ℕ) (x : Name) (r : Option ℕ) → place_in r ≡ position (same x) (names_at tree ps) → is_some r ≡ stands_in tree ps x
unfolding stands_in
stands-found tree ps x r e = found-there r e

-- ---- what the tables hold

module _ (m : Measurer) (x : Name) where
  abbrev tree : List ℕ
  tree = m.scope.tree.now

  abbrev symbol : definitions.Option ℕ
  symbol = position (same x) (map (spelled tree m.made.now) (region 0 m.symbols m.entries.now))

  by-symbol : (o : definitions.Option ℕ) → symbol ≡ o
      → holds_function m x ≡ elim o as (λ z. Bool) [ none ↦ false | some k ↦ is_there (position (λ h. eqb k (h / 2 ^ 16)) (region heads_from m.functions m.entries.now)) ]
  unfolding holds_function
  by-symbol o e = ap (λ (u : definitions.Option ℕ). elim u as (λ z. Bool) [ none ↦ false | some k ↦ is_there (position (λ h. eqb k (h / 2 ^ 16)) (region heads_from m.functions m.entries.now)) ]) e

  pub holds-none : none ≡ symbol → false ≡ holds_function m x
  holds-none e = sym (by-symbol none (sym e))

  pub holds-head : (k : ℕ) (r : Option ℕ) → some k ≡ symbol → place_in r ≡ position (λ h. eqb k (h / 2 ^ 16)) (take (heads_from + m.functions - heads_from) (drop heads_from m.entries.now))
      → is_some r ≡ holds_function m x
  holds-head k r e f = part-there (λ h. eqb k (h / 2 ^ 16)) m.entries.now heads_from m.functions r f ∙ sym (by-symbol (some k) (sym e))

  pub class-held : (r : Option ℕ) → place_in r ≡ position (same x) (names_at tree (take (class_names_from + m.classes - class_names_from) (drop class_names_from m.entries.now)))
      → is_some r ≡ stands_in tree (region class_names_from m.classes m.entries.now) x
  unfolding stands_in region
  class-held r e =
      let q : class_names_from + m.classes - class_names_from ≡ m.classes = omega arith in
      found-there r (e ∙ ap (λ (n : ℕ). position (same x) (names_at tree (take n (drop class_names_from m.entries.now)))) q)

  -- ---- both

  pub or-first : (a b c : Bool) → a ≡ c → a ≡ true → true ≡ (c || b)
  or-first a b c e h = ap (λ (u : Bool). u || b) (sym h ∙ e)

  pub or-second : (a b c r : Bool) → a ≡ c → a ≡ false → r ≡ b → r ≡ (c || b)
  or-second a b c r e h f = f ∙ ap (λ (u : Bool). u || b) (sym h ∙ e)

  pub function-held : (a : Bool) → a ≡ holds_function m x → a ≡ true → true ≡ (known m).is_function x
  unfolding known_with
  function-held a e h = or-first a (stands_in tree m.new_functions.now x) _ e h

  pub function-new : (a r : Bool) → a ≡ holds_function m x → a ≡ false → r ≡ stands_in tree m.new_functions.now x → r ≡ (known m).is_function x
  unfolding known_with
  function-new a r e h f = or-second a (stands_in tree m.new_functions.now x) _ r e h f

  pub is-held : (a : Bool) → a ≡ stands_in tree (region class_names_from m.classes m.entries.now) x → a ≡ true → true ≡ (known m).is_class x
  unfolding known_with
  is-held a e h = or-first a (stands_in tree m.new_classes.now x) _ e h

  pub is-new : (a r : Bool) → a ≡ stands_in tree (region class_names_from m.classes m.entries.now) x → a ≡ false → r ≡ stands_in tree m.new_classes.now x → r ≡ (known m).is_class x
  unfolding known_with
  is-new a r e h f = or-second a (stands_in tree m.new_classes.now x) _ r e h f

-- ---- a call by name

module _ (k : SoFar) (x y : Name) (e : y ≡ x) where
  by-builtin : definitions.Option ℕ → Bool
  by-builtin o = elim o as (λ z. Bool) [ some i ↦ true | none ↦ elim (k.is_class x) as (λ z. Bool) [ true ↦ false | false ↦ k.is_function x ] ]

  by-name : (r : Option ℕ) → place_in r ≡ builtin y → is_some r ≡ is_there (builtin x)
  by-name r h = found-there r h ∙ ap (λ (z : Name). is_there (builtin z)) e

  pub direct-builtin : (r : Option ℕ) → place_in r ≡ builtin y → is_some r ≡ true → true ≡ direct k x
  unfolding direct is_there by-builtin
  direct-builtin r h b = go (builtin x) (sym (by-name r h) ∙ b)
    where
      go : (o : definitions.Option ℕ) → is_there o ≡ true → true ≡ by-builtin o
      go none q = absurd (true≢false (sym q))
      go (some i) q = refl

  module _ (r : Option ℕ) (h : place_in r ≡ builtin y) (b : is_some r ≡ false) where
    by-class : (c : Bool) → k.is_class x ≡ c → elim c as (λ z. Bool) [ true ↦ false | false ↦ k.is_function x ] ≡ direct k x
    unfolding direct is_there by-builtin
    by-class c q = go (builtin x) (sym (by-name r h) ∙ b)
      where
        go : (o : definitions.Option ℕ) → is_there o ≡ false → elim c as (λ z. Bool) [ true ↦ false | false ↦ k.is_function x ] ≡ by-builtin o
        go none w = ap (λ (z : Bool). elim z as (λ u. Bool) [ true ↦ false | false ↦ k.is_function x ]) (sym q)
        go (some i) w = absurd (true≢false w)

    pub direct-class : (c : Bool) → c ≡ k.is_class y → c ≡ true → false ≡ direct k x
    direct-class c q w = by-class true (ap k.is_class (sym e) ∙ sym q ∙ w)

    pub direct-function : (c d : Bool) → c ≡ k.is_class y → c ≡ false → d ≡ k.is_function y → d ≡ direct k x
    direct-function c d q w f = f ∙ ap k.is_function e ∙ by-class false (ap k.is_class (sym e) ∙ sym q ∙ w)
