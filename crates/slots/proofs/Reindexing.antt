-- An index made anew, from the last name to the first; and the slots it stands before. Assumes nothing.
use Prim.Native.Nat.{ℕ, suc, ◌+◌, ◌-◌, ◌<◌, ◌≤◌}
use mathlib.Core.Path.{◌≡◌, refl, sym, ap, ◌∙◌, subst}
use mathlib.Core.List.{List, ◌∷◌, ◌++◌}
use native.Mathlib.Omega.{arith}
use lib.ListN.{length, take, drop, get_or, set, get_or-append}
use lib.Seq.{drop-cons, drop-length, length-take-le, take-append-add, take-append-le, take_all, drop_at}
use Rattle.definitions.specs.Bytes.{Name}
use Rattle.state.specs.Words.{name_at}
use Rattle.state.specs.Index.{Covered, none_covered}
use Rattle.state.specs.State.{names_at, slots_from}
use Rattle.names.proofs.Indexing.{covered-as, covered-cons}
use Rattle.slots.specs.Slotted.{first_names, Indexed, IsBucket, Appended}
use Rattle.slots.proofs.Adding.{names-append}

-- the names from the i-th on have their index
pub record IndexLeft (t places index : List ℕ) (i : ℕ) : Type 0 where
  pub most : i ≤ length places
  pub from-here : Covered slots_from index i (names_at t (drop i places))

module _ (t places index : List ℕ) where
  pub index-start : IndexLeft t places index (length places)
  unfolding names_at
  index-start = record { most = omega arith; from-here = subst (λ (l : List ℕ). Covered slots_from index (length places) (names_at t l)) (sym (drop-length places)) none_covered }

  module _ (i : ℕ) (l : IndexLeft t places index i) where
    module _ (h : 0 < i) where
      one-more : names_at t (drop (i - 1) places) ≡ name_at t (get_or places (i - 1) 0) ∷ names_at t (drop i places)
      unfolding names_at
      one-more =
          let m = l.most in
          let e : suc (i - 1) ≡ i = omega arith in
          ap (names_at t) (drop-cons places (i - 1) 0 (omega arith)) ∙ ap (λ (j : ℕ). name_at t (get_or places (i - 1) 0) ∷ names_at t (drop j places)) e

      pub index-next : (b : ℕ) → length index ≡ slots_from → IsBucket b t (get_or places (i - 1) 0) → IndexLeft t places (set index b (i - 1 + 1)) (i - 1)
      index-next b k q =
          let m = l.most in
          let z = q.below in
          let e : i ≡ i - 1 + 1 = omega arith in
          let v : Covered slots_from index (i - 1 + 1) (names_at t (drop i places)) = subst (λ (j : ℕ). Covered slots_from index j (names_at t (drop i places))) e l.from-here in
          record {
            most = omega arith;
            from-here = subst (λ (xs : List Name). Covered slots_from (set index b (i - 1 + 1)) (i - 1) xs) (sym one-more)
                (covered-cons slots_from index b (omega arith) (name_at t (get_or places (i - 1) 0)) (i - 1) (names_at t (drop i places)) (sym q.is) v);
          }

    pub index-done : i ≤ 0 → Covered slots_from index 0 (names_at t places)
    index-done h = let e : i ≡ 0 = omega arith in subst (λ (j : ℕ). Covered slots_from index j (names_at t (drop j places))) e l.from-here

-- ---- the index, and places after it

module _ (t index places : List ℕ) (k : length index ≡ slots_from) where
  pub placed-names : (n : ℕ) → first_names t n (index ++ places) ≡ names_at t (take n places)
  unfolding first_names
  placed-names n = ap (λ (l : List ℕ). names_at t (take n l)) (drop_at index places slots_from k)

  pub placed : (n : ℕ) → Covered slots_from index 0 (names_at t (take n places)) → Indexed t n (index ++ places)
  placed n v = record {
    at = subst (Covered slots_from (index ++ places) 0) (sym (placed-names n))
        (covered-as slots_from index (index ++ places) (omega arith) (λ i h. get_or-append index places 0 i (omega arith)) 0 (names_at t (take n places)) v);
  }

-- n places, before those that are left
pub front-all : (n : ℕ) (part rest : List ℕ) → length part ≡ n → take n (part ++ rest) ≡ part
front-all n part rest e = take-append-le n part rest (omega arith) ∙ take_all n part (omega arith)

-- ---- slots appended

module _ (t ps index places more post : List ℕ) (k : ℕ) (e : places ≡ drop slots_from ps) (h : k ≤ length places) (w : length index ≡ slots_from) where
  all-places : take (k + length more) (take k places ++ (more ++ post)) ≡ take k places ++ more
  all-places =
      let front : length (take k places) ≡ k = length-take-le k places h in
      ap (λ (j : ℕ). take (j + length more) (take k places ++ (more ++ post))) (sym front) ∙ take-append-add (take k places) (more ++ post) (length more)
      ∙ ap (λ (l : List ℕ). take k places ++ l) (front-all (length more) more post refl)

  pub appended : (copy : List ℕ) → copy ≡ more → Covered slots_from index 0 (names_at t (take (k + length more) (take k places ++ (copy ++ post)))) → Appended t k more ps (index ++ (take k places ++ (copy ++ post)))
  unfolding first_names
  appended copy c v =
      let same : take k places ++ (copy ++ post) ≡ take k places ++ (more ++ post) = ap (λ (l : List ℕ). take k places ++ (l ++ post)) c in record {
        names = placed-names t index (take k places ++ (copy ++ post)) w (k + length more) ∙ ap (λ (l : List ℕ). names_at t (take (k + length more) l)) same ∙ ap (names_at t) all-places ∙ names-append t (take k places) more
            ∙ ap (λ (l : List ℕ). names_at t (take k l) ++ names_at t more) e;
        indexed = placed t index (take k places ++ (copy ++ post)) w (k + length more) v;
      }
