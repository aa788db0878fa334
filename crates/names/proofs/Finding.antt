-- The first element of a list that passes a test: by the definitions' word for its place, and by std's.
use Prim.Native.Nat.{ℕ, suc, ◌+◌, ◌≤◌, ◌<◌}
use mathlib.Core.Path.{◌≡◌, refl, sym, ap, ◌∙◌}
use mathlib.Core.Bool.{Bool, true, false}
use mathlib.Core.Option.{Option, none, some}
use mathlib.Core.List.{List, [], ◌∷◌, map}
use native.Mathlib.Omega.{arith}
use native.Mathlib.Nat.{zero-add, add-zero}
use native.Mathlib.Numerals.{add-one}
use lib.ListN.{length, take, drop, get_or, length-map, drop_of_length-le}
use lib.Seq.{drop-cons}
use Rattle.std.specs.Prelude as Found
use Rattle.std.specs.Prelude.{cond, Some, None}
use Rattle.std.specs.Option.{unwrap_or}
use Rattle.std.specs.List as std
use Rattle.std.specs.List.{position_from}
use Rattle.std.proofs.lemmas.Iterator.Adapters.{position_from-zero}
use Rattle.definitions.specs.Bytes.{Name, same, position}
use Rattle.definitions.proofs.Resolve.{position-lt}
use Rattle.state.specs.Words.{region, name_at}
use Rattle.state.specs.State.{names_at, found_or}
use Rattle.names.specs.Sought.{place_in, shifted}

pub shifted-zero : (o : Option ℕ) → o ≡ shifted 0 o
unfolding shifted
shifted-zero none = refl
shifted-zero (some k) = ap (λ (n : ℕ). some n) (sym (zero-add k))

-- the place by whether the first element passes
unfoldable pub step : Bool → Option ℕ → Option ℕ
step true o = some 0
step false o = elim o [ none ↦ none | some k ↦ some (suc k) ]

pub position-cons : {A : Type 0} (test : A → Bool) (x : A) (xs : List A) → position test (x ∷ xs) ≡ step (test x) (position test xs)
unfolding position step
position-cons test x xs = go (test x)
  where
    go : (b : Bool) → elim b as (λ c. Option ℕ) [ true ↦ some 0 | false ↦ elim (position test xs) as (λ c. Option ℕ) [ none ↦ none | some i ↦ some (suc i) ] ] ≡ step b (position test xs)
    go true = refl
    go false = refl

pub step_shifted : (i : ℕ) (o : Option ℕ) → step false (shifted i o) ≡ shifted (suc i) o
unfolding shifted step
step_shifted i none = refl
step_shifted i (some k) = let e : suc (i + k) ≡ suc i + k = omega arith in ap (λ (n : ℕ). some n) e

shifted_next : (i : ℕ) (o : Option ℕ) → shifted i (step false o) ≡ shifted (i + 1) o
unfolding shifted step
shifted_next i none = refl
shifted_next i (some k) = let e : i + suc k ≡ i + 1 + k = omega arith in ap (λ (n : ℕ). some n) e

-- ---- a place that code hands back

-- std's search from a number on
place-from : {A : Type 0} (test : A → Bool) (i : ℕ) (xs : List A) → place_in (position_from test i xs) ≡ shifted i (position test xs)
unfolding position shifted step
place-from test i [] = refl
place-from test i (x ∷ xs) = go (test x) (place-from test (i + 1) xs) ∙ ap (shifted i) (sym (position-cons test x xs))
  where
    go : (b : Bool) → place_in (position_from test (i + 1) xs) ≡ shifted (i + 1) (position test xs) → place_in (cond b (Some i) (position_from test (i + 1) xs)) ≡ shifted i (step b (position test xs))
    go true e = ap (λ (n : ℕ). some n) (sym (add-zero i))
    go false e = e ∙ sym (shifted_next i (position test xs))

-- what `position` answers, as the definitions say it
pub place-is : {A : Type 0} (test : A → Bool) (xs : List A) (r : Found.Option ℕ) → r ≡ std.position test xs → place_in r ≡ position test xs
place-is test xs r e = ap place_in (e ∙ position_from-zero test xs) ∙ place-from test 0 xs ∙ sym (shifted-zero (position test xs))

-- the same with another answer where there is none
pub found-by : (n : ℕ) (r : Found.Option ℕ) (o : Option ℕ) → place_in r ≡ o → unwrap_or r n ≡ found_or n o
unfolding found_or
found-by n None o e = ap (found_or n) e
found-by n (Some k) o e = ap (found_or n) e

-- ---- a search from the beginning on

-- among the words ws none before i passes the test
unfoldable pub Passed : (ℕ → Bool) → List ℕ → ℕ → Type 0
Passed test ws i = position test ws ≡ shifted i (position test (drop i ws))

module _ (test : ℕ → Bool) (ws : List ℕ) where
  pub seek-start : Passed test ws 0
  unfolding Passed
  seek-start = shifted-zero (position test ws)

  module _ (i : ℕ) (p : Passed test ws i) where
    pub seek-here : i < length ws → test (get_or ws i 0) ≡ true → some i ≡ position test ws
    unfolding Passed step shifted
    seek-here h e =
        let f : position test (drop i ws) ≡ some 0 = rw (drop-cons ws i 0 h, position-cons, e) in
        ap (λ (n : ℕ). some n) (sym (add-zero i)) ∙ sym (p ∙ ap (shifted i) f)

    pub seek-next : i < length ws → test (get_or ws i 0) ≡ false → Passed test ws (i + 1)
    unfolding Passed
    seek-next h e =
        p ∙ ap (shifted i) (rw (drop-cons ws i 0 h, position-cons, e)) ∙ shifted_next i (position test (drop (suc i) ws)) ∙ ap (λ (k : ℕ). shifted (i + 1) (position test (drop k ws))) (sym (add-one i))

    pub seek-end : length ws ≤ i → none ≡ position test ws
    unfolding Passed position shifted
    seek-end h = sym (p ∙ ap (λ (l : List ℕ). shifted i (position test l)) (drop_of_length-le ws h))

-- ---- where it is found

pub found-le : {A : Type 0} (test : A → Bool) (xs : List A) → found_or (length xs) (position test xs) ≤ length xs
unfolding found_or
found-le test xs = go (position test xs) (position-lt test xs)
  where
    go : (o : Option ℕ) → ((k : ℕ) → o ≡ some k → k < length xs) → found_or (length xs) o ≤ length xs
    go none f = omega arith
    go (some k) f = let z = f k refl in omega arith

pub position-map : {A : Type 0} (test : A → Bool) (f : ℕ → A) (ws : List ℕ) → position test (map f ws) ≡ position (λ w. test (f w)) ws
unfolding position
position-map test f [] = refl
position-map test f (w ∷ ws) = position-cons test (f w) (map f ws) ∙ ap (step (test (f w))) (position-map test f ws) ∙ sym (position-cons (λ w. test (f w)) w ws)

-- the names of the m words of a part of an area, where m is n
pub sought : (f : ℕ → Name) (ts : List ℕ) (a m n : ℕ) (x y : Name) (o : Option ℕ) → m ≡ n → x ≡ y → o ≡ position (same x) (map f (take m (drop a ts))) → o ≡ position (same y) (map f (region a n ts))
unfolding region
sought f ts a m n x y o size e k = k ∙ (λ j. position (same (e j)) (map f (take (size j) (drop a ts))))

-- a word that is found by a test
pub sought-word : (test : ℕ → Bool) (ts : List ℕ) (a m n : ℕ) (o : Option ℕ) → m ≡ n → o ≡ position test (take m (drop a ts)) → o ≡ position test (region a n ts)
unfolding region
sought-word test ts a m n o size k = k ∙ (λ j. position test (take (size j) (drop a ts)))

-- ---- names at places

pub names-length : (tree ps : List ℕ) → length (names_at tree ps) ≡ length ps
unfolding names_at
names-length tree ps = length-map ps (name_at tree)
