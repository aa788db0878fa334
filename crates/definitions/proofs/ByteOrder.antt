-- R-11: the order of bytes, and of trees by the bytes of their rests.
use mathlib.Core.Path.{◌≡◌, refl, sym, ap, ◌∙◌}
use mathlib.Core.Bool.{Bool, true, false}
use mathlib.Core.List.{List, [], ◌∷◌}
use Prim.Native.Nat.{ℕ, ◌<◌}
use native.Mathlib.Omega.{arith}
use lib.Dec.{eqb, ltb, eqb_refl}
use borrow.Author.Tests.{eqb-true, eqb-false, ltb-true, ltb-false}
use Rattle.definitions.specs.Order.{Ordering, less, equal, greater, compare_bytes}
use Rattle.definitions.specs.Statements.{turned}
use Rattle.definitions.proofs.Truth.{is_true}

-- ---- two bytes

pub data Tri (x y : ℕ) : Type 0 where
  smaller : x < y → Tri x y
  alike : x ≡ y → Tri x y
  larger : y < x → Tri x y

pub tri : (x y : ℕ) → Tri x y
tri x y = go (eqb x y) (ltb x y) refl refl
  where
    go : (c d : Bool) → eqb x y ≡ c → ltb x y ≡ d → Tri x y
    go true d e f = alike (eqb-true x y e)
    go false true e f = smaller (ltb-true x y f)
    go false false e f = larger (let n = eqb-false x y e in let g = ltb-false x y f in omega arith)

pub cons-less : (x y : ℕ) (xs ys : List ℕ) → x < y → compare_bytes (x ∷ xs) (y ∷ ys) ≡ less
unfolding compare_bytes
cons-less x y xs ys h = go (eqb x y) (ltb x y) refl refl
  where
    go : (c d : Bool) → eqb x y ≡ c → ltb x y ≡ d
        → ◌≡◌ {A = Ordering} (elim c as (λ z. Ordering) [ true ↦ compare_bytes xs ys | false ↦ elim d as (λ z. Ordering) [ true ↦ less | false ↦ greater ] ]) less
    go true d e f = let z = eqb-true x y e in absurd (omega arith)
    go false true e f = refl
    go false false e f = let z = ltb-false x y f in absurd (omega arith)

pub cons-greater : (x y : ℕ) (xs ys : List ℕ) → y < x → compare_bytes (x ∷ xs) (y ∷ ys) ≡ greater
unfolding compare_bytes
cons-greater x y xs ys h = go (eqb x y) (ltb x y) refl refl
  where
    go : (c d : Bool) → eqb x y ≡ c → ltb x y ≡ d
        → ◌≡◌ {A = Ordering} (elim c as (λ z. Ordering) [ true ↦ compare_bytes xs ys | false ↦ elim d as (λ z. Ordering) [ true ↦ less | false ↦ greater ] ]) greater
    go true d e f = let z = eqb-true x y e in absurd (omega arith)
    go false true e f = let z = ltb-true x y f in absurd (omega arith)
    go false false e f = refl

pub cons-alike : (x y : ℕ) (xs ys : List ℕ) → x ≡ y → compare_bytes (x ∷ xs) (y ∷ ys) ≡ compare_bytes xs ys
unfolding compare_bytes
cons-alike x y xs ys h = rw (h, is_true (eqb y y) (eqb_refl y), compare_bytes)

-- ---- two lists

-- less and greater say the same of the two from either side
pub compare-turned : (xs ys : List ℕ) → compare_bytes ys xs ≡ turned (compare_bytes xs ys)
unfolding compare_bytes turned
compare-turned [] [] = refl
compare-turned [] (y ∷ ys) = refl
compare-turned (x ∷ xs) [] = refl
compare-turned (x ∷ xs) (y ∷ ys) = go (tri x y) (compare-turned xs ys)
  where
    go : Tri x y → compare_bytes ys xs ≡ turned (compare_bytes xs ys) → compare_bytes (y ∷ ys) (x ∷ xs) ≡ turned (compare_bytes (x ∷ xs) (y ∷ ys))
    go (smaller h) r = rw (cons-less x y xs ys h) (cons-greater y x ys xs h)
    go (alike h) r = rw (cons-alike x y xs ys h) (cons-alike y x ys xs (sym h) ∙ r)
    go (larger h) r = rw (cons-greater x y xs ys h) (cons-less y x ys xs h)

pub compare_same : (xs : List ℕ) → compare_bytes xs xs ≡ equal
unfolding compare_bytes
compare_same [] = refl
compare_same (x ∷ xs) = cons-alike x x xs xs refl ∙ compare_same xs

-- orderings are told apart
code : Ordering → ℕ
code less = 0
code equal = 1
code greater = 2

pub less_equal : {A : Type 0} {o : Ordering} → o ≡ less → o ≡ equal → A
unfolding code
less_equal e f = let z : ◌≡◌ {A = ℕ} 0 1 = ap code (sym e ∙ f) in absurd (omega arith)

pub greater-equal : {A : Type 0} {o : Ordering} → o ≡ greater → o ≡ equal → A
unfolding code
greater-equal e f = let z : ◌≡◌ {A = ℕ} 2 1 = ap code (sym e ∙ f) in absurd (omega arith)

pub less-greater : {A : Type 0} {o : Ordering} → o ≡ less → o ≡ greater → A
unfolding code
less-greater e f = let z : ◌≡◌ {A = ℕ} 0 2 = ap code (sym e ∙ f) in absurd (omega arith)

pub compare-equal : (xs ys : List ℕ) → compare_bytes xs ys ≡ equal → xs ≡ ys
unfolding compare_bytes
compare-equal [] [] e = refl
compare-equal [] (y ∷ ys) e = less_equal refl e
compare-equal (x ∷ xs) [] e = greater-equal refl e
compare-equal (x ∷ xs) (y ∷ ys) e = go (tri x y) (compare-equal xs ys)
  where
    go : Tri x y → (compare_bytes xs ys ≡ equal → xs ≡ ys) → x ∷ xs ≡ y ∷ ys
    go (smaller h) r = less_equal (cons-less x y xs ys h) e
    go (alike h) r = rw (h, r (sym (cons-alike x y xs ys h) ∙ e))
    go (larger h) r = greater-equal (cons-greater x y xs ys h) e

pub compare-less : (xs ys zs : List ℕ) → compare_bytes xs ys ≡ less → compare_bytes ys zs ≡ less → compare_bytes xs zs ≡ less
unfolding compare_bytes
compare-less [] [] zs e f = less_equal e refl
compare-less [] (y ∷ ys) [] e f = less-greater f refl
compare-less [] (y ∷ ys) (z ∷ zs) e f = refl
compare-less (x ∷ xs) [] zs e f = less-greater e refl
compare-less (x ∷ xs) (y ∷ ys) [] e f = less-greater f refl
compare-less (x ∷ xs) (y ∷ ys) (z ∷ zs) e f = go (tri x y) (tri y z) (compare-less xs ys zs)
  where
    go : Tri x y → Tri y z → (compare_bytes xs ys ≡ less → compare_bytes ys zs ≡ less → compare_bytes xs zs ≡ less) → compare_bytes (x ∷ xs) (z ∷ zs) ≡ less
    go (smaller h) (smaller k) r = cons-less x z xs zs (omega arith)
    go (smaller h) (alike k) r = cons-less x z xs zs (omega arith)
    go (smaller h) (larger k) r = less-greater f (cons-greater y z ys zs k)
    go (alike h) (smaller k) r = cons-less x z xs zs (omega arith)
    go (alike h) (alike k) r = cons-alike x z xs zs (h ∙ k) ∙ r (sym (cons-alike x y xs ys h) ∙ e) (sym (cons-alike y z ys zs k) ∙ f)
    go (alike h) (larger k) r = less-greater f (cons-greater y z ys zs k)
    go (larger h) k r = less-greater e (cons-greater x y xs ys h)
