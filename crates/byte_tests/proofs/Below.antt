-- The order of bytes: by the first of them, and its laws.
use Prim.Native.Nat.{ℕ, suc, ◌+◌, ◌≤◌, ◌<◌}
use mathlib.Core.Path.{◌≡◌, refl, sym, ap, ap₂, ◌∙◌}
use mathlib.Core.Bool.{Bool, true, false, ◌&&◌}
use mathlib.Core.List.{List, [], ◌∷◌}
use mathlib.Core.Logic.{⊎_elim}
use native.Mathlib.Omega.{arith}
use native.Mathlib.Numerals.{add-one}
use lib.Dec.{ltb}
use lib.ListN.{length, drop, get_or, drop_of_length-le}
use lib.Seq.{drop-cons}
use borrow.Author.Tests.{lt-ltb, le-ltb, eq-eqb, ne_eqb}
use Rattle.definitions.specs.Bytes.{Name, same, below}
use Rattle.definitions.proofs.Begins.{le-or-gt}
use Rattle.definitions.proofs.MethodOrder.{same-eq}
use Rattle.definitions.proofs.Truth.{true-false}

pub below_none : (xs : List ℕ) → below xs [] ≡ false
unfolding below
below_none [] = refl
below_none (x ∷ xs) = refl

some_below : (y : ℕ) (ys : Name) → below [] (y ∷ ys) ≡ true
unfolding below
some_below y ys = refl

-- by the first bytes
module _ (x y : ℕ) (xs ys : List ℕ) where
  by_first : Bool → Bool
  by_first b = elim b [ true ↦ below xs ys | false ↦ ltb x y ]

  below-first : (x ≡ y → ⊥) → below (x ∷ xs) (y ∷ ys) ≡ ltb x y
  unfolding below by_first
  below-first d = ap by_first (ne_eqb x y d)

  pub below-same : x ≡ y → below (x ∷ xs) (y ∷ ys) ≡ below xs ys
  unfolding below by_first
  below-same e = ap by_first (eq-eqb x y e)

  pub below_less : x < y → below (x ∷ xs) (y ∷ ys) ≡ true
  below_less h = below-first (λ z. omega arith) ∙ lt-ltb x y h

  pub below_more : y < x → below (x ∷ xs) (y ∷ ys) ≡ false
  below_more h = below-first (λ z. omega arith) ∙ le-ltb x y (omega arith)

-- by the bytes at i
module _ (a b : List ℕ) (i : ℕ) where
  -- they differ
  pub below-differ : i < length a → i < length b → (get_or a i 0 ≡ get_or b i 0 → ⊥) → below (drop i a) (drop i b) ≡ ltb (get_or a i 0) (get_or b i 0)
  below-differ h k d = rw (drop-cons a i 0 h, drop-cons b i 0 k) (below-first (get_or a i 0) (get_or b i 0) (drop (suc i) a) (drop (suc i) b) d)

  -- they are the same
  pub below-go : i < length a → i < length b → get_or a i 0 ≡ get_or b i 0 → below (drop i a) (drop i b) ≡ below (drop (i + 1) a) (drop (i + 1) b)
  below-go h k e = rw (drop-cons a i 0 h, drop-cons b i 0 k, add-one) (below-same (get_or a i 0) (get_or b i 0) (drop (suc i) a) (drop (suc i) b) e)

  -- one ends
  pub below_lengths : i ≤ length a → i ≤ length b → (i < length a → i < length b → ⊥) → below (drop i a) (drop i b) ≡ ltb (length a) (length b)
  below_lengths h k n = ⊎_elim
      (λ (m : length b ≤ i). ap (below (drop i a)) (drop_of_length-le b m) ∙ below_none (drop i a) ∙ sym (le-ltb (length a) (length b) (omega arith)))
      (λ (m : i < length b). ap₂ below (drop_of_length-le a (b_longer m)) (drop-cons b i 0 m) ∙ some_below (get_or b i 0) (drop (suc i) b) ∙ sym (lt-ltb (length a) (length b) (let e = b_longer m in omega arith)))
      (le-or-gt (length b) i)
    where
      b_longer : i < length b → length a ≤ i
      b_longer m = ⊎_elim (λ (q : length a ≤ i). q) (λ (q : i < length a). absurd (n q m)) (le-or-gt (length a) i)

-- ---- laws of the order

pub below_flip : (x y : Name) → below x y ≡ true → below y x ≡ false
below_flip x [] e = true-false e (below_none x)
below_flip [] (b ∷ y) e = below_none (b ∷ y)
below_flip (a ∷ x) (b ∷ y) e = ⊎_elim
    (λ (h : a ≤ b). ⊎_elim
    (λ (k : b ≤ a). below-same b a y x (omega arith) ∙ below_flip x y (sym (below-same a b x y (omega arith)) ∙ e))
    (λ (k : a < b). below_more b a y x k)
    (le-or-gt b a))
    (λ (h : b < a). true-false e (below_more a b x y h))
    (le-or-gt a b)

-- what is below a name is below all that is not
pub below-past : (x y z : Name) → below x y ≡ true → below z y ≡ false → below x z ≡ true
below-past x [] z e f = true-false e (below_none x)
below-past x (b ∷ y) [] e f = true-false (some_below b y) f
below-past [] (b ∷ y) (c ∷ z) e f = some_below c z
below-past (a ∷ x) (b ∷ y) (c ∷ z) e f = ⊎_elim
    (λ (h : b ≤ c). ⊎_elim
    (λ (k : a ≤ b). ⊎_elim
    (λ (m : c ≤ a). below-same a c x z (omega arith) ∙ below-past x y z (sym (below-same a b x y (omega arith)) ∙ e) (sym (below-same c b z y (omega arith)) ∙ f))
    (λ (m : a < c). below_less a c x z m)
    (le-or-gt c a))
    (λ (k : b < a). true-false e (below_more a b x y k))
    (le-or-gt a b))
    (λ (h : c < b). true-false (below_less c b z y h) f)
    (le-or-gt b c)

-- what is below a name is another
pub below_other : (x y : Name) → below x y ≡ true → same y x ≡ false
below_other x y e = go (same y x) refl
  where
    go : (b : Bool) → same y x ≡ b → b ≡ false
    go false f = refl
    go true f = let q : y ≡ x = same-eq y x f in true-false (ap (below x) (sym q) ∙ e) (below_flip x x (ap (below x) (sym q) ∙ e))

no_bytes : same [] [] ≡ true
unfolding same
no_bytes = refl

same-rest : (a b : ℕ) (x y : Name) → a ≡ b → same (a ∷ x) (b ∷ y) ≡ same x y
unfolding same
same-rest a b x y e = ap (λ (t : Bool). t && same x y) (eq-eqb a b e)

-- of two names that differ one is below the other
pub below-else : (x y : Name) → same x y ≡ false → below y x ≡ false → below x y ≡ true
below-else [] [] e f = true-false no_bytes e
below-else [] (b ∷ y) e f = some_below b y
below-else (a ∷ x) [] e f = true-false (some_below a x) f
below-else (a ∷ x) (b ∷ y) e f = ⊎_elim
    (λ (h : a ≤ b). ⊎_elim
    (λ (k : b ≤ a). below-same a b x y (omega arith) ∙ below-else x y (sym (same-rest a b x y (omega arith)) ∙ e) (sym (below-same b a y x (omega arith)) ∙ f))
    (λ (k : a < b). below_less a b x y k)
    (le-or-gt b a))
    (λ (h : b < a). true-false (below_less b a y x h) f)
    (le-or-gt a b)
