-- Equal bytes, one after the other.
use Prim.Native.Nat.{ℕ, suc, ◌+◌, ◌<◌, ◌≤◌}
use mathlib.Core.Path.{◌≡◌, refl, sym, ap, ◌∙◌}
use mathlib.Core.Bool.{Bool, true, false, ◌&&◌}
use mathlib.Core.List.{List, [], ◌∷◌}
use native.Mathlib.Omega.{arith}
use native.Mathlib.Numerals.{add-one}
use lib.Dec.{eqb}
use lib.ListN.{length, drop, get_or, drop_of_length-le}
use lib.Seq.{drop-cons}
use borrow.Author.Tests.{eq-eqb, ne_eqb}
use Rattle.std.specs.Cmp.Lexicographic.{pointwise}
use Rattle.definitions.specs.Bytes.{same}

pub and_no : (x : Bool) → false ≡ (x && false)
and_no true = refl
and_no false = refl

same_more : (a b : List ℕ) (i : ℕ) → i < length a → i < length b → same (drop i a) (drop i b) ≡ (eqb (get_or a i 0) (get_or b i 0) && same (drop (i + 1) a) (drop (i + 1) b))
unfolding same
same_more a b i h g = rw (drop-cons a i 0 h, drop-cons b i 0 g, add-one)

pub same_none : (a b : List ℕ) (i : ℕ) → length a ≤ i → length b ≤ i → same (drop i a) (drop i b) ≡ true
unfolding same
same_none a b i h g = rw (drop_of_length-le a h, drop_of_length-le b g)

pub same-other : (a b : List ℕ) → (length a ≡ length b → ⊥) → false ≡ same a b
unfolding same
same-other [] [] h = absurd (h refl)
same-other [] (y ∷ b) h = refl
same-other (x ∷ a) [] h = refl
same-other (x ∷ a) (y ∷ b) h = rw (sym (same-other a b (λ e. h (ap suc e)))) (and_no (eqb x y))

pub same-go : (a b : List ℕ) (i : ℕ) → length a ≡ length b → i < length a → get_or a i 0 ≡ get_or b i 0 → same (drop i a) (drop i b) ≡ same (drop (i + 1) a) (drop (i + 1) b)
same-go a b i l h e = same_more a b i h (omega arith) ∙ ap (λ (x : Bool). x && same (drop (i + 1) a) (drop (i + 1) b)) (eq-eqb _ _ e)

pub same_stop : (a b : List ℕ) (i : ℕ) → length a ≡ length b → i < length a → (get_or a i 0 ≡ get_or b i 0 → ⊥) → same (drop i a) (drop i b) ≡ false
same_stop a b i l h e = same_more a b i h (omega arith) ∙ ap (λ (x : Bool). x && same (drop (i + 1) a) (drop (i + 1) b)) (ne_eqb _ _ e)

-- std's `==` of bytes says the same
pub pointwise_same : (a b : List ℕ) → pointwise eqb a b ≡ same a b
unfolding same
pointwise_same [] [] = refl
pointwise_same [] (y ∷ b) = refl
pointwise_same (x ∷ a) [] = refl
pointwise_same (x ∷ a) (y ∷ b) = ap (λ (r : Bool). eqb x y && r) (pointwise_same a b)
