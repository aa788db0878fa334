-- Names in the module's bytes, as parts of them. Assumes nothing.
use Prim.Native.Nat.{ℕ, zero, suc, ◌+◌, ◌-◌, ◌<◌, ◌≤◌}
use mathlib.Core.Path.{◌≡◌, refl, sym, ap, ◌∙◌, subst}
use mathlib.Core.List.{List, [], ◌∷◌}
use native.Mathlib.Omega.{arith}
use native.Mathlib.Numerals.{add-one}
use lib.ListN.{length, drop, take, get_or, length-drop}
use lib.Seq.{slice, slice_empty, slice-cons}
use Rattle.definitions.specs.Bytes.{got, Parser, ◌>>=◌, give, byte, counted}
use Rattle.reader.specs.View.{skip_at, number_at, Got}
use Rattle.std.specs.Prelude.{None}
use Rattle.reader.proofs.Taken.{got-bind, got-byte, got-give, skipped-got}

-- ---- parts of the bytes

module _ (t : List ℕ) (to i : ℕ) where
  one_left : i < to → to ≤ length t → slice i to t ≡ get_or t i 0 ∷ slice (i + 1) to t
  one_left h l = slice-cons i to t 0 h l ∙ ap (λ (k : ℕ). get_or t i 0 ∷ slice k to t) (sym (add-one i))

take-empty : (n : ℕ) → take {A = ℕ} n [] ≡ []
take-empty zero = refl
take-empty (suc n) = refl

-- a part, cut out in either order
pub part_slice : (t : List ℕ) (i j : ℕ) → take (j - i) (drop i t) ≡ slice i j t
part_slice t zero j = ap (λ (k : ℕ). take k t) (let e : j - 0 ≡ j = omega arith in e)
part_slice [] (suc i) zero = take-empty (0 - suc i)
part_slice [] (suc i) (suc j) = take-empty (suc j - suc i)
part_slice (x ∷ t) (suc i) zero = ap (λ (k : ℕ). take k (drop i t)) (let e : 0 - suc i ≡ 0 = omega arith in e)
part_slice (x ∷ t) (suc i) (suc j) = ap (λ (k : ℕ). take k (drop i t)) (let e : suc j - suc i ≡ j - i = omega arith in e) ∙ part_slice t i j

-- ---- names that are read

pub number-one : (t : List ℕ) (p : ℕ) → number_at 1 t p ≡ get_or t p 0
unfolding number_at
number-one t p = omega arith

pub read-not-cut : {A : Type 0} {B : Type 0} (p : Parser A) (t : List ℕ) (at : ℕ) (a : A) (m : ℕ) → Got p t at a m → skip_at p t at ≡ None → B
read-not-cut p t at a m g e = let k = sym (skipped-got p t at a m g) ∙ e in let z : ◌≡◌ {A = ℕ} 0 1 = cc in absurd (omega arith)

-- a reader reads one thing
pub same_read : {A : Type 0} (p : Parser A) (t : List ℕ) (at : ℕ) (a : A) (m : ℕ) (b : A) (n : ℕ) → Got p t at a m → Got p t at b n → (a ≡ b) × (m ≡ n)
same_read p t at a m b n g h =
    let e : got a (drop m t) ≡ got b (drop n t) = sym g.is ∙ h.is in
    let d : drop m t ≡ drop n t = cc in
    let k = ap length d in let x = length-drop m t in let y = length-drop n t in let u = g.to in let v = h.to in
    ((let z : a ≡ b = cc in z), omega arith)

-- n bytes
pub got-bytes : (t : List ℕ) (n at : ℕ) → at + n ≤ length t → Got (counted [] ◌∷◌ byte n) t at (slice at (at + n) t) (at + n)
unfolding counted
got-bytes t zero at h = subst (λ (k : ℕ). Got (give []) t at (slice at k t) k) (let z : at ≡ at + 0 = omega arith in z)
    (subst (λ (xs : List ℕ). Got (give []) t at xs at) (sym (slice_empty at t)) (got-give [] t at (omega arith)))
got-bytes t (suc n) at h =
    subst (λ (xs : List ℕ). Got (counted [] ◌∷◌ byte (suc n)) t at xs (at + suc n)) (sym (one_left t (at + suc n) at (omega arith) (omega arith)))
    (got-bind byte (λ a. counted [] ◌∷◌ byte n >>= λ b. give (a ∷ b)) t at (get_or t at 0) (at + 1) (get_or t at 0 ∷ slice (at + 1) (at + suc n) t) (at + suc n) (got-byte t at (omega arith))
    (got-bind (counted [] ◌∷◌ byte n) (λ b. give (get_or t at 0 ∷ b)) t (at + 1) (slice (at + 1) (at + suc n) t) (at + suc n) (get_or t at 0 ∷ slice (at + 1) (at + suc n) t) (at + suc n)
    (subst (λ (k : ℕ). Got (counted [] ◌∷◌ byte n) t (at + 1) (slice (at + 1) k t) k) (let z : at + 1 + n ≡ at + suc n = omega arith in z) (got-bytes t n (at + 1) (omega arith)))
    (got-give (get_or t at 0 ∷ slice (at + 1) (at + suc n) t) t (at + suc n) h)))
