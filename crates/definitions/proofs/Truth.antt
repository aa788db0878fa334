-- Laws of Booleans and tests.
use mathlib.Core.Path.{◌≡◌, refl, sym, ◌∙◌, subst}
use mathlib.Core.Bool.{Bool, true, false, not, ◌&&◌}
use Prim.Native.Nat.{ℕ, ◌≤◌, ◌<◌}
use native.Mathlib.Omega.{arith}
use lib.Dec.{T, eqb, eqb_refl, leb, leb→le, nleb→lt}

pub left : (a b : Bool) → (a && b) ≡ true → a ≡ true
left true b e = refl
left false b e = e

pub right : (a b : Bool) → (a && b) ≡ true → b ≡ true
right true b e = e
right false b e = let z : b ≡ true = cc in z

pub holds : (b : Bool) → b ≡ true → T b
holds b e = subst T (sym e) tt

pub both : (a b : Bool) → (a && b) ≡ true → (a ≡ true) × (b ≡ true)
both a b e = (left a b e, right a b e)

pub and : {a b : Bool} → a ≡ true → b ≡ true → (a && b) ≡ true
and e f = rw (e, f)

pub true-false : {A : Type 0} {b : Bool} → b ≡ true → b ≡ false → A
true-false e f = let w : true ≡ false = sym e ∙ f in let z : ◌≡◌ {A = ℕ} 0 1 = cc in absurd (omega arith)

pub at_most : (m n : ℕ) → leb m n ≡ true → m ≤ n
at_most m n e = leb→le m n (holds (leb m n) e)

pub not_equal : (m n : ℕ) → eqb m n ≡ false → m ≡ n → ⊥
not_equal m n e q = subst T e (subst (λ (z : ℕ). T (eqb m z)) q (eqb_refl m))

pub is_true : (b : Bool) → T b → b ≡ true
is_true true t = refl
is_true false t = absurd t

pub is_false : (b : Bool) → T (not b) → b ≡ false
is_false true t = absurd t
is_false false t = refl

pub not-most : (m n : ℕ) → leb m n ≡ false → n < m
not-most m n e = nleb→lt m n (subst (λ (b : Bool). T (not b)) (sym e) tt)
