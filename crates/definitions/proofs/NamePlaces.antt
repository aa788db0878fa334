-- Names at their places in a list.
use mathlib.Core.Path.{◌≡◌, refl, sym, ap, subst}
use mathlib.Core.Bool.{Bool, true, false}
use mathlib.Core.Option.{Option, none, some}
use mathlib.Core.List.{List, [], ◌∷◌, ◌++◌}
use Prim.Native.Nat.{ℕ, zero, suc}
use native.Mathlib.Omega.{arith}
use lib.ListN.{length, get_elem?}
use Rattle.definitions.specs.Bytes.{Name, position, same}
use Rattle.definitions.proofs.MethodOrder.{same-eq}

-- what is at a place stays there
pub stays_at : (xs new : List Name) (k : ℕ) (x : Name) → get_elem? xs k ≡ some x → get_elem? (xs ++ new) k ≡ some x
stays_at [] new k x e = let z : ◌≡◌ {A = ℕ} 0 1 = cc in absurd (omega arith)
stays_at (y ∷ xs) new zero x e = e
stays_at (y ∷ xs) new (suc k) x e = stays_at xs new k x e

-- one more stands after all the others
pub last_at : (xs : List Name) (x : Name) → get_elem? (xs ++ x ∷ []) (length xs) ≡ some x
last_at [] x = refl
last_at (y ∷ xs) x = last_at xs x

-- where a name is found, it stands
pub position_at : (x : Name) (xs : List Name) (k : ℕ) → position (same x) xs ≡ some k → get_elem? xs k ≡ some x
unfolding position
position_at x [] k e = let z : ◌≡◌ {A = ℕ} 0 1 = cc in absurd (omega arith)
position_at x (y ∷ xs) k e = go (same x y) refl (position (same x) xs) (position_at x xs) k e
  where
    go : (b : Bool) → same x y ≡ b → (o : Option ℕ) → ((j : ℕ) → o ≡ some j → get_elem? xs j ≡ some x) → (j : ℕ)
        → ◌≡◌ {A = Option ℕ} (elim b as (λ z. Option ℕ) [ true ↦ some 0 | false ↦ elim o as (λ z. Option ℕ) [ none ↦ none | some i ↦ some (suc i) ] ]) (some j) → get_elem? (y ∷ xs) j ≡ some x
    go true q o h j e = let z : 0 ≡ j = cc in subst (λ (m : ℕ). get_elem? (y ∷ xs) m ≡ some x) z (ap some (sym (same-eq x y q)))
    go false q none h j e = let z : ◌≡◌ {A = ℕ} 0 1 = cc in absurd (omega arith)
    go false q (some i) h j e = let z : suc i ≡ j = cc in subst (λ (m : ℕ). get_elem? (y ∷ xs) m ≡ some x) z (h i refl)
