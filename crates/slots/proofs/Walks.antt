-- Walks in steps. Assumes nothing.
use Prim.Native.Nat.{ℕ, ◌+◌, ◌-◌, ◌<◌, ◌≤◌}
use mathlib.Core.Path.{◌≡◌, subst}
use native.Mathlib.Omega.{arith}
use Rattle.slots.specs.Steps.{Leads, at_start, one_more}

pub all-gone : {step : ℕ → ℕ → Type 0} {n m p q : ℕ} → n ≡ m → Leads step n p q → Leads step m p q
all-gone {step = step} {p = p} {q = q} e w = subst (λ (k : ℕ). Leads step k p q) e w

-- what holds of the steps left and the position, and goes on by each step, holds all along
pub along : {step : ℕ → ℕ → Type 0} (Left : ℕ → ℕ → Type 0) (all p : ℕ) → Left all p → ((n q r : ℕ) → 0 < n → Left n q → step q r → Left (n - 1) r) → (n q : ℕ) → n ≤ all → Leads step n p q → Left (all - n) q
along {step = step} Left all p a f = go
  where
    go : (n q : ℕ) → n ≤ all → Leads step n p q → Left (all - n) q
    go n q h at_start = subst (λ (k : ℕ). Left k p) (let e : all ≡ all - 0 = omega arith in e) a
    go n q h (one_more {n = m} {q = o} w s) = subst (λ (k : ℕ). Left k q) (let e : all - m - 1 ≡ all - (m + 1) = omega arith in e) (f (all - m) o q (omega arith) (go m o (omega arith) w) s)
