-- A walk in steps.
use Rattle.std.specs.Prelude.{ℕ, ◌+◌}

-- so many steps lead from one position to another
pub data Leads (step : ℕ → ℕ → Type 0) : ℕ → ℕ → ℕ → Type 0 where
  at_start : {p : ℕ} → Leads step 0 p p
  one_more : {n p q r : ℕ} → Leads step n p q → step q r → Leads step (n + 1) p r
