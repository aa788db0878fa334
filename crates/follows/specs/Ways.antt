-- What the call that lowers both ways answers and leaves; and that both ways give the same.
use Rattle.std.specs.Prelude.{◌≡◌, ℕ, List}
use Rattle.definitions.specs.Module.{Limits}
use Rattle.definitions.specs.Calls.{lower_call}
use Rattle.definitions.specs.Measured.{measured_call}
use Rattle.lowering.specs.Lowered.{lowering_said, Lowers}
use Rattle.follows.specs.declared.Ways.{Ways}

-- one way beside the other
pub record WaysAgree (r : Ways) (area₁ area₂ out other₁ other₂ other : List ℕ) : Type 0 where
  pub answer : lowering_said r.measured ≡ lowering_said r.patched
  pub first : other₁ ≡ area₁
  pub second : other₂ ≡ area₂
  pub output : other ≡ out

-- Answer, areas and output of each way are those of its call; and where both are lent the same they agree
pub record LowersBothWays (r : Ways) (area₁' area₂' out' other₁' other₂' other' : List ℕ) (l : Limits) (tree area₁ area₂ out other₁ other₂ other : List ℕ) : Type 0 where
  pub patched : Lowers r.patched area₁' area₂' out' (lower_call l tree area₁ area₂ out)
  pub measured : Lowers r.measured other₁' other₂' other' (measured_call l tree other₁ other₂ other)
  pub agrees : other₁ ≡ area₁ → other₂ ≡ area₂ → other ≡ out → WaysAgree r area₁' area₂' out' other₁' other₂' other'
