-- What a step answers, as the laws speak of it.
use Rattle.std.specs.Prelude.{ℕ}
use Rattle.state.specs.declared.Counts.{Counts}

-- the next position in the tree and the counts; or that the module is over the limits or has a function of more than 255 slots
pub data PartEmitted : Type 0 where
  Done : ℕ → Counts → PartEmitted
  Full : PartEmitted

-- a number and the counts; or the same
pub data Numbered : Type 0 where
  At : ℕ → Counts → Numbered
  Over : Numbered
