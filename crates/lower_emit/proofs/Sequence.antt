-- A part's code and end by other words.
use Prim.Native.Nat.{ℕ}
use mathlib.Core.Path.{◌≡◌}
use mathlib.Core.List.{List}
use Rattle.definitions.specs.Tables.{Emit}
use Rattle.state.specs.declared.Counts.{Counts}
use Rattle.state.specs.declared.Limits.{Limits}
use Rattle.state.specs.Answered.{PartEmitted}
use Rattle.lower_emit.specs.Step.{LowersPart}

-- the same code and end, by other words
pub lowers-as : (r : PartEmitted) (e e' : Emit) (q q' : ℕ) (t made code tables made' code' tables' : List ℕ) (c : Counts) (l : Limits)
    → LowersPart r e q t made code tables made' code' tables' c l → e' ≡ e → q' ≡ q → LowersPart r e' q' t made code tables made' code' tables' c l
lowers-as r e e' q q' t made code tables made' code' tables' c l h f g = rw (f, g) h
