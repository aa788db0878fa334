-- What a step of the lowering answers and leaves.
use Rattle.std.specs.Prelude.{ℕ, List, ◌≡◌}
use Rattle.definitions.specs.Tables.{Emit}
use Rattle.state.specs.State.{State, state_of, emit_at, WithinLimits, Emits}
use Rattle.state.specs.declared.Counts.{Counts}
use Rattle.state.specs.declared.Limits.{Limits}
use Rattle.state.specs.Answered.{PartEmitted, Done, Full}
use Rattle.lower_emit.specs.Nesting.{Moved}

-- the part with the code e is emitted, and what is next in the tree
abbrev pub LowersPart : PartEmitted → Emit → ℕ → List ℕ → List ℕ → List ℕ → List ℕ → List ℕ → List ℕ → List ℕ → Counts → Limits → Type 0
LowersPart r e next t made code tables made' code' tables' c l = Emits r t made' code' tables' c l next (emit_at c.base e (state_of t made code tables c))

-- the function in hand has ended after its last instruction, and the one around it begins at b; or the last instruction is over the limits
unfoldable pub Ends : PartEmitted → ℕ → List ℕ → List ℕ → List ℕ → List ℕ → Counts → Limits → ℕ → State → State → Type 0
Ends (Done n k) b t made code tables c l next last want = (n ≡ next) × Moved b k t made code tables c l want
Ends Full b t made code tables c l next last want = WithinLimits l last → ⊥
