-- What the ends of branches and loops leave.
use Rattle.std.specs.Prelude.{ℕ, ◌+◌, ◌-◌, Option, List}
use Rattle.definitions.specs.Instruction.{instr, Jump, minus}
use Rattle.definitions.specs.Tables.{one}
use Rattle.state.specs.State.{emit_at}
use Rattle.state.specs.Steps.{set_at, patch_at}
use Rattle.lower_emit.specs.Emitting.{state_in, SoundIn, beside, CodeKept, Reaches}
use Rattle.lower_emit.specs.declared.emitter.Code.{Code}
use Rattle.lower_emit.specs.declared.emitter.Tables.{Tables}

-- whatever the tree and the tables are
pub record EndsBranch {A : Type 0} (r : Option A) (from : ℕ) (a b : Code) : Type 0 where
  pub ends : (tree : List ℕ) (ts : Tables) → SoundIn tree (beside a ts) → Reaches r tree (beside a ts) (beside b ts)
      (set_at (from - 1) (instr 29 (a.open - from + 1) 0) (emit_at a.base (one (Jump 0)) (state_in tree (beside a ts))))
  pub kept : CodeKept a b

pub record EndsLoop {A : Type 0} (r : Option A) (start inside : ℕ) (a b : Code) : Type 0 where
  pub ends : (tree : List ℕ) (ts : Tables) → SoundIn tree (beside a ts) → Reaches r tree (beside a ts) (beside b ts)
      (set_at (inside - 1) (instr 29 (a.open - inside + 1) 0) (patch_at (inside - start) inside (a.open - inside)
      (emit_at a.base (one (Jump (minus (a.open - start + 1)))) (state_in tree (beside a ts)))))
  pub kept : CodeKept a b
