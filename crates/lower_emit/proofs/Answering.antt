-- Steps one after another: the state after both, and what is over the limits stays so.
use Prim.Native.Nat.{ℕ, ◌+◌}
use mathlib.Core.Path.{◌≡◌, sym, ap, ◌∙◌}
use mathlib.Core.List.{List, [], ◌∷◌}
use lib.ListN.{length, length-append}
use Rattle.definitions.specs.Instruction.{Instr}
use Rattle.definitions.specs.Tables.{one}
use Rattle.state.specs.State.{State, emit_at, Left}
use Rattle.state.specs.declared.Counts.{Counts}
use Rattle.state.specs.declared.Limits.{Limits}
use Rattle.state.proofs.Views.{stack-length}
use Rattle.state.proofs.Emission.{at_one}

-- how much of the stack is used
pub open_after : (t made code tables : List ℕ) (c k : Counts) (l : Limits) (want : State) → Left k t made code tables c l want → k.open ≡ length want.stack
open_after t made code tables c k l want A = sym (stack-length t made code tables k l A.sound) ∙ ap (λ (s : State). length s.stack) A.state

pub one-longer : (base : ℕ) (i : Instr) (s : State) → length (emit_at base (one i) s).stack ≡ length s.stack + 1
one-longer base i s = ap (λ (u : State). length u.stack) (at_one base i s) ∙ length-append s.stack (i ∷ [])
