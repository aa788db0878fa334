-- What the end of a class leaves.
use Rattle.std.specs.Prelude.{ℕ, ◌+◌, ◌≤◌, ◌≡◌, Option, Some, None, List}
use Rattle.state.specs.State.{State, state_of, WithinLimits, Sound}
use Rattle.state.specs.declared.Counts.{Counts}
use Rattle.state.specs.declared.Limits.{Limits}
use Rattle.lower_emit.specs.declared.emitter.Emitter.{Emitter}
use Rattle.lower_emit.specs.Emitting.{counts_of, limits_in, SameAreas}

-- the wanted state, with n methods more than functions, and one constant more than classes
pub record Finished (k : Counts) (n : ℕ) (tree made code tables : List ℕ) (c : Counts) (l : Limits) (want : State) : Type 0 where
  pub state : state_of tree made code tables k ≡ want
  pub base : k.base ≡ c.base
  pub methods : k.methods + c.functions ≤ c.methods + n + k.functions
  pub constants : k.constants + c.classes ≤ c.constants + 1 + k.classes
  pub sound : Sound tree made code tables k l

-- b is left by a step from a
pub record FinishedIn (n : ℕ) (tree : List ℕ) (a b : Emitter) (want : State) : Type 0 where
  pub finished : Finished (counts_of b) n tree b.tables.names.made.now b.code.words.now b.tables.entries.words.now (counts_of a) (limits_in a) want

-- an answer and the wanted state; or the wanted state is over the limits
pub record FinishesIn {A : Type 0} (r : Option A) (n : ℕ) (tree : List ℕ) (a b : Emitter) (want : State) : Type 0 where
  pub done : (x : A) → r ≡ Some x → FinishedIn n tree a b want
  pub full : r ≡ None → WithinLimits (limits_in a) want → ⊥
  pub limits : limits_in b ≡ limits_in a
  pub areas : SameAreas a b
