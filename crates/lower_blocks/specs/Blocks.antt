-- What functions, methods and classes ask and leave.
use Rattle.std.specs.Prelude.{ℕ, ◌+◌, ◌≤◌, ◌<◌, ◌≡◌, Option, Some, List, map, length, take}
use Rattle.definitions.specs.Tables.{Method}
use Rattle.state.specs.State.{State, method_from}
use Rattle.state.specs.declared.Counts.{Counts}
use Rattle.lower_emit.specs.declared.emitter.Emitter.{Emitter}
use Rattle.lower_emit.specs.Emitting.{counts_of, NextIs, Reaches}

-- a function more than methods
abbrev pub FunctionsAhead : ℕ → Counts → Counts → Type 0
FunctionsAhead n c k = k.methods + c.functions + n ≤ c.methods + k.functions

-- the next position and the wanted state, with a function more, and more than methods; or the wanted state is over the limits
pub record CompilesIn (r : Option ℕ) (next : ℕ) (want : State) (tree : List ℕ) (a b : Emitter) : Type 0 where
  pub place : NextIs r next
  pub reaches : Reaches r tree a b want
  pub ahead : (n : ℕ) → r ≡ Some n → FunctionsAhead 1 (counts_of a) (counts_of b)
  pub more : (n : ℕ) → r ≡ Some n → a.tables.functions.count < b.tables.functions.count

-- the methods so far of a class: the first n words of the list
pub record Methodical (n : ℕ) (tree list : List ℕ) (c k : Counts) (want : List Method) : Type 0 where
  pub few : n ≤ length list
  pub ahead : FunctionsAhead n c k
  pub methods : map (method_from tree) (take n list) ≡ want

-- the wanted state and the class's methods, so many; or the wanted state is over the limits
pub record ListsIn (r : Option ℕ) (want : State) (methods : List Method) (tree list : List ℕ) (a b : Emitter) : Type 0 where
  pub reaches : Reaches r tree a b want
  pub listed : (n : ℕ) → r ≡ Some n → Methodical n tree list (counts_of a) (counts_of b) methods
