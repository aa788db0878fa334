-- What the iterator of a for loop leaves, and the word that loads it.
use Rattle.std.specs.Prelude.{ℕ, ◌≡◌, true, false, Option, Some, List, eqb}
use Rattle.definitions.specs.Instruction.{Instr}
use Rattle.definitions.specs.Tables.{one}
use Rattle.definitions.specs.Slots.{Keeping}
use Rattle.definitions.specs.Lower.{Keeper, global, local, store_iter, load_iter}
use Rattle.state.specs.Words.{word, op_of, first_of, instr_of}
use Rattle.state.specs.State.{emit_at}
use Rattle.state.specs.Kept.{keeper_at, kept_at}
use Rattle.lower_emit.specs.declared.emitter.Code.{Code}
use Rattle.lower_emit.specs.declared.emitter.Emitter.{Emitter}
use Rattle.lower_emit.specs.Emitting.{state_in, NumbersIn, Writes}

-- the word that loads an iterator
unfoldable pub load_word : Keeper → ℕ
load_word (global k) = word 11 k 0
load_word (local n) = word 9 n 0

-- what a word loads
unfoldable pub keeper_of : ℕ → Keeper
keeper_of w = elim (eqb (op_of w) 9) [ true ↦ local (first_of w) | false ↦ global (first_of w) ]

-- the word w loads g
pub record Loads (w : ℕ) (g : Keeper) : Type 0 where
  pub keeper : keeper_of w ≡ g
  pub instr : (t : List ℕ) → instr_of t w ≡ load_iter g

-- the instruction i is put; the answer is w
pub record StoresKept (r : Option ℕ) (w : ℕ) (i : Instr) (a b : Code) : Type 0 where
  pub is : (n : ℕ) → r ≡ Some n → n ≡ w
  pub writes : Writes r (one i) a b

-- the next loop's iterator is stored; the answer is the word that loads it
pub record StoresIterator (r : Option ℕ) (keep : Keeping) (tree : List ℕ) (a b : Emitter) : Type 0 where
  pub reaches : NumbersIn r (load_word (keeper_at a.code.base keep (state_in tree a))) tree a b
      (emit_at a.code.base (one (store_iter (keeper_at a.code.base keep (state_in tree a)))) (kept_at a.code.base keep (state_in tree a)))
  pub loads : (w : ℕ) → r ≡ Some w → Loads w (keeper_at a.code.base keep (state_in tree a))
