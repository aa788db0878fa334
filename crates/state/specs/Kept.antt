-- Where loops keep their iterators: by a number that the emission carries, and by the state.
use Rattle.std.specs.Prelude.{ℕ, ◌+◌, ◌-◌, ◌<◌, ◌≡◌, true, false, length, ltb, Option, Some}
use Rattle.definitions.specs.Slots.{Keeping, in_globals, in_slots}
use Rattle.definitions.specs.Lower.{Keeper, global, local, iter_name}
use Rattle.state.specs.State.{State, symbol_number, with_symbol, with_tables}

-- ---- the number: below 256 the slot of the next loop's iterator; else iterators are in globals

unfoldable pub keeping_of : ℕ → Keeping
keeping_of i = elim (ltb i 256) [ true ↦ in_slots i | false ↦ in_globals ]

-- the number after n loops
unfoldable pub after_loops : ℕ → ℕ → ℕ
after_loops i n = elim (ltb i 256) [ true ↦ i + n | false ↦ i ]

-- there are slots for n loops
pub record Spare (i n : ℕ) : Type 0 where
  pub at : i < 256 → i + n < 256

-- a part of n loops with the answer r has moved the number on, unless it is over the limits
pub record Passes {A : Type 0} (r : Option A) (i i' n : ℕ) : Type 0 where
  pub at : (x : A) → r ≡ Some x → i' ≡ after_loops i n

-- ---- the next loop's iterator, by the state before its store

unfoldable pub keeper_at : ℕ → Keeping → State → Keeper
keeper_at base in_globals s = global (symbol_number (iter_name (length s.stack - base)) s.tables)
keeper_at base (in_slots n) s = local n

-- the state in which its global has a symbol
unfoldable pub kept_at : ℕ → Keeping → State → State
kept_at base in_globals s = with_tables (with_symbol (iter_name (length s.stack - base)) s.tables) s
kept_at base (in_slots n) s = s
