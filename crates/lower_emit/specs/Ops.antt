-- The operands that a word keeps as they are.
use Rattle.std.specs.Prelude.{ℕ, ◌<◌, ◌≡◌, Bool, false, ◌||◌, eqb}
use Rattle.definitions.specs.Reader.{is_jump}
use Rattle.state.specs.Words.{small_int}

-- an opcode of one byte that is no ConstI64, ConstF64, jump or small integer: its operands are those of the word
unfoldable pub special : ℕ → Bool
special op = eqb op 0 || eqb op 1 || is_jump op || eqb op small_int

pub record Plain (op a b : ℕ) : Type 0 where
  pub op-byte : op < 256
  pub op-plain : special op ≡ false
  pub first_short : a < 65536
  pub second-byte : b < 256
