-- The opcodes that stand in words.
use Rattle.std.specs.Prelude.{ℕ, true, false, eqb}

-- 48 stands there for a ConstI64 whose operand is in the word
unfoldable pub code_of : ℕ → ℕ
code_of op = elim (eqb op 48) [ true ↦ 0 | false ↦ op ]
