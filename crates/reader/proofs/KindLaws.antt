-- What an instruction's first operand numbers, by opcode. Assumes nothing.
use Prim.Native.Nat.{ℕ}
use mathlib.Core.Path.{◌≡◌, refl, sym}
use mathlib.Core.Bool.{Bool, false, ◌||◌}
use native.Mathlib.Omega.{arith}
use lib.Dec.{eqb}
use Rattle.definitions.specs.Instruction.{instruction_table, row_of, numbers_of}
use Rattle.widths.proofs.Laws.{column-zero}
use Rattle.reader.specs.Asks.{operand_of}
use Rattle.reader.specs.declared.Operand.{Operand}
use Rattle.reader.specs.declared.Operand.TheVariants.{Nothing, Text, Constant, Slot, Symbol, Function, Builtin}

-- the opcodes whose first operand numbers something
unfoldable pub has-kind : ℕ → Bool
has-kind k = eqb k 2 || (eqb k 6 || (eqb k 9 || (eqb k 10 || (eqb k 11 || (eqb k 12 || (eqb k 31 || (eqb k 32 || (eqb k 35 || (eqb k 36 || (eqb k 37 || (eqb k 45)))))))))))

-- whether an operand numbers something
mark : Operand → ℕ
mark Nothing = 0
mark Text = 1
mark Constant = 1
mark Slot = 1
mark Symbol = 1
mark Function = 1
mark Builtin = 1

unmarked : (o : Operand) → mark o ≡ 0 → Nothing ≡ o
unfolding mark
unmarked Nothing e = refl
unmarked Text e = absurd (omega arith)
unmarked Constant e = absurd (omega arith)
unmarked Slot e = absurd (omega arith)
unmarked Symbol e = absurd (omega arith)
unmarked Function e = absurd (omega arith)
unmarked Builtin e = absurd (omega arith)

pub kind-none : (op : ℕ) → has-kind op ≡ false → Nothing ≡ operand_of (numbers_of op)
unfolding numbers_of has-kind instruction_table operand_of mark
kind-none op e = unmarked (operand_of (row_of op).numbers) (sym (column-zero (λ r. mark (operand_of r.numbers)) has-kind tt refl op e))
