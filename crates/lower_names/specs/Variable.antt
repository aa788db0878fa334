-- A variable by its slot, else by the global of its name: loads and stores are one, but for the opcodes.
use Rattle.std.specs.Prelude.{ℕ, ◌+◌, List}
use Rattle.std.proofs.Math.Option.{Option, none, some}
use Rattle.definitions.specs.Bytes.{Name, same, position}
use Rattle.definitions.specs.Instruction.{instr}
use Rattle.definitions.specs.Tables.{Emit, one, intern}

-- the opcode for a global stands two after that for a slot: LoadLocal 9 and LoadGlobal 11, StoreLocal 10 and StoreGlobal 12
unfoldable pub variable_by : ℕ → Name → Option ℕ → Emit
variable_by op x (some i) = one (instr op i 0)
variable_by op x none = intern x (λ k. one (instr (op + 2) k 0))

unfoldable pub variable_among : ℕ → List Name → Name → Emit
variable_among op slots x = variable_by op x (position (same x) slots)
