-- The two divisions apart, an operator's opcode is a sum.
use native.Mathlib.Omega.{arith}
use Rattle.opcodes.proofs.Opcodes.{binary-is, binary-divide, binary-floor, binary-low, binary-high}
use Rattle.opcodes.proofs.binary_code.Goals as goal

pub returns-in-3 : goal.returns-in-3
returns-in-3 c = binary-is _ 17 (binary-divide _ c.in-3.is) (omega arith) (omega arith)

pub returns-in-4 : goal.returns-in-4
returns-in-4 c = binary-is _ 16 (binary-floor _ c.in-4.is) (omega arith) (omega arith)

pub returns-in_default : goal.returns-in_default
returns-in_default c = binary-is _ _ (binary-low _ c.if-operator-lt-FIRST_COMPARISON.true (λ z. omega arith) (λ z. omega arith)) (omega arith) (omega arith)

pub returns-in_default-2 : goal.returns-in_default-2
returns-in_default-2 c = binary-is _ _ (binary-high _ c.if-operator-lt-FIRST_COMPARISON.false) (omega arith) (omega arith)
