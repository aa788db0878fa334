-- The opcode of each byte, by its law.
use native.Mathlib.Omega.{arith}
use Rattle.opcodes.proofs.Opcodes.{unary-not, unary-negate, unary-pos}
use Rattle.opcodes.proofs.unary_code.Goals as goal

pub returns-in-0 : goal.returns-in-0
returns-in-0 c = unary-not _ c.in-0.is

pub returns-in-1 : goal.returns-in-1
returns-in-1 c = unary-negate _ c.in-1.is

pub returns-in_default : goal.returns-in_default
returns-in_default c = unary-pos _ c.requires (λ z. omega arith) (λ z. omega arith)
