-- a small integer has none
use native.Mathlib.Omega.{arith}
use mathlib.Core.Path.{sym, ap}
use Rattle.definitions.specs.Instruction.{Instr}
use Rattle.module.proofs.Encoding.{of-small, of_other}
use Rattle.module.proofs.words.second_operand.Goals as goal

pub returns-in-48 : goal.returns-in-48
returns-in-48 c = λ t. sym (ap (λ (i : Instr). i.b) (of-small t _ c.in-48.is))

pub returns-in_default : goal.returns-in_default
returns-in_default c = λ t. sym (ap (λ (i : Instr). i.b) (of_other t _ (λ e. omega arith)))
