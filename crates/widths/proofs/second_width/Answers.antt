use native.Mathlib.Omega.{arith}
use borrow.Author.Tests.{ne_eqb}
use Rattle.definitions.specs.Instruction.{instruction_table, row_of, second_width}
use Rattle.widths.proofs.Laws.{has-second, second_none}
use Rattle.widths.proofs.second_width.Goals as goal

pub returns-in_default : goal.returns-in_default
unfolding second_width row_of instruction_table has-second
returns-in_default c = let n = c.in_default.in_default-own.rest in let k = c.args.op in (
  second_none k (simp (
    ne_eqb k 31 n.0.0.0.1,
    ne_eqb k 32 n.0.0.1,
    ne_eqb k 35 n.0.1,
    ne_eqb k 45 n.1,
  )),
  omega arith,
)
