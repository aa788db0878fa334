use native.Mathlib.Omega.{arith}
use borrow.Author.Tests.{ne_eqb}
use Rattle.definitions.specs.Instruction.{instruction_table, row_of, first_width}
use Rattle.widths.proofs.Laws.{has_first, first-none}
use Rattle.widths.proofs.first_width.Goals as goal

pub returns-in_default : goal.returns-in_default
unfolding first_width row_of instruction_table has_first
returns-in_default c = let n = c.in_default.in_default-own.rest in let k = c.args.op in (
  first-none k (simp (
    ne_eqb k 0 n.0.0.0.0.0.0.0.0.0.0.0.0.0.0.0.0.0.0.0.0.0.0.1,
    ne_eqb k 1 n.0.0.0.0.0.0.0.0.0.0.0.0.0.0.0.0.0.0.0.0.0.1,
    ne_eqb k 2 n.0.0.0.0.0.0.0.0.0.0.0.0.0.0.0.0.0.0.0.0.1,
    ne_eqb k 6 n.0.0.0.0.0.0.0.0.0.0.0.0.0.0.0.0.0.0.0.1,
    ne_eqb k 9 n.0.0.0.0.0.0.0.0.0.0.0.0.0.0.0.0.0.0.1,
    ne_eqb k 10 n.0.0.0.0.0.0.0.0.0.0.0.0.0.0.0.0.0.1,
    ne_eqb k 11 n.0.0.0.0.0.0.0.0.0.0.0.0.0.0.0.0.1,
    ne_eqb k 12 n.0.0.0.0.0.0.0.0.0.0.0.0.0.0.0.1,
    ne_eqb k 28 n.0.0.0.0.0.0.0.0.0.0.0.0.0.0.1,
    ne_eqb k 29 n.0.0.0.0.0.0.0.0.0.0.0.0.0.1,
    ne_eqb k 30 n.0.0.0.0.0.0.0.0.0.0.0.0.1,
    ne_eqb k 31 n.0.0.0.0.0.0.0.0.0.0.0.1,
    ne_eqb k 32 n.0.0.0.0.0.0.0.0.0.0.1,
    ne_eqb k 34 n.0.0.0.0.0.0.0.0.0.1,
    ne_eqb k 35 n.0.0.0.0.0.0.0.0.1,
    ne_eqb k 36 n.0.0.0.0.0.0.0.1,
    ne_eqb k 37 n.0.0.0.0.0.0.1,
    ne_eqb k 38 n.0.0.0.0.0.1,
    ne_eqb k 39 n.0.0.0.0.1,
    ne_eqb k 40 n.0.0.0.1,
    ne_eqb k 41 n.0.0.1,
    ne_eqb k 42 n.0.1,
    ne_eqb k 45 n.1,
  )),
  omega arith,
)
