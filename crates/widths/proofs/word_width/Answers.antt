use native.Mathlib.Omega.{arith}
use mathlib.Core.Path.{sym, ap, ap₂, ◌∙◌}
use Prim.Native.Nat.{ℕ, ◌+◌}
use borrow.Author.Tests.{ne_eqb}
use Rattle.definitions.specs.Instruction.{instruction_table, row_of, first_width, second_width}
use Rattle.widths.proofs.Laws.{has_first, has-second, first-none, second_none, opcode-other}
use Rattle.widths.proofs.word_width.Goals as goal

pub returns-in_default : goal.returns-in_default
unfolding first_width second_width row_of instruction_table has_first has-second
returns-in_default c = let n = c.in_default.in_default-own.rest in let k = c.args.op in (
  ap₂ (λ (x y : ℕ). 1 + x + y) (first-none k (simp (
    ne_eqb k 0 n.0.0.0.0.0.0.0.0.0.0.0.0.0.0.0.0.0.0.0.0.0.0.0.1,
    ne_eqb k 1 n.0.0.0.0.0.0.0.0.0.0.0.0.0.0.0.0.0.0.0.0.0.0.1,
    ne_eqb k 2 n.0.0.0.0.0.0.0.0.0.0.0.0.0.0.0.0.0.0.0.0.0.1,
    ne_eqb k 6 n.0.0.0.0.0.0.0.0.0.0.0.0.0.0.0.0.0.0.0.0.1,
    ne_eqb k 9 n.0.0.0.0.0.0.0.0.0.0.0.0.0.0.0.0.0.0.0.1,
    ne_eqb k 10 n.0.0.0.0.0.0.0.0.0.0.0.0.0.0.0.0.0.0.1,
    ne_eqb k 11 n.0.0.0.0.0.0.0.0.0.0.0.0.0.0.0.0.0.1,
    ne_eqb k 12 n.0.0.0.0.0.0.0.0.0.0.0.0.0.0.0.0.1,
    ne_eqb k 28 n.0.0.0.0.0.0.0.0.0.0.0.0.0.0.0.1,
    ne_eqb k 29 n.0.0.0.0.0.0.0.0.0.0.0.0.0.0.1,
    ne_eqb k 30 n.0.0.0.0.0.0.0.0.0.0.0.0.0.1,
    ne_eqb k 31 n.0.0.0.0.0.0.0.0.0.0.0.0.1,
    ne_eqb k 32 n.0.0.0.0.0.0.0.0.0.0.0.1,
    ne_eqb k 34 n.0.0.0.0.0.0.0.0.0.0.1,
    ne_eqb k 35 n.0.0.0.0.0.0.0.0.0.1,
    ne_eqb k 36 n.0.0.0.0.0.0.0.0.1,
    ne_eqb k 37 n.0.0.0.0.0.0.0.1,
    ne_eqb k 38 n.0.0.0.0.0.0.1,
    ne_eqb k 39 n.0.0.0.0.0.1,
    ne_eqb k 40 n.0.0.0.0.1,
    ne_eqb k 41 n.0.0.0.1,
    ne_eqb k 42 n.0.0.1,
    ne_eqb k 45 n.0.1,
  ))) (second_none k (simp (
    ne_eqb k 31 n.0.0.0.0.0.0.0.0.0.0.0.0.1,
    ne_eqb k 32 n.0.0.0.0.0.0.0.0.0.0.0.1,
    ne_eqb k 35 n.0.0.0.0.0.0.0.0.0.1,
    ne_eqb k 45 n.0.1,
  ))) ∙ ap (λ (x : ℕ). 1 + first_width x + second_width x) (sym (opcode-other k n.1)),
  omega arith,
)
