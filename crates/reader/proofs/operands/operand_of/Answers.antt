use native.Mathlib.Omega.{arith}
use borrow.Author.Tests.{ne_eqb}
use Rattle.reader.proofs.KindLaws.{has-kind, kind-none}
use Rattle.reader.proofs.operands.operand_of.Goals as goal

pub returns-in_default : goal.returns-in_default
unfolding has-kind
returns-in_default c = let k = c.args.op in kind-none k (simp (
  ne_eqb k 2 (λ e. grind arith),
  ne_eqb k 6 (λ e. grind arith),
  ne_eqb k 9 (λ e. grind arith),
  ne_eqb k 10 (λ e. grind arith),
  ne_eqb k 11 (λ e. grind arith),
  ne_eqb k 12 (λ e. grind arith),
  ne_eqb k 31 (λ e. grind arith),
  ne_eqb k 32 (λ e. grind arith),
  ne_eqb k 35 (λ e. grind arith),
  ne_eqb k 36 (λ e. grind arith),
  ne_eqb k 37 (λ e. grind arith),
  ne_eqb k 45 (λ e. grind arith),
))
