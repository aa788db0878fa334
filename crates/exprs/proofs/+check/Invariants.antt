use Prim.Native.Nat.{◌+◌, ◌*◌}
use Rattle.parts.proofs.Steps.{Along}
use Rattle.exprs.proofs.Checking.{many}
use Rattle.exprs.proofs.+check.Given as goal

abbrev pub decreases-check_attribute : goal.decreases-check_attribute
decreases-check_attribute l = 4 * l.depth + 1

abbrev pub decreases-check_binary : goal.decreases-check_binary
decreases-check_binary l = 4 * l.depth + 2

abbrev pub decreases-check_call : goal.decreases-check_call
decreases-check_call l = 4 * l.depth + 2

abbrev pub decreases-check_display : goal.decreases-check_display
decreases-check_display l = 4 * l.depth + 2

abbrev pub decreases-check_tuple : goal.decreases-check_tuple
decreases-check_tuple l = 4 * l.depth + 2

abbrev pub decreases-check_expr : goal.decreases-check_expr
decreases-check_expr l = 4 * l.depth

abbrev pub decreases-check_lambda : goal.decreases-check_lambda
decreases-check_lambda l = 4 * l.depth + 1

abbrev pub decreases-check_many : goal.decreases-check_many
decreases-check_many l = 4 * l.depth + 1

abbrev pub decreases-check_pairs : goal.decreases-check_pairs
decreases-check_pairs l = 4 * l.depth + 2

abbrev pub decreases-check_two : goal.decreases-check_two
decreases-check_two l = 4 * l.depth + 1

abbrev pub decreases-check_unary : goal.decreases-check_unary
decreases-check_unary l = 4 * l.depth + 1

abbrev pub invariant-check_many-loop-left : goal.invariant-check_many-loop-left
invariant-check_many-loop-left l = Along (many l.role l.depth) l.n l.left l.initial.c l.c

abbrev pub decreases-check_many-loop-left : goal.decreases-check_many-loop-left
decreases-check_many-loop-left l = l.left
