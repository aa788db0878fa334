use Prim.Native.Nat.{◌+◌, ◌*◌, ◌-◌}
use Rattle.parts.proofs.Steps.{Along}
use Rattle.tree.proofs.Checking.{stmts, elifs, methods}
use Rattle.tree.proofs.stmts.+check.Given as goal

abbrev pub decreases-check_block : goal.decreases-check_block
decreases-check_block l = 6 * l.context.depth + 1

abbrev pub decreases-check_branch : goal.decreases-check_branch
decreases-check_branch l = 6 * l.context.depth + 2

abbrev pub decreases-check_class : goal.decreases-check_class
decreases-check_class l = 6 * l.depth + 4

abbrev pub decreases-check_def : goal.decreases-check_def
decreases-check_def l = 6 * l.depth + 2

abbrev pub decreases-check_elifs : goal.decreases-check_elifs
decreases-check_elifs l = 6 * l.context.depth + 3

abbrev pub decreases-check_else : goal.decreases-check_else
decreases-check_else l = 6 * l.context.depth + 2

abbrev pub decreases-check_for : goal.decreases-check_for
decreases-check_for l = 6 * l.depth + 3

abbrev pub decreases-check_if : goal.decreases-check_if
decreases-check_if l = 6 * l.context.depth + 4

abbrev pub decreases-check_method : goal.decreases-check_method
decreases-check_method l = 6 * l.depth + 2

abbrev pub decreases-check_methods : goal.decreases-check_methods
decreases-check_methods l = 6 * l.depth + 3

abbrev pub decreases-check_stmt : goal.decreases-check_stmt
decreases-check_stmt l = 6 * l.context.depth

abbrev pub invariant-check_block-loop : goal.invariant-check_block-loop
invariant-check_block-loop l = Along (stmts l.context.looped l.context.depth) l.n (l.n - l.counter) l.initial.c l.c

abbrev pub invariant-check_elifs-loop : goal.invariant-check_elifs-loop
invariant-check_elifs-loop l = Along (elifs l.context.looped l.context.depth) l.n (l.n - l.counter) l.initial.c l.c

abbrev pub invariant-check_methods-loop : goal.invariant-check_methods-loop
invariant-check_methods-loop l = Along (methods l.depth) l.n (l.n - l.counter) l.initial.c l.c
