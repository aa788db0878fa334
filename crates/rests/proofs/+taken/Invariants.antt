use Prim.Native.Nat.{◌+◌, ◌-◌, ◌*◌}
use Rattle.rests.proofs.StmtKinds.{StmtsLeft, BranchesLeft, MethodsLeft}
use Rattle.rests.proofs.+taken.Given as goal

abbrev pub decreases-taken_block : goal.decreases-taken_block
decreases-taken_block l = 8 * l.depth + 2

abbrev pub decreases-taken_branch : goal.decreases-taken_branch
decreases-taken_branch l = 8 * l.depth + 3

abbrev pub decreases-taken_class : goal.decreases-taken_class
decreases-taken_class l = 8 * l.depth

abbrev pub decreases-taken_def : goal.decreases-taken_def
decreases-taken_def l = 8 * l.depth + 3

abbrev pub decreases-taken_elifs : goal.decreases-taken_elifs
decreases-taken_elifs l = 8 * l.depth + 4

abbrev pub decreases-taken_else : goal.decreases-taken_else
decreases-taken_else l = 8 * l.depth + 3

abbrev pub decreases-taken_for : goal.decreases-taken_for
decreases-taken_for l = 8 * l.depth + 4

abbrev pub decreases-taken_if : goal.decreases-taken_if
decreases-taken_if l = 8 * l.depth + 5

abbrev pub decreases-taken_methods : goal.decreases-taken_methods
decreases-taken_methods l = 8 * l.depth + 4

abbrev pub decreases-taken_stmt : goal.decreases-taken_stmt
decreases-taken_stmt l = 8 * l.depth + 1

abbrev pub invariant-taken_block-loop : goal.invariant-taken_block-loop
invariant-taken_block-loop l = StmtsLeft l.depth l.tree l.count l.initial.p (l.count - l.counter) l.p l.sum

abbrev pub invariant-taken_elifs-loop : goal.invariant-taken_elifs-loop
invariant-taken_elifs-loop l = BranchesLeft l.depth l.tree l.count l.initial.p (l.count - l.counter) l.p l.sum

abbrev pub invariant-taken_methods-loop : goal.invariant-taken_methods-loop
invariant-taken_methods-loop l = MethodsLeft l.depth l.tree l.count l.initial.p (l.count - l.counter) l.p l.sum
