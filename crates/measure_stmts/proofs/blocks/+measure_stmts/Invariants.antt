-- A function for each kind of statement. The depth falls.
use Prim.Native.Nat.{◌+◌, ◌-◌, ◌*◌}
use Rattle.tree_view.specs.StmtAt.{block_at, branches_at, methods_at}
use Rattle.measure_stmts.proofs.Several.{StmtsLeft, BranchesLeft, MethodsLeft}
use Rattle.measure_stmts.proofs.blocks.+measure_stmts.Given as goal

abbrev pub decreases-measure_block : goal.decreases-measure_block
decreases-measure_block l = 8 * l.depth + 1

abbrev pub decreases-measure_branch : goal.decreases-measure_branch
decreases-measure_branch l = 8 * l.depth + 2

abbrev pub decreases-measure_class : goal.decreases-measure_class
decreases-measure_class l = 8 * l.depth + 4

abbrev pub decreases-measure_def : goal.decreases-measure_def
decreases-measure_def l = 8 * l.depth + 2

abbrev pub decreases-measure_elifs : goal.decreases-measure_elifs
decreases-measure_elifs l = 8 * l.depth + 3

abbrev pub decreases-measure_else : goal.decreases-measure_else
decreases-measure_else l = 8 * l.depth + 2

abbrev pub decreases-measure_for : goal.decreases-measure_for
decreases-measure_for l = 8 * l.depth + 3

abbrev pub decreases-measure_if : goal.decreases-measure_if
decreases-measure_if l = 8 * l.depth + 4

abbrev pub decreases-measure_methods : goal.decreases-measure_methods
decreases-measure_methods l = 8 * l.depth + 3

abbrev pub decreases-measure_stmt : goal.decreases-measure_stmt
decreases-measure_stmt l = 8 * l.depth

abbrev pub invariant-measure_block-loop : goal.invariant-measure_block-loop
invariant-measure_block-loop l = StmtsLeft l.m l.depth (block_at l.depth l.m.scope.tree.now l.fn.at) (l.count - l.counter) (l.fn.at + 2) l.next l.size l.fn.begun l.begun

abbrev pub invariant-measure_elifs-loop : goal.invariant-measure_elifs-loop
invariant-measure_elifs-loop l = BranchesLeft l.m l.depth (branches_at l.depth l.count l.m.scope.tree.now l.fn.at) (l.count - l.counter) l.fn.at l.next l.size l.fn.begun l.begun

abbrev pub invariant-measure_methods-loop : goal.invariant-measure_methods-loop
invariant-measure_methods-loop l = MethodsLeft l.m l.depth (methods_at l.depth l.count l.m.scope.tree.now l.fn.at) (l.count - l.counter) l.fn.at l.next l.fn.begun l.begun
