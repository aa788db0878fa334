-- The depth falls.
use Prim.Native.Nat.{◌+◌, ◌-◌, ◌*◌}
use Rattle.definitions.specs.Slots.{locals_block, locals_branches, loops_block, loops_branches}
use Rattle.tree_view.specs.StmtAt.{block_at, stmts_at, branches_at, StmtsRead, BranchesRead}
use Rattle.slots.proofs.Steps.{Left}
use Rattle.slots.proofs.walk.Gathering.+gather.Given as goal

abbrev pub decreases-stmt : goal.decreases-stmt
decreases-stmt l = 8 * l.depth

abbrev pub decreases-block : goal.decreases-block
decreases-block l = 8 * l.depth + 1

abbrev pub decreases-branch : goal.decreases-branch
decreases-branch l = 8 * l.depth + 2

abbrev pub decreases-else_block : goal.decreases-else_block
decreases-else_block l = 8 * l.depth + 2

abbrev pub decreases-elifs : goal.decreases-elifs
decreases-elifs l = 8 * l.depth + 3

abbrev pub decreases-for_stmt : goal.decreases-for_stmt
decreases-for_stmt l = 8 * l.depth + 3

abbrev pub decreases-if_stmt : goal.decreases-if_stmt
decreases-if_stmt l = 8 * l.depth + 4

abbrev pub invariant-block-loop : goal.invariant-block-loop
invariant-block-loop l =
    let t = l.fn.self.tree.now in let n = l.count - l.counter in
    StmtsRead l.depth n t l.p × Left (block_at l.depth t l.fn.at) (stmts_at l.depth n t l.p) locals_block loops_block l.fn.self l.self

abbrev pub invariant-elifs-loop : goal.invariant-elifs-loop
invariant-elifs-loop l =
    let t = l.fn.self.tree.now in let n = l.count - l.counter in
    BranchesRead l.depth n t l.p × Left (branches_at l.depth l.count t l.fn.at) (branches_at l.depth n t l.p) locals_branches loops_branches l.fn.self l.self
