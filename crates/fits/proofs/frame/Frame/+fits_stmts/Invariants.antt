use Prim.Native.Nat.{◌+◌, ◌-◌, ◌*◌}
use Rattle.state.specs.State.{slot_names}
use Rattle.fits.proofs.StmtKinds.{StmtsLeft, BranchesLeft, MethodsLeft}
use Rattle.fits.proofs.frame.Frame.+fits_stmts.Given as goal

abbrev pub decreases-block : goal.decreases-block
decreases-block l = 10 * l.depth + 1

abbrev pub decreases-branch : goal.decreases-branch
decreases-branch l = 10 * l.depth + 2

abbrev pub decreases-class : goal.decreases-class
decreases-class l = 10 * l.depth - 1

abbrev pub decreases-def : goal.decreases-def
decreases-def l = 10 * l.depth + 2

abbrev pub decreases-elifs : goal.decreases-elifs
decreases-elifs l = 10 * l.depth + 3

abbrev pub decreases-else_block : goal.decreases-else_block
decreases-else_block l = 10 * l.depth + 2

abbrev pub decreases-loop_over : goal.decreases-loop_over
decreases-loop_over l = 10 * l.depth + 3

abbrev pub decreases-branches : goal.decreases-branches
decreases-branches l = 10 * l.depth + 4

abbrev pub decreases-methods : goal.decreases-methods
decreases-methods l = 10 * l.depth + 3

abbrev pub decreases-stmt : goal.decreases-stmt
decreases-stmt l = 10 * l.depth

abbrev pub invariant-block-loop : goal.invariant-block-loop
invariant-block-loop l = StmtsLeft l.depth l.self.tree.now (slot_names l.self.tree.now l.self.slots.now) l.count l.initial.p (l.count - l.counter) l.p

abbrev pub invariant-elifs-loop : goal.invariant-elifs-loop
invariant-elifs-loop l = BranchesLeft l.depth l.self.tree.now (slot_names l.self.tree.now l.self.slots.now) l.count l.initial.p (l.count - l.counter) l.p

abbrev pub invariant-methods-loop : goal.invariant-methods-loop
invariant-methods-loop l = MethodsLeft l.depth l.self.tree.now l.count l.initial.p (l.count - l.counter) l.p
