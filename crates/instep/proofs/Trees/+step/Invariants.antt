use Prim.Native.Nat.{◌+◌, ◌-◌, ◌*◌}
use Rattle.instep.proofs.Ways.{Pair, BranchesAlong, MethodsAlong}
use Rattle.instep.proofs.Trees.+step.Given as goal

abbrev pub decreases-block : goal.decreases-block
decreases-block l = 8 * l.depth + 3

abbrev pub decreases-branch : goal.decreases-branch
decreases-branch l = 8 * l.depth + 4

abbrev pub decreases-branches : goal.decreases-branches
decreases-branches l = 8 * l.depth + 6

abbrev pub decreases-class : goal.decreases-class
decreases-class l = 8 * l.depth

abbrev pub decreases-def : goal.decreases-def
decreases-def l = 8 * l.depth + 4

abbrev pub decreases-elifs : goal.decreases-elifs
decreases-elifs l = 8 * l.depth + 5

abbrev pub decreases-else_block : goal.decreases-else_block
decreases-else_block l = 8 * l.depth + 4

abbrev pub decreases-loop_over : goal.decreases-loop_over
decreases-loop_over l = 8 * l.depth + 5

abbrev pub decreases-methods : goal.decreases-methods
decreases-methods l = 8 * l.depth + 5

abbrev pub decreases-stmt : goal.decreases-stmt
decreases-stmt l = 8 * l.depth + 1

abbrev pub decreases-stmts : goal.decreases-stmts
decreases-stmts l = 8 * l.depth + 2

abbrev pub invariant-elifs-loop : goal.invariant-elifs-loop
invariant-elifs-loop l = BranchesAlong l.depth l.self.first.now l.self.second.now l.count l.initial.p.first l.initial.p.second (l.count - l.counter) l.p.first l.p.second

abbrev pub invariant-methods-loop : goal.invariant-methods-loop
invariant-methods-loop l = MethodsAlong l.depth l.self.first.now l.self.second.now l.count l.initial.p.first l.initial.p.second (l.count - l.counter) l.p.first l.p.second

abbrev pub invariant-stmts-loop-i : goal.invariant-stmts-loop-i
invariant-stmts-loop-i l = Pair l.depth l.self.first.now l.self.second.now l.initial.i l.initial.x l.initial.j l.initial.y l.i l.x l.j l.y

abbrev pub decreases-stmts-loop-i : goal.decreases-stmts-loop-i
decreases-stmts-loop-i l = l.i + l.j
