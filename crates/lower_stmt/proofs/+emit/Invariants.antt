-- How deep each function may still go, and what its loop keeps.
use Prim.Native.Nat.{◌+◌, ◌*◌, ◌-◌}
use Rattle.state.specs.State.{slot_names}
use Rattle.lower_blocks.proofs.Sequence.{StmtsRest}
use Rattle.lower_blocks.proofs.Branches.{ChainRest}
use Rattle.lower_blocks.proofs.Classes.{MethodsRest}
use Rattle.lower_stmt.proofs.+emit.Given as goal

abbrev pub decreases-compile_function : goal.decreases-compile_function
decreases-compile_function l = 8 * l.depth + 4

abbrev pub decreases-emit_block : goal.decreases-emit_block
decreases-emit_block l = 8 * l.depth + 2

abbrev pub decreases-emit_body : goal.decreases-emit_body
decreases-emit_body l = 8 * l.depth + 3

abbrev pub decreases-emit_branch : goal.decreases-emit_branch
decreases-emit_branch l = 8 * l.depth + 3

abbrev pub decreases-emit_class : goal.decreases-emit_class
decreases-emit_class l = 8 * l.depth + 6

abbrev pub decreases-emit_elifs : goal.decreases-emit_elifs
decreases-emit_elifs l = 8 * l.depth + 4

abbrev pub decreases-emit_else : goal.decreases-emit_else
decreases-emit_else l = 8 * l.depth + 3

abbrev pub decreases-emit_for : goal.decreases-emit_for
decreases-emit_for l = 8 * l.depth + 4

abbrev pub decreases-emit_if : goal.decreases-emit_if
decreases-emit_if l = 8 * l.depth + 5

abbrev pub decreases-emit_methods : goal.decreases-emit_methods
decreases-emit_methods l = 8 * l.depth + 5

abbrev pub decreases-emit_rounds : goal.decreases-emit_rounds
decreases-emit_rounds l = 8 * l.depth + 3

abbrev pub decreases-emit_stmt : goal.decreases-emit_stmt
decreases-emit_stmt l = 8 * l.depth

abbrev pub decreases-emit_stmts : goal.decreases-emit_stmts
decreases-emit_stmts l = 8 * l.depth + 1

abbrev pub decreases-emit_while : goal.decreases-emit_while
decreases-emit_while l = 8 * l.depth + 3

abbrev pub invariant-emit_elifs-loop : goal.invariant-emit_elifs-loop
invariant-emit_elifs-loop l = ChainRest l.depth l.s.tree.now (slot_names l.s.tree.now l.s.slots.now) l.initial.e l.initial.it l.n l.at l.e l.it (l.n - l.counter) l.p

abbrev pub invariant-emit_methods-loop : goal.invariant-emit_methods-loop
invariant-emit_methods-loop l = MethodsRest l.depth l.tree l.initial.e l.n l.at l.e l.list (l.n - l.counter) l.p l.count

abbrev pub invariant-emit_stmts-loop : goal.invariant-emit_stmts-loop
invariant-emit_stmts-loop l = StmtsRest l.depth l.s.tree.now (slot_names l.s.tree.now l.s.slots.now) l.initial.e l.initial.it l.count l.at l.e l.it (l.count - l.counter) l.p
