-- How deep each function may still go, and what its loop keeps.
use Prim.Native.Nat.{◌+◌, ◌*◌, ◌-◌}
use Rattle.state.specs.State.{slot_names}
use Rattle.lower_blocks.proofs.Classes.{MethodsRest}
use Rattle.write_blocks.proofs.Sequence.{StmtsRest}
use Rattle.write_blocks.proofs.Elifs.{ElifsRest}
use Rattle.write_stmts.proofs.+write.Given as goal

abbrev pub decreases-write_function : goal.decreases-write_function
decreases-write_function l = 8 * l.depth + 4

abbrev pub decreases-write_block : goal.decreases-write_block
decreases-write_block l = 8 * l.depth + 2

abbrev pub decreases-write_body : goal.decreases-write_body
decreases-write_body l = 8 * l.depth + 3

abbrev pub decreases-write_branch : goal.decreases-write_branch
decreases-write_branch l = 8 * l.depth + 3

abbrev pub decreases-write_class : goal.decreases-write_class
decreases-write_class l = 8 * l.depth + 6

abbrev pub decreases-write_elifs : goal.decreases-write_elifs
decreases-write_elifs l = 8 * l.depth + 4

abbrev pub decreases-write_else : goal.decreases-write_else
decreases-write_else l = 8 * l.depth + 3

abbrev pub decreases-write_for : goal.decreases-write_for
decreases-write_for l = 8 * l.depth + 4

abbrev pub decreases-write_if : goal.decreases-write_if
decreases-write_if l = 8 * l.depth + 5

abbrev pub decreases-write_methods : goal.decreases-write_methods
decreases-write_methods l = 8 * l.depth + 5

abbrev pub decreases-write_rounds : goal.decreases-write_rounds
decreases-write_rounds l = 8 * l.depth + 3

abbrev pub decreases-write_stmt : goal.decreases-write_stmt
decreases-write_stmt l = 8 * l.depth

abbrev pub decreases-write_while : goal.decreases-write_while
decreases-write_while l = 8 * l.depth + 3

abbrev pub invariant-write_elifs-loop : goal.invariant-write_elifs-loop
invariant-write_elifs-loop l = ElifsRest l.depth l.s.tree.now (slot_names l.s.tree.now l.s.slots.now) l.around l.initial.e l.initial.it l.count l.at l.e l.it (l.count - l.counter) l.p

abbrev pub invariant-write_methods-loop : goal.invariant-write_methods-loop
invariant-write_methods-loop l = MethodsRest l.depth l.tree l.initial.e l.n l.at l.e l.list (l.n - l.counter) l.p l.count

abbrev pub invariant-write_block-loop : goal.invariant-write_block-loop
invariant-write_block-loop l = StmtsRest l.depth l.s.tree.now (slot_names l.s.tree.now l.s.slots.now) l.around l.initial.e l.initial.it l.count (l.at + 2) l.e l.it (l.count - l.counter) l.p
