-- A target and its elements. The depth falls.
use Prim.Native.Nat.{◌+◌, ◌-◌, ◌*◌}
use Rattle.measure_stmts.proofs.Targeting.{ElementsLeft}
use Rattle.measure_stmts.proofs.targets.+measure_targets.Given as goal

abbrev pub decreases-measure_elements : goal.decreases-measure_elements
decreases-measure_elements l = 2 * l.depth + 1

abbrev pub decreases-measure_target : goal.decreases-measure_target
decreases-measure_target l = 2 * l.depth

abbrev pub invariant-measure_elements-loop : goal.invariant-measure_elements-loop
invariant-measure_elements-loop l = ElementsLeft l.depth l.tree l.count (l.fn.at + 2) (l.count - l.counter) l.next l.size l.copy
