-- A method for each form of expression. The depth falls.
use Prim.Native.Nat.{◌+◌, ◌-◌, ◌*◌}
use Rattle.measure.specs.Known.{known, names_in}
use Rattle.measure.proofs.Measuring.{ExprsLeft}
use Rattle.measure.proofs.measurer.Measurer.+measure_exprs.Given as goal

abbrev pub decreases-attribute : goal.decreases-attribute
decreases-attribute l = 4 * l.depth + 1

abbrev pub decreases-call : goal.decreases-call
decreases-call l = 4 * l.depth + 3

abbrev pub decreases-dict : goal.decreases-dict
decreases-dict l = 4 * l.depth + 2

abbrev pub decreases-expr : goal.decreases-expr
decreases-expr l = 4 * l.depth

abbrev pub decreases-list : goal.decreases-list
decreases-list l = 4 * l.depth + 2

abbrev pub decreases-many : goal.decreases-many
decreases-many l = 4 * l.depth + 1

abbrev pub decreases-more : goal.decreases-more
decreases-more l = 4 * l.depth + 1

abbrev pub decreases-two : goal.decreases-two
decreases-two l = 4 * l.depth + 1

abbrev pub invariant-many-loop : goal.invariant-many-loop
invariant-many-loop l = ExprsLeft l.depth l.self.scope.tree.now (names_in l.self) (known l.self) l.count l.at l.more (l.count - l.counter) l.next l.size
