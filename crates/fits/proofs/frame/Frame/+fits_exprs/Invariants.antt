use Prim.Native.Nat.{◌+◌, ◌-◌, ◌*◌}
use Rattle.state.specs.State.{slot_names}
use Rattle.fits.proofs.ExprKinds.{ExprsLeft}
use Rattle.fits.proofs.frame.Frame.+fits_exprs.Given as goal

abbrev pub decreases-attribute : goal.decreases-attribute
decreases-attribute l = 4 * l.depth + 1

abbrev pub decreases-call : goal.decreases-call
decreases-call l = 4 * l.depth + 3

abbrev pub decreases-dict : goal.decreases-dict
decreases-dict l = 4 * l.depth + 2

abbrev pub decreases-expr : goal.decreases-expr
decreases-expr l = 4 * l.depth

abbrev pub decreases-lambda : goal.decreases-lambda
decreases-lambda l = 4 * l.depth + 1

abbrev pub decreases-list : goal.decreases-list
decreases-list l = 4 * l.depth + 2

abbrev pub decreases-many : goal.decreases-many
decreases-many l = 4 * l.depth + 1

abbrev pub decreases-two : goal.decreases-two
decreases-two l = 4 * l.depth + 1

abbrev pub invariant-many-loop : goal.invariant-many-loop
invariant-many-loop l = ExprsLeft l.depth l.self.tree.now (slot_names l.self.tree.now l.self.slots.now) l.count l.initial.p (l.count - l.counter) l.p
