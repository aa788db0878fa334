use Rattle.slots.proofs.Ordering.{Sorting}
use Rattle.slots.proofs.order.sort_names.Given as goal

abbrev pub invariant-loop-i : goal.invariant-loop-i
invariant-loop-i l = Sorting l.tree l.initial.places l.places l.i
