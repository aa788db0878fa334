use Rattle.state.specs.State.{limits_of}
use Rattle.cut.proofs.Seeking.{Under}
use Rattle.cut.proofs.begin.first_over.Given as goal

abbrev pub invariant-loop-i : goal.invariant-loop-i
invariant-loop-i l = Under (limits_of l.limits) l.tree l.likely l.i l.at
