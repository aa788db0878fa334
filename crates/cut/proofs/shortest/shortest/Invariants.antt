use Rattle.state.specs.State.{limits_of}
use Rattle.cut.specs.Seeking.{SeeksFrom}
use Rattle.cut.proofs.shortest.shortest.Given as goal

abbrev pub invariant-loop-i : goal.invariant-loop-i
invariant-loop-i l = SeeksFrom (limits_of l.limits) l.tree l.i l.at l.best
