use Rattle.lower_leaves.proofs.Runs.{Running}
use Rattle.lower_leaves.proofs.constants.run.Given as goal

abbrev pub invariant-loop-i : goal.invariant-loop-i
invariant-loop-i l = Running l.i l.tree l.at l.initial.words l.words
