use Rattle.lower_leaves.proofs.Lambdas.{Loading}
use Rattle.lower_leaves.proofs.closures.load_captured.Given as goal

abbrev pub invariant-loop-at : goal.invariant-loop-at
invariant-loop-at l = Loading l.s.tree.now l.s.slots.now l.captured l.initial.code l.code l.at-index
