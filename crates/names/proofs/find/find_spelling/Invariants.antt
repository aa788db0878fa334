use Rattle.definitions.specs.Bytes.{same}
use Rattle.state.specs.State.{spelled}
use Rattle.names.proofs.Finding.{Passed}
use Rattle.names.proofs.find.find_spelling.Given as goal

abbrev pub invariant-loop-i : goal.invariant-loop-i
invariant-loop-i l = Passed (λ w. same l.name (spelled l.tree l.made w)) l.words l.i
