-- By the number of the name's slot.
use native.Mathlib.Omega.{arith}
use mathlib.Core.Path.{sym}
use Rattle.definitions.proofs.Resolve.{position-lt}
use Rattle.names.proofs.Indexing.{slots-count}
use Rattle.slots.proofs.Marking.{free-told, free-left}
use Rattle.slots.proofs.captures.Captures.is_free.Goals as goal

pub bounds-self-i : goal.bounds-self-i
bounds-self-i c = omega (arith, position-lt _ _ _ (sym c.in-Some.ensures), slots-count _ _ c.args.self.now.keeping.slots)

pub returns-in-Some : goal.returns-in-Some
returns-in-Some c = free-told _ _ _ _ c.in-Some.ensures

pub returns-in-None : goal.returns-in-None
returns-in-None c = free-left _ _ _ c.in-None.ensures
