-- By the number of the name's slot.
use native.Mathlib.Omega.{arith}
use mathlib.Core.Path.{sym, refl}
use Rattle.definitions.proofs.Resolve.{position-lt}
use Rattle.names.proofs.Indexing.{slots-count}
use Rattle.slots.proofs.Marking.{mark-told, mark-left}
use Rattle.slots.proofs.captures.Captures.mark.Goals as goal

pub bounds-self-i : goal.bounds-self-i
bounds-self-i c = omega (arith, position-lt _ _ _ (sym c.in-Some.ensures), slots-count _ _ c.args.self.now.keeping.slots)

pub returns-in-Some : goal.returns-in-Some
returns-in-Some c = record { marked = mark-told _ _ _ _ c.in-Some.ensures; same_around = refl; same_n = refl; same_kept = refl }

pub returns-in_default : goal.returns-in_default
returns-in_default c = record { marked = mark-left _ _ _ c.in_default.ensures; same_around = refl; same_n = refl; same_kept = refl }
