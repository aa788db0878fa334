use Rattle.std.proofs.Common.{refl, arith}
use Rattle.parts.proofs.Steps.{answered-yes, answered-low, answered-no}
use Rattle.parts.specs.Asked.{stand}
use Rattle.parts.proofs.checker.Checker.note.Goals as goal
use Rattle.parts.proofs.checker.Checker.note.Goals.{else-not-ok-via-then-not-ok+else-place-stand, else-not-ok-via-else-not-ok}

pub returns-then-place-stand : goal.returns-then-place-stand
unfolding stand
returns-then-place-stand c = record { tree = refl; at = refl; stand = answered-no _ _ _ c.if-not-ok.true (omega arith) }

pub returns-else-not-ok : goal.returns-else-not-ok
returns-else-not-ok c = elim c.else-not-ok.branch [
  | else-not-ok-via-then-not-ok+else-place-stand w ↦ record { tree = refl; at = refl; stand = answered-low _ _ _ w.if-not-ok.true (omega arith) }
  | else-not-ok-via-else-not-ok w ↦ record { tree = refl; at = refl; stand = answered-yes _ _ _ w.if-not-ok.false }
]
