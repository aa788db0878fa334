use Rattle.limits.proofs.Kept.{set-limited}
use Rattle.lowering.proofs.Answering.{lowers-first, lowers-second, lowers-all}
use Rattle.lowering.proofs.lower_by.Goals as goal
use Rattle.lowering.proofs.lower_by.Goals.{then-area1-lt-AREA-via-then-area1-lt-AREA, then-area1-lt-AREA-via-else-area1-lt-AREA+then-area2-lt-AREA}

pub returns-then-area1-lt-AREA : goal.returns-then-area1-lt-AREA
returns-then-area1-lt-AREA c = elim c.then-area1-lt-AREA.branch [
  | then-area1-lt-AREA-via-then-area1-lt-AREA w ↦ lowers-first _ _ _ _ _ w.if-area1-lt-AREA.true
  | then-area1-lt-AREA-via-else-area1-lt-AREA+then-area2-lt-AREA w ↦ lowers-second _ _ _ _ _ w.if-area1-lt-AREA.false w.if-area2-lt-AREA.true
]

pub lower_into-r-requires : goal.lower_into-r-requires
lower_into-r-requires c = (c.if-area1-lt-AREA.false, c.if-area2-lt-AREA.false, set-limited _ c.limit_numbers-l.ensures)

pub returns : goal.returns
returns c =
    lowers-all _ _ _ _ _ c.limit_numbers-l.ensures c.if-area1-lt-AREA.false c.if-area2-lt-AREA.false _ _ c.lower_into-r.ensures c.lower_into-r.auto.code c.lower_into-r.auto.tables c.clear.ensures c.clear-2.ensures
