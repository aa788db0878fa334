use Rattle.limits.proofs.Kept.{set-limited}
use Rattle.cut.proofs.Answering.{cuts-first, cuts-second, cuts-all, room-of}
use Rattle.cut.proofs.cut.Goals as goal
use Rattle.cut.proofs.cut.Goals.{then-area1-lt-AREA-via-then-area1-lt-AREA, then-area1-lt-AREA-via-else-area1-lt-AREA+then-area2-lt-AREA}

pub returns-then-area1-lt-AREA : goal.returns-then-area1-lt-AREA
returns-then-area1-lt-AREA c = elim c.then-area1-lt-AREA.branch [
  | then-area1-lt-AREA-via-then-area1-lt-AREA w ↦ cuts-first _ _ _ _ _ w.if-area1-lt-AREA.true
  | then-area1-lt-AREA-via-else-area1-lt-AREA+then-area2-lt-AREA w ↦ cuts-second _ _ _ _ _ w.if-area1-lt-AREA.false w.if-area2-lt-AREA.true
]

pub cut_in-r-requires : goal.cut_in-r-requires
cut_in-r-requires c = (c.if-area1-lt-AREA.false, c.if-area2-lt-AREA.false, set-limited _ c.limit_numbers-l.ensures, room-of _ c.limit_numbers-l.ensures)

pub returns : goal.returns
returns c =
    cuts-all _ _ _ _ _ c.limit_numbers-l.ensures c.if-area1-lt-AREA.false c.if-area2-lt-AREA.false _ _ c.cut_in-r.ensures c.cut_in-r.auto.code c.cut_in-r.auto.tables c.clear.ensures c.clear-2.ensures
