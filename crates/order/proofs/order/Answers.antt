use Rattle.limits.proofs.Kept.{set-limited}
use Rattle.order.proofs.Answering.{sorts-first, sorts-second, sorts-all}
use Rattle.order.proofs.order.Goals as goal
use Rattle.order.proofs.order.Goals.{then-area1-lt-AREA-via-then-area1-lt-AREA, then-area1-lt-AREA-via-else-area1-lt-AREA+then-area2-lt-AREA}

pub returns-then-area1-lt-AREA : goal.returns-then-area1-lt-AREA
returns-then-area1-lt-AREA c = elim c.then-area1-lt-AREA.branch [
  | then-area1-lt-AREA-via-then-area1-lt-AREA w ↦ sorts-first _ _ _ _ _ w.if-area1-lt-AREA.true
  | then-area1-lt-AREA-via-else-area1-lt-AREA+then-area2-lt-AREA w ↦ sorts-second _ _ _ _ _ w.if-area1-lt-AREA.false w.if-area2-lt-AREA.true
]

pub order_in-r-requires : goal.order_in-r-requires
order_in-r-requires c = (c.if-area1-lt-AREA.false, c.if-area2-lt-AREA.false, set-limited _ c.limit_numbers-l.ensures)

pub returns : goal.returns
returns c =
    sorts-all _ _ _ _ _ c.limit_numbers-l.ensures c.if-area1-lt-AREA.false c.if-area2-lt-AREA.false _ _ c.order_in-r.ensures c.order_in-r.auto.code c.order_in-r.auto.tables c.clear.ensures c.clear-2.ensures
