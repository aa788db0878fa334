use Rattle.follows.proofs.Narrowing.{at_both}
use Rattle.follows.proofs.lower_at_both.Goals as goal

pub returns : goal.returns
returns c = at_both _ _ _ _ _ _ _ _ _ _ _ _ _ c.lower-at_console.ensures c.lower-at_office.ensures c.lower-at_console.auto.area1 c.lower-at_console.auto.area2
