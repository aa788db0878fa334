use Rattle.reach.proofs.Asking.{call-short, call_long}
use Rattle.reach.proofs.reach.Goals as goal

pub returns-then-area-lt-AREA : goal.returns-then-area-lt-AREA
returns-then-area-lt-AREA c = call-short _ _ _ c.args.area.now c.args.out.now c.if-area-lt-AREA.true

pub returns : goal.returns
returns c = call_long _ _ _ c.args.area.now c.args.out.now c.if-area-lt-AREA.false c.reach_in-reached.new.area c.reach_in-reached.auto.area c.clear.ensures c.reach_in-reached.ensures
