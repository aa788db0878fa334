use Rattle.heights.proofs.Checking.{call-short, call_long}
use Rattle.heights.proofs.check_heights.Goals as goal

pub returns-then-area-lt-AREA : goal.returns-then-area-lt-AREA
returns-then-area-lt-AREA c = call-short _ c.args.area.now c.if-area-lt-AREA.true

pub returns : goal.returns
returns c = call_long _ c.args.area.now c.if-area-lt-AREA.false c.check_functions-checked.new.area c.check_functions-checked.auto.area c.clear.ensures c.check_functions-checked.ensures
