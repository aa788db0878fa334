use Rattle.listing.proofs.Fields.{second-blank, second_digits}
use Rattle.listing.proofs.lines.second_shown.Goals as goal

pub returns-then-second_width-eq0 : goal.returns-then-second_width-eq0
returns-then-second_width-eq0 c = let a = c.args in second-blank a.op a.b _ c.second_width.ensures.0 c.if-second_width-eq0.true

pub returns : goal.returns
returns c = let a = c.args in second_digits a.op a.b _ c.second_width.ensures.0 c.if-second_width-eq0.false
