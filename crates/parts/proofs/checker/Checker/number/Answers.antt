use Rattle.std.proofs.Common.{rules}
use Rattle.parts.proofs.Steps.{counts-stop, counts-step}
use Rattle.parts.proofs.checker.Checker.number.Goals as goal

pub returns-in_err-take : goal.returns-in_err-take
returns-in_err-take c = counts-stop (search rules) c.in_err-take.ensures

pub returns : goal.returns
returns c = counts-step c.in_ok-take.ensures.0 c.u16_at.ensures.0
