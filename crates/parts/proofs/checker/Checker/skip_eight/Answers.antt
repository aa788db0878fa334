use Rattle.std.proofs.Common.{rules}
use Rattle.parts.proofs.Steps.{eight-stop, eight-step}
use Rattle.parts.proofs.checker.Checker.skip_eight.Goals as goal

pub returns-in_err-take : goal.returns-in_err-take
returns-in_err-take c = eight-stop (search rules) c.in_err-take.ensures

pub returns : goal.returns
returns c = eight-step c.in_ok-take.ensures.0
