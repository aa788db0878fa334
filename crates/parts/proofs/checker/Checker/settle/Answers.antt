use Rattle.parts.proofs.Steps.{settle-over, settle-rules}
use Rattle.parts.proofs.checker.Checker.settle.Goals as goal

pub returns-then-self : goal.returns-then-self
returns-then-self c = settle-over _ c.if-self.true

pub returns : goal.returns
returns c = settle-rules _ _ c.if-self.false c.verdict.ensures
