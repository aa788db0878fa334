use Rattle.parts.proofs.Steps.{fills-step}
use Rattle.parts.proofs.checker.Checker.fills.Goals as goal

pub returns : goal.returns
returns c = fills-step _ _ c.holds.ensures c.note.ensures
