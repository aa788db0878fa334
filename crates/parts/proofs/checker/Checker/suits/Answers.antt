use Rattle.parts.proofs.Steps.{suits-step}
use Rattle.parts.proofs.checker.Checker.suits.Goals as goal

pub returns : goal.returns
returns c = suits-step _ _ c.fits.ensures c.note.ensures
