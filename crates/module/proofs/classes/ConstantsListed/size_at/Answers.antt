-- a number of two bytes
use mathlib.Core.Path.{◌∙◌, sym, ap}
use lib.ListN.{length}
use Rattle.definitions.specs.Bytes.{be}
use Rattle.definitions.proofs.BytesWritten.{length-be}
use Rattle.module.proofs.Lengths.{element}
use Rattle.module.proofs.classes.ConstantsListed.size_at.Goals as goal

pub returns : goal.returns
returns c = sym (ap length (element (be 2) _ _ c.requires) ∙ length-be 2 _)
