-- there is room for two bytes
use native.Mathlib.Omega.{arith}
use mathlib.Core.Path.{◌∙◌, ap}
use lib.ListN.{length}
use Rattle.definitions.specs.Bytes.{be}
use Rattle.definitions.proofs.BytesWritten.{length-be}
use Rattle.module.proofs.Lengths.{element}
use Rattle.module.proofs.classes.ConstantsListed.write_at.Goals as goal

pub write_number-requires : goal.write_number-requires
write_number-requires c = omega (arith, ap length (element (be 2) _ _ c.requires.0) ∙ length-be 2 _, c.requires.1)
