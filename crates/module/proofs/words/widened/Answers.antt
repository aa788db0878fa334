-- the number that the casts pass on is the one before
use Rattle.std.proofs.Common.{rules}
use mathlib.Core.Path.{ap, ◌∙◌}
use mir.Syntax.{w16, w32}
use mir.Val.{of_z, to_z}
use Rattle.std.proofs.lemmas.Int.{of_z-to_z, to_z-of_z}
use Rattle.module.proofs.Encoding.{widened-is}
use Rattle.module.proofs.words.widened.Goals as goal

pub returns : goal.returns
returns c =
    let y = c.from.ensures ∙ ap (to_z w16) (ap (of_z w16) c.cast_signed.ensures ∙ of_z-to_z w16 c.args.a c.requires) in
    c.cast_unsigned.ensures ∙ ap (of_z w32) (to_z-of_z w32 c.from.result (search rules) ∙ y) ∙ widened-is c.args.a c.requires
