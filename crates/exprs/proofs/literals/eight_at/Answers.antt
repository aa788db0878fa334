use Rattle.exprs.proofs.LiteralLaws.{eight_is}
use Rattle.exprs.proofs.literals.eight_at.Goals as goal

pub returns : goal.returns
returns c = eight_is _ _ _ _ c.requires c.copy_from_slice.ensures.after c.from_be_bytes.ensures
