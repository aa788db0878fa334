use Rattle.widths.proofs.StackLaws.{byte-in, height-in}
use Rattle.widths.proofs.stack.height_after.Goals as goal

pub left_by-requires : goal.left_by-requires
left_by-requires c = (byte-in c.args.op c.effect.ensures, c.requires)

pub returns : goal.returns
returns c = height-in c.args.op c.effect.ensures c.args.a c.args.b c.args.h c.left_by.ensures
