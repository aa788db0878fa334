use Rattle.widths.proofs.StackLaws.{byte-in, height-in, onward-in}
use Rattle.widths.proofs.stack.height_onward.Goals as goal

pub left_by-requires : goal.left_by-requires
left_by-requires c = (byte-in c.args.op c.effect-effect.ensures, c.requires)

pub returns : goal.returns
returns c = record {
  left = height-in c.args.op c.effect-effect.ensures c.args.a c.args.b c.args.h c.left_by.ensures;
  onward = onward-in c.args.op c.effect-effect.ensures;
}
