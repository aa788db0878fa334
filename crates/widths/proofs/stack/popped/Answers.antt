use mathlib.Core.Path.{◌∙◌}
use Rattle.widths.proofs.StackLaws.{byte-in, pops-in}
use Rattle.widths.proofs.stack.popped.Goals as goal

pub popped_by-requires : goal.popped_by-requires
popped_by-requires c = byte-in c.args.op c.effect.ensures

pub returns : goal.returns
returns c = let p = c.popped_by.ensures in (p.0 ∙ pops-in c.args.op c.effect.ensures c.args.a c.args.b, p.1)
