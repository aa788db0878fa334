use Rattle.cut.proofs.Stretches.{top-counted}
use Rattle.cut.proofs.Seeking.{tops-all}
use Rattle.cut.proofs.begin.likely_count.Goals as goal

pub u16_at-count-requires : goal.u16_at-count-requires
u16_at-count-requires c = top-counted c.requires.3.tree.block

pub loop-step-init : goal.loop-step-init
loop-step-init c = tops-all c.requires.3 c.u16_at-count.ensures.0
