use Rattle.cut.proofs.Stretches.{stretch-in}
use Rattle.cut.proofs.Seeking.{over-slots}
use Rattle.cut.proofs.begin.fewer.Goals as goal

pub over-requires : goal.over-requires
over-requires c = let L = c.requires.3 in let T = c.requires.5 in (c.requires.0, c.requires.1, c.requires.2, stretch-in L.tree T.top _ T.within, over-slots L T.top _ T.within)
