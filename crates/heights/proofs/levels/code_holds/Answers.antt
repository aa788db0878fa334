use Rattle.heights.proofs.Marked.{holds-is}
use Rattle.heights.proofs.levels.code_holds.Goals as goal

pub returns : goal.returns
returns c = holds-is _ c.requires.0 c.requires.1 c.climb.new.area c.climb.ensures c.args.number c.are_level.ensures
