use Rattle.compile.specs.Compiled.{stretch_block}
use Rattle.cut.proofs.Seeking.{over-told}
use Rattle.cut.proofs.shortest.over.Goals as goal

pub returns : goal.returns
returns c = over-told (stretch_block c.args.tree.now c.args.stretch) c.new-e.ensures.limits c.requires.4 c.compile_stretch.ensures c.is_none.ensures
