use mathlib.Core.Path.{◌∙◌}
use Rattle.slots.proofs.Reindexing.{index-start, index-next, index-done}
use Rattle.slots.proofs.index.index_places.Goals as goal

pub loop-j-init : goal.loop-j-init
loop-j-init c = index-start _ _ _

pub loop-j-preserved : goal.loop-j-preserved
loop-j-preserved c = index-next _ _ _ _ c.loop-j.invariant c.loop-j-test.true _ (c.loop-j.auto.index ∙ c.requires.0) c.bucket_at-b.ensures

pub returns : goal.returns
returns c = index-done _ _ _ _ c.loop-j.invariant c.loop-j-test.false
