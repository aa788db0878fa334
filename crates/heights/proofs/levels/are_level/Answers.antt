use mathlib.Core.Path.{refl, sym, ◌∙◌}
use Rattle.heights.proofs.Marked.{below, above, level-on, level-falls, level-end}
use Rattle.heights.proofs.levels.are_level.Goals as goal

pub returns-then-not-is_level : goal.returns-then-not-is_level
returns-then-not-is_level c =
    let a = c.args in sym (c.loop-p.invariant ∙ level-falls a.code.now a.area.now a.number (below c.requires.2 c.loop-p-test.true) c.if-not-is_level.ensures refl)

pub loop-p-preserved : goal.loop-p-preserved
loop-p-preserved c =
    let a = c.args in c.loop-p.invariant ∙ level-on a.code.now a.area.now a.number (below c.requires.2 c.loop-p-test.true) c.if-not-is_level.ensures refl

pub returns : goal.returns
returns c = let a = c.args in sym (c.loop-p.invariant ∙ level-end a.code.now a.area.now a.number (above c.requires.2 c.loop-p-test.false))
