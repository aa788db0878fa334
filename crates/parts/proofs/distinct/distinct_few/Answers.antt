use mathlib.Core.Path.{refl, sym, ◌∙◌}
use Rattle.tree_view.proofs.NameLaws.{there-first, there-next, distinct-stop, distinct-go, distinct_none}
use Rattle.parts.proofs.distinct.distinct_few.Goals as goal

pub loop-after-init : goal.loop-after-init
loop-after-init c = (refl, c.requires)

pub name_end-next-requires : goal.name_end-next-requires
name_end-next-requires c = there-first _ _ _ c.loop-after-test.true c.loop-after.invariant.1

pub occurs-requires : goal.occurs-requires
occurs-requires c = (there-first _ _ _ c.loop-after-test.true c.loop-after.invariant.1, there-next _ _ _ _ c.name_end-next.ensures c.loop-after-test.true c.loop-after.invariant.1)

pub returns-then-occurs : goal.returns-then-occurs
returns-then-occurs c = sym (c.loop-after.invariant.0 ∙ distinct-stop _ _ _ _ _ c.name_end-next.ensures c.loop-after-test.true c.occurs.ensures c.if-occurs.true)

pub loop-after-preserved : goal.loop-after-preserved
loop-after-preserved c = (
  c.loop-after.invariant.0 ∙ distinct-go _ _ _ _ _ c.name_end-next.ensures c.loop-after-test.true c.occurs.ensures c.if-occurs.false,
  there-next _ _ _ _ c.name_end-next.ensures c.loop-after-test.true c.loop-after.invariant.1,
)

pub returns : goal.returns
returns c = sym (c.loop-after.invariant.0 ∙ distinct_none _ _ _ c.loop-after-test.false)
