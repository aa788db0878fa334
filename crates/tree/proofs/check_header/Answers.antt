use Rattle.tree.proofs.TreeLaws.{head-two, head_three, head-count, head-four, head-version, head-fine}
use Rattle.tree_view.specs.Places.{count_at}
use Rattle.tree.proofs.check_header.Goals as goal

pub returns-then-len-gt-TREE_MOST : goal.returns-then-len-gt-TREE_MOST
unfolding count_at
returns-then-len-gt-TREE_MOST c = head-two _ c.if-len-gt-TREE_MOST.true

pub returns-then-len-lt-COUNT : goal.returns-then-len-lt-COUNT
unfolding count_at
returns-then-len-lt-COUNT c = head_three _ c.if-len-gt-TREE_MOST.false c.if-len-lt-COUNT.true

pub returns-then-high-low : goal.returns-then-high-low
unfolding count_at
returns-then-high-low c = head-count _ _ _ c.if-len-gt-TREE_MOST.false c.if-len-lt-COUNT.false c.u16_at-high.ensures.0 c.u16_at-low.ensures.0 c.if-high-low.true

pub returns-then-len-lt-HEAD : goal.returns-then-len-lt-HEAD
unfolding count_at
returns-then-len-lt-HEAD c = head-four _ _ _ c.if-len-gt-TREE_MOST.false c.if-len-lt-COUNT.false c.u16_at-high.ensures.0 c.u16_at-low.ensures.0 c.if-high-low.false c.if-len-lt-HEAD.true

pub returns-then-tree-ne-TREE_VERSION : goal.returns-then-tree-ne-TREE_VERSION
unfolding count_at
returns-then-tree-ne-TREE_VERSION c = head-version _ _ _ c.if-len-gt-TREE_MOST.false c.if-len-lt-COUNT.false c.u16_at-high.ensures.0 c.u16_at-low.ensures.0 c.if-high-low.false c.if-len-lt-HEAD.false c.if-tree-ne-TREE_VERSION.true

pub returns : goal.returns
unfolding count_at
returns c = head-fine _ _ _ c.if-len-gt-TREE_MOST.false c.if-len-lt-COUNT.false c.u16_at-high.ensures.0 c.u16_at-low.ensures.0 c.if-high-low.false _ c.if-len-lt-HEAD.false c.if-tree-ne-TREE_VERSION.false
