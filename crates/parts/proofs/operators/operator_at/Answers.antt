use Rattle.tree_view.proofs.LeafLaws.{operator-end, operator-in}
use Rattle.parts.proofs.operators.operator_at.Goals as goal

pub returns-then-tree-at : goal.returns-then-tree-at
returns-then-tree-at c = operator-end _ _ _ c.if-tree-at.true

pub returns : goal.returns
returns c = operator-in _ _ _ c.if-tree-at.false
