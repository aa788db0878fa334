use Rattle.tree.proofs.Checking.{value-constant}
use Rattle.tree.proofs.stmts.check_assigned.Goals as goal

pub returns-then-skip_below-eq1 : goal.returns-then-skip_below-eq1
returns-then-skip_below-eq1 c = value-constant _ _ c.if-depth-ne0.true c.if-skip_below-eq1.true c.skip_below.ensures
