use Rattle.tree.proofs.Checking.{target-variable, target-other, moved}
use Rattle.tree.proofs.stmts.check_target.Goals as goal
use Rattle.tree.proofs.stmts.check_target.Goals.{then-depth-ne0+else-skip_byte, else-depth-ne0}

pub returns-then-skip_byte : goal.returns-then-skip_byte
returns-then-skip_byte c = target-variable _ c.if-depth-ne0.true c.if-skip_byte.true c.skip_byte.ensures c.name.ensures

pub returns : goal.returns
returns c = elim c.if-depth-ne0.branch [
  | then-depth-ne0+else-skip_byte w ↦ target-other w.if-skip_byte.false w.skip_byte.ensures (moved w.c-is c.check_expr.ensures)
  | else-depth-ne0 w ↦ moved w.c-is c.check_expr.ensures
]
