use Rattle.std.proofs.Common.{rules}
use Rattle.tree_view.specs.Judge.{judge_assign}
use Rattle.parts.proofs.Steps.{step, stop}
use Rattle.tree.proofs.stmts.check_assign.Goals as goal

pub returns-in_err-check_target : goal.returns-in_err-check_target
unfolding judge_assign
returns-in_err-check_target c = stop _ (search rules) c.in_err-check_target.ensures

pub returns : goal.returns
unfolding judge_assign
returns c = step c.in_ok-check_target.ensures c.check_assigned.ensures
