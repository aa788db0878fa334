use Rattle.std.proofs.Common.{rules}
use Rattle.tree_view.specs.Judge.{judge_attribute_value}
use Rattle.parts.proofs.Steps.{step, stop}
use Rattle.tree.proofs.stmts.check_value.Goals as goal

pub returns-in_err-name : goal.returns-in_err-name
unfolding judge_attribute_value
returns-in_err-name c = stop _ (search rules) c.in_err-name.ensures

pub returns : goal.returns
unfolding judge_attribute_value
returns c = step c.in_ok-name.ensures c.check_assigned.ensures
