use Rattle.std.proofs.Common.{rules}
use Rattle.tree.proofs.Checking.{attributes-stop, attributes-step}
use Rattle.tree.proofs.stmts.check_attributes.Goals as goal

pub returns-in_err-n : goal.returns-in_err-n
returns-in_err-n c = attributes-stop _ (search rules) c.in_err-n.ensures

pub returns : goal.returns
returns c = attributes-step _ c.in_ok-n.ensures c.check_values.ensures
