use Rattle.std.proofs.Common.{rules, arith}
use Rattle.parts.proofs.Steps.{along-start, along-next, along-stop, along-end}
use Rattle.tree.proofs.Checking.{values-turns, values-end}
use Rattle.tree.proofs.stmts.check_values.Goals as goal

pub loop-init : goal.loop-init
loop-init c = along-start _ _ _ _ (omega arith)

pub returns-in_err-check_value : goal.returns-in_err-check_value
returns-in_err-check_value c = along-stop (values-turns _) (search rules) c.loop.invariant c.in_err-check_value.ensures (omega arith)

pub loop-preserved : goal.loop-preserved
loop-preserved c = along-next (values-turns _) c.loop.invariant c.in_ok-check_value.ensures (omega arith)

pub returns : goal.returns
returns c = along-end c.loop.invariant (values-end _ _ _ (omega arith))
