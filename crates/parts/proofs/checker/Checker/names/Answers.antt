use Rattle.std.proofs.Common.{rules, arith}
use Rattle.parts.proofs.Steps.{along-start, along-next, along-stop, along-end, names-turns, names-end}
use Rattle.parts.proofs.checker.Checker.names.Goals as goal

pub loop-init : goal.loop-init
loop-init c = along-start _ _ _ _ (omega arith)

pub returns-in_err-name : goal.returns-in_err-name
returns-in_err-name c = along-stop names-turns (search rules) c.loop.invariant c.in_err-name.ensures (omega arith)

pub loop-preserved : goal.loop-preserved
loop-preserved c = along-next names-turns c.loop.invariant c.in_ok-name.ensures (omega arith)

pub returns : goal.returns
returns c = along-end c.loop.invariant (names-end _ _ (omega arith))
