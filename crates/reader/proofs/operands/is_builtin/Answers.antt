use native.Mathlib.Omega.{arith}
use Rattle.reader.proofs.Tested.{builtin-low, builtin-high, builtin-gap, builtin-past}
use Rattle.reader.proofs.operands.is_builtin.Goals as goal

pub returns-in-0-to-7 : goal.returns-in-0-to-7
returns-in-0-to-7 c = builtin-low c.args.n (omega arith)

pub returns-in-0-to-7-2 : goal.returns-in-0-to-7-2
returns-in-0-to-7-2 c = builtin-high c.args.n (omega arith) (omega arith)

pub returns-in_default : goal.returns-in_default
returns-in_default c = builtin-gap c.args.n (omega arith) (omega arith)

pub returns-in_default-2 : goal.returns-in_default-2
returns-in_default-2 c = builtin-past c.args.n (omega arith)
