use native.Mathlib.Omega.{arith}
use Prim.Native.Nat.{◌≤◌}
use Rattle.widths.proofs.StackLaws.{in-one-past}
use Rattle.widths.proofs.stack.effect.Goals as goal

pub returns-in_default : goal.returns-in_default
returns-in_default c = let past : 46 ≤ c.args.op = omega (arith, c.in_default) in in-one-past c.args.op past
