use Prim.Native.Nat.{◌+◌, ◌-◌}
use mathlib.Core.Path.{refl}
use native.Mathlib.Omega.{arith}
use Rattle.write_blocks.proofs.Placing.{back-put}
use Rattle.write_stmts.proofs.loops.put_back.Goals as goal

pub returns : goal.returns
returns c = back-put c.args.target _ c.place-after.ensures {n = c.place-after.result + 1 - c.args.target} refl (omega arith) (omega arith) c.put_op.ensures
