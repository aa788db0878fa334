use native.Mathlib.Omega.{arith}
use Rattle.write_blocks.proofs.Placing.{ahead-put}
use Rattle.write_stmts.proofs.loops.put_ahead.Goals as goal

pub returns : goal.returns
returns c = ahead-put c.args.target _ c.place-after.ensures (omega arith) (omega arith) c.put_op.ensures
