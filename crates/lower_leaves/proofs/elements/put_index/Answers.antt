use native.Mathlib.Omega.{arith}
use Rattle.definitions.proofs.Growth.{lengthens-one}
use Rattle.lower_emit.proofs.Packing.{plain-above}
use Rattle.lower_emit.proofs.Writing.{writes_then, writes-stopped, small-writes, plain-writes}
use Rattle.lower_leaves.proofs.elements.put_index.Goals as goal

pub returns-in_err-put_op : goal.returns-in_err-put_op
returns-in_err-put_op c = writes-stopped (small-writes c.requires c.put_op.ensures) c.in_err-put_op.was c.from_residual.ensures (lengthens-one _)

pub returns : goal.returns
returns c = writes_then (small-writes c.requires c.put_op.ensures) c.in_ok-put_op.was (plain-writes (plain-above 43 0 0 (omega arith) (omega arith) (omega arith) (omega arith)) c.put_op-2.ensures)
