use native.Mathlib.Omega.{arith}
use Rattle.definitions.proofs.Growth.{lengthens-one, lengthens-seq}
use Rattle.lower_emit.proofs.Packing.{plain-below}
use Rattle.lower_emit.proofs.Writing.{writes_then, writes-stopped, plain-writes}
use Rattle.lower_leaves.proofs.Copying.{uncopied, copied}
use Rattle.lower_leaves.proofs.elements.put_element.Goals as goal

pub returns-then-i-eq0 : goal.returns-then-i-eq0
returns-then-i-eq0 c = uncopied _ _ c.if-i-eq0.true c.put_index.ensures

pub returns-in_err-put_op : goal.returns-in_err-put_op
returns-in_err-put_op c =
    copied _ _ c.if-i-eq0.false
    (writes-stopped (plain-writes (plain-below 8 0 0 (omega arith) (omega arith) (omega arith) (omega arith)) c.put_op.ensures) c.in_err-put_op.was c.from_residual.ensures (lengthens-seq (lengthens-one _) (lengthens-one _)))

pub returns : goal.returns
returns c = copied _ _ c.if-i-eq0.false (writes_then (plain-writes (plain-below 8 0 0 (omega arith) (omega arith) (omega arith) (omega arith)) c.put_op.ensures) c.in_ok-put_op.was c.put_index-2.ensures)
