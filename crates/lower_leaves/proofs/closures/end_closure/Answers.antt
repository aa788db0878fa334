use native.Mathlib.Omega.{arith}
use Rattle.definitions.proofs.Growth.{lengthens-one}
use Rattle.lower_emit.proofs.Packing.{plain-above}
use Rattle.lower_emit.proofs.Writing.{writes_then, writes-stopped, plain-writes}
use Rattle.lower_leaves.proofs.closures.end_closure.Goals as goal

pub returns-in_err-load_captured : goal.returns-in_err-load_captured
returns-in_err-load_captured c = writes-stopped c.load_captured.ensures c.in_err-load_captured.was c.from_residual.ensures (lengthens-one _)

pub returns : goal.returns
returns c =
    writes_then c.load_captured.ensures c.in_ok-load_captured.was
    (plain-writes (plain-above 45 _ _ (omega arith) (omega arith) c.requires.2 (omega (arith, c.requires.1))) c.put_op.ensures)
