use Rattle.lower_emit.proofs.Writing.{plain-writes}
use Rattle.lower_loops.proofs.Storing.{kept_full, kept-done}
use Rattle.lower_loops.proofs.store_kept.Goals as goal

pub returns-in_err-put_op : goal.returns-in_err-put_op
returns-in_err-put_op c = kept_full (plain-writes c.requires.0 c.put_op.ensures) _ c.in_err-put_op.was c.from_residual.ensures

pub returns : goal.returns
returns c = kept-done (plain-writes c.requires.0 c.put_op.ensures) c.in_ok-put_op.was c.packed.ensures
