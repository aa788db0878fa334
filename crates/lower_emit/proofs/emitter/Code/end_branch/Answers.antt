use native.Mathlib.Omega.{arith}
use Rattle.lower_emit.proofs.Packing.{instr-jump}
use Rattle.lower_emit.proofs.Writing.{word-writes}
use Rattle.lower_emit.proofs.Ends.{branch-full, branch-done}
use Rattle.lower_emit.proofs.emitter.Code.end_branch.Goals as goal

pub returns-in_err-put_op : goal.returns-in_err-put_op
returns-in_err-put_op c = branch-full c.args.from (word-writes (λ t. instr-jump t 28 0 (omega arith) (omega arith) (omega arith)) c.put_op.ensures) c.in_err-put_op.was c.from_residual.ensures

pub returns : goal.returns
returns c = branch-done c.args.from (word-writes (λ t. instr-jump t 28 0 (omega arith) (omega arith) (omega arith)) c.put_op.ensures) c.in_ok-put_op.was c.requires.0 c.requires.1 c.set_jump.ensures
