use Rattle.definitions.proofs.Growth.{lengthens-one}
use Rattle.lower_emit.proofs.Parts.{emits-stopped}
use Rattle.lower_calls.proofs.Words.{word-ends, word-over}
use Rattle.lower_simple.proofs.emit_value.Goals as goal

pub returns-in_err-next : goal.returns-in_err-next
returns-in_err-next c = emits-stopped c.in_err-next.was c.from_residual.ensures c.requires.0.sound (lengthens-one _) c.emit_expr.ensures

pub returns-in_err-put_op : goal.returns-in_err-put_op
returns-in_err-put_op c = word-over c.in_ok-next.was c.requires.0.sound c.emit_expr.ensures (c.requires.3 _) c.put_op.ensures c.in_err-put_op.was c.from_residual-in_err-put_op.ensures

pub returns : goal.returns
returns c = word-ends c.in_ok-next.was c.requires.0.sound c.emit_expr.ensures (c.requires.3 _) c.put_op.ensures c.in_ok-put_op.was
