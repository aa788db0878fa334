use Rattle.definitions.proofs.Growth.{lengthens-make_iter}
use Rattle.lower_emit.proofs.Parts.{emits-stopped, emits-words, emits-no-words}
use Rattle.lower_simple.proofs.emit_iterable.Goals as goal

pub returns-in_err-next : goal.returns-in_err-next
returns-in_err-next c = emits-stopped c.in_err-next.was c.from_residual.ensures c.requires.0.sound lengthens-make_iter c.emit_expr.ensures

pub returns-in_err-make_iterator : goal.returns-in_err-make_iterator
returns-in_err-make_iterator c = emits-no-words c.in_ok-next.was c.in_err-make_iterator.was c.from_residual-in_err-make_iterator.ensures c.requires.0.sound c.emit_expr.ensures c.make_iterator.ensures

pub returns : goal.returns
returns c = emits-words c.in_ok-next.was c.in_ok-make_iterator.was c.requires.0.sound c.emit_expr.ensures c.make_iterator.ensures
