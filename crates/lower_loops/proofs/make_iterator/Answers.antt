use Rattle.lower_emit.proofs.Steps.{lowers-by}
use Rattle.lower_loops.proofs.Calling.{short-iter, plain-method, make-is}
use Rattle.lower_loops.proofs.make_iterator.Goals as goal

pub emit_made-requires : goal.emit_made-requires
emit_made-requires c = (c.requires, short-iter, plain-method)

pub returns : goal.returns
returns c = lowers-by c.emit_made.ensures make-is
