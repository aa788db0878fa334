use Rattle.lower_emit.proofs.Steps.{lowers-by}
use Rattle.lower_loops.specs.Iterators.{keeper_of}
use Rattle.lower_loops.proofs.Calling.{short-has-next, ask-is}
use Rattle.lower_loops.proofs.ask_more.Goals as goal

pub call_iterator-requires : goal.call_iterator-requires
call_iterator-requires c = (c.requires.0, c.requires.1, short-has-next)

pub returns : goal.returns
returns c = lowers-by c.call_iterator.ensures (ask-is (keeper_of c.args.load))
