use Rattle.state.specs.Words.{name_at}
use Rattle.state.specs.State.{slot_names}
use Rattle.state.proofs.Answers.{base-below}
use Rattle.definitions.proofs.Growth.{lengthens-store}
use Rattle.lower_emit.specs.Emitting.{counts_of, limits_in, state_in}
use Rattle.lower_emit.proofs.Steps.{lowers-state, lowers_then, lowers-stopped}
use Rattle.lower_loops.specs.Iterators.{keeper_of}
use Rattle.lower_loops.proofs.Calling.{short-next, take-is}
use Rattle.lower_loops.proofs.take_iterator.Goals as goal

pub call_iterator-requires : goal.call_iterator-requires
call_iterator-requires c = (c.requires.0, c.requires.2, short-next)

pub returns-in_err-call_iterator : goal.returns-in_err-call_iterator
returns-in_err-call_iterator c =
    let e = c.args.e.now in
    let t = c.args.s.tree.now in
    lowers-state (lowers-stopped c.in_err-call_iterator.was c.from_residual.ensures c.requires.0 (lengthens-store _ _) c.call_iterator.ensures)
    (take-is e.code.base (slot_names t c.args.s.slots.now) (name_at t c.args.at) (keeper_of c.args.load) (state_in t e)
    (base-below t e.tables.names.made.now e.code.words.now e.tables.entries.words.now (counts_of e) (limits_in e) c.requires.0.sound))

pub returns : goal.returns
returns c =
    let e = c.args.e.now in
    let t = c.args.s.tree.now in
    lowers-state (lowers_then c.in_ok-call_iterator.was c.requires.0 c.call_iterator.ensures c.emit_store.ensures.lowers)
    (take-is e.code.base (slot_names t c.args.s.slots.now) (name_at t c.args.at) (keeper_of c.args.load) (state_in t e)
    (base-below t e.tables.names.made.now e.code.words.now e.tables.entries.words.now (counts_of e) (limits_in e) c.requires.0.sound))
