use Rattle.instep.proofs.Stepping.{ranked-less, ranked-equal, ranked-greater}
use Rattle.instep.proofs.spans.same_number.Goals as goal

pub returns-in-Less : goal.returns-in-Less
returns-in-Less c = ranked-less _ _ c.cmp.ensures c.in-Less.is

pub returns-in-Equal : goal.returns-in-Equal
returns-in-Equal c = ranked-equal _ _ c.cmp.ensures c.in-Equal.is

pub returns-in-Greater : goal.returns-in-Greater
returns-in-Greater c = ranked-greater _ _ c.cmp.ensures c.in-Greater.is
