use mathlib.Core.Path.{refl}
use Rattle.rests.specs.Taking.{span}
use Rattle.instep.proofs.Leaves.{spans-less, spans-greater, spans-same}
use Rattle.instep.proofs.Trees.span.Goals as goal

pub returns-in-Less : goal.returns-in-Less
unfolding span
returns-in-Less c = spans-less c.requires.4 c.cmp.ensures c.in-Less.is

pub returns-in-Equal : goal.returns-in-Equal
unfolding span
returns-in-Equal c = spans-same c.requires.4 c.cmp.ensures c.in-Equal.is refl refl

pub returns-in-Greater : goal.returns-in-Greater
unfolding span
returns-in-Greater c = spans-greater c.requires.4 c.cmp.ensures c.in-Greater.is
