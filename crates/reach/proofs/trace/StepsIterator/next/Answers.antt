use native.Mathlib.Omega.{arith}
use mathlib.Core.Path.{refl}
use Rattle.reach.proofs.Tracks.{place_in, mark-in, some, on-back, one_less}
use Rattle.reach.proofs.trace.StepsIterator.next.Goals as goal

pub overflow_add-mark : goal.overflow_add-mark
overflow_add-mark c = let i = place_in c.requires in let f = c.requires.few in omega arith

pub offset_bounds-self-self : goal.offset_bounds-self-self
offset_bounds-self-self c = let i = place_in c.requires in let f = c.requires.few in omega arith

pub bounds-self-self : goal.bounds-self-self
bounds-self-self c = mark-in c.requires

pub before_of-self-requires : goal.before_of-self-requires
before_of-self-requires c = some c.requires refl c.if-mark-eq-ROOT.false

pub answer_of-requires : goal.answer_of-requires
answer_of-requires c = some c.requires refl c.if-mark-eq-ROOT.false

pub returns-clause-goes : goal.returns-clause-goes
returns-clause-goes c =
    let b = on-back c.requires refl c.if-mark-eq-ROOT.false c.before_of-self.ensures in
    let e = one_less c.requires refl c.if-mark-eq-ROOT.false c.before_of-self.ensures in
    record { on = λ u. (b, tt, omega arith); keeps = b; rests = λ u. tt }
