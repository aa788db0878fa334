use mathlib.Core.Path.{◌≡◌}
use Rattle.reach.proofs.Tracks.{Written}
use Rattle.reach.proofs.trace.write_way.Given as goal

abbrev pub invariant-loop-answer : goal.invariant-loop-answer
invariant-loop-answer l = (l.answer-iterator.area.now ≡ l.area) × Written l.area l.place l.end l.answer-iterator.place l.at l.initial.out l.out
