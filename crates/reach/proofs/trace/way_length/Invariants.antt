use mathlib.Core.Path.{◌≡◌}
use Rattle.reach.proofs.Tracks.{Counting}
use Rattle.reach.proofs.trace.way_length.Given as goal

abbrev pub invariant-loop-answer : goal.invariant-loop-answer
invariant-loop-answer l = (l.answer-iterator.area.now ≡ l.area) × Counting l.area l.place l.answer-iterator.place l.count
