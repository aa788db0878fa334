use Prim.Native.Nat.{◌+◌, ◌≤◌}
use mathlib.Core.Path.{◌≡◌}
use lib.ListN.{length, drop}
use lib.Seq.{sets}
use Rattle.run.proofs.course.copy.Given as goal

abbrev pub invariant-loop-i : goal.invariant-loop-i
invariant-loop-i l =
    (l.i ≤ length l.bytes) × (length l.events ≡ length l.initial.events) × (sets l.initial.events l.at l.bytes ≡ sets l.events (l.at + l.i) (drop l.i l.bytes))
