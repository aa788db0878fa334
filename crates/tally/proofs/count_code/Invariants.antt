use Prim.Native.Nat.{◌-◌}
use Rattle.tally.proofs.Counting.{Counting}
use Rattle.tally.proofs.count_code.Given as goal

abbrev pub invariant-loop : goal.invariant-loop
invariant-loop l = Counting l.n l.bytes l.at (l.n - l.counter) l.tallied.at l.tallied.questions l.tallied.calls
