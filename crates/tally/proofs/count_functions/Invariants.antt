use Prim.Native.Nat.{◌-◌}
use Rattle.tally.proofs.Counting.{Summing}
use Rattle.tally.proofs.count_functions.Given as goal

abbrev pub invariant-loop : goal.invariant-loop
invariant-loop l = Summing l.count l.bytes l.at (l.count - l.counter) l.p l.total
