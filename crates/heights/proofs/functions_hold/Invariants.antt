use Prim.Native.Nat.{◌-◌, ◌≤◌}
use lib.ListN.{length}
use Rattle.heights.proofs.Checking.{Holding}
use Rattle.heights.proofs.functions_hold.Given as goal

abbrev pub invariant-loop : goal.invariant-loop
invariant-loop l = Holding l.bytes l.count l.at (l.count - l.counter) l.p × (131072 ≤ length l.area)
