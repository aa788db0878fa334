use Prim.Native.Nat.{◌-◌}
use Rattle.instep.proofs.Ways.{Counting}
use Rattle.instep.proofs.spans.kept.Given as goal

abbrev pub invariant-loop : goal.invariant-loop
invariant-loop l = Counting l.depth l.tree l.count l.initial.p (l.count - l.counter) l.p l.sum
