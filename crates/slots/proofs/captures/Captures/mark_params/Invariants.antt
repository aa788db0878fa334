use Prim.Native.Nat.{◌-◌}
use Rattle.slots.proofs.Marking.{NamesLeft}
use Rattle.slots.proofs.captures.Captures.mark_params.Given as goal

abbrev pub invariant-loop : goal.invariant-loop
invariant-loop l = NamesLeft l.initial.self l.count l.initial.p (l.count - l.counter) l.p l.self
