use Rattle.std.proofs.Common.{◌-◌}
use Rattle.cut.proofs.Writing.{Left}
use Rattle.cut.proofs.write.stretch_end.Given as goal

abbrev pub invariant-loop : goal.invariant-loop
invariant-loop l = Left l.tree l.end l.initial.at (l.end - l.counter) l.at
