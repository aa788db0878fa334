use Rattle.std.proofs.Common.{◌-◌}
use Rattle.parts.proofs.Steps.{Along}
use Rattle.tree.proofs.Checking.{values}
use Rattle.tree.proofs.stmts.check_values.Given as goal

abbrev pub invariant-loop : goal.invariant-loop
invariant-loop l = Along (values l.depth) l.n (l.n - l.counter) l.initial.c l.c
