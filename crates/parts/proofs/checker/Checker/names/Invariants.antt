use Rattle.std.proofs.Common.{◌-◌}
use Rattle.tree_view.specs.Judge.{judge_names}
use Rattle.parts.proofs.Steps.{Along}
use Rattle.parts.proofs.checker.Checker.names.Given as goal

abbrev pub invariant-loop : goal.invariant-loop
invariant-loop l = Along (λ n t p w. judge_names t n p w) l.n (l.n - l.counter) l.initial.self l.self
