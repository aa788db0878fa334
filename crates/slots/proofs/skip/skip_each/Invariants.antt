use Rattle.slots.specs.Steps.{Leads}
use Rattle.slots.proofs.skip.skip_each.Given as goal

abbrev pub invariant-loop : goal.invariant-loop
invariant-loop g l = Leads (λ a b. goal.F-post g l.each a b) l.counter l.at l.p
