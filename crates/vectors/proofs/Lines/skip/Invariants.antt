-- Where the reading stands at an end, the first turn returns it.
use Rattle.std.proofs.Common.{◌≡◌, true}
use Rattle.vectors.specs.Lines.{is_end}
use Rattle.vectors.proofs.Lines.skip.Given as goal

abbrev pub invariant-loop : goal.invariant-loop
invariant-loop g l = is_end l.at_tab l.initial.self.last ≡ true → (l.counter ≡ 0) × (l.self ≡ l.initial.self)
