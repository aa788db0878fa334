-- How the lines from here on are read, all of them are.
use denote.Param.Always.{always_mut}
use Rattle.vectors.specs.Lines.{Cases}
use Rattle.vectors.proofs.Lines.each_case.Given as goal

abbrev pub invariant-loop : goal.invariant-loop
invariant-loop g l =
    (always_mut g.F.FnMut l.initial.read → always_mut g.F.FnMut l.read)
    × ((r : _) (z : _) → Cases (λ lines. lines.last) g.F.FnMut 18446744073709551615 l.counter l.read l.self r z → Cases (λ lines. lines.last) g.F.FnMut 18446744073709551615 0 l.initial.read l.initial.self r z)
