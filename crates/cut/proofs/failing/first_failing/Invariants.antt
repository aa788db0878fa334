use Rattle.questions.specs.Numbers.{number}
use Rattle.cut.specs.Tops.{alone}
use Rattle.cut.proofs.Sifting.{Sifted}
use Rattle.cut.proofs.failing.first_failing.Given as goal

abbrev pub invariant-loop : goal.invariant-loop
invariant-loop l = Sifted (alone (number l.question)) l.tree l.counter l.at
