use Rattle.listing.proofs.CodeLaws.{Lining}
use Rattle.listing.proofs.code.write_code.Given as goal

abbrev pub invariant-loop-placed : goal.invariant-loop-placed
invariant-loop-placed l = Lining l.code l.f l.k l.initial.out l.out l.placed-iterator l.put
