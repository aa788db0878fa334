use Rattle.listing.proofs.CodeLaws.{Listing}
use Rattle.listing.proofs.code.write_functions.Given as goal

abbrev pub invariant-loop-f : goal.invariant-loop-f
invariant-loop-f l = Listing l.bytes l.at l.count l.initial.out l.out l.p l.put l.f l.k
