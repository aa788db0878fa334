use Rattle.sheet.proofs.SheetLaws.{Sheeting}
use Rattle.sheet.proofs.write_sheet.Given as goal

abbrev pub invariant-loop-f : goal.invariant-loop-f
invariant-loop-f l = Sheeting l.bytes l.at l.count l.initial.out l.out l.p l.put l.f l.totals.0 l.totals.1.0 l.totals.1.1.0
