use Rattle.module.proofs.Rising.{Rising}
use Rattle.module.proofs.heights.height_of.Given as goal

abbrev pub invariant-loop-i : goal.invariant-loop-i
invariant-loop-i l = Rising l.words l.i l.h l.most
