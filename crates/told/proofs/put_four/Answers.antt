use native.Mathlib.Omega.{arith}
use lib.ListN.{length-set}
use Rattle.told.proofs.Four.{four-none, four-all}
use Rattle.told.proofs.put_four.Goals as goal

pub returns-then-numbers-lt4 : goal.returns-then-numbers-lt4
returns-then-numbers-lt4 c = four-none _ _ _ _ _ c.if-numbers-lt4.true

pub bounds-numbers-1 : goal.bounds-numbers-1
bounds-numbers-1 c = simp length-set (omega arith)

pub bounds-numbers-2 : goal.bounds-numbers-2
bounds-numbers-2 c = simp length-set (omega arith)

pub returns : goal.returns
returns c = four-all _ _ _ _ _ c.if-numbers-lt4.false
