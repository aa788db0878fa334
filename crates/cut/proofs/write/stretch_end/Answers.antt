use native.Mathlib.Omega.{arith}
use Rattle.cut.proofs.Writing.{left-all, left-head, left-next, left-none}
use Rattle.cut.proofs.write.stretch_end.Goals as goal

pub loop-init : goal.loop-init
loop-init c = left-all _ (omega arith) c.requires

pub skip_stmt-at-requires : goal.skip_stmt-at-requires
skip_stmt-at-requires c = left-head c.loop.invariant (omega (arith, c.loop-test.true))

pub loop-preserved : goal.loop-preserved
loop-preserved c = left-next c.loop.invariant _ (omega (arith, c.loop-test.true)) c.skip_stmt-at.ensures

pub returns : goal.returns
returns c = left-none c.loop.invariant (omega (arith, c.loop-test.false))
