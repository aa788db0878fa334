use native.Mathlib.Omega.{arith}
use Rattle.cut.proofs.Stretches.{top-counted, top-head, top-next}
use Rattle.cut.proofs.Seeking.{seeks-by, best-least, best-by, top-by}
use Rattle.cut.proofs.shortest.shortest.Goals as goal

pub u16_at-count-requires : goal.u16_at-count-requires
u16_at-count-requires c = top-counted c.requires.3.tree.block

pub loop-i-init : goal.loop-i-init
loop-i-init c = c.first_over-first.ensures

pub shorten-best-requires : goal.shorten-best-requires
shorten-best-requires c =
    let n = c.u16_at-count.ensures.0 in (
      omega (arith, c.loop-i.auto.code, c.requires.0),
      omega (arith, c.loop-i.auto.tables, c.requires.1),
      c.requires.2,
      c.requires.3,
      omega (arith, n),
      top-by (omega (arith, n, c.loop-i-test.true)) c.loop-i.invariant.top,
      best-by (omega (arith, n, c.loop-i-test.true)) c.loop-i.invariant.best,
    )

pub skip_stmt-at-requires : goal.skip_stmt-at-requires
skip_stmt-at-requires c = top-head c.loop-i.invariant.top (omega (arith, c.u16_at-count.ensures.0, c.loop-i-test.true))

pub loop-i-preserved : goal.loop-i-preserved
loop-i-preserved c =
    let n = c.u16_at-count.ensures.0 in
    let h = c.loop-i-test.true in
    seeks-by (omega arith) (omega (arith, n, h)) c.skip_stmt-at.ensures (top-next c.loop-i.invariant.top (omega (arith, n, h))) c.shorten-best.ensures

pub returns : goal.returns
returns c = best-least c.requires.3 c.loop-i.invariant.best (omega (arith, c.u16_at-count.ensures.0, c.loop-i-test.false))
