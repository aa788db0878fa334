use mathlib.Core.Path.{sym, ◌∙◌}
use native.Mathlib.Omega.{arith}
use Rattle.cut.proofs.Stretches.{top-counted, top-head}
use Rattle.cut.proofs.Sifting.{sifted-none, sifted-found, sifted-end, sifted-next, sifted-by}
use Rattle.cut.proofs.failing.first_failing.Goals as goal

pub u16_at-count-requires : goal.u16_at-count-requires
u16_at-count-requires c = top-counted c.requires.1

pub loop-init : goal.loop-init
loop-init c = sifted-none _ c.requires.1

pub passes-requires : goal.passes-requires
passes-requires c = (c.requires.0, top-head c.loop.invariant.top (omega (arith, c.loop-test.true, c.u16_at-count.ensures.0)))

pub returns-then-not-passes : goal.returns-then-not-passes
returns-then-not-passes c = sifted-found c.loop.invariant (omega (arith, c.loop-test.true, c.u16_at-count.ensures.0)) (sym c.passes.ensures ∙ c.if-not-passes.true)

pub skip_stmt-at-requires : goal.skip_stmt-at-requires
skip_stmt-at-requires c = top-head c.loop.invariant.top (omega (arith, c.loop-test.true, c.u16_at-count.ensures.0))

pub loop-preserved : goal.loop-preserved
loop-preserved c =
    sifted-by (omega arith) c.skip_stmt-at.ensures
    (sifted-next c.loop.invariant (omega (arith, c.loop-test.true, c.u16_at-count.ensures.0)) (sym c.passes.ensures ∙ c.if-not-passes.false))

pub returns : goal.returns
returns c = sifted-end c.loop.invariant (omega (arith, c.loop-test.false, c.u16_at-count.ensures.0))
