use mathlib.Core.Path.{◌∙◌}
use mathlib.Core.Logic.{inl, inr}
use native.Mathlib.Omega.{arith}
use Rattle.definitions.proofs.CutLeast.{nothing-over}
use Rattle.cut.proofs.Stretches.{stretch-in}
use Rattle.cut.proofs.Seeking.{over-slots, over-is, best-shorter, best-kept}
use Rattle.cut.proofs.shortest.shorten.Goals as goal

pub loop-few-init : goal.loop-few-init
loop-few-init c = (c.requires.6, nothing-over _ _ c.requires.3.room _, omega arith, omega arith)

pub over-requires : goal.over-requires
over-requires c = (
  omega (arith, c.loop-few.auto.code, c.requires.0),
  omega (arith, c.loop-few.auto.tables, c.requires.1),
  c.requires.2,
  stretch-in c.requires.3.tree c.requires.5 _ (omega (arith, c.next_count.ensures.2, c.requires.4)),
  over-slots c.requires.3 c.requires.5 _ (omega (arith, c.next_count.ensures.2, c.requires.4)),
)

pub loop-few-preserved-then-over : goal.loop-few-preserved-then-over
loop-few-preserved-then-over c = (
  best-shorter c.requires.3 c.loop-few.invariant.0 c.requires.5 c.next_count.ensures.1
      (over-is c.requires.3 c.requires.5 _ (omega (arith, c.next_count.ensures.2, c.requires.4)) c.over.ensures ∙ c.if-over.true),
  c.loop-few.invariant.1,
  c.loop-few.invariant.2,
  omega (arith, c.next_count.ensures.1, c.loop-few.invariant.3),
)

pub loop-few-preserved : goal.loop-few-preserved
loop-few-preserved c = (
  c.loop-few.invariant.0,
  over-is c.requires.3 c.requires.5 _ (omega (arith, c.next_count.ensures.2, c.requires.4)) c.over.ensures ∙ c.if-over.false,
  c.next_count.ensures.2,
  c.loop-few.invariant.3,
)

pub returns-else-few-best : goal.returns-else-few-best
returns-else-few-best c = best-kept c.requires.3 c.loop-few.invariant.0 _ (inl (omega (arith, c.if-few-best.false))) c.loop-few.invariant.1

pub returns-after-loop-few : goal.returns-after-loop-few
returns-after-loop-few c =
    best-kept c.requires.3 c.loop-few.invariant.0 _ (inr (omega (arith, c.loop-few-test.false, c.loop-few.invariant.2, c.requires.4))) c.loop-few.invariant.1
