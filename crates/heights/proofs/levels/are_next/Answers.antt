use borrow.Author.Tests.{eq-eqb, ne_eqb}
use Rattle.run.proofs.Flows.{on-true, on-false}
use Rattle.heights.proofs.Marked.{next-return, next-straight, next-jump, next-asks, next-not}
use Rattle.heights.proofs.levels.are_next.Goals as goal

pub returns-then-op-eq-RETURN : goal.returns-then-op-eq-RETURN
returns-then-op-eq-RETURN c = next-return _ _ _ _ _ c.if-op-eq-RETURN.true

pub returns-then-goes_on : goal.returns-then-goes_on
returns-then-goes_on c = next-straight _ _ _ _ _ (on-true _ _ c.goes_on.ensures c.if-goes_on.true) c.mark_at.ensures.0

pub returns-then-op-eq-JUMP : goal.returns-then-op-eq-JUMP
returns-then-op-eq-JUMP c = next-jump _ _ _ _ _ c.jump_target-to.ensures c.if-op-eq-JUMP.true c.mark_at-then-op-eq-JUMP.ensures.0

pub returns-then-mark_at-mark : goal.returns-then-mark_at-mark
returns-then-mark_at-mark c =
    next-not _ _ _ _ _ c.jump_target-to.ensures (on-false _ _ c.goes_on.ensures c.if-goes_on.false) c.if-op-eq-RETURN.false c.if-op-eq-JUMP.false c.mark_at-2.ensures.0 (ne_eqb _ _ c.if-mark_at-mark.true)

pub returns : goal.returns
returns c =
    next-asks _ _ _ _ _ c.jump_target-to.ensures (on-false _ _ c.goes_on.ensures c.if-goes_on.false) c.if-op-eq-RETURN.false c.if-op-eq-JUMP.false c.mark_at-2.ensures.0 c.mark_at-3.ensures.0
    (eq-eqb _ _ c.if-mark_at-mark.false)
