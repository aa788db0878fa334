use mathlib.Core.Path.{refl}
use native.Mathlib.Omega.{arith}
use Rattle.run.proofs.Flows.{on-true, on-false}
use Rattle.search.proofs.Expanding.{place-small, in_table, begins-in, found, meetable, again, at_return, straight-goes, at-straight, operand_in, turning, jump_goes, at-jump, no-goes, yes-goes, at-question}
use Rattle.search.proofs.Table.expand.Goals as goal

pub offset_bounds-places-p : goal.offset_bounds-places-p
offset_bounds-places-p c = let p = place-small c.requires in omega arith

pub bounds-places-p : goal.bounds-places-p
bounds-places-p c = in_table c.requires

pub bounds-code-at : goal.bounds-code-at
bounds-code-at c = begins-in c.requires _ refl

pub returns-then-op-eq-RETURN-clause-expands : goal.returns-then-op-eq-RETURN-clause-expands
returns-then-op-eq-RETURN-clause-expands c = at_return (found c.requires _ refl) c.if-op-eq-RETURN.true

pub overflow_add-p : goal.overflow_add-p
overflow_add-p c = let p = place-small c.requires in omega arith

pub meet-requires : goal.meet-requires
meet-requires c = meetable c.requires (straight-goes (found c.requires _ refl) (on-true _ _ c.goes_on.ensures c.if-goes_on.true))

pub returns-then-goes_on-clause-expands : goal.returns-then-goes_on-clause-expands
returns-then-goes_on-clause-expands c = at-straight (found c.requires _ refl) (on-true _ _ c.goes_on.ensures c.if-goes_on.true) c.meet.ensures.meets

pub overflow_add-at : goal.overflow_add-at
overflow_add-at c = let o = operand_in (found c.requires _ refl) (on-false _ _ c.goes_on.ensures c.if-goes_on.false) c.if-op-eq-RETURN.false in omega arith

pub number_at-a-requires : goal.number_at-a-requires
number_at-a-requires c = let o = operand_in (found c.requires _ refl) (on-false _ _ c.goes_on.ensures c.if-goes_on.false) c.if-op-eq-RETURN.false in (omega arith, omega arith)

pub jump_target-to-requires : goal.jump_target-to-requires
jump_target-to-requires c = let p = place-small c.requires in omega arith

pub meet-requires-then-op-eq-JUMP : goal.meet-requires-then-op-eq-JUMP
meet-requires-then-op-eq-JUMP c =
    let T = turning (found c.requires _ refl) (on-false _ _ c.goes_on.ensures c.if-goes_on.false) c.if-op-eq-RETURN.false c.number_at-a.ensures.0 in
    meetable c.requires (jump_goes T c.if-op-eq-JUMP.true c.jump_target-to.ensures)

pub returns-then-op-eq-JUMP-clause-expands : goal.returns-then-op-eq-JUMP-clause-expands
returns-then-op-eq-JUMP-clause-expands c =
    let T = turning (found c.requires _ refl) (on-false _ _ c.goes_on.ensures c.if-goes_on.false) c.if-op-eq-RETURN.false c.number_at-a.ensures.0 in
    at-jump T c.if-op-eq-JUMP.true c.jump_target-to.ensures c.meet-then-op-eq-JUMP.ensures.meets

pub question_way-to_no-requires : goal.question_way-to_no-requires
question_way-to_no-requires c = let p = place-small c.requires in omega arith

pub question_way-to_yes-requires : goal.question_way-to_yes-requires
question_way-to_yes-requires c = let p = place-small c.requires in omega arith

pub meet-requires-2 : goal.meet-requires-2
meet-requires-2 c =
    let T = turning (found c.requires _ refl) (on-false _ _ c.goes_on.ensures c.if-goes_on.false) c.if-op-eq-RETURN.false c.number_at-a.ensures.0 in
    meetable c.requires (no-goes T c.if-op-eq-JUMP.false c.question_way-to_no.ensures)

pub meet-requires-3 : goal.meet-requires-3
meet-requires-3 c =
    let T = turning (found c.requires _ refl) (on-false _ _ c.goes_on.ensures c.if-goes_on.false) c.if-op-eq-RETURN.false c.number_at-a.ensures.0 in
    let j = c.if-op-eq-JUMP.false in let w = c.question_way-to_no.ensures in meetable (again c.requires (no-goes T j w) c.meet-2.ensures.long c.meet-2.ensures.meets) (yes-goes T j c.question_way-to_yes.ensures)

pub returns-clause-expands : goal.returns-clause-expands
returns-clause-expands c =
    let T = turning (found c.requires _ refl) (on-false _ _ c.goes_on.ensures c.if-goes_on.false) c.if-op-eq-RETURN.false c.number_at-a.ensures.0 in
    at-question T c.if-op-eq-JUMP.false c.question_way-to_no.ensures c.question_way-to_yes.ensures c.meet-2.ensures.long c.meet-2.ensures.meets c.meet-3.ensures.meets
