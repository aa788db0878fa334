use native.Mathlib.Omega.{arith}
use mathlib.Core.Path.{refl, sym, ap, ◌∙◌}
use Rattle.numerals.specs.Kinds.{expr_byte}
use Rattle.state.specs.State.{slot_names}
use Rattle.tree_view.specs.Places.{name_end}
use Rattle.tree_view.proofs.ExprViews.{expr-inside, expr-deep, expr-known, view-unary, view-binary, view-call, view-attribute, view-dict, view-index, view-lambda, view-exprs-more}
use Rattle.slots.proofs.Kinded.{seen-display}
use Rattle.fits.proofs.Walking.{stopped, walks_next, walks-over, next-walks, over-walks, first-over, second_walks, left-start, left-next, left_over, left-done, lambda-over, slots-few, lambda-slotted}
use Rattle.fits.proofs.ExprKinds.{fits-unary, fits-binary, fits-call, fits-attribute, fits-dict, fits-display, fits-index, fits-lambda}
use Rattle.fits.proofs.ExprKinds.{fits-simple, fits-plain, display-kind, simple-kind, second-there, list-there, name-there, second-moved}
use Rattle.fits.proofs.ExprKinds.{list-moved, exprs-step, exprs-end, exprs-ok, collected-at, lambda-body, long-enough}
use Rattle.fits.proofs.frame.Frame.+fits_exprs.Goals as goal

pub attribute-returns-in_err-p : goal.attribute-returns-in_err-p
attribute-returns-in_err-p t c = stopped _ _ _ c.from_residual.ensures (over-walks _ _ (walks-over _ _ _ c.expr.ensures c.in_err-p.was))

pub attribute-name_end-requires : goal.attribute-name_end-requires
attribute-name_end-requires t c = name-there _ _ _ _ (walks_next _ _ _ _ c.expr.ensures c.in_ok-p.was).0 c.requires

pub attribute-returns : goal.attribute-returns
attribute-returns t c = let z = walks_next _ _ _ _ c.expr.ensures c.in_ok-p.was in next-walks _ _ _ (c.name_end.ensures ∙ ap (name_end _) z.0) z.1

pub call-returns-in_err-p : goal.call-returns-in_err-p
call-returns-in_err-p t c = stopped _ _ _ c.from_residual.ensures (first-over _ _ _ _ _ c.expr.ensures c.in_err-p.was)

pub call-list-requires : goal.call-list-requires
call-list-requires t c = (omega arith, list-there _ _ _ _ (walks_next _ _ _ _ c.expr.ensures c.in_ok-p.was).0 c.requires)

pub call-returns : goal.call-returns
call-returns t c = second_walks _ _ _ _ _ _ _ c.expr.ensures c.in_ok-p.was (list-moved _ _ _ _ (walks_next _ _ _ _ c.expr.ensures c.in_ok-p.was).0 _ _ c.list.ensures)

pub expr-bounds-self-at : goal.expr-bounds-self-at
expr-bounds-self-at t c = expr-inside _ _ _ c.requires

pub expr-of-requires : goal.expr-of-requires
expr-of-requires t c = expr-known _ _ _ c.requires

pub expr-overflow_sub-below : goal.expr-overflow_sub-below
expr-overflow_sub-below t c = let h = expr-deep _ _ _ c.requires in omega arith

pub expr-expr-requires : goal.expr-expr-requires
unfolding expr_byte
expr-expr-requires t c = let h = expr-deep _ _ _ c.requires in (omega arith, (view-unary _ _ _ c.requires (sym c.in-Unary.ensures)).parts.operand)

pub expr-two-requires : goal.expr-two-requires
unfolding expr_byte
expr-two-requires t c = let h = expr-deep _ _ _ c.requires in (omega arith, (view-binary _ _ _ c.requires (sym c.in-Binary.ensures)).parts.operands)

pub expr-call-requires : goal.expr-call-requires
unfolding expr_byte
expr-call-requires t c = let h = expr-deep _ _ _ c.requires in (omega arith, (view-call _ _ _ c.requires (sym c.in-Call.ensures)).parts)

pub expr-attribute-requires : goal.expr-attribute-requires
unfolding expr_byte
expr-attribute-requires t c = let h = expr-deep _ _ _ c.requires in (omega arith, (view-attribute _ _ _ c.requires (sym c.in-Attribute.ensures)).parts)

pub expr-list-requires : goal.expr-list-requires
expr-list-requires t c = let h = expr-deep _ _ _ c.requires in (omega arith, (seen-display _ _ _ c.requires (display-kind _ _ c.of.ensures c.in-List.is)).1.parts)

pub expr-dict-requires : goal.expr-dict-requires
unfolding expr_byte
expr-dict-requires t c = let h = expr-deep _ _ _ c.requires in (omega arith, (view-dict _ _ _ c.requires (sym c.in-Dict.ensures)).parts)

pub expr-two-requires-in-Index : goal.expr-two-requires-in-Index
unfolding expr_byte
expr-two-requires-in-Index t c = let h = expr-deep _ _ _ c.requires in (omega arith, (view-index _ _ _ c.requires (sym c.in-Index.ensures)).parts)

pub expr-lambda-requires : goal.expr-lambda-requires
unfolding expr_byte
expr-lambda-requires t c = let h = expr-deep _ _ _ c.requires in (omega arith, (view-lambda _ _ _ c.requires (sym c.in-Lambda.ensures)).parts)

pub expr-returns-in-Unary : goal.expr-returns-in-Unary
unfolding expr_byte
expr-returns-in-Unary t c = fits-unary _ _ _ c.requires _ _ (sym c.in-Unary.ensures) c.expr.ensures

pub expr-returns-in-Binary : goal.expr-returns-in-Binary
unfolding expr_byte
expr-returns-in-Binary t c = fits-binary _ _ _ c.requires _ _ (sym c.in-Binary.ensures) c.two.ensures

pub expr-returns-in-Call : goal.expr-returns-in-Call
unfolding expr_byte
expr-returns-in-Call t c = fits-call _ _ _ c.requires _ _ (sym c.in-Call.ensures) c.call.ensures

pub expr-returns-in-Attribute : goal.expr-returns-in-Attribute
unfolding expr_byte
expr-returns-in-Attribute t c = fits-attribute _ _ _ c.requires _ _ (sym c.in-Attribute.ensures) c.attribute.ensures

pub expr-returns-in-List : goal.expr-returns-in-List
expr-returns-in-List t c = fits-display _ _ _ c.requires _ _ (display-kind _ _ c.of.ensures c.in-List.is) c.list.ensures

pub expr-returns-in-Dict : goal.expr-returns-in-Dict
unfolding expr_byte
expr-returns-in-Dict t c = fits-dict _ _ _ c.requires _ _ (sym c.in-Dict.ensures) c.dict.ensures

pub expr-returns-in-Index : goal.expr-returns-in-Index
unfolding expr_byte
expr-returns-in-Index t c = fits-index _ _ _ c.requires _ _ (sym c.in-Index.ensures) c.two-in-Index.ensures

pub expr-returns-in-Lambda : goal.expr-returns-in-Lambda
unfolding expr_byte
expr-returns-in-Lambda t c = fits-lambda _ _ _ c.requires _ _ (sym c.in-Lambda.ensures) c.lambda.ensures

pub expr-returns-in_default : goal.expr-returns-in_default
expr-returns-in_default t c =
    let d = c.in_default in
    fits-simple _ _ _ c.requires _ _ (simple-kind _ _ c.of.ensures d.not-Unary d.not-Binary d.not-Call d.not-Attribute d.not-List d.not-Tuple d.not-Set d.not-TreeSet d.not-Dict d.not-Index d.not-Lambda) c.skip_expr.ensures

pub lambda-returns-in_err-n : goal.lambda-returns-in_err-n
lambda-returns-in_err-n t c = stopped _ _ _ c.from_residual.ensures
    (lambda-over _ _ _ _ (collected-at _ _ _ c.args.at c.args.self.slots.now c.args.depth _ _ c.skip_params-p.ensures c.lambda_slots.ensures) _ _ c.in_err-n.was)

pub lambda-slice_bounds-expr-end : goal.lambda-slice_bounds-expr-end
lambda-slice_bounds-expr-end t c =
    let h = slots-few _ _ _ _ (collected-at _ _ _ c.args.at c.args.self.slots.now c.args.depth _ _ c.skip_params-p.ensures c.lambda_slots.ensures) _ c.in_ok-n.was in
    let k = c.lambda_slots.auto.slots in omega arith

pub lambda-invariant_of-expr-clause-slotted : goal.lambda-invariant_of-expr-clause-slotted
lambda-invariant_of-expr-clause-slotted t c =
    lambda-slotted _ _ _ _ (collected-at _ _ _ c.args.at c.args.self.slots.now c.args.depth _ _ c.skip_params-p.ensures c.lambda_slots.ensures) _ c.in_ok-n.was (long-enough c.lambda_slots.new.slots c.lambda_slots.auto.slots)

pub lambda-returns : goal.lambda-returns
lambda-returns t c = lambda-body _ _ _ _ _ _ _ _ _ c.skip_params-p.ensures
    (collected-at _ _ _ c.args.at c.args.self.slots.now c.args.depth _ _ c.skip_params-p.ensures c.lambda_slots.ensures) c.in_ok-n.was (long-enough c.lambda_slots.new.slots c.lambda_slots.auto.slots) c.expr.ensures

pub many-loop-init : goal.many-loop-init
many-loop-init t c = left-start _ _ _ _ _ _ (omega arith) c.requires

pub many-bounds-self-p : goal.many-bounds-self-p
many-bounds-self-p t c = expr-inside _ _ _ (view-exprs-more _ _ _ _ (omega (arith, c.loop-test.true)) c.loop.invariant.reads).parts.head

pub many-loop-preserved-then-self-p : goal.many-loop-preserved-then-self-p
many-loop-preserved-then-self-p t c = left-next _ _ _ _ _ _ _ c.loop.invariant _ _ _ _ _ (exprs-step _ _ _ _ _ c.loop.invariant.reads (omega (arith, c.loop-test.true)))
    (fits-plain _ _ _ (view-exprs-more _ _ _ _ (omega (arith, c.loop-test.true)) c.loop.invariant.reads).parts.head _ c.if-self-p.true) refl (omega arith)

pub many-expr-requires : goal.many-expr-requires
many-expr-requires t c = (omega arith, (view-exprs-more _ _ _ _ (omega (arith, c.loop-test.true)) c.loop.invariant.reads).parts.head)

pub many-returns-in_err-p : goal.many-returns-in_err-p
many-returns-in_err-p t c = stopped _ _ _ c.from_residual.ensures (left_over _ _ _ _ _ _ _ c.loop.invariant _ _ _ (exprs-step _ _ _ _ _ c.loop.invariant.reads (omega (arith, c.loop-test.true))) c.expr.ensures c.in_err-p.was)

pub many-loop-preserved : goal.many-loop-preserved
many-loop-preserved t c = left-next _ _ _ _ _ _ _ c.loop.invariant _ _ _ _ _ (exprs-step _ _ _ _ _ c.loop.invariant.reads (omega (arith, c.loop-test.true))) c.expr.ensures c.in_ok-p.was (omega arith)

pub many-returns : goal.many-returns
many-returns t c = left-done _ _ _ _ _ _ _ c.loop.invariant
    (exprs-end _ _ (slot_names c.args.self.tree.now c.args.self.slots.now) _ _ c.loop.invariant.reads (omega (arith, c.loop-test.false))) (exprs-ok _ _ _ _ _ c.loop.invariant.reads (omega (arith, c.loop-test.false)))

pub two-returns-in_err-p : goal.two-returns-in_err-p
two-returns-in_err-p t c = stopped _ _ _ c.from_residual.ensures (first-over _ _ _ _ _ c.expr.ensures c.in_err-p.was)

pub two-expr-requires-2 : goal.two-expr-requires-2
two-expr-requires-2 t c = (omega arith, second-there _ _ _ _ (walks_next _ _ _ _ c.expr.ensures c.in_ok-p.was).0 c.requires)

pub two-returns : goal.two-returns
two-returns t c = second_walks _ _ _ _ _ _ _ c.expr.ensures c.in_ok-p.was (second-moved _ _ _ _ (walks_next _ _ _ _ c.expr.ensures c.in_ok-p.was).0 _ _ c.expr-2.ensures)
