-- The walk over a lambda's body: one method for each form of expression. The depth falls.
use native.Mathlib.Omega.{arith}
use mathlib.Core.Path.{refl, sym}
use Rattle.numerals.specs.Kinds.{expr_byte}
use Rattle.tree_view.proofs.ExprViews.{expr-inside, expr-deep, expr-known, view-var, view-unary, view-binary, view-call, view-attribute, view-dict, view-index, view-lambda}
use Rattle.slots.proofs.KindGroups.{literal-byte, display-byte}
use Rattle.slots.proofs.Kinded.{seen-display}
use Rattle.slots.proofs.Referring.{refers-as, refers-literal, refers-var, refers-unary, refers-binary, refers-display, refers-dict, refers-two, refers-call, refers-attribute, refers-lambda}
use Rattle.slots.proofs.Referring.{body-lent, body-keeping, exprs-start, exprs-head, exprs-next, exprs-done}
use Rattle.slots.proofs.captures.Captures.+refs.Goals as goal

pub attribute-returns : goal.attribute-returns
attribute-returns t c = refers-attribute _ _ _ _ _ c.expr-p.ensures _ c.name_end.ensures

pub call-returns : goal.call-returns
call-returns t c = refers-call _ _ _ _ _ c.expr-p.ensures _ _ c.list.ensures

pub two-returns : goal.two-returns
two-returns t c = refers-two _ _ _ _ _ c.expr-p.ensures _ _ c.expr.ensures

pub expr-bounds-tree-at : goal.expr-bounds-tree-at
expr-bounds-tree-at t c = let h = expr-inside _ _ _ c.requires in omega arith

pub expr-of-requires : goal.expr-of-requires
expr-of-requires t c = expr-known _ _ _ c.requires

pub expr-name-requires : goal.expr-name-requires
unfolding expr_byte
expr-name-requires t c = (view-var _ _ _ c.requires (sym c.in-Variable.ensures)).parts

pub expr-name_end-requires : goal.expr-name_end-requires
unfolding expr_byte
expr-name_end-requires t c = (view-var _ _ _ c.requires (sym c.in-Variable.ensures)).parts

pub expr-overflow_sub-depth : goal.expr-overflow_sub-depth
expr-overflow_sub-depth t c = let h = expr-deep _ _ _ c.requires in omega arith

pub expr-expr-requires : goal.expr-expr-requires
unfolding expr_byte
expr-expr-requires t c = let h = expr-deep _ _ _ c.requires in (omega arith, (view-unary _ _ _ c.requires (sym c.in-Unary.ensures)).parts.operand)

pub expr-overflow_sub-depth-in-Binary : goal.expr-overflow_sub-depth-in-Binary
expr-overflow_sub-depth-in-Binary t c = let h = expr-deep _ _ _ c.requires in omega arith

pub expr-two-requires : goal.expr-two-requires
unfolding expr_byte
expr-two-requires t c = let h = expr-deep _ _ _ c.requires in (omega arith, (view-binary _ _ _ c.requires (sym c.in-Binary.ensures)).parts.operands)

pub expr-overflow_sub-depth-in-Call : goal.expr-overflow_sub-depth-in-Call
expr-overflow_sub-depth-in-Call t c = let h = expr-deep _ _ _ c.requires in omega arith

pub expr-call-requires : goal.expr-call-requires
unfolding expr_byte
expr-call-requires t c = let h = expr-deep _ _ _ c.requires in (omega arith, (view-call _ _ _ c.requires (sym c.in-Call.ensures)).parts)

pub expr-overflow_sub-depth-in-Attribute : goal.expr-overflow_sub-depth-in-Attribute
expr-overflow_sub-depth-in-Attribute t c = let h = expr-deep _ _ _ c.requires in omega arith

pub expr-attribute-requires : goal.expr-attribute-requires
unfolding expr_byte
expr-attribute-requires t c = let h = expr-deep _ _ _ c.requires in (omega arith, (view-attribute _ _ _ c.requires (sym c.in-Attribute.ensures)).parts)

pub expr-overflow_sub-depth-in-List : goal.expr-overflow_sub-depth-in-List
expr-overflow_sub-depth-in-List t c = let h = expr-deep _ _ _ c.requires in omega arith

pub expr-list-requires : goal.expr-list-requires
expr-list-requires t c = let h = expr-deep _ _ _ c.requires in (omega arith, (seen-display _ _ _ c.requires (display-byte c.of.ensures c.in-List.is)).1.parts)

pub expr-overflow_sub-depth-in-Dict : goal.expr-overflow_sub-depth-in-Dict
expr-overflow_sub-depth-in-Dict t c = let h = expr-deep _ _ _ c.requires in omega arith

pub expr-dict-requires : goal.expr-dict-requires
unfolding expr_byte
expr-dict-requires t c = let h = expr-deep _ _ _ c.requires in (omega arith, (view-dict _ _ _ c.requires (sym c.in-Dict.ensures)).parts)

pub expr-overflow_sub-depth-in-Index : goal.expr-overflow_sub-depth-in-Index
expr-overflow_sub-depth-in-Index t c = let h = expr-deep _ _ _ c.requires in omega arith

pub expr-two-requires-in-Index : goal.expr-two-requires-in-Index
unfolding expr_byte
expr-two-requires-in-Index t c = let h = expr-deep _ _ _ c.requires in (omega arith, (view-index _ _ _ c.requires (sym c.in-Index.ensures)).parts)

pub expr-overflow_sub-depth-in-Lambda : goal.expr-overflow_sub-depth-in-Lambda
expr-overflow_sub-depth-in-Lambda t c = let h = expr-deep _ _ _ c.requires in omega arith

pub expr-lambda-requires : goal.expr-lambda-requires
unfolding expr_byte
expr-lambda-requires t c = let h = expr-deep _ _ _ c.requires in (omega arith, (view-lambda _ _ _ c.requires (sym c.in-Lambda.ensures)).parts)

pub expr-returns-in-NoneLiteral : goal.expr-returns-in-NoneLiteral
expr-returns-in-NoneLiteral t c = refers-literal _ _ _ _ _ c.requires (literal-byte c.of.ensures c.in-NoneLiteral.is) c.skip_expr.ensures

pub expr-returns-in-Variable : goal.expr-returns-in-Variable
unfolding expr_byte
expr-returns-in-Variable t c = refers-as _ _ _ _ _ (view-var _ _ _ c.requires (sym c.in-Variable.ensures)).is (refers-var _ _ _ _ _ c.name_end.ensures c.name.ensures)

pub expr-returns-in-Unary : goal.expr-returns-in-Unary
unfolding expr_byte
expr-returns-in-Unary t c = let v = view-unary _ _ _ c.requires (sym c.in-Unary.ensures) in refers-as _ _ _ _ _ v.is (refers-unary _ _ _ _ _ _ v.parts.operator c.expr.ensures)

pub expr-returns-in-Binary : goal.expr-returns-in-Binary
unfolding expr_byte
expr-returns-in-Binary t c = let v = view-binary _ _ _ c.requires (sym c.in-Binary.ensures) in refers-as _ _ _ _ _ v.is (refers-binary _ _ _ _ _ _ v.parts.operator c.two.ensures)

pub expr-returns-in-Call : goal.expr-returns-in-Call
unfolding expr_byte
expr-returns-in-Call t c = refers-as _ _ _ _ _ (view-call _ _ _ c.requires (sym c.in-Call.ensures)).is c.call.ensures

pub expr-returns-in-Attribute : goal.expr-returns-in-Attribute
unfolding expr_byte
expr-returns-in-Attribute t c = refers-as _ _ _ _ _ (view-attribute _ _ _ c.requires (sym c.in-Attribute.ensures)).is c.attribute.ensures

pub expr-returns-in-Index : goal.expr-returns-in-Index
unfolding expr_byte
expr-returns-in-Index t c = refers-as _ _ _ _ _ (view-index _ _ _ c.requires (sym c.in-Index.ensures)).is c.two-in-Index.ensures

pub expr-returns-in-Lambda : goal.expr-returns-in-Lambda
unfolding expr_byte
expr-returns-in-Lambda t c = refers-as _ _ _ _ _ (view-lambda _ _ _ c.requires (sym c.in-Lambda.ensures)).is c.lambda.ensures

pub expr-returns-in-List : goal.expr-returns-in-List
expr-returns-in-List t c = let v = seen-display _ _ _ c.requires (display-byte c.of.ensures c.in-List.is) in refers-as _ _ _ _ _ v.1.is (refers-display _ _ _ _ _ _ v.0 c.list.ensures)

pub expr-returns-in-Dict : goal.expr-returns-in-Dict
unfolding expr_byte
expr-returns-in-Dict t c = refers-as _ _ _ _ _ (view-dict _ _ _ c.requires (sym c.in-Dict.ensures)).is (refers-dict _ _ _ _ _ _ c.dict.ensures)

pub lambda-invariant_of-self : goal.lambda-invariant_of-self
lambda-invariant_of-self t c =
    let m = c.mark_params.ensures in let r = c.expr-end.ensures in
    record { keeping = body-keeping _ _ _ _ m _ _ _ r _ (c.kept-2-1.given.1.1 (body-lent _ _ _ _ m _ _ _ r)) }

pub lambda-returns : goal.lambda-returns
lambda-returns t c =
    let m = c.mark_params.ensures in let r = c.expr-end.ensures in
    refers-lambda _ _ _ _ _ _ _ m c.skip_params-body.ensures r _ _ refl refl refl refl refl refl (c.kept-2-1.given.1.1 (body-lent _ _ _ _ m _ _ _ r)) refl

pub many-loop-init : goal.many-loop-init
many-loop-init t c = exprs-start _ _ _ _ _ (omega arith) c.requires

pub many-expr-p-requires : goal.many-expr-p-requires
many-expr-p-requires t c = (omega arith, exprs-head _ _ _ _ _ _ _ c.loop.invariant (omega (arith, c.loop-test.true)))

pub many-loop-preserved : goal.many-loop-preserved
many-loop-preserved t c = exprs-next _ _ _ _ _ _ _ c.loop.invariant (omega (arith, c.loop-test.true)) _ _ c.expr-p.ensures _ (omega arith)

pub many-returns : goal.many-returns
many-returns t c = exprs-done _ _ _ _ _ _ _ c.loop.invariant (omega (arith, c.loop-test.false))
