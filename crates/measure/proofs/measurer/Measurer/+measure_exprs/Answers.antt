use native.Mathlib.Omega.{arith}
use mathlib.Core.Path.{refl, sym, ap, ◌∙◌, subst}
use Prim.Native.Nat.{ℕ}
use Rattle.numerals.specs.Kinds.{expr_byte}
use Rattle.numerals.specs.declared.kinds.ExprKind.TheVariants.{Variable, Unary, Binary, Call, Attribute, Dict, Index, Lambda}
use Rattle.opcodes.proofs.KindBytes.{byte-is}
use Rattle.tree_view.specs.Places.{name_end}
use Rattle.tree_view.proofs.LeafNodes.{name-after}
use Rattle.tree_view.specs.ExprAt.{ListAt}
use Rattle.tree_view.proofs.ExprViews.{expr-inside, expr-deep, expr-known, view-var, view-unary, view-binary, view-call, view-attribute, view-dict, view-index, view-lambda}
use Rattle.slots.proofs.KindGroups.{literal-byte, display-byte}
use Rattle.slots.proofs.Kinded.{seen-display}
use Rattle.measure.proofs.Measuring.{few, one-more, more-sized, more-most, literal-ahead, call-done, two-done, moved-expr, exprs-start, exprs-head, exprs-next, exprs-done}
use Rattle.measure.proofs.Measuring.{literal-sized, var-sized, unary-sized, binary-sized, call-sized, attribute-sized, display-sized, dict-sized, index-sized, lambda-sized}
use Rattle.measure.proofs.measurer.Measurer.+measure_exprs.Goals as goal

-- ---- an attribute

pub attribute-returns : goal.attribute-returns
attribute-returns t c =
    one-more _ _ _ _ _ _ c.expr-object.ensures refl (c.name_end.ensures ∙ ap (name_end c.args.self.scope.tree.now) c.expr-object.ensures.next_is) (name-after _ _)

-- ---- a call

pub call-overflow_add-callee : goal.call-overflow_add-callee
call-overflow_add-callee t c =
    omega (arith, few _ _ _ _ _ c.args.self.short c.requires.callee c.expr-callee.ensures, more-most _ _ _ c.call_more-more.ensures)

pub call-list-requires : goal.call-list-requires
call-list-requires t c = (
  omega arith,
  (
    subst (λ (q : ℕ). ListAt c.args.depth c.args.self.scope.tree.now q) (sym c.expr-callee.ensures.next_is) c.requires.args,
    omega (arith, few _ _ _ _ _ c.args.self.short c.requires.callee c.expr-callee.ensures, more-most _ _ _ c.call_more-more.ensures),
  ),
)

pub call-returns : goal.call-returns
call-returns t c = call-done _ _ _ _ _ _ _ _ c.expr-callee.ensures c.call_more-more.ensures c.list.ensures

-- ---- an expression, by its kind

pub expr-overflow_sub-below : goal.expr-overflow_sub-below
expr-overflow_sub-below t c = let h = expr-deep _ _ _ c.requires in omega arith

pub expr-bounds-self-at : goal.expr-bounds-self-at
expr-bounds-self-at t c = expr-inside _ _ _ c.requires

pub expr-of-requires : goal.expr-of-requires
expr-of-requires t c = expr-known _ _ _ c.requires

pub expr-name_end-next-requires : goal.expr-name_end-next-requires
unfolding expr_byte
expr-name_end-next-requires t c = (view-var _ _ _ c.requires (byte-is Variable c.of.ensures c.in-Variable.is)).parts

pub expr-more-requires : goal.expr-more-requires
unfolding expr_byte
expr-more-requires t c =
    let h = expr-deep _ _ _ c.requires in (omega arith, ((view-unary _ _ _ c.requires (byte-is Unary c.of.ensures c.in-Unary.is)).parts.operand, omega arith))

pub expr-bounds-self-a : goal.expr-bounds-self-a
unfolding expr_byte
expr-bounds-self-a t c = let v = view-binary _ _ _ c.requires (byte-is Binary c.of.ensures c.in-Binary.is) in omega (arith, v.parts.operands.first.start)

pub expr-two-requires : goal.expr-two-requires
unfolding expr_byte
expr-two-requires t c =
    let h = expr-deep _ _ _ c.requires in
    (omega arith, ((view-binary _ _ _ c.requires (byte-is Binary c.of.ensures c.in-Binary.is)).parts.operands, c.binary_more-more.ensures.1))

pub expr-call-requires : goal.expr-call-requires
unfolding expr_byte
expr-call-requires t c = let h = expr-deep _ _ _ c.requires in (omega arith, (view-call _ _ _ c.requires (byte-is Call c.of.ensures c.in-Call.is)).parts)

pub expr-attribute-requires : goal.expr-attribute-requires
unfolding expr_byte
expr-attribute-requires t c = let h = expr-deep _ _ _ c.requires in (omega arith, (view-attribute _ _ _ c.requires (byte-is Attribute c.of.ensures c.in-Attribute.is)).parts)

pub expr-list-requires : goal.expr-list-requires
expr-list-requires t c =
    let h = expr-deep _ _ _ c.requires in (omega arith, ((seen-display _ _ _ c.requires (display-byte c.of.ensures c.in-List.is)).1.parts, omega arith))

pub expr-dict-requires : goal.expr-dict-requires
unfolding expr_byte
expr-dict-requires t c = let h = expr-deep _ _ _ c.requires in (omega arith, (view-dict _ _ _ c.requires (byte-is Dict c.of.ensures c.in-Dict.is)).parts)

pub expr-two-requires-in-Index : goal.expr-two-requires-in-Index
unfolding expr_byte
expr-two-requires-in-Index t c =
    let h = expr-deep _ _ _ c.requires in (omega arith, ((view-index _ _ _ c.requires (byte-is Index c.of.ensures c.in-Index.is)).parts, omega arith))

pub expr-lambda-requires : goal.expr-lambda-requires
unfolding expr_byte
expr-lambda-requires t c = (view-lambda _ _ _ c.requires (byte-is Lambda c.of.ensures c.in-Lambda.is)).parts

pub expr-returns-in-NoneLiteral : goal.expr-returns-in-NoneLiteral
expr-returns-in-NoneLiteral t c =
    let h = literal-byte c.of.ensures c.in-NoneLiteral.is in
    literal-sized _ _ _ _ _ _ c.requires refl c.skip_expr-next.ensures (omega (arith, c.skip_expr-next.ensures, literal-ahead _ _ _ c.requires h)) h

pub expr-returns-in-Variable : goal.expr-returns-in-Variable
unfolding expr_byte
expr-returns-in-Variable t c = var-sized _ _ _ _ _ _ c.requires (byte-is Variable c.of.ensures c.in-Variable.is) refl c.name_end-next.ensures

pub expr-returns-in-Unary : goal.expr-returns-in-Unary
unfolding expr_byte
expr-returns-in-Unary t c = unary-sized _ _ _ _ _ _ c.requires (byte-is Unary c.of.ensures c.in-Unary.is) c.more.ensures

pub expr-returns-in-Binary : goal.expr-returns-in-Binary
unfolding expr_byte
expr-returns-in-Binary t c =
    binary-sized _ _ _ _ _ _ c.requires _ c.binary_more-more.ensures.0 c.binary_more-more.ensures.1 (byte-is Binary c.of.ensures c.in-Binary.is) c.two.ensures

pub expr-returns-in-Call : goal.expr-returns-in-Call
unfolding expr_byte
expr-returns-in-Call t c = call-sized _ _ _ _ _ _ c.requires (byte-is Call c.of.ensures c.in-Call.is) c.call.ensures

pub expr-returns-in-Attribute : goal.expr-returns-in-Attribute
unfolding expr_byte
expr-returns-in-Attribute t c = attribute-sized _ _ _ _ _ _ c.requires (byte-is Attribute c.of.ensures c.in-Attribute.is) c.attribute.ensures

pub expr-returns-in-List : goal.expr-returns-in-List
expr-returns-in-List t c = display-sized _ _ _ _ _ _ c.requires (display-byte c.of.ensures c.in-List.is) c.list.ensures

pub expr-returns-in-Dict : goal.expr-returns-in-Dict
unfolding expr_byte
expr-returns-in-Dict t c = dict-sized _ _ _ _ _ _ c.requires (byte-is Dict c.of.ensures c.in-Dict.is) c.dict.ensures

pub expr-returns-in-Index : goal.expr-returns-in-Index
unfolding expr_byte
expr-returns-in-Index t c = index-sized _ _ _ _ _ _ c.requires (byte-is Index c.of.ensures c.in-Index.is) c.two-in-Index.ensures

pub expr-returns-in-Lambda : goal.expr-returns-in-Lambda
unfolding expr_byte
expr-returns-in-Lambda t c = lambda-sized _ _ _ _ _ _ c.requires (byte-is Lambda c.of.ensures c.in-Lambda.is) c.lambda.ensures

-- ---- so many expressions

pub many-loop-init : goal.many-loop-init
many-loop-init t c = exprs-start _ _ _ _ _ _ _ _ (omega arith) c.requires.0

pub many-expr-one-requires : goal.many-expr-one-requires
many-expr-one-requires t c = (omega arith, exprs-head _ _ _ _ _ _ _ _ _ _ c.loop.invariant (omega (arith, c.loop-test.true)))

pub many-overflow_add-size : goal.many-overflow_add-size
many-overflow_add-size t c =
    let h = few _ _ _ _ _ c.args.self.short (exprs-head _ _ _ _ _ _ _ _ _ _ c.loop.invariant (omega (arith, c.loop-test.true))) c.expr-one.ensures in
    omega (arith, c.loop.invariant.most, c.loop.invariant.reads.start, c.args.self.short, c.requires.1)

pub many-loop-preserved : goal.many-loop-preserved
many-loop-preserved t c = exprs-next _ _ _ _ _ _ _ _ _ _ c.loop.invariant (omega (arith, c.loop-test.true)) _ _ _ c.expr-one.ensures refl (omega arith)

pub many-returns : goal.many-returns
many-returns t c = exprs-done _ _ _ _ _ _ _ _ _ _ c.loop.invariant _ refl refl (omega (arith, c.loop-test.false))

-- ---- one and two

pub more-overflow_add-result : goal.more-overflow_add-result
more-overflow_add-result t c = omega (arith, few _ _ _ _ _ c.args.self.short c.requires.0 c.expr-one.ensures, c.requires.1)

pub more-returns : goal.more-returns
more-returns t c = more-sized _ _ _ _ _ _ c.expr-one.ensures refl refl

pub two-overflow_add-result : goal.two-overflow_add-result
two-overflow_add-result t c =
    let m = moved-expr _ _ _ _ c.expr-first.ensures.next_is c.requires.0.second in
    omega (arith, few _ _ _ _ _ c.args.self.short m c.expr-second.ensures, c.requires.1)

pub two-overflow_add-result-2 : goal.two-overflow_add-result-2
two-overflow_add-result-2 t c =
    let m = moved-expr _ _ _ _ c.expr-first.ensures.next_is c.requires.0.second in
    omega (arith, few _ _ _ _ _ c.args.self.short m c.expr-second.ensures, few _ _ _ _ _ c.args.self.short c.requires.0.first c.expr-first.ensures, c.requires.1)

pub two-returns : goal.two-returns
two-returns t c = two-done _ _ _ _ _ _ _ _ _ c.expr-first.ensures c.expr-second.ensures refl refl
