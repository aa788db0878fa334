use mathlib.Core.Path.{sym, ap, ◌∙◌}
use Rattle.std.proofs.Common.{rules, arith}
use Rattle.numerals.specs.Kinds.{expr_byte}
use Rattle.parts.specs.Asked.{number_asked}
use Rattle.tree_view.specs.Judge.{judge_expr, judge_two, judge_call, judge_args, judge_display, judge_tuple, judge_pairs, judge_attribute, judge_lambda, judge_unary, judge_binary}
use Rattle.tree_view.specs.declared.roles.Role.TheVariants.{Value}
use Rattle.parts.proofs.Steps.{step, stop, count-step, count-stop, noted, guard-step, guard-stop, along-start, along-next, along-stop, along-end}
use Rattle.exprs.proofs.Checking.{expr-stop, expr-deep, expr-no-kind, expr-step, expr-constant, expr-eight, expr-values, many-turns, many-end, many-skip, tuple-role}
use Rattle.tree_view.proofs.ExprLaws.{at-string, at-var, at-unary, at-binary, at_call, at-attribute, at-dict, at-tuple, at-index, at-lambda}
use Rattle.exprs.proofs.+check.Goals as goal

pub check_attribute-returns-in_err-check_expr : goal.check_attribute-returns-in_err-check_expr
unfolding judge_attribute
check_attribute-returns-in_err-check_expr t c = stop _ (search rules) c.in_err-check_expr.ensures

pub check_attribute-returns : goal.check_attribute-returns
unfolding judge_attribute
check_attribute-returns t c = step c.in_ok-check_expr.ensures c.name.ensures

pub check_binary-returns-in_err-operator : goal.check_binary-returns-in_err-operator
unfolding judge_binary
check_binary-returns-in_err-operator t c = guard-stop (judge_two c.args.depth) _ (search rules) c.in_err-operator.ensures

pub check_binary-returns : goal.check_binary-returns
unfolding judge_binary
check_binary-returns t c = guard-step _ c.in_ok-operator.ensures c.check_two.ensures

pub check_call-returns-in_err-check_expr : goal.check_call-returns-in_err-check_expr
unfolding judge_call
check_call-returns-in_err-check_expr t c = stop _ (search rules) c.in_err-check_expr.ensures

pub check_call-returns-in_err-n : goal.check_call-returns-in_err-n
unfolding judge_call judge_args
check_call-returns-in_err-n t c = step c.in_ok-check_expr.ensures (count-stop _ (search rules) c.in_err-n.ensures)

pub check_call-returns : goal.check_call-returns
unfolding judge_call judge_args number_asked
check_call-returns t c = step c.in_ok-check_expr.ensures (count-step _ c.in_ok-n.ensures (noted c.note.ensures c.check_many.ensures))

pub check_display-returns-in_err-n : goal.check_display-returns-in_err-n
unfolding judge_display
check_display-returns-in_err-n t c = count-stop _ (search rules) c.in_err-n.ensures

pub check_display-returns : goal.check_display-returns
unfolding judge_display
check_display-returns t c = count-step _ c.in_ok-n.ensures c.check_many.ensures

pub check_expr-returns-in_err-byte : goal.check_expr-returns-in_err-byte
check_expr-returns-in_err-byte t c = expr-stop _ _ (search rules) c.in_err-byte.ensures

pub check_expr-returns-then-depth-eq0 : goal.check_expr-returns-then-depth-eq0
check_expr-returns-then-depth-eq0 t c = expr-deep _ _ _ c.in_ok-byte.ensures c.if-depth-eq0.true

pub check_expr-returns-in_default : goal.check_expr-returns-in_default
check_expr-returns-in_default t c = expr-no-kind _ _ c.in_ok-byte.ensures c.if-depth-eq0.false (search rules)

pub check_expr-returns-in-NoneLiteral : goal.check_expr-returns-in-NoneLiteral
check_expr-returns-in-NoneLiteral t c = expr-constant _ _ c.in_ok-byte.ensures c.if-depth-eq0.false c.suits.ensures c.in-Ok.ensures c.in-NoneLiteral.is

pub check_expr-returns-in-Int : goal.check_expr-returns-in-Int
check_expr-returns-in-Int t c = expr-eight _ _ c.in_ok-byte.ensures c.if-depth-eq0.false c.suits.ensures c.in-Ok.ensures c.in-Int.is c.skip_eight.ensures

pub check_expr-returns-in-List : goal.check_expr-returns-in-List
check_expr-returns-in-List t c = expr-values _ _ c.in_ok-byte.ensures c.if-depth-eq0.false c.suits.ensures c.in-Ok.ensures c.in-List.is c.check_display.ensures

pub check_expr-returns-in-Text : goal.check_expr-returns-in-Text
unfolding expr_byte
check_expr-returns-in-Text t c = expr-step _ _ 5 c.in_ok-byte.ensures c.if-depth-eq0.false c.suits.ensures (sym c.in-Ok.ensures ∙ ap expr_byte c.in-Text.is) (λ t p w u f h s e. at-string _ _ t p w u f h s e) c.string.ensures

pub check_expr-returns-in-Variable : goal.check_expr-returns-in-Variable
unfolding expr_byte
check_expr-returns-in-Variable t c = expr-step _ _ 6 c.in_ok-byte.ensures c.if-depth-eq0.false c.suits.ensures (sym c.in-Ok.ensures ∙ ap expr_byte c.in-Variable.is) (λ t p w u f h s e. at-var _ _ t p w u f h s e) c.name.ensures

pub check_expr-returns-in-Unary : goal.check_expr-returns-in-Unary
unfolding expr_byte
check_expr-returns-in-Unary t c = expr-step _ _ 7 c.in_ok-byte.ensures c.if-depth-eq0.false c.suits.ensures (sym c.in-Ok.ensures ∙ ap expr_byte c.in-Unary.is) (λ t p w u f h s e. at-unary _ _ t p w u f h s e) c.check_unary.ensures

pub check_expr-returns-in-Binary : goal.check_expr-returns-in-Binary
unfolding expr_byte
check_expr-returns-in-Binary t c = expr-step _ _ 8 c.in_ok-byte.ensures c.if-depth-eq0.false c.suits.ensures (sym c.in-Ok.ensures ∙ ap expr_byte c.in-Binary.is) (λ t p w u f h s e. at-binary _ _ t p w u f h s e) c.check_binary.ensures

pub check_expr-returns-in-Call : goal.check_expr-returns-in-Call
unfolding expr_byte
check_expr-returns-in-Call t c = expr-step _ _ 9 c.in_ok-byte.ensures c.if-depth-eq0.false c.suits.ensures (sym c.in-Ok.ensures ∙ ap expr_byte c.in-Call.is) (λ t p w u f h s e. at_call _ _ t p w u f h s e) c.check_call.ensures

pub check_expr-returns-in-Attribute : goal.check_expr-returns-in-Attribute
unfolding expr_byte
check_expr-returns-in-Attribute t c =
    expr-step _ _ 10 c.in_ok-byte.ensures c.if-depth-eq0.false c.suits.ensures
    (sym c.in-Ok.ensures ∙ ap expr_byte c.in-Attribute.is) (λ t p w u f h s e. at-attribute _ _ t p w u f h s e) c.check_attribute.ensures

pub check_expr-returns-in-Dict : goal.check_expr-returns-in-Dict
unfolding expr_byte
check_expr-returns-in-Dict t c = expr-step _ _ 12 c.in_ok-byte.ensures c.if-depth-eq0.false c.suits.ensures (sym c.in-Ok.ensures ∙ ap expr_byte c.in-Dict.is) (λ t p w u f h s e. at-dict _ _ t p w u f h s e) c.check_pairs.ensures

pub check_expr-returns-in-Tuple : goal.check_expr-returns-in-Tuple
unfolding expr_byte
check_expr-returns-in-Tuple t c = expr-step _ _ 13 c.in_ok-byte.ensures c.if-depth-eq0.false c.suits.ensures (sym c.in-Ok.ensures ∙ ap expr_byte c.in-Tuple.is) (λ t p w u f h s e. at-tuple _ _ t p w u f h s e) c.check_tuple.ensures

pub check_expr-returns-in-Index : goal.check_expr-returns-in-Index
unfolding expr_byte
check_expr-returns-in-Index t c = expr-step _ _ 16 c.in_ok-byte.ensures c.if-depth-eq0.false c.suits.ensures (sym c.in-Ok.ensures ∙ ap expr_byte c.in-Index.is) (λ t p w u f h s e. at-index _ _ t p w u f h s e) c.check_two.ensures

pub check_expr-returns-in-Lambda : goal.check_expr-returns-in-Lambda
unfolding expr_byte
check_expr-returns-in-Lambda t c = expr-step _ _ 17 c.in_ok-byte.ensures c.if-depth-eq0.false c.suits.ensures (sym c.in-Ok.ensures ∙ ap expr_byte c.in-Lambda.is) (λ t p w u f h s e. at-lambda _ _ t p w u f h s e) c.check_lambda.ensures

pub check_lambda-returns-in_err-params : goal.check_lambda-returns-in_err-params
unfolding judge_lambda
check_lambda-returns-in_err-params t c = stop _ (search rules) c.in_err-params.ensures

pub check_lambda-returns : goal.check_lambda-returns
unfolding judge_lambda
check_lambda-returns t c = step c.in_ok-params.ensures c.check_expr.ensures

pub check_many-loop-left-init : goal.check_many-loop-left-init
check_many-loop-left-init t c = along-start _ _ _ _ (search rules)

pub check_many-returns-then-left-eq0 : goal.check_many-returns-then-left-eq0
check_many-returns-then-left-eq0 t c = along-end (many-skip c.loop-left.invariant c.skip_constants-left.ensures) (many-end _ _ _ _ (search rules))

pub check_many-returns-in_err-check_expr : goal.check_many-returns-in_err-check_expr
check_many-returns-in_err-check_expr t c = along-stop (many-turns _ _) (search rules) (many-skip c.loop-left.invariant c.skip_constants-left.ensures) c.in_err-check_expr.ensures (omega arith)

pub check_many-loop-left-preserved : goal.check_many-loop-left-preserved
check_many-loop-left-preserved t c = along-next (many-turns _ _) (many-skip c.loop-left.invariant c.skip_constants-left.ensures) c.in_ok-check_expr.ensures (omega arith)

pub check_many-returns : goal.check_many-returns
check_many-returns t c = along-end c.loop-left.invariant (many-end _ _ _ _ (search rules))

pub check_pairs-returns-in_err-n : goal.check_pairs-returns-in_err-n
unfolding judge_pairs
check_pairs-returns-in_err-n t c = count-stop _ (search rules) c.in_err-n.ensures

pub check_pairs-returns : goal.check_pairs-returns
unfolding judge_pairs
check_pairs-returns t c = count-step _ c.in_ok-n.ensures c.check_many.ensures

pub check_tuple-returns-in_err-n : goal.check_tuple-returns-in_err-n
unfolding judge_tuple
check_tuple-returns-in_err-n t c = count-stop _ (search rules) c.in_err-n.ensures

pub check_tuple-returns : goal.check_tuple-returns
unfolding judge_tuple
check_tuple-returns t c = count-step _ c.in_ok-n.ensures (noted c.fills.ensures (tuple-role _ _ _ c.within.ensures c.check_many.ensures))

pub check_two-returns-in_err-check_expr : goal.check_two-returns-in_err-check_expr
unfolding judge_two
check_two-returns-in_err-check_expr t c = stop _ (search rules) c.in_err-check_expr.ensures

pub check_two-returns : goal.check_two-returns
unfolding judge_two
check_two-returns t c = step c.in_ok-check_expr.ensures c.check_expr-2.ensures

pub check_unary-returns-in_err-operator : goal.check_unary-returns-in_err-operator
unfolding judge_unary
check_unary-returns-in_err-operator t c = guard-stop (judge_expr Value c.args.depth) _ (search rules) c.in_err-operator.ensures

pub check_unary-returns : goal.check_unary-returns
unfolding judge_unary
check_unary-returns t c = guard-step _ c.in_ok-operator.ensures c.check_expr.ensures
