use native.Mathlib.Omega.{arith}
use mathlib.Core.Path.{refl, sym}
use Rattle.numerals.specs.Kinds.{expr_byte}
use Rattle.tree_view.proofs.ExprViews.{expr-inside, expr-deep, expr-known, view-string, view-var, view-unary, view-binary, view-call, view-attribute, view-dict, view-index, view-lambda}
use Rattle.slots.proofs.KindGroups.{constant-byte, number-byte, display-byte}
use Rattle.slots.proofs.Kinded.{seen-display}
use Rattle.slots.proofs.Skipping.{plain_done, number-done, string-done, var-done, unary-done, binary-done, call-done, attribute-done, display-done, dict-done, index-done, lambda-done, exprs-head, exprs-done}
use Rattle.slots.proofs.skip.+skip_exprs.Goals as goal

pub skip_expr-bounds-tree-at : goal.skip_expr-bounds-tree-at
skip_expr-bounds-tree-at t c = let h = expr-inside _ _ _ c.requires in omega arith

pub skip_expr-of-requires : goal.skip_expr-of-requires
skip_expr-of-requires t c = expr-known _ _ _ c.requires

pub skip_expr-text_end-requires : goal.skip_expr-text_end-requires
unfolding expr_byte
skip_expr-text_end-requires t c = (view-string _ _ _ c.requires (sym c.in-Text.ensures)).parts

pub skip_expr-name_end-requires : goal.skip_expr-name_end-requires
unfolding expr_byte
skip_expr-name_end-requires t c = (view-var _ _ _ c.requires (sym c.in-Variable.ensures)).parts

pub skip_expr-overflow_sub-depth : goal.skip_expr-overflow_sub-depth
skip_expr-overflow_sub-depth t c = let h = expr-deep _ _ _ c.requires in omega arith

pub skip_expr-skip_expr-requires : goal.skip_expr-skip_expr-requires
unfolding expr_byte
skip_expr-skip_expr-requires t c = let h = expr-deep _ _ _ c.requires in (omega arith, (view-unary _ _ _ c.requires (sym c.in-Unary.ensures)).parts.operand)

pub skip_expr-overflow_sub-depth-in-Binary : goal.skip_expr-overflow_sub-depth-in-Binary
skip_expr-overflow_sub-depth-in-Binary t c = let h = expr-deep _ _ _ c.requires in omega arith

pub skip_expr-skip_two-requires : goal.skip_expr-skip_two-requires
unfolding expr_byte
skip_expr-skip_two-requires t c = let h = expr-deep _ _ _ c.requires in (omega arith, (view-binary _ _ _ c.requires (sym c.in-Binary.ensures)).parts.operands)

pub skip_expr-overflow_sub-depth-in-Call : goal.skip_expr-overflow_sub-depth-in-Call
skip_expr-overflow_sub-depth-in-Call t c = let h = expr-deep _ _ _ c.requires in omega arith

pub skip_expr-skip_call-requires : goal.skip_expr-skip_call-requires
unfolding expr_byte
skip_expr-skip_call-requires t c = let h = expr-deep _ _ _ c.requires in (omega arith, (view-call _ _ _ c.requires (sym c.in-Call.ensures)).parts)

pub skip_expr-overflow_sub-depth-in-Attribute : goal.skip_expr-overflow_sub-depth-in-Attribute
skip_expr-overflow_sub-depth-in-Attribute t c = let h = expr-deep _ _ _ c.requires in omega arith

pub skip_expr-skip_attribute-requires : goal.skip_expr-skip_attribute-requires
unfolding expr_byte
skip_expr-skip_attribute-requires t c = let h = expr-deep _ _ _ c.requires in (omega arith, (view-attribute _ _ _ c.requires (sym c.in-Attribute.ensures)).parts)

pub skip_expr-overflow_sub-depth-in-List : goal.skip_expr-overflow_sub-depth-in-List
skip_expr-overflow_sub-depth-in-List t c = let h = expr-deep _ _ _ c.requires in omega arith

pub skip_expr-skip_list-requires : goal.skip_expr-skip_list-requires
skip_expr-skip_list-requires t c = let h = expr-deep _ _ _ c.requires in (omega arith, (seen-display _ _ _ c.requires (display-byte c.of.ensures c.in-List.is)).1.parts)

pub skip_expr-overflow_sub-depth-in-Dict : goal.skip_expr-overflow_sub-depth-in-Dict
skip_expr-overflow_sub-depth-in-Dict t c = let h = expr-deep _ _ _ c.requires in omega arith

pub skip_expr-skip_dict-requires : goal.skip_expr-skip_dict-requires
unfolding expr_byte
skip_expr-skip_dict-requires t c = let h = expr-deep _ _ _ c.requires in (omega arith, (view-dict _ _ _ c.requires (sym c.in-Dict.ensures)).parts)

pub skip_expr-overflow_sub-depth-in-Index : goal.skip_expr-overflow_sub-depth-in-Index
skip_expr-overflow_sub-depth-in-Index t c = let h = expr-deep _ _ _ c.requires in omega arith

pub skip_expr-skip_two-requires-in-Index : goal.skip_expr-skip_two-requires-in-Index
unfolding expr_byte
skip_expr-skip_two-requires-in-Index t c = let h = expr-deep _ _ _ c.requires in (omega arith, (view-index _ _ _ c.requires (sym c.in-Index.ensures)).parts)

pub skip_expr-overflow_sub-depth-in-Lambda : goal.skip_expr-overflow_sub-depth-in-Lambda
skip_expr-overflow_sub-depth-in-Lambda t c = let h = expr-deep _ _ _ c.requires in omega arith

pub skip_expr-skip_lambda-requires : goal.skip_expr-skip_lambda-requires
unfolding expr_byte
skip_expr-skip_lambda-requires t c = let h = expr-deep _ _ _ c.requires in (omega arith, (view-lambda _ _ _ c.requires (sym c.in-Lambda.ensures)).parts)

pub skip_expr-returns-in-NoneLiteral : goal.skip_expr-returns-in-NoneLiteral
skip_expr-returns-in-NoneLiteral t c = plain_done _ _ _ c.requires (constant-byte c.of.ensures c.in-NoneLiteral.is)

pub skip_expr-returns-in-Int : goal.skip_expr-returns-in-Int
skip_expr-returns-in-Int t c = number-done _ _ _ c.requires _ (number-byte c.of.ensures c.in-Int.is) refl

pub skip_expr-returns-in-Text : goal.skip_expr-returns-in-Text
unfolding expr_byte
skip_expr-returns-in-Text t c = string-done _ _ _ c.requires _ (sym c.in-Text.ensures) c.text_end.ensures

pub skip_expr-returns-in-Variable : goal.skip_expr-returns-in-Variable
unfolding expr_byte
skip_expr-returns-in-Variable t c = var-done _ _ _ c.requires _ (sym c.in-Variable.ensures) c.name_end.ensures

pub skip_expr-returns-in-Unary : goal.skip_expr-returns-in-Unary
unfolding expr_byte
skip_expr-returns-in-Unary t c = unary-done _ _ _ c.requires _ (sym c.in-Unary.ensures) c.skip_expr.ensures

pub skip_expr-returns-in-Binary : goal.skip_expr-returns-in-Binary
unfolding expr_byte
skip_expr-returns-in-Binary t c = binary-done _ _ _ c.requires _ (sym c.in-Binary.ensures) c.skip_two.ensures

pub skip_expr-returns-in-Call : goal.skip_expr-returns-in-Call
unfolding expr_byte
skip_expr-returns-in-Call t c = call-done _ _ _ c.requires _ (sym c.in-Call.ensures) c.skip_call.ensures

pub skip_expr-returns-in-Attribute : goal.skip_expr-returns-in-Attribute
unfolding expr_byte
skip_expr-returns-in-Attribute t c = attribute-done _ _ _ c.requires _ (sym c.in-Attribute.ensures) c.skip_attribute.ensures

pub skip_expr-returns-in-Dict : goal.skip_expr-returns-in-Dict
unfolding expr_byte
skip_expr-returns-in-Dict t c = dict-done _ _ _ c.requires _ (sym c.in-Dict.ensures) c.skip_dict.ensures

pub skip_expr-returns-in-Index : goal.skip_expr-returns-in-Index
unfolding expr_byte
skip_expr-returns-in-Index t c = index-done _ _ _ c.requires _ (sym c.in-Index.ensures) c.skip_two-in-Index.ensures

pub skip_expr-returns-in-Lambda : goal.skip_expr-returns-in-Lambda
unfolding expr_byte
skip_expr-returns-in-Lambda t c = lambda-done _ _ _ c.requires _ (sym c.in-Lambda.ensures) c.skip_lambda.ensures

pub skip_expr-returns-in-List : goal.skip_expr-returns-in-List
skip_expr-returns-in-List t c = display-done _ _ _ c.requires _ (display-byte c.of.ensures c.in-List.is) c.skip_list.ensures

pub skip_many-skip_each-requires : goal.skip_many-skip_each-requires
skip_many-skip_each-requires t c = λ m q i w. (omega arith, exprs-head _ _ _ _ c.requires (λ q o s. s) m q i w)

pub skip_many-returns : goal.skip_many-returns
skip_many-returns t c = exprs-done _ _ _ _ c.requires (λ q o s. s) _ c.skip_each.ensures

pub skip_value-bounds-tree-at : goal.skip_value-bounds-tree-at
skip_value-bounds-tree-at t c = let h = expr-inside _ _ _ c.requires in omega arith

pub skip_value-of-requires : goal.skip_value-of-requires
skip_value-of-requires t c = expr-known _ _ _ c.requires

pub skip_value-name_end-requires : goal.skip_value-name_end-requires
unfolding expr_byte
skip_value-name_end-requires t c = (view-var _ _ _ c.requires (sym c.in-Variable.ensures)).parts

pub skip_value-returns-in-NoneLiteral : goal.skip_value-returns-in-NoneLiteral
skip_value-returns-in-NoneLiteral t c = plain_done _ _ _ c.requires (constant-byte c.of.ensures c.in-NoneLiteral.is)

pub skip_value-returns-in-Int : goal.skip_value-returns-in-Int
skip_value-returns-in-Int t c = number-done _ _ _ c.requires _ (number-byte c.of.ensures c.in-Int.is) (omega arith)

pub skip_value-returns-in-Variable : goal.skip_value-returns-in-Variable
unfolding expr_byte
skip_value-returns-in-Variable t c = var-done _ _ _ c.requires _ (sym c.in-Variable.ensures) c.name_end.ensures
