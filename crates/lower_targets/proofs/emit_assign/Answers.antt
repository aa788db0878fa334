use mathlib.Core.Path.{refl, sym}
use Rattle.numerals.specs.Kinds.{expr_byte}
use Rattle.numerals.specs.declared.kinds.ExprKind.TheVariants.{Variable, Attribute, Tuple, Index}
use Rattle.tree_view.proofs.ExprViews.{expr-known}
use Rattle.lower_emit.proofs.Parts.{emits-by}
use Rattle.lower_forms.proofs.Assigning.{assign-inside, arm-variable, arm-attribute, arm-tuple, arm-index, arm-other, second-at}
use Rattle.lower_calls.proofs.Words.{nothing-emits}
use Rattle.lower_calls.proofs.KindBytes.{byte-is, other-kind}
use Rattle.lower_targets.proofs.emit_assign.Goals as goal

pub bounds-s-at : goal.bounds-s-at
bounds-s-at c = assign-inside _ _ _ c.requires.1

pub of-requires : goal.of-requires
of-requires c = expr-known _ _ _ c.requires.1.target

pub assign_variable-requires : goal.assign_variable-requires
unfolding expr_byte
assign_variable-requires c = (c.requires.0, (arm-variable _ _ _ c.requires.1 (byte-is Variable c.of.ensures c.in-Variable.is)).parts)

pub returns-in-Variable : goal.returns-in-Variable
unfolding expr_byte
returns-in-Variable c = let m = arm-variable _ _ _ c.requires.1 (byte-is Variable c.of.ensures c.in-Variable.is) in emits-by c.assign_variable.ensures (sym (m.code _)) m.end

pub assign_attribute-requires : goal.assign_attribute-requires
unfolding expr_byte
assign_attribute-requires c = (c.requires.0, (arm-attribute _ _ _ c.requires.1 (byte-is Attribute c.of.ensures c.in-Attribute.is)).parts)

pub returns-in-Attribute : goal.returns-in-Attribute
unfolding expr_byte
returns-in-Attribute c = let m = arm-attribute _ _ _ c.requires.1 (byte-is Attribute c.of.ensures c.in-Attribute.is) in emits-by c.assign_attribute.ensures (sym (m.code _)) m.end

pub assign_tuple-requires : goal.assign_tuple-requires
unfolding expr_byte
assign_tuple-requires c = (c.requires.0, (arm-tuple _ _ _ c.requires.1 (byte-is Tuple c.of.ensures c.in-Tuple.is)).parts)

pub returns-in-Tuple : goal.returns-in-Tuple
unfolding expr_byte
returns-in-Tuple c = let m = arm-tuple _ _ _ c.requires.1 (byte-is Tuple c.of.ensures c.in-Tuple.is) in emits-by c.assign_tuple.ensures (sym (m.code _)) m.end

pub assign_index-requires : goal.assign_index-requires
unfolding expr_byte
assign_index-requires c = (c.requires.0, (arm-index _ _ _ c.requires.1 (byte-is Index c.of.ensures c.in-Index.is)).parts)

pub returns-in-Index : goal.returns-in-Index
unfolding expr_byte
returns-in-Index c = let m = arm-index _ _ _ c.requires.1 (byte-is Index c.of.ensures c.in-Index.is) in emits-by c.assign_index.ensures (sym (m.code _)) m.end

pub returns-in_default : goal.returns-in_default
unfolding expr_byte
returns-in_default c =
    let o = c.in_default in let e = c.of.ensures in let z = second-at _ _ _ _ _ c.skip_expr.ensures c.skip_expr-in_default.ensures in
    emits-by (nothing-emits c.requires.0.sound z) (arm-other _ _ _ c.requires.1 _ (other-kind Variable e o.not-Variable) (other-kind Attribute e o.not-Attribute) (other-kind Tuple e o.not-Tuple) (other-kind Index e o.not-Index)) refl
