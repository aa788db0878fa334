-- A target and a value, by the target's form.
use native.Mathlib.Omega.{arith}
use Prim.Native.Nat.{ℕ}
use mathlib.Core.Path.{refl, sym, subst}
use Rattle.numerals.specs.Kinds.{expr_byte}
use Rattle.numerals.specs.declared.kinds.ExprKind.TheVariants.{Variable, Attribute, Tuple, Index}
use Rattle.opcodes.proofs.KindBytes.{byte-is, other-kind}
use Rattle.tree_view.specs.Places.{There}
use Rattle.tree_view.proofs.ExprViews.{expr-inside, expr-deep, expr-known, view-var, view-attribute, view-tuple, view-index}
use Rattle.measure.proofs.Measuring.{few}
use Rattle.measure_stmts.proofs.Targeting.{second-var, second-attribute, second-tuple, tuple-few, index-there, second-index, index-few}
use Rattle.measure_stmts.proofs.Targeting.{assign-var, assign-attribute, assign-tuple, assign-index, assign_other}
use Rattle.measure_stmts.proofs.targets.measure_assign.Goals as goal

pub bounds-tree-at : goal.bounds-tree-at
bounds-tree-at c = expr-inside _ _ _ c.requires.first

pub of-requires : goal.of-requires
of-requires c = expr-known _ _ _ c.requires.first

-- ---- a variable

pub name_end-requires : goal.name_end-requires
unfolding expr_byte
name_end-requires c = (view-var _ _ _ c.requires.first (byte-is Variable c.of.ensures c.in-Variable.is)).parts

pub more-requires : goal.more-requires
unfolding expr_byte
more-requires c = (second-var _ _ _ c.requires _ (byte-is Variable c.of.ensures c.in-Variable.is) c.name_end.ensures, omega arith)

pub returns-in-Variable : goal.returns-in-Variable
unfolding expr_byte
returns-in-Variable c = assign-var _ _ _ _ _ _ c.requires _ (byte-is Variable c.of.ensures c.in-Variable.is) c.name_end.ensures c.more.ensures

-- ---- an attribute

pub overflow_sub-depth : goal.overflow_sub-depth
overflow_sub-depth c = let h = expr-deep _ _ _ c.requires.first in omega arith

pub expr-object-requires : goal.expr-object-requires
unfolding expr_byte
expr-object-requires c = (view-attribute _ _ _ c.requires.first (byte-is Attribute c.of.ensures c.in-Attribute.is)).parts.object

pub name_end-value-requires : goal.name_end-value-requires
unfolding expr_byte
name_end-value-requires c = subst (λ (q : ℕ). There c.args.m.scope.tree.now q) (sym c.expr-object.ensures.next_is) (view-attribute _ _ _ c.requires.first (byte-is Attribute c.of.ensures c.in-Attribute.is)).parts.name

pub overflow_add-object : goal.overflow_add-object
unfolding expr_byte
overflow_add-object c = omega (arith, few _ _ _ _ _ c.args.m.short (view-attribute _ _ _ c.requires.first (byte-is Attribute c.of.ensures c.in-Attribute.is)).parts.object c.expr-object.ensures)

pub more-requires-in-Attribute : goal.more-requires-in-Attribute
unfolding expr_byte
more-requires-in-Attribute c = (
  second-attribute _ _ _ c.requires _ _ (byte-is Attribute c.of.ensures c.in-Attribute.is) c.expr-object.ensures.next_is c.name_end-value.ensures,
  omega (arith, few _ _ _ _ _ c.args.m.short (view-attribute _ _ _ c.requires.first (byte-is Attribute c.of.ensures c.in-Attribute.is)).parts.object c.expr-object.ensures),
)

pub returns-in-Attribute : goal.returns-in-Attribute
unfolding expr_byte
returns-in-Attribute c = assign-attribute _ _ _ _ _ _ c.requires _ _ (byte-is Attribute c.of.ensures c.in-Attribute.is) c.expr-object.ensures c.name_end-value.ensures c.more-in-Attribute.ensures

-- ---- a tuple

pub overflow_sub-depth-in-Tuple : goal.overflow_sub-depth-in-Tuple
overflow_sub-depth-in-Tuple c = let h = expr-deep _ _ _ c.requires.first in omega arith

pub measure_elements-all-requires : goal.measure_elements-all-requires
unfolding expr_byte
measure_elements-all-requires c = (c.args.m.short, (view-tuple _ _ _ c.requires.first (byte-is Tuple c.of.ensures c.in-Tuple.is)).parts)

pub more-requires-in-Tuple : goal.more-requires-in-Tuple
unfolding expr_byte
more-requires-in-Tuple c =
    (second-tuple _ _ _ c.requires _ (byte-is Tuple c.of.ensures c.in-Tuple.is) c.measure_elements-all.ensures.next_is, tuple-few _ _ _ c.requires _ _ c.args.m.short (byte-is Tuple c.of.ensures c.in-Tuple.is) c.measure_elements-all.ensures)

pub returns-in-Tuple : goal.returns-in-Tuple
unfolding expr_byte
returns-in-Tuple c = assign-tuple _ _ _ _ _ _ c.requires _ (byte-is Tuple c.of.ensures c.in-Tuple.is) c.measure_elements-all.ensures c.more-in-Tuple.ensures

-- ---- an index

pub overflow_sub-depth-in-Index : goal.overflow_sub-depth-in-Index
overflow_sub-depth-in-Index c = let h = expr-deep _ _ _ c.requires.first in omega arith

pub expr-object-requires-in-Index : goal.expr-object-requires-in-Index
unfolding expr_byte
expr-object-requires-in-Index c = (view-index _ _ _ c.requires.first (byte-is Index c.of.ensures c.in-Index.is)).parts.first

pub overflow_sub-depth-in-Index-2 : goal.overflow_sub-depth-in-Index-2
overflow_sub-depth-in-Index-2 c = let h = expr-deep _ _ _ c.requires.first in omega arith

pub overflow_add-object-in-Index : goal.overflow_add-object-in-Index
unfolding expr_byte
overflow_add-object-in-Index c = omega (arith, few _ _ _ _ _ c.args.m.short (view-index _ _ _ c.requires.first (byte-is Index c.of.ensures c.in-Index.is)).parts.first c.expr-object-in-Index.ensures)

pub more-index-requires : goal.more-index-requires
unfolding expr_byte
more-index-requires c = (
  index-there _ _ _ c.requires _ _ (byte-is Index c.of.ensures c.in-Index.is) c.expr-object-in-Index.ensures,
  omega (arith, few _ _ _ _ _ c.args.m.short (view-index _ _ _ c.requires.first (byte-is Index c.of.ensures c.in-Index.is)).parts.first c.expr-object-in-Index.ensures),
)

pub more-requires-in-Index : goal.more-requires-in-Index
unfolding expr_byte
more-requires-in-Index c = (
  second-index _ _ _ c.requires _ _ (byte-is Index c.of.ensures c.in-Index.is) c.expr-object-in-Index.ensures _ c.more-index.ensures.next_is,
  index-few _ _ _ c.requires _ _ (byte-is Index c.of.ensures c.in-Index.is) c.expr-object-in-Index.ensures _ _ c.args.m.short c.more-index.ensures,
)

pub returns-in-Index : goal.returns-in-Index
unfolding expr_byte
returns-in-Index c = assign-index _ _ _ _ _ _ c.requires _ _ (byte-is Index c.of.ensures c.in-Index.is) c.expr-object-in-Index.ensures c.more-index.ensures c.more-in-Index.ensures

-- ---- no other target is accepted

pub returns-in_default : goal.returns-in_default
unfolding expr_byte
returns-in_default c =
    assign_other _ _ _ _ _ _ c.requires _ (other-kind Variable c.of.ensures c.in_default.not-Variable) (other-kind Attribute c.of.ensures c.in_default.not-Attribute) (other-kind Tuple c.of.ensures c.in_default.not-Tuple)
    (other-kind Index c.of.ensures c.in_default.not-Index) c.skip_expr-value.ensures refl c.skip_expr-next.ensures
