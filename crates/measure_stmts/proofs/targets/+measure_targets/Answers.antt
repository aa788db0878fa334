use native.Mathlib.Omega.{arith}
use mathlib.Core.Path.{refl}
use Rattle.numerals.specs.Kinds.{expr_byte}
use Rattle.numerals.specs.declared.kinds.ExprKind.TheVariants.{Variable, Tuple}
use Rattle.opcodes.proofs.KindBytes.{byte-is, other-kind}
use Rattle.tree_view.proofs.ExprViews.{expr-inside, expr-deep, expr-known, view-var, view-tuple}
use Rattle.measure_stmts.proofs.Targeting.{target-var, target-tuple, target_none, elements-start, elements-head, elements-few, elements-next, elements-done}
use Rattle.measure_stmts.proofs.targets.+measure_targets.Goals as goal

-- ---- a target

pub measure_target-bounds-tree-at : goal.measure_target-bounds-tree-at
measure_target-bounds-tree-at t c = expr-inside _ _ _ c.requires.1

pub measure_target-of-requires : goal.measure_target-of-requires
measure_target-of-requires t c = expr-known _ _ _ c.requires.1

pub measure_target-name_end-next-requires : goal.measure_target-name_end-next-requires
unfolding expr_byte
measure_target-name_end-next-requires t c = (view-var _ _ _ c.requires.1 (byte-is Variable c.of.ensures c.in-Variable.is)).parts

pub measure_target-overflow_sub-depth : goal.measure_target-overflow_sub-depth
measure_target-overflow_sub-depth t c = let h = expr-deep _ _ _ c.requires.1 in omega arith

pub measure_target-measure_elements-requires : goal.measure_target-measure_elements-requires
unfolding expr_byte
measure_target-measure_elements-requires t c =
    let h = expr-deep _ _ _ c.requires.1 in (omega arith, (c.requires.0, (view-tuple _ _ _ c.requires.1 (byte-is Tuple c.of.ensures c.in-Tuple.is)).parts))

pub measure_target-returns-in-Variable : goal.measure_target-returns-in-Variable
unfolding expr_byte
measure_target-returns-in-Variable t c = target-var _ _ _ _ c.requires.1 (byte-is Variable c.of.ensures c.in-Variable.is) refl c.name_end-next.ensures

pub measure_target-returns-in-Tuple : goal.measure_target-returns-in-Tuple
unfolding expr_byte
measure_target-returns-in-Tuple t c = target-tuple _ _ _ _ c.requires.1 (byte-is Tuple c.of.ensures c.in-Tuple.is) c.measure_elements.ensures

pub measure_target-returns-in_default : goal.measure_target-returns-in_default
unfolding expr_byte
measure_target-returns-in_default t c =
    target_none _ _ _ _ c.requires.1 (other-kind Variable c.of.ensures c.in_default.not-Variable) (other-kind Tuple c.of.ensures c.in_default.not-Tuple) refl c.skip_expr-next.ensures

-- ---- elements

pub measure_elements-u16_at-count-requires : goal.measure_elements-u16_at-count-requires
measure_elements-u16_at-count-requires t c = c.requires.1.count

pub measure_elements-loop-init : goal.measure_elements-loop-init
measure_elements-loop-init t c = elements-start _ _ _ _ _ c.requires.1 c.u16_at-count.ensures.0 (omega arith)

pub measure_elements-measure_target-one-requires : goal.measure_elements-measure_target-one-requires
measure_elements-measure_target-one-requires t c = (omega arith, (c.requires.0, elements-head _ _ _ _ _ _ _ _ c.loop.invariant (omega (arith, c.loop-test.true))))

pub measure_elements-overflow_add-size : goal.measure_elements-overflow_add-size
measure_elements-overflow_add-size t c =
    omega (arith, elements-few _ _ _ _ _ _ _ _ c.loop.invariant (omega (arith, c.loop-test.true)) _ c.requires.0 c.measure_target-one.ensures)

pub measure_elements-overflow_add-size-in-loop : goal.measure_elements-overflow_add-size-in-loop
measure_elements-overflow_add-size-in-loop t c =
    omega (arith, elements-few _ _ _ _ _ _ _ _ c.loop.invariant (omega (arith, c.loop-test.true)) _ c.requires.0 c.measure_target-one.ensures)

pub measure_elements-overflow_add-size-in-loop-2 : goal.measure_elements-overflow_add-size-in-loop-2
measure_elements-overflow_add-size-in-loop-2 t c =
    omega (arith, elements-few _ _ _ _ _ _ _ _ c.loop.invariant (omega (arith, c.loop-test.true)) _ c.requires.0 c.measure_target-one.ensures)

pub measure_elements-loop-preserved : goal.measure_elements-loop-preserved
measure_elements-loop-preserved t c =
    elements-next _ _ _ _ _ _ _ _ c.loop.invariant (omega (arith, c.loop-test.true)) _ _ _ c.measure_target-one.ensures refl (omega arith)

pub measure_elements-returns : goal.measure_elements-returns
measure_elements-returns t c = elements-done _ _ _ _ _ _ _ _ c.loop.invariant _ _ (omega (arith, c.loop-test.false)) c.u16_at-count.ensures.0 refl refl refl
