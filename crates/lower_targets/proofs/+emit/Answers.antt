-- The answers for targets and elements of tuple targets.
use mathlib.Core.Path.{refl, sym}
use mathlib.Core.List.{[]}
use native.Mathlib.Omega.{arith}
use Rattle.numerals.specs.Kinds.{expr_byte}
use Rattle.numerals.specs.declared.kinds.ExprKind.TheVariants.{Variable, Tuple}
use Rattle.tree_view.specs.ExprAt.{expr_at}
use Rattle.tree_view.proofs.ExprViews.{expr-inside, expr-known}
use Rattle.state.specs.State.{slot_names}
use Rattle.definitions.proofs.Growth.{lengthens-unpack, lengthens-target}
use Rattle.lower_forms.proofs.Unpacking.{tuple-read, target-deep, target-variable, target-tuple, target-tuple-is, elements-more, halves-read, later-read}
use Rattle.lower_forms.proofs.Sole.{sole-at}
use Rattle.lower_emit.proofs.Steps.{lowers-by, lowers-state, lowers-nothing, lowers_then, lowers-stopped, sound-next, writes-in}
use Rattle.lower_calls.proofs.KindBytes.{byte-is, other-kind}
use Rattle.lower_targets.proofs.Assigned.{target-state, none-state, one_state, halves-state}
use Rattle.lower_targets.proofs.+emit.Goals as goal

pub emit_assign_target-bounds-s-at : goal.emit_assign_target-bounds-s-at
emit_assign_target-bounds-s-at t c = expr-inside _ _ _ c.requires.1

pub emit_assign_target-of-requires : goal.emit_assign_target-of-requires
emit_assign_target-of-requires t c = expr-known _ _ _ c.requires.1

pub emit_assign_target-emit_store-requires : goal.emit_assign_target-emit_store-requires
unfolding expr_byte
emit_assign_target-emit_store-requires t c = (c.requires.0.sound, omega (arith, (target-variable _ _ [] _ c.requires.1 (byte-is Variable c.of.ensures c.in-Variable.is)).0.byte, c.requires.0.tree-short))

pub emit_assign_target-returns-in-Variable : goal.emit_assign_target-returns-in-Variable
unfolding expr_byte
emit_assign_target-returns-in-Variable t c = let s = c.args.s in lowers-by c.emit_store.ensures.lowers (sym (target-variable _ _ (slot_names s.tree.now s.slots.now) _ c.requires.1 (byte-is Variable c.of.ensures c.in-Variable.is)).1)

pub emit_assign_target-u16_at-requires : goal.emit_assign_target-u16_at-requires
unfolding expr_byte
emit_assign_target-u16_at-requires t c = (target-tuple _ _ [] _ c.requires.1 (byte-is Tuple c.of.ensures c.in-Tuple.is)).0.count

pub emit_assign_target-overflow_sub-depth : goal.emit_assign_target-overflow_sub-depth
emit_assign_target-overflow_sub-depth t c = target-deep _ _ [] _ c.requires.1

pub emit_assign_target-emit_elements-requires : goal.emit_assign_target-emit_elements-requires
unfolding expr_byte
emit_assign_target-emit_elements-requires t c =
    let u = c.u16_at.ensures in
    (omega (arith, c.decreases, target-deep _ _ [] _ c.requires.1, u.1), (c.requires.0, tuple-read _ _ _ _ u.0 (target-tuple _ _ [] _ c.requires.1 (byte-is Tuple c.of.ensures c.in-Tuple.is)).0, omega (arith, u.1)))

pub emit_assign_target-returns-in-Tuple : goal.emit_assign_target-returns-in-Tuple
unfolding expr_byte
emit_assign_target-returns-in-Tuple t c =
    let s = c.args.s in lowers-by c.emit_elements.ensures (sym (target-tuple-is _ _ (slot_names s.tree.now s.slots.now) _ c.requires.1 _ (byte-is Tuple c.of.ensures c.in-Tuple.is) c.u16_at.ensures.0))

pub emit_assign_target-returns-in_default : goal.emit_assign_target-returns-in_default
unfolding expr_byte
emit_assign_target-returns-in_default t c =
    let s = c.args.s in
    lowers-state (lowers-nothing c.requires.0.sound) (target-state c.requires.0.sound c.args.depth (slot_names s.tree.now s.slots.now) c.args.at c.requires.1
    (other-kind Variable c.of.ensures c.in_default.not-Variable) (other-kind Tuple c.of.ensures c.in_default.not-Tuple))

pub emit_elements-returns-then-n-eq0 : goal.emit_elements-returns-then-n-eq0
emit_elements-returns-then-n-eq0 t c =
    let s = c.args.s in lowers-state (lowers-nothing c.requires.0.sound) (none-state c.requires.0.sound c.args.depth (slot_names s.tree.now s.slots.now) c.args.n c.args.at c.args.i c.if-n-eq0.true)

pub emit_elements-returns-in_err-put_element : goal.emit_elements-returns-in_err-put_element
emit_elements-returns-in_err-put_element t c =
    let s = c.args.s in let names = slot_names s.tree.now s.slots.now in
    lowers-state (lowers-stopped c.in_err-put_element.was c.from_residual.ensures c.requires.0.sound (lengthens-target names (expr_at c.args.depth s.tree.now c.args.at).value) (writes-in c.requires.0.sound refl c.put_element.ensures))
    (one_state c.requires.0.sound c.args.depth names c.args.n c.args.at c.args.i c.if-n-eq1.true)

pub emit_elements-emit_assign_target-requires : goal.emit_elements-emit_assign_target-requires
emit_elements-emit_assign_target-requires t c = (
  omega (arith, c.decreases, c.if-n-eq1.true),
  (sole-at c.requires.0 (sound-next c.in_ok-put_element.was (writes-in c.requires.0.sound refl c.put_element.ensures).reaches), (elements-more _ _ _ _ (omega (arith, c.if-n-eq1.true)) c.requires.1).0),
)

pub emit_elements-returns-then-n-eq1 : goal.emit_elements-returns-then-n-eq1
emit_elements-returns-then-n-eq1 t c =
    let s = c.args.s in
    lowers-state (lowers_then c.in_ok-put_element.was c.requires.0.sound (writes-in c.requires.0.sound refl c.put_element.ensures) c.emit_assign_target.ensures)
    (one_state c.requires.0.sound c.args.depth (slot_names s.tree.now s.slots.now) c.args.n c.args.at c.args.i c.if-n-eq1.true)

pub emit_elements-skip_exprs-middle-requires : goal.emit_elements-skip_exprs-middle-requires
emit_elements-skip_exprs-middle-requires t c = (halves-read _ _ _ _ _ (omega arith) c.requires.1).0

pub emit_elements-emit_elements-requires : goal.emit_elements-emit_elements-requires
emit_elements-emit_elements-requires t c = (
  omega (arith, c.decreases, c.if-n-eq0.false, c.if-n-eq1.false),
  (c.requires.0, later-read _ _ _ _ _ _ (omega arith) c.skip_exprs-middle.ensures c.requires.1, omega (arith, c.requires.2)),
)

pub emit_elements-returns-in_err-emit_elements : goal.emit_elements-returns-in_err-emit_elements
emit_elements-returns-in_err-emit_elements t c =
    let s = c.args.s in let names = slot_names s.tree.now s.slots.now in
    lowers-state (lowers-stopped c.in_err-emit_elements.was c.from_residual-in_err-emit_elements.ensures c.requires.0.sound (lengthens-unpack names _ _) c.emit_elements.ensures)
    (halves-state c.requires.0.sound c.args.depth names _ _ _ _ _ (omega arith) c.skip_exprs-middle.ensures)

pub emit_elements-emit_elements-requires-2 : goal.emit_elements-emit_elements-requires-2
emit_elements-emit_elements-requires-2 t c = (
  omega (arith, c.decreases, c.if-n-eq0.false, c.if-n-eq1.false),
  (sole-at c.requires.0 (sound-next c.in_ok-emit_elements.was c.emit_elements.ensures.reaches), (halves-read _ _ _ _ _ (omega arith) c.requires.1).0, omega (arith, c.requires.2)),
)

pub emit_elements-returns : goal.emit_elements-returns
emit_elements-returns t c =
    let s = c.args.s in
    lowers-state (lowers_then c.in_ok-emit_elements.was c.requires.0.sound c.emit_elements.ensures c.emit_elements-2.ensures)
    (halves-state c.requires.0.sound c.args.depth (slot_names s.tree.now s.slots.now) _ _ _ _ _ (omega arith) c.skip_exprs-middle.ensures)
