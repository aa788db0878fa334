use Prim.Native.Nat.{ℕ, ◌+◌, ◌-◌}
use mathlib.Core.Path.{sym, ap}
use native.Mathlib.Omega.{arith}
use Rattle.definitions.specs.Lower.{unpack}
use Rattle.state.specs.State.{slot_names}
use Rattle.definitions.proofs.Growth.{lengthens-unpack}
use Rattle.lower_emit.proofs.Steps.{lowers-by}
use Rattle.lower_emit.proofs.Parts.{emits-stopped, emits-words, emits-no-words}
use Rattle.lower_forms.specs.Elements.{elements_at}
use Rattle.lower_forms.proofs.Unpacking.{tuple-read}
use Rattle.lower_calls.proofs.Words.{sole-after}
use Rattle.lower_targets.proofs.Assigned.{expr-by}
use Rattle.lower_targets.proofs.assign_tuple.Goals as goal

pub returns-in_err-next : goal.returns-in_err-next
returns-in_err-next c = emits-stopped c.in_err-next.was c.from_residual.ensures c.requires.0.sound (lengthens-unpack _ _ _) (expr-by _ _ c.skip_expr-start.ensures c.emit_expr.ensures)

pub emit_elements-requires : goal.emit_elements-requires
emit_elements-requires c = let u = c.u16_at-n.ensures in (sole-after c.requires.0 c.in_ok-next.was c.emit_expr.ensures, tuple-read _ _ _ _ u.0 c.requires.1.elements, omega (arith, u.1))

pub returns-in_err-emit_elements : goal.returns-in_err-emit_elements
returns-in_err-emit_elements c =
    let s = c.args.s in
    emits-no-words c.in_ok-next.was c.in_err-emit_elements.was c.from_residual-in_err-emit_elements.ensures c.requires.0.sound (expr-by _ _ c.skip_expr-start.ensures c.emit_expr.ensures)
    (lowers-by c.emit_elements.ensures (ap (λ (m : ℕ). unpack (slot_names s.tree.now s.slots.now) (elements_at (c.args.depth - 1) s.tree.now m (c.args.at + 3)) 0) (sym c.u16_at-n.ensures.0)))

pub returns : goal.returns
returns c =
    let s = c.args.s in
    emits-words c.in_ok-next.was c.in_ok-emit_elements.was c.requires.0.sound (expr-by _ _ c.skip_expr-start.ensures c.emit_expr.ensures)
    (lowers-by c.emit_elements.ensures (ap (λ (m : ℕ). unpack (slot_names s.tree.now s.slots.now) (elements_at (c.args.depth - 1) s.tree.now m (c.args.at + 3)) 0) (sym c.u16_at-n.ensures.0)))
