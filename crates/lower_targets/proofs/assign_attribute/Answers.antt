use native.Mathlib.Omega.{arith}
use Rattle.state.specs.State.{slot_names}
use Rattle.definitions.proofs.Growth.{lengthens-one, lengthens-seq, lengthens-expr, lengthens-intern}
use Rattle.lower_emit.proofs.Packing.{plain-above}
use Rattle.lower_emit.proofs.Parts.{emits-stopped, emits-words, emits-no-words}
use Rattle.lower_forms.proofs.ExprArms.{there-at}
use Rattle.lower_calls.proofs.Words.{sound-after}
use Rattle.lower_targets.proofs.Assigned.{expr-by, attribute_then}
use Rattle.lower_targets.proofs.assign_attribute.Goals as goal

pub returns-in_err-name : goal.returns-in_err-name
returns-in_err-name c = emits-stopped c.in_err-name.was c.from_residual.ensures c.requires.0.sound (lengthens-seq (lengthens-expr _ _) (lengthens-intern _ (λ k. lengthens-one _))) c.emit_expr.ensures

pub returns-in_err-next : goal.returns-in_err-next
returns-in_err-next c =
    let d = c.args.depth in let names = slot_names c.args.s.tree.now c.args.s.slots.now in let e = c.emit_expr.ensures in
    attribute_then d names c.in_ok-name.was c.requires.0.sound e
    (emits-stopped c.in_err-next.was c.from_residual-in_err-next.ensures (sound-after c.in_ok-name.was e) (lengthens-intern _ (λ k. lengthens-one _)) (expr-by d names c.name_end-start.ensures c.emit_expr-2.ensures))

pub emit_symbol-requires : goal.emit_symbol-requires
emit_symbol-requires c = (
  sound-after c.in_ok-next.was c.emit_expr-2.ensures,
  omega (arith, (there-at _ _ _ (c.emit_expr.ensures.place _ c.in_ok-name.was) c.requires.1.name).byte, c.requires.0.tree-short),
  plain-above 37 0 0 (omega arith) (omega arith) (omega arith) (omega arith),
)

pub returns-in_err-emit_symbol : goal.returns-in_err-emit_symbol
returns-in_err-emit_symbol c =
    let d = c.args.depth in let names = slot_names c.args.s.tree.now c.args.s.slots.now in let e = c.emit_expr.ensures in
    attribute_then d names c.in_ok-name.was c.requires.0.sound e
    (emits-no-words c.in_ok-next.was c.in_err-emit_symbol.was c.from_residual-in_err-emit_symbol.ensures (sound-after c.in_ok-name.was e) (expr-by d names c.name_end-start.ensures c.emit_expr-2.ensures) c.emit_symbol.ensures.lowers)

pub returns : goal.returns
returns c =
    let d = c.args.depth in let names = slot_names c.args.s.tree.now c.args.s.slots.now in let e = c.emit_expr.ensures in
    attribute_then d names c.in_ok-name.was c.requires.0.sound e
    (emits-words c.in_ok-next.was c.in_ok-emit_symbol.was (sound-after c.in_ok-name.was e) (expr-by d names c.name_end-start.ensures c.emit_expr-2.ensures) c.emit_symbol.ensures.lowers)
