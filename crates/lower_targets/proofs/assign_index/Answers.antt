use native.Mathlib.Omega.{arith}
use Rattle.definitions.specs.Instruction.{StoreIndex}
use Rattle.definitions.specs.Tables.{one}
use Rattle.state.specs.State.{slot_names}
use Rattle.definitions.proofs.Growth.{lengthens-one, lengthens-seq, lengthens-expr}
use Rattle.lower_emit.proofs.Packing.{instr-plain, plain-above}
use Rattle.lower_emit.proofs.Parts.{emits-stopped}
use Rattle.lower_calls.proofs.Words.{sound-after, expr_then, word-ends, word-over}
use Rattle.lower_targets.proofs.Assigned.{index_then}
use Rattle.lower_targets.proofs.assign_index.Goals as goal

pub returns-in_err-middle : goal.returns-in_err-middle
returns-in_err-middle c = emits-stopped c.in_err-middle.was c.from_residual.ensures c.requires.0.sound (lengthens-seq (lengthens-expr _ _) (lengthens-seq (lengthens-expr _ _) (lengthens-one _))) c.emit_expr.ensures

pub returns-in_err-start : goal.returns-in_err-start
returns-in_err-start c =
    let d = c.args.depth in let names = slot_names c.args.s.tree.now c.args.s.slots.now in let e = c.emit_expr.ensures in let S = sound-after c.in_ok-middle.was e in
    index_then d names c.in_ok-middle.was c.requires.0.sound e
    (emits-stopped c.in_err-start.was c.from_residual-in_err-start.ensures S (lengthens-seq (lengthens-expr _ _) (lengthens-one _)) c.emit_expr-2.ensures)

pub returns-in_err-next : goal.returns-in_err-next
returns-in_err-next c =
    let d = c.args.depth in let names = slot_names c.args.s.tree.now c.args.s.slots.now in let e = c.emit_expr.ensures in let S = sound-after c.in_ok-middle.was e in
    index_then d names c.in_ok-middle.was c.requires.0.sound e
    (expr_then d names (one StoreIndex) c.in_ok-start.was S c.emit_expr-2.ensures
    (emits-stopped c.in_err-next.was c.from_residual-in_err-next.ensures (sound-after c.in_ok-start.was c.emit_expr-2.ensures) (lengthens-one _) c.emit_expr-3.ensures))

pub returns-in_err-put_op : goal.returns-in_err-put_op
returns-in_err-put_op c =
    let d = c.args.depth in let names = slot_names c.args.s.tree.now c.args.s.slots.now in let e = c.emit_expr.ensures in let S = sound-after c.in_ok-middle.was e in
    index_then d names c.in_ok-middle.was c.requires.0.sound e
    (expr_then d names (one StoreIndex) c.in_ok-start.was S c.emit_expr-2.ensures
    (word-over c.in_ok-next.was (sound-after c.in_ok-start.was c.emit_expr-2.ensures) c.emit_expr-3.ensures (instr-plain _ 44 0 0 (plain-above 44 0 0 (omega arith) (omega arith) (omega arith) (omega arith))) c.put_op.ensures
    c.in_err-put_op.was c.from_residual-in_err-put_op.ensures))

pub returns : goal.returns
returns c =
    let d = c.args.depth in let names = slot_names c.args.s.tree.now c.args.s.slots.now in let e = c.emit_expr.ensures in let S = sound-after c.in_ok-middle.was e in
    index_then d names c.in_ok-middle.was c.requires.0.sound e
    (expr_then d names (one StoreIndex) c.in_ok-start.was S c.emit_expr-2.ensures
    (word-ends c.in_ok-next.was (sound-after c.in_ok-start.was c.emit_expr-2.ensures) c.emit_expr-3.ensures (instr-plain _ 44 0 0 (plain-above 44 0 0 (omega arith) (omega arith) (omega arith) (omega arith))) c.put_op.ensures
    c.in_ok-put_op.was))
