use mathlib.Core.Path.{refl}
use native.Mathlib.Omega.{arith}
use Rattle.state.specs.State.{names_at}
use Rattle.state.specs.Kept.{keeping_of}
use Rattle.definitions.proofs.Growth.{lengthens-one}
use Rattle.lower_emit.proofs.Packing.{instr-plain}
use Rattle.lower_emit.proofs.Steps.{put-lifts, sound-next}
use Rattle.lower_emit.proofs.Parts.{emits-stopped, emits-words, emits-no-words}
use Rattle.lower_forms.proofs.Sequences.{plain-return}
use Rattle.slots.proofs.Adding.{none-slots}
use Rattle.compile.proofs.emit_main.Goals as goal

pub invariant_of-s : goal.invariant_of-s
invariant_of-s c = record { slotted = none-slots _ _ refl }

pub emit_stmts-requires : goal.emit_stmts-requires
emit_stmts-requires c = (record { tree-short = c.requires.1.short; sound = c.requires.0 }, c.requires.1.stmts, record { at = λ h. absurd (omega arith) })

pub returns-in_err-next : goal.returns-in_err-next
unfolding names_at keeping_of
returns-in_err-next c = emits-stopped c.in_err-next.was c.from_residual.ensures c.requires.0 (lengthens-one _) c.emit_stmts.ensures.0

pub returns-in_err-put_op : goal.returns-in_err-put_op
unfolding names_at keeping_of
returns-in_err-put_op c =
    let h = c.emit_stmts.ensures.0 in
    let z = c.in_ok-next.was in
    emits-no-words z c.in_err-put_op.was c.from_residual-in_err-put_op.ensures c.requires.0 h (put-lifts (sound-next z h.lowers.reaches) refl (instr-plain _ 33 0 0 plain-return) c.put_op.ensures)

pub returns : goal.returns
unfolding names_at keeping_of
returns c =
    let h = c.emit_stmts.ensures.0 in
    let z = c.in_ok-next.was in
    emits-words z c.in_ok-put_op.was c.requires.0 h (put-lifts (sound-next z h.lowers.reaches) refl (instr-plain _ 33 0 0 plain-return) c.put_op.ensures)
