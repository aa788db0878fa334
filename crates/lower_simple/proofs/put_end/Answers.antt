use mathlib.Core.Path.{subst}
use Rattle.definitions.specs.Instruction.{instr}
use Rattle.definitions.specs.Tables.{one}
use Rattle.definitions.proofs.Growth.{lengthens-one}
use Rattle.lower_forms.proofs.Sequences.{plain-return, plain-object}
use Rattle.lower_emit.specs.declared.emitter.Code.{Code}
use Rattle.lower_emit.specs.Emitting.{Writes}
use Rattle.lower_emit.proofs.Writing.{writes_then, writes-stopped, plain-writes}
use Rattle.lower_simple.proofs.Closing.{end-bare, end-object}
use Rattle.lower_simple.proofs.put_end.Goals.{then-init+in_ok-put_op, else-init}
use Rattle.lower_simple.proofs.put_end.Goals as goal

pub returns-in_err-put_op : goal.returns-in_err-put_op
returns-in_err-put_op c = end-object _ c.if-init.true (writes-stopped (plain-writes plain-object c.put_op.ensures) c.in_err-put_op.was c.from_residual.ensures (lengthens-one _))

pub returns : goal.returns
returns c =
    let last = plain-writes plain-return c.put_op-2.ensures in
    let from = λ (m : Code). Writes c.put_op-2.result (one (instr 33 0 0)) m c.put_op-2.new.self in
    elim c.if-init.branch [
      | then-init+in_ok-put_op w ↦ end-object _ w.if-init.true (writes_then (plain-writes plain-object w.put_op.ensures) w.in_ok-put_op.was (subst from w.code-is last))
      | else-init w ↦ end-bare _ w.if-init.false (subst from w.code-is last)
    ]
