use mathlib.Core.Path.{refl}
use native.Mathlib.Omega.{arith}
use Rattle.definitions.specs.Instruction.{instr}
use Rattle.lower_emit.proofs.Packing.{instr-plain}
use Rattle.lower_emit.proofs.Steps.{put-lifts, sound-next}
use Rattle.lower_names.proofs.Naming.{plain-with, symbol-put, symbol-over}
use Rattle.lower_loops.proofs.emit_made.Goals as goal

pub returns-in_err-symbol : goal.returns-in_err-symbol
returns-in_err-symbol c = symbol-over (λ n. instr c.args.op n c.args.b) _ ((c.intern_made.ensures.tables c.args.e.now.tables).numbers c.args.e.now.code c.requires.0) c.in_err-symbol.was c.from_residual.ensures

pub returns : goal.returns
returns c =
    let z = c.in_ok-symbol.was in
    let n = (c.intern_made.ensures.tables c.args.e.now.tables).numbers c.args.e.now.code c.requires.0 in
    symbol-put (λ k. instr c.args.op k c.args.b) _ n z
    (put-lifts (sound-next z n.reaches) refl (instr-plain _ _ _ _ (plain-with _ _ _ (omega (arith, c.intern_made.ensures.below _ z)) c.requires.2)) c.put_op.ensures)
