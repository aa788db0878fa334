use mathlib.Core.Path.{refl}
use Rattle.definitions.proofs.Growth.{lengthens-one, lengthens-intern}
use Rattle.lower_emit.proofs.Steps.{put-lifts, sound-next, lowers_then, lowers-stopped}
use Rattle.lower_loops.proofs.Calling.{plain-method}
use Rattle.lower_loops.proofs.call_iterator.Goals as goal

pub returns-in_err-put : goal.returns-in_err-put
returns-in_err-put c =
    lowers-stopped c.in_err-put.was c.from_residual.ensures c.requires.0 (lengthens-intern _ (λ k. lengthens-one _)) (put-lifts c.requires.0 refl (c.requires.1.instr _) c.put.ensures)

pub emit_made-requires : goal.emit_made-requires
emit_made-requires c = (sound-next c.in_ok-put.was (put-lifts c.requires.0 refl (c.requires.1.instr _) c.put.ensures).reaches, c.requires.2, plain-method)

pub returns : goal.returns
returns c = lowers_then c.in_ok-put.was c.requires.0 (put-lifts c.requires.0 refl (c.requires.1.instr _) c.put.ensures) c.emit_made.ensures
