use mathlib.Core.Path.{refl}
use native.Mathlib.Omega.{arith}
use Rattle.definitions.proofs.Growth.{lengthens-one}
use Rattle.lower_emit.proofs.Packing.{instr-jump}
use Rattle.lower_emit.proofs.Steps.{put-lifts, sound-next, lowers_then, lowers-stopped}
use Rattle.lower_loops.proofs.ask_iterator.Goals as goal

pub returns-in_err-ask_more : goal.returns-in_err-ask_more
returns-in_err-ask_more c = lowers-stopped c.in_err-ask_more.was c.from_residual.ensures c.requires.0 (lengthens-one _) c.ask_more.ensures

pub returns : goal.returns
returns c =
    let z = c.in_ok-ask_more.was in
    let e = c.ask_more.ensures in
    lowers_then z c.requires.0 e (put-lifts (sound-next z e.reaches) refl (instr-jump _ 29 0 (omega arith) (omega arith) (omega arith)) c.put_op.ensures)
