-- The module's bytes, or the line of the refusal, by the lowering's answer.
use Rattle.std.proofs.Common.{rules}
use Rattle.lower.proofs.Answering.{answered-wrote, refused-line}
use Rattle.lower.proofs.answer.Goals as goal

pub slice_bounds-result-end : goal.slice_bounds-result-end
slice_bounds-result-end c =
    (answered-wrote _ c.args.input.now _ _ c.args.out.now _ _ _ c.lower.ensures (search rules) (search rules) c.requires.1 c.requires.0 _ c.in-Ok.is).counts.1

pub returns-in-Ok : goal.returns-in-Ok
returns-in-Ok c =
    (answered-wrote _ c.args.input.now _ _ c.args.out.now _ _ _ c.lower.ensures (search rules) (search rules) c.requires.1 c.requires.0 _ c.in-Ok.is).bytes

pub returns-in-Err : goal.returns-in-Err
returns-in-Err c =
    refused-line _ c.args.input.now _ _ c.args.out.now _ _ _ c.lower.ensures (search rules) (search rules) c.requires.1 c.requires.0 _ _ c.in-Err.is c.refusal.ensures
