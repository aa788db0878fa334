use Rattle.std.proofs.Common.{rules}
use Rattle.lowering.proofs.Answering.{answers-refused, answers-fits}
use Rattle.lowering.proofs.lower_into.Goals as goal

pub returns-in_err-settle : goal.returns-in_err-settle
returns-in_err-settle c = answers-refused _ _ _ _ _ _ c.requires.0 c.requires.1 c.new-e.ensures.limits c.settle.ensures (search rules) c.in_err-settle.was

pub returns : goal.returns
returns c = answers-fits _ _ _ _ _ _ c.requires.0 c.requires.1 c.new-e.ensures.limits c.settle.ensures c.in_ok-settle.was c.write_tables.ensures
