use Rattle.settle.proofs.Settling.{settles-accepts}
use Rattle.settle.proofs.accept.Goals as goal

pub returns : goal.returns
returns c = settles-accepts c.new-e.ensures.limits c.settle.ensures
