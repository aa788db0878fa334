use Rattle.std.proofs.Common.{arith}
use Rattle.tree_view.specs.Places.{count_at}
use Rattle.tree_view.proofs.numbers.u16_at.Goals as goal

pub returns : goal.returns
unfolding count_at
returns c = (omega arith, omega arith)
