use Rattle.reach.proofs.Tracks.{before-is}
use Rattle.reach.proofs.trace.before_of.Goals as goal

pub returns : goal.returns
returns c = before-is _
