use Rattle.exports.proofs.Telling.{runs-told}
use Rattle.exports.proofs.rulketoos_run.Goals as goal

pub returns : goal.returns
returns c = runs-told _ _ _ _ _ c.run.ensures c.tell_run.ensures.answer c.tell_run.ensures.counts
