-- the finished words are the rest of the code area
use Rattle.module.proofs.Whole.{finished-are}
use Rattle.module.proofs.sections.Lowered.functions.Goals as goal

pub returns-clause-finished : goal.returns-clause-finished
returns-clause-finished c = finished-are c.args.self.now.code.now
