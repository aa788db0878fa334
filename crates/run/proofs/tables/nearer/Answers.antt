use Rattle.run.proofs.Flows.{nearer-on, nearer-stop}
use Rattle.run.proofs.tables.nearer.Goals as goal

pub returns-then-goes_on : goal.returns-then-goes_on
returns-then-goes_on c = nearer-on _ _ _ _ c.goes_on.ensures c.if-goes_on.true

pub returns-else-goes_on : goal.returns-else-goes_on
returns-else-goes_on c = nearer-stop _ _ _ _ c.goes_on.ensures c.if-goes_on.false
