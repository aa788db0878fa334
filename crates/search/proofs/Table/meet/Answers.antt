use Rattle.search.proofs.Viewing.{met-before, met-now}
use Rattle.search.proofs.Table.meet.Goals as goal

pub returns-then-self-q-eq0-clause-meets : goal.returns-then-self-q-eq0-clause-meets
returns-then-self-q-eq0-clause-meets c = met-now _ _ _ _ c.if-self-q-eq0.true

pub returns-else-self-q-eq0-clause-meets : goal.returns-else-self-q-eq0-clause-meets
returns-else-self-q-eq0-clause-meets c = met-before _ _ _ _ c.if-self-q-eq0.false
