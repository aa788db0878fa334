use Rattle.parts.proofs.IteratorLaws.{other-name, init-name}
use Rattle.parts.proofs.params.may_have.Goals as goal

pub returns-then-ne : goal.returns-then-ne
returns-then-ne c = other-name _ _ _ _ c.ne.ensures c.as_slice.ensures c.if-ne.true

pub returns-else-ne : goal.returns-else-ne
returns-else-ne c = init-name _ _ _ _ c.ne.ensures c.as_slice.ensures c.if-ne.false
