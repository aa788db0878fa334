-- Twice the count for a dict.
use Rattle.opcodes.proofs.Opcodes.{held-dict, held-other}
use Rattle.opcodes.proofs.held.Goals as goal

pub returns-then-kind : goal.returns-then-kind
returns-then-kind c = held-dict _ _ c.if-kind.true

pub returns-else-kind : goal.returns-else-kind
returns-else-kind c = held-other _ _ c.if-kind.false
