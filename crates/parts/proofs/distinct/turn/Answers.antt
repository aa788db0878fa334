use Rattle.parts.proofs.SearchLaws.{turn-past, turn_in}
use Rattle.parts.proofs.distinct.turn.Goals as goal

pub returns-then-name-i : goal.returns-then-name-i
returns-then-name-i c = turn-past _ _ _ c.name_part-name.ensures.result_value c.if-name-i.true

pub returns : goal.returns
returns c = turn_in _ _ _ _ c.name_part-name.ensures.result_value c.from.ensures
