-- By the search from the name's bucket on.
use Rattle.slots.proofs.Adding.{slot-told}
use Rattle.slots.proofs.add.slot_of.Goals as goal

pub returns : goal.returns
returns c = let a = c.args in slot-told a.tree.now a.slots.now a.at a.b _ _ c.requires.0 c.requires.1 c.name_part.ensures.result_value c.find_from.ensures
