use mathlib.Core.Path.{sym, ap, ◌∙◌}
use Rattle.settle.specs.Settles.{full_by}
use Rattle.settle.proofs.full_by.Goals as goal

pub check_slots-requires : goal.check_slots-requires
check_slots-requires c = c.requires

pub returns-then-check_slots : goal.returns-then-check_slots
unfolding full_by
returns-then-check_slots c = ap full_by (sym c.if-check_slots.true ∙ c.check_slots.ensures)

pub returns : goal.returns
unfolding full_by
returns c = ap full_by (sym c.if-check_slots.false ∙ c.check_slots.ensures)
