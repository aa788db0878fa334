use mathlib.Core.Path.{refl}
use native.Mathlib.Omega.{arith}
use Rattle.state.specs.State.{names_at}
use Rattle.state.specs.Kept.{keeping_of}
use Rattle.slots.proofs.Adding.{none-slots}
use Rattle.lower_forms.specs.Lowering.{end_of}
use Rattle.compile.proofs.Compiling.{block-lowerable, block-outside}
use Rattle.compile.proofs.write_main.Goals as goal

pub invariant_of-s : goal.invariant_of-s
invariant_of-s c = record { slotted = none-slots _ _ refl }

pub write_body-requires : goal.write_body-requires
write_body-requires c = (
  record { tree-short = c.requires.1.small; sound = c.requires.0 },
  record { block = block-lowerable _ c.requires.1; outside = block-outside _ c.requires.1 },
  record { at = λ h. absurd (omega arith) },
)

pub returns : goal.returns
unfolding names_at keeping_of end_of
returns c = c.write_body.ensures
