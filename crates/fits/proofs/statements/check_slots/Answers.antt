use Rattle.definitions.specs.Fits.{fits_block}
use Rattle.tree_view.specs.StmtAt.{block_at}
use Rattle.fits.proofs.StmtKinds.{top-told}
use Rattle.slots.proofs.Adding.{none-slots}
use mathlib.Core.Path.{refl}
use lib.ListN.{replicate}
use Rattle.fits.proofs.statements.check_slots.Goals as goal

pub invariant_of-block-clause-slotted : goal.invariant_of-block-clause-slotted
invariant_of-block-clause-slotted c = none-slots _ _ refl

pub invariant_of-block-clause-short : goal.invariant_of-block-clause-short
invariant_of-block-clause-short c = c.requires.small

pub returns : goal.returns
returns c = top-told (λ xs. fits_block xs (block_at 32 c.args.tree.now 5).value) _ _ (replicate 2048 0) _ refl c.block.ensures _ c.is_some.ensures
