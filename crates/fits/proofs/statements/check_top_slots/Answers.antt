use Rattle.definitions.specs.Fits.{fits_stmt}
use Rattle.tree_view.specs.StmtAt.{stmt_at}
use Rattle.fits.proofs.StmtKinds.{top-told}
use Rattle.slots.proofs.Adding.{none-slots}
use mathlib.Core.Path.{refl}
use lib.ListN.{replicate}
use Rattle.fits.proofs.statements.check_top_slots.Goals as goal

pub invariant_of-stmt-clause-slotted : goal.invariant_of-stmt-clause-slotted
invariant_of-stmt-clause-slotted c = none-slots _ _ refl

pub invariant_of-stmt-clause-short : goal.invariant_of-stmt-clause-short
invariant_of-stmt-clause-short c = c.requires.0

pub returns : goal.returns
returns c = top-told (λ xs. fits_stmt xs (stmt_at 32 c.args.tree.now c.args.at).value) _ _ (replicate 2048 0) _ refl c.stmt.ensures _ c.is_some.ensures
