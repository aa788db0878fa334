-- What the lowering asks of a part, as the measures ask for it.
use Prim.Native.Nat.{ℕ}
use mathlib.Core.List.{List}
use Rattle.definitions.specs.Tree.{if}
use Rattle.definitions.specs.Wellformed.{ask_stmt}
use Rattle.definitions.proofs.Asked.{ok-B, ok-S}
use Rattle.tree_view.specs.ExprAt.{expr_at}
use Rattle.tree_view.specs.StmtAt.{block_at, branches_at, body_at}
use Rattle.lower_forms.specs.Lowerable.{of_names, of_breaks}
use Rattle.lower_forms.specs.Lowering.{BlockLowerable, BranchLowerable, BranchesLowerable}
use Rattle.write_blocks.proofs.Branches.{AskedBlock, AskedBranch, AskedBranches}

pub asked-block : {d p : ℕ} {t : List ℕ} → BlockLowerable d t p → AskedBlock (block_at d t p).value
asked-block L = record { l = L.loop; names = L.asks 7 of_names; breaks = ok-B L.loop _ (L.asks 9 of_breaks) }

pub asked-branches : {d n p : ℕ} {t : List ℕ} → BranchesLowerable d n t p → AskedBranches (branches_at d n t p).value
unfolding ask_stmt
asked-branches L = record { l = L.loop; names = L.asks 7 of_names; breaks = ok-S L.loop (if _) (L.asks 9 of_breaks) }

pub asked-branch : {d p : ℕ} {t : List ℕ} → BranchLowerable d t p → AskedBranch (expr_at d t p).value (body_at d t p).value
asked-branch R = record { condition = R.condition.asks 7 of_names; block = asked-block R.block }
