use Rattle.definitions.proofs.ReadFits.{small_bytes}
use Rattle.rests.proofs.StmtKinds.{size_is}
use Rattle.rests.proofs.rest_size.Goals as goal

pub taken_block-all-requires : goal.taken_block-all-requires
taken_block-all-requires c = (small_bytes c.args.tree.now (λ i. (c.shared_slice_known-1.given i).fits), c.requires.block)

pub returns : goal.returns
returns c = size_is _ c.requires (small_bytes c.args.tree.now (λ i. (c.shared_slice_known-1.given i).fits)) c.taken_block-all.ensures
