use Rattle.definitions.proofs.ReadFits.{small_bytes}
use Rattle.order.proofs.Comparing.{shorter-less, longer-greater, steps-equal, steps-order}
use Rattle.order.proofs.compare.Goals as goal

pub returns-then-size-other : goal.returns-then-size-other
returns-then-size-other c =
    shorter-less (small_bytes c.args.first.now (λ i. (c.shared_slice_known-1.given i).fits)) (small_bytes c.args.second.now (λ i. (c.shared_slice_known-2-1.given i).fits))
    c.requires.0 c.requires.1 c.rest_size-size.ensures c.rest_size-other.ensures c.if-size-other.true

pub returns-then-other-size : goal.returns-then-other-size
returns-then-other-size c =
    longer-greater (small_bytes c.args.first.now (λ i. (c.shared_slice_known-1.given i).fits)) (small_bytes c.args.second.now (λ i. (c.shared_slice_known-2-1.given i).fits))
    c.requires.0 c.requires.1 c.rest_size-size.ensures c.rest_size-other.ensures c.if-other-size.true

pub block-requires : goal.block-requires
block-requires c = (
  record {
    first = small_bytes c.args.first.now (λ i. (c.shared_slice_known-1.given i).fits);
    second = small_bytes c.args.second.now (λ i. (c.shared_slice_known-2-1.given i).fits);
  },
  c.requires.0.block,
  c.requires.1.block,
)

pub returns-in-Ok : goal.returns-in-Ok
returns-in-Ok c =
    steps-equal (small_bytes c.args.first.now (λ i. (c.shared_slice_known-1.given i).fits)) (small_bytes c.args.second.now (λ i. (c.shared_slice_known-2-1.given i).fits))
    c.requires.0 c.requires.1 c.rest_size-size.ensures c.rest_size-other.ensures c.if-other-size.false c.if-size-other.false c.block.ensures c.in-Ok.is

pub returns-in-Err : goal.returns-in-Err
returns-in-Err c =
    steps-order (small_bytes c.args.first.now (λ i. (c.shared_slice_known-1.given i).fits)) (small_bytes c.args.second.now (λ i. (c.shared_slice_known-2-1.given i).fits))
    c.requires.0 c.requires.1 c.rest_size-size.ensures c.rest_size-other.ensures c.if-other-size.false c.if-size-other.false c.block.ensures c.in-Err.is
