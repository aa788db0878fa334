use Rattle.std.proofs.Common.{rules, refl}
use Rattle.definitions.proofs.ReadFits.{small_bytes}
use Rattle.follows.proofs.Made.{part-fits}
use Rattle.follows.proofs.Walking.{follow-ran, follow-refused}
use Rattle.definitions.proofs.Narrower.{sets_under}
use Rattle.follows.proofs.lower_and_run.Goals as goal

pub returns-in_err-written : goal.returns-in_err-written
returns-in_err-written c = follow-refused _ _ _ _ _ _ _ _ _ c.in_err-written.ensures _ _ _ _ _ refl (search rules)

pub slice_bounds-run-end : goal.slice_bounds-run-end
slice_bounds-run-end c = part-fits _ _ _ _ _ _ _ _ _ c.in_ok-written.ensures _ refl c.lower.auto.out

pub returns : goal.returns
returns c =
    follow-ran _ _ _ _ _ _ _ _ _ c.in_ok-written.ensures _ _ _ _ _ refl _ _ c.run-outcome.ensures (sets_under _)
    (small_bytes c.args.tree.now (λ i. (c.shared_slice_known-1.given i).fits))
