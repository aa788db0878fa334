use native.Mathlib.Omega.{arith}
use Rattle.std.proofs.Common.{rules, refl}
use Rattle.definitions.proofs.ReadFits.{small_bytes}
use Rattle.follows.proofs.Made.{part-fits}
use Rattle.follows.proofs.Reading.{reread-wrote, reread-refused}
use Rattle.definitions.proofs.Narrower.{sets_under}
use Rattle.follows.proofs.lower_and_read.Goals as goal

pub returns-in_err-written : goal.returns-in_err-written
returns-in_err-written c = reread-refused _ _ _ _ _ _ _ _ _ c.in_err-written.ensures _ refl (search rules)

pub slice_bounds-read_module-end : goal.slice_bounds-read_module-end
slice_bounds-read_module-end c = omega (arith, part-fits _ _ _ _ _ _ _ _ _ c.in_ok-written.ensures _ refl c.lower.auto.out)

pub returns : goal.returns
returns c =
    reread-wrote _ _ _ _ _ _ _ _ _ c.in_ok-written.ensures (sets_under _) (small_bytes c.args.tree.now (λ i. (c.shared_slice_known-1.given i).fits)) _
    refl _ c.read_module-verdict.ensures.answer
