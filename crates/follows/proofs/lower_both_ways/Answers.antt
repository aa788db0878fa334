use Rattle.follows.proofs.Agreeing.{both_ways}
use Rattle.follows.proofs.lower_both_ways.Goals as goal

pub returns : goal.returns
returns c = both_ways _ _ _ _ _ _ _ _ _ _ _ _ _ _ _ _ c.lower-patched.ensures c.lower_measured-measured.ensures
