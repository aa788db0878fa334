-- The target, then the value.
use Rattle.slots.proofs.Gathering.{assign-done, assign-stopped, second-reads}
use Rattle.slots.proofs.walk.Gathering.assign.Goals as goal

pub returns-in_err-p : goal.returns-in_err-p
returns-in_err-p c = assign-stopped _ _ c.target.ensures c.in_err-p.was c.from_residual.ensures

pub skip_value-requires : goal.skip_value-requires
skip_value-requires c = second-reads _ _ c.target.ensures c.in_ok-p.was c.requires

pub returns : goal.returns
returns c = assign-done _ _ c.target.ensures c.in_ok-p.was c.skip_value.ensures
