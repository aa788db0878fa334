use Rattle.exprs.proofs.ConstantLaws.{skip-constants, skip-none}
use Rattle.exprs.proofs.constants.skip_constants.Goals as goal

pub returns-in-Value : goal.returns-in-Value
returns-in-Value c = skip-constants _ _ _ _ c.in-Value.is c.if-depth-gt0.true c.skip_below.ensures

pub returns-in_default : goal.returns-in_default
returns-in_default c = skip-none _ _ _ _
