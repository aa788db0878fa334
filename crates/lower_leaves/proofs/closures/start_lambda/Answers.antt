use Rattle.lower_leaves.proofs.Lambdas.{starts-none, starts-lambda}
use Rattle.lower_leaves.proofs.closures.start_lambda.Goals as goal

pub returns-in_err-n : goal.returns-in_err-n
returns-in_err-n c = starts-none c.begin_lambda.ensures c.in_err-n.was c.from_residual.ensures

pub returns : goal.returns
returns c = starts-lambda c.begin_lambda.ensures c.in_ok-n.was
