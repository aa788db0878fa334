use native.Mathlib.Omega.{arith}
use Rattle.names.proofs.Pasting.{lambda-short}
use Rattle.lower_leaves.proofs.Lambdas.{begins-none, begins-lambda}
use Rattle.lower_leaves.proofs.closures.begin_lambda.Goals as goal

pub intern_made-requires : goal.intern_made-requires
intern_made-requires c = (c.requires.0, lambda-short _ (omega (arith, c.requires.1)))

pub returns-in_err-symbol : goal.returns-in_err-symbol
returns-in_err-symbol c = begins-none _ _ c.intern_made.ensures c.in_err-symbol.was c.from_residual.ensures

pub returns : goal.returns
returns c = begins-lambda _ _ c.intern_made.ensures c.in_ok-symbol.was c.requires.2 c.requires.3 c.begin_function.ensures
