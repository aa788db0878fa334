use native.Mathlib.Omega.{arith}
use mathlib.Core.Path.{refl}
use Rattle.measure.proofs.Measuring.{lambda-done}
use Rattle.measure.proofs.measurer.Measurer.lambda.Goals as goal

pub returns : goal.returns
returns c =
    lambda-done _ _ _ _ _ _ _ _ c.skip_params-body.ensures c.requires c.args.self.scope.slotted (omega arith) c.collect_free_vars-n.ensures refl c.skip_expr-next.ensures
