use native.Mathlib.Omega.{arith}
use mathlib.Core.Path.{refl}
use Rattle.parts.proofs.Steps.{operator-off, operator-on, operator-inside}
use Rattle.parts.proofs.checker.Checker.operator.Goals as goal

pub returns-then-not-operator_at : goal.returns-then-not-operator_at
returns-then-not-operator_at c = operator-off c.args.limit c.args.self.now c.operator_at.ensures c.if-not-operator_at.true

pub invariant_of-self : goal.invariant_of-self
invariant_of-self c = let h = operator-inside c.args.limit c.args.self.now c.operator_at.ensures c.if-not-operator_at.false in record { inside = omega arith }

pub returns : goal.returns
returns c = operator-on c.args.limit c.args.self.now c.operator_at.ensures c.if-not-operator_at.false refl refl refl
