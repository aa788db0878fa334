use mathlib.Core.Path.{◌∙◌}
use Rattle.run.proofs.Flows.{way-true-yes, way-true-no, way-false-yes, way-false-no}
use Rattle.run.proofs.course.question_way.Goals as goal

pub returns-then-x-eq1 : goal.returns-then-x-eq1
returns-then-x-eq1 c = c.jump_target.ensures ∙ way-true-yes _ _ _ _ c.if-op-eq-JUMP_IF_TRUE.true c.if-x-eq1.true

pub returns-else-x-eq1 : goal.returns-else-x-eq1
returns-else-x-eq1 c = way-true-no _ _ _ _ c.if-op-eq-JUMP_IF_TRUE.true c.if-x-eq1.false

pub returns-then-x-eq1-2 : goal.returns-then-x-eq1-2
returns-then-x-eq1-2 c = way-false-yes _ _ _ _ c.if-op-eq-JUMP_IF_TRUE.false c.if-x-eq1-2.true

pub returns-else-x-eq1-2 : goal.returns-else-x-eq1-2
returns-else-x-eq1-2 c = c.jump_target-else-x-eq1-2.ensures ∙ way-false-no _ _ _ _ c.if-op-eq-JUMP_IF_TRUE.false c.if-x-eq1-2.false
