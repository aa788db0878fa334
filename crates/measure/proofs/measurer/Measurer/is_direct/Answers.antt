use mathlib.Core.Path.{sym, ◌∙◌}
use Rattle.measure.proofs.Knowing.{direct-builtin, direct-class, direct-function}
use Rattle.measure.proofs.measurer.Measurer.is_direct.Goals as goal

pub returns-then-is_some : goal.returns-then-is_some
returns-then-is_some c = direct-builtin _ _ _ c.name_part-name.ensures.result_value _ c.find_builtin.ensures (sym c.is_some.ensures ∙ c.if-is_some.true)

pub returns-then-is_class : goal.returns-then-is_class
returns-then-is_class c =
    direct-class _ _ _ c.name_part-name.ensures.result_value _ c.find_builtin.ensures (sym c.is_some.ensures ∙ c.if-is_some.false) _ c.is_class.ensures c.if-is_class.true

pub returns : goal.returns
returns c =
    direct-function _ _ _ c.name_part-name.ensures.result_value _ c.find_builtin.ensures (sym c.is_some.ensures ∙ c.if-is_some.false) _ _ c.is_class.ensures c.if-is_class.false
    c.is_function.ensures
