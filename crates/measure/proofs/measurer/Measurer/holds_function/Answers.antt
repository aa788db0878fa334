use mathlib.Core.Path.{◌∙◌}
use Rattle.measure.proofs.Knowing.{holds-none, holds-head}
use Rattle.measure.proofs.measurer.Measurer.holds_function.Goals as goal

pub returns-in_default : goal.returns-in_default
returns-in_default c = holds-none c.args.self c.args.name.now c.in_default.ensures

pub returns : goal.returns
returns c = c.is_some.ensures ∙ holds-head c.args.self c.args.name.now _ _ c.in-Some.ensures c.find_head.ensures
