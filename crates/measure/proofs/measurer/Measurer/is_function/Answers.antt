use mathlib.Core.Path.{◌∙◌}
use Rattle.measure.proofs.Knowing.{stands-found, function-held, function-new}
use Rattle.measure.proofs.measurer.Measurer.is_function.Goals as goal

pub returns-then-holds_function : goal.returns-then-holds_function
returns-then-holds_function c = function-held c.args.self c.args.name.now _ c.holds_function.ensures c.if-holds_function.true

pub returns : goal.returns
returns c =
    function-new c.args.self c.args.name.now _ _ c.holds_function.ensures c.if-holds_function.false
    (c.is_some.ensures ∙ stands-found c.args.self.scope.tree.now c.args.self.new_functions.now c.args.name.now _ c.find_place.ensures)
