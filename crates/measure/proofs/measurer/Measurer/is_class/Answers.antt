use mathlib.Core.Path.{sym, ◌∙◌}
use Rattle.measure.proofs.Knowing.{class-held, stands-found, is-held, is-new}
use Rattle.measure.proofs.measurer.Measurer.is_class.Goals as goal

pub returns-then-is_some : goal.returns-then-is_some
returns-then-is_some c = is-held c.args.self c.args.name.now _ (class-held c.args.self c.args.name.now _ c.find_place.ensures) (sym c.is_some.ensures ∙ c.if-is_some.true)

pub returns : goal.returns
returns c =
    is-new c.args.self c.args.name.now _ _ (class-held c.args.self c.args.name.now _ c.find_place.ensures) (sym c.is_some.ensures ∙ c.if-is_some.false)
    (c.is_some-2.ensures ∙ stands-found c.args.self.scope.tree.now c.args.self.new_classes.now c.args.name.now _ c.find_place-2.ensures)
