use native.Mathlib.Omega.{arith}
use mathlib.Core.Path.{ap, ◌∙◌}
use mathlib.Core.Option.{none, some}
use Rattle.names.specs.Sought.{place_in, shifted}
use Rattle.names.proofs.Indexing.{sought-at, sought-lt}
use Rattle.names.proofs.index.find_from.Goals as goal

pub returns-in_err-find_place : goal.returns-in_err-find_place
unfolding shifted
returns-in_err-find_place c = ap place_in c.from_residual.ensures ∙ sought-at c.args.tree.now c.args.places.now c.args.k _ c.args.name.now none c.start-from.ensures.0 c.in_err-find_place.ensures

pub overflow_add-result : goal.overflow_add-result
overflow_add-result c = let h = sought-lt c.args.tree.now c.args.places.now _ _ c.args.name.now c.in_ok-find_place.ensures in omega (arith, c.well_formed.1.0.0)

pub returns : goal.returns
unfolding shifted
returns c = sought-at c.args.tree.now c.args.places.now c.args.k _ c.args.name.now (some c.in_ok-find_place.field-0) c.start-from.ensures.0 c.in_ok-find_place.ensures
