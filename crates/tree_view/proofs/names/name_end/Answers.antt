use mathlib.Core.Path.{refl}
use Rattle.tree_view.specs.Places.{name_end}
use Rattle.tree_view.proofs.names.name_end.Goals as goal

pub returns : goal.returns
unfolding name_end
returns c = refl
