use mathlib.Core.Path.{refl}
use native.Mathlib.Omega.{arith}
use Rattle.tree_view.proofs.NameLaws.{part_of}
use Rattle.tree_view.proofs.names.name_part.Goals as goal

pub returns : goal.returns
returns c = record { result_value = part_of _ _; begins = (refl, omega arith) }
