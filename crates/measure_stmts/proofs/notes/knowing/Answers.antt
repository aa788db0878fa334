use mathlib.Core.Path.{refl}
use Rattle.measure.specs.Known.{holds_function, known_with}
use Rattle.measure_stmts.proofs.notes.knowing.Goals as goal

pub returns-clause-known : goal.returns-clause-known
unfolding known_with holds_function
returns-clause-known c = refl
