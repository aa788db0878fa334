use native.Mathlib.Omega.{arith}
use mathlib.Core.Path.{refl}
use Rattle.measure_stmts.proofs.Noting.{noted-class}
use Rattle.measure_stmts.proofs.notes.note_class.Goals as goal

pub returns : goal.returns
returns c = noted-class _ _ _ refl refl refl refl (omega arith)
