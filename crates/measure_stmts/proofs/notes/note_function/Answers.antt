use native.Mathlib.Omega.{arith}
use mathlib.Core.Path.{refl}
use Rattle.measure_stmts.proofs.Noting.{noted-function}
use Rattle.measure_stmts.proofs.notes.note_function.Goals as goal

pub returns : goal.returns
returns c = noted-function _ _ _ refl refl refl refl (omega arith)
