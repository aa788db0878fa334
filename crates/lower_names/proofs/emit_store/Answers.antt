use mathlib.Core.Path.{sym}
use Rattle.lower_emit.proofs.Steps.{lowers-state}
use Rattle.lower_names.proofs.Naming.{at_store}
use Rattle.lower_names.proofs.emit_store.Goals as goal

pub returns : goal.returns
returns c = record { lowers = lowers-state c.emit_variable.ensures.lowers (sym (at_store _ _ _ _)); made = c.emit_variable.ensures.made }
