use Rattle.std.proofs.Common.{ℕ, sym}
use Rattle.std.proofs.lemmas.List.{length-replicate}
use Rattle.run_module.proofs.event_buffer.Goals as goal

-- The level and the type are written out: without them the two lists are compared element by element.
pub returns : goal.returns
returns c = sym (length-replicate {0} {A = ℕ} 524288 0)
