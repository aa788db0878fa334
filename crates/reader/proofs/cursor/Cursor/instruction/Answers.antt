use mathlib.Core.Path.{sym}
use Rattle.reader.proofs.FunctionLaws.{found-next}
use Rattle.reader.proofs.cursor.Cursor.instruction.Goals as goal

pub invariant_of-self : goal.invariant_of-self
invariant_of-self c = let s = c.args.self.now in record { inside = found-next s.bytes.now s.at _ _ _ _ s.inside (sym c.in_ok-instruction.ensures) }
