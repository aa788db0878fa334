use mathlib.Core.Path.{◌≡◌}
use Rattle.reader.proofs.FunctionLaws.{code_from}
use Rattle.reader.proofs.cursor.Cursor.code.Given as goal

abbrev pub invariant-loop-place : goal.invariant-loop-place
invariant-loop-place l =
    (l.c.bytes.now ≡ l.fn.self.bytes.now)
    × (code_from l.fn.self.bytes.now l.asked l.head.count l.head.slots 0 l.fn.self.at ≡ code_from l.fn.self.bytes.now l.asked l.head.count l.head.slots l.place l.c.at)
