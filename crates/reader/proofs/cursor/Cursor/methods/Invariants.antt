use Prim.Native.Nat.{◌+◌, ◌-◌}
use mathlib.Core.Path.{◌≡◌}
use mathlib.Core.List.{[]}
use Rattle.reader.proofs.ClassLaws.{methods_from}
use Rattle.reader.proofs.cursor.Cursor.methods.Given as goal

abbrev pub invariant-loop : goal.invariant-loop
invariant-loop l =
    (l.c.bytes.now ≡ l.fn.self.bytes.now)
    × (methods_from l.fn.self.bytes.now l.asked [] l.count (l.fn.self.at + 2) ≡ methods_from l.fn.self.bytes.now l.asked l.before (l.count - l.counter) l.c.at)
