use Prim.Native.Nat.{◌+◌, ◌*◌, ◌-◌, ◌^◌, ◌<◌}
use mathlib.Core.Path.{◌≡◌}
use Rattle.reader.specs.View.{number_at}
use Rattle.reader.proofs.numbers.long_number.Given as goal

abbrev pub invariant-loop-i : goal.invariant-loop-i
invariant-loop-i l = (l.n < 256 ^ l.i) × (number_at l.width l.bytes l.at ≡ l.n * 256 ^ (l.width - l.i) + number_at (l.width - l.i) l.bytes (l.at + l.i))
