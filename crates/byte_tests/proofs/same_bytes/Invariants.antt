use mathlib.Core.Path.{◌≡◌}
use lib.ListN.{drop}
use Rattle.definitions.specs.Bytes.{same}
use Rattle.byte_tests.proofs.same_bytes.Given as goal

abbrev pub invariant-loop-i : goal.invariant-loop-i
invariant-loop-i l = same l.a l.b ≡ same (drop l.i l.a) (drop l.i l.b)
