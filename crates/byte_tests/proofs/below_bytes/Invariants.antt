use mathlib.Core.Path.{◌≡◌}
use lib.ListN.{drop}
use Rattle.definitions.specs.Bytes.{below}
use Rattle.byte_tests.proofs.below_bytes.Given as goal

abbrev pub invariant-loop-i : goal.invariant-loop-i
invariant-loop-i l = below l.a l.b ≡ below (drop l.i l.a) (drop l.i l.b)
