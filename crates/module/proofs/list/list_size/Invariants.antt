-- all but the elements from i on are measured
use Prim.Native.Nat.{◌≤◌}
use lib.ListN.{length, drop}
use Rattle.module.specs.Sections.{counted_list}
use Rattle.module.proofs.Pieces.{Measured}
use Rattle.module.proofs.list.list_size.Given as goal

abbrev pub invariant-loop-i : goal.invariant-loop-i
invariant-loop-i g l = (l.i ≤ length (g.L.Listed.elements l.list)) × Measured (counted_list (g.L.Listed.elements l.list)) l.size (drop l.i (g.L.Listed.elements l.list))
