-- all but the elements from i on are written
use Prim.Native.Nat.{◌≤◌}
use lib.ListN.{length, drop}
use Rattle.module.specs.Sections.{counted_list}
use Rattle.writing.proofs.Begun.{Begun}
use Rattle.module.proofs.list.write_list.Given as goal

abbrev pub invariant-loop-i : goal.invariant-loop-i
invariant-loop-i g l = (l.i ≤ length (g.L.Listed.elements l.list)) × Begun (counted_list (g.L.Listed.elements l.list)) l.initial.out l.at l.out (drop l.i (g.L.Listed.elements l.list))
