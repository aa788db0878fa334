use mathlib.Core.Path.{◌≡◌}
use Prim.Native.Nat.{◌-◌}
use Rattle.definitions.specs.Heights.{by_height}
use Rattle.reader.specs.View.{instructions_of}
use Rattle.search.proofs.Looping.{Going}
use Rattle.heights.proofs.levels.climb.Given as goal

abbrev pub invariant-loop-head : goal.invariant-loop-head
invariant-loop-head l = record { going : Going (by_height (instructions_of l.code)) l.code l.n l.fn.area l.table.area.now l.head l.table.tail; same_area : l.table.area.ghost_name ≡ l.initial.table.area.ghost_name }

abbrev pub decreases-loop-head : goal.decreases-loop-head
decreases-loop-head l = l.n - l.head
