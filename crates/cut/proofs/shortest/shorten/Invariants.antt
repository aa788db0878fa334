use Rattle.std.proofs.Common.{◌-◌}
use mathlib.Core.Path.{◌≡◌}
use mathlib.Core.Bool.{false}
use Prim.Native.Nat.{◌≤◌}
use Rattle.definitions.specs.Cut.{over_stretch}
use Rattle.tree_view.specs.Places.{count_at}
use Rattle.state.specs.State.{limits_of}
use Rattle.compile.specs.Compiled.{tree_block}
use Rattle.cut.specs.Seeking.{Best}
use Rattle.cut.proofs.shortest.shorten.Given as goal

-- the shortest so far, and a number of statements that is not over the limits here
abbrev pub invariant-loop-few : goal.invariant-loop-few
invariant-loop-few l =
    Best (limits_of l.limits) l.tree (count_at l.tree 5 - l.left.count) l.best × (over_stretch (limits_of l.limits) (tree_block l.tree) (count_at l.tree 5 - l.left.count) l.few ≡ false)
    × (l.few ≤ l.left.count) × (l.best.count ≤ l.most)

abbrev pub decreases-loop-few : goal.decreases-loop-few
decreases-loop-few l = l.best.count - l.few
