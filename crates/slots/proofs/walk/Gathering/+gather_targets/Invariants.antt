-- The depth falls.
use Prim.Native.Nat.{◌+◌, ◌-◌}
use Rattle.definitions.specs.Slots.{add_targets}
use Rattle.tree_view.specs.ExprAt.{exprs_at, ExprsRead}
use Rattle.slots.specs.Gathered.{no_loops}
use Rattle.slots.proofs.Steps.{Left}
use Rattle.slots.proofs.walk.Gathering.+gather_targets.Given as goal

abbrev pub decreases-target : goal.decreases-target
decreases-target l = l.depth + l.depth

abbrev pub decreases-targets : goal.decreases-targets
decreases-targets l = l.depth + l.depth + 1

abbrev pub invariant-targets-loop : goal.invariant-targets-loop
invariant-targets-loop l =
    let t = l.fn.self.tree.now in let n = l.count - l.counter in
    ExprsRead l.depth n t l.p × Left (exprs_at l.depth l.count t l.fn.at) (exprs_at l.depth n t l.p) add_targets no_loops l.fn.self l.self
