use Prim.Native.Nat.{◌+◌, ◌*◌}
use Rattle.lower_targets.proofs.+emit.Given as goal

abbrev pub decreases-emit_assign_target : goal.decreases-emit_assign_target
decreases-emit_assign_target l = 131072 * l.depth

abbrev pub decreases-emit_elements : goal.decreases-emit_elements
decreases-emit_elements l = 131072 * l.depth + l.n + 1
