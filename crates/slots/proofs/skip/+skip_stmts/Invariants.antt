use Prim.Native.Nat.{◌+◌, ◌*◌}
use Rattle.slots.proofs.skip.+skip_stmts.Given as goal

abbrev pub decreases-skip_block : goal.decreases-skip_block
decreases-skip_block l = 6 * l.depth + 2

abbrev pub decreases-skip_block-each : goal.decreases-skip_block-each
decreases-skip_block-each l = 6 * l.depth + 1

abbrev pub decreases-skip_branch : goal.decreases-skip_branch
decreases-skip_branch l = 6 * l.depth + 3

abbrev pub decreases-skip_class : goal.decreases-skip_class
decreases-skip_class l = 6 * l.depth + 5

abbrev pub decreases-skip_class-each : goal.decreases-skip_class-each
decreases-skip_class-each l = 6 * l.depth + 4

abbrev pub decreases-skip_def : goal.decreases-skip_def
decreases-skip_def l = 6 * l.depth + 3

abbrev pub decreases-skip_else : goal.decreases-skip_else
decreases-skip_else l = 6 * l.depth + 3

abbrev pub decreases-skip_for : goal.decreases-skip_for
decreases-skip_for l = 6 * l.depth + 4

abbrev pub decreases-skip_if : goal.decreases-skip_if
decreases-skip_if l = 6 * l.depth + 5

abbrev pub decreases-skip_if-each : goal.decreases-skip_if-each
decreases-skip_if-each l = 6 * l.depth + 4

abbrev pub decreases-skip_stmt : goal.decreases-skip_stmt
decreases-skip_stmt l = 6 * l.depth
