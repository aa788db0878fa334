use Prim.Native.Nat.{◌+◌, ◌*◌}
use Rattle.slots.proofs.skip.+skip_exprs.Given as goal

abbrev pub decreases-skip_attribute : goal.decreases-skip_attribute
decreases-skip_attribute l = 6 * l.depth + 2

abbrev pub decreases-skip_call : goal.decreases-skip_call
decreases-skip_call l = 6 * l.depth + 5

abbrev pub decreases-skip_dict : goal.decreases-skip_dict
decreases-skip_dict l = 6 * l.depth + 4

abbrev pub decreases-skip_expr : goal.decreases-skip_expr
decreases-skip_expr l = 6 * l.depth

abbrev pub decreases-skip_lambda : goal.decreases-skip_lambda
decreases-skip_lambda l = 6 * l.depth + 1

abbrev pub decreases-skip_list : goal.decreases-skip_list
decreases-skip_list l = 6 * l.depth + 4

abbrev pub decreases-skip_many : goal.decreases-skip_many
decreases-skip_many l = 6 * l.depth + 3

abbrev pub decreases-skip_many-each : goal.decreases-skip_many-each
decreases-skip_many-each l = 6 * l.depth + 2

abbrev pub decreases-skip_two : goal.decreases-skip_two
decreases-skip_two l = 6 * l.depth + 2

abbrev pub decreases-skip_value : goal.decreases-skip_value
decreases-skip_value l = 6 * l.depth + 1
