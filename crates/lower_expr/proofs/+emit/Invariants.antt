use Prim.Native.Nat.{◌+◌, ◌*◌}
use Rattle.state.specs.State.{slot_names}
use Rattle.lower_expr.proofs.Several.{ExprsRest}
use Rattle.lower_expr.proofs.+emit.Given as goal

abbrev pub decreases-emit_args : goal.decreases-emit_args
decreases-emit_args l = 8 * l.depth + 2

abbrev pub decreases-emit_attribute : goal.decreases-emit_attribute
decreases-emit_attribute l = 8 * l.depth + 1

abbrev pub decreases-emit_binary : goal.decreases-emit_binary
decreases-emit_binary l = 8 * l.depth + 3

abbrev pub decreases-emit_call : goal.decreases-emit_call
decreases-emit_call l = 8 * l.depth + 4

abbrev pub decreases-emit_closure : goal.decreases-emit_closure
decreases-emit_closure l = 8 * l.depth + 2

abbrev pub decreases-emit_display : goal.decreases-emit_display
decreases-emit_display l = 8 * l.depth + 2

abbrev pub decreases-emit_expr : goal.decreases-emit_expr
decreases-emit_expr l = 8 * l.depth

abbrev pub decreases-emit_exprs : goal.decreases-emit_exprs
decreases-emit_exprs l = 8 * l.depth + 1

abbrev pub decreases-emit_function : goal.decreases-emit_function
decreases-emit_function l = 8 * l.depth + 1

abbrev pub decreases-emit_lambda : goal.decreases-emit_lambda
decreases-emit_lambda l = 8 * l.depth + 3

abbrev pub decreases-emit_logical : goal.decreases-emit_logical
decreases-emit_logical l = 8 * l.depth + 2

abbrev pub decreases-emit_method : goal.decreases-emit_method
decreases-emit_method l = 8 * l.depth + 2

abbrev pub decreases-emit_named : goal.decreases-emit_named
decreases-emit_named l = 8 * l.depth + 3

abbrev pub decreases-emit_shortcut : goal.decreases-emit_shortcut
decreases-emit_shortcut l = 8 * l.depth + 1

abbrev pub decreases-emit_two : goal.decreases-emit_two
decreases-emit_two l = 8 * l.depth + 1

abbrev pub decreases-emit_unary : goal.decreases-emit_unary
decreases-emit_unary l = 8 * l.depth + 1

abbrev pub invariant-emit_exprs-loop-left : goal.invariant-emit_exprs-loop-left
invariant-emit_exprs-loop-left l = ExprsRest l.depth l.s.tree.now (slot_names l.s.tree.now l.s.slots.now) l.initial.e l.initial.left l.initial.p l.e l.left l.p

abbrev pub decreases-emit_exprs-loop-left : goal.decreases-emit_exprs-loop-left
decreases-emit_exprs-loop-left l = l.left
