use native.Mathlib.Omega.{arith}
use Rattle.lower_leaves.proofs.LambdaState.{held_at, slot-held}
use Rattle.lower_leaves.proofs.Lambdas.{loading-start, loading-next, loading-over, loading-done, slot_small}
use Rattle.lower_leaves.proofs.closures.load_captured.Goals as goal

pub loop-at-init : goal.loop-at-init
loop-at-init c = loading-start

pub returns-in_err-slot : goal.returns-in_err-slot
returns-in_err-slot c = absurd (slot-held _ _ (held_at _ _ _ c.loop-at.at-index c.loop-at-test.true c.requires) c.in_err-slot.ensures)

pub put_op-requires : goal.put_op-requires
put_op-requires c = (omega arith, slot_small c.loop-at.invariant c.loop-at-test.true c.args.s.slotted c.in_ok-slot.ensures, omega arith)

pub returns-in_err-put_op : goal.returns-in_err-put_op
returns-in_err-put_op c = loading-over c.loop-at.invariant c.loop-at-test.true c.args.s.slotted c.in_ok-slot.ensures c.in_err-put_op.was c.from_residual-in_err-put_op.ensures c.put_op.ensures

pub loop-at-preserved : goal.loop-at-preserved
loop-at-preserved c = loading-next c.loop-at.invariant c.loop-at-test.true c.args.s.slotted c.in_ok-slot.ensures c.in_ok-put_op.was c.put_op.ensures

pub returns : goal.returns
returns c = loading-done c.loop-at.invariant c.loop-at-test.false
