-- A lambda's slots: parameters, then captures.
use native.Mathlib.Omega.{arith}
use Rattle.slots.proofs.Params.{collected-stopped}
use Rattle.slots.proofs.Capturing.{lambda-over, params-few, lambda-few, lambda-done, lambda-more, room-kept}
use Rattle.slots.proofs.captures.lambda_slots.Goals as goal

pub returns-in_err-k : goal.returns-in_err-k
returns-in_err-k c = collected-stopped _ _ _ _ c.from_residual.ensures (lambda-over _ _ _ _ c.put_params.ensures _ _ c.in_err-k.was)

pub overflow_add-k : goal.overflow_add-k
overflow_add-k c =
    let h = params-few _ _ _ _
    c.put_params.ensures _ c.in_ok-k.was (room-kept c.args.slots.now
    c.put_params.new.slots c.requires.2
    c.put_params.auto.slots) in let k = lambda-few _ _ _ _
    c.put_params.ensures _ c.in_ok-k.was (room-kept c.args.slots.now
    c.put_params.new.slots c.requires.2
    c.put_params.auto.slots) _ _ c.requires.1 _ _ c.collect_free_vars-n.ensures
    c.collect_free_vars-n.auto.places in omega arith

pub returns-then-k-n-gt-SLOTS_MOST : goal.returns-then-k-n-gt-SLOTS_MOST
returns-then-k-n-gt-SLOTS_MOST c =
    lambda-more _ _ _ _
    c.put_params.ensures _ c.in_ok-k.was (room-kept
    c.args.slots.now c.put_params.new.slots c.requires.2
    c.put_params.auto.slots) _ _ c.requires.1 _ _ c.collect_free_vars-n.ensures
    c.collect_free_vars-n.auto.places _ c.if-k-n-gt-SLOTS_MOST.true

pub returns : goal.returns
returns c =
    lambda-done _ _ _ _ c.put_params.ensures _
    c.in_ok-k.was (room-kept c.args.slots.now
    c.put_params.new.slots c.requires.2
    c.put_params.auto.slots) _ _ c.requires.1 _ _
    c.collect_free_vars-n.ensures
    c.collect_free_vars-n.auto.places _ c.if-k-n-gt-SLOTS_MOST.false
    c.append_slots.ensures
