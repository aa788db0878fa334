use Rattle.std.proofs.Common.{rules}
use mathlib.Core.Path.{refl}
use native.Mathlib.Omega.{arith}
use Rattle.slots.proofs.Params.{collected-count, frames-stopped, frames-begun, frames-gathered, frames-many, frames-all}
use Rattle.slots.proofs.collect.collect_locals.Goals as goal

pub returns-in_err-n : goal.returns-in_err-n
returns-in_err-n c = frames-stopped _ _ _ _ c.from_residual.ensures (frames-begun _ _ _ _ _ _ c.put_params.ensures c.in_err-n.was)

pub invariant_of-all : goal.invariant_of-all
invariant_of-all c =
    let z = collected-count _ _ _ _ _ c.put_params.ensures c.in_ok-n.was in
    record { short = c.requires.0; room = omega (arith, c.requires.1, c.put_params.auto.slots); few = z.0; indexed = z.2; loops_most = omega arith }

pub returns-in_err-block : goal.returns-in_err-block
returns-in_err-block c =
    frames-stopped _ _ _ _ c.from_residual-in_err-block.ensures
    (frames-gathered _ _ _ _ _ c.put_params.ensures c.in_ok-n.was refl c.block.ensures c.in_err-block.was)

pub returns-then-locals-gt-SLOTS_MOST : goal.returns-then-locals-gt-SLOTS_MOST
returns-then-locals-gt-SLOTS_MOST c =
    frames-many _ _ _ _ _ c.put_params.ensures c.in_ok-n.was refl c.block.ensures c.in_ok-block.was refl refl
    (let e = c.block.ensures.adds.same_slots in search rules) c.if-locals-gt-SLOTS_MOST.true

pub returns : goal.returns
returns c =
    frames-all _ _ _ _ _ c.put_params.ensures c.in_ok-n.was refl c.block.ensures c.in_ok-block.was refl refl
    (let e = c.block.ensures.adds.same_slots in search rules) c.if-locals-gt-SLOTS_MOST.false
