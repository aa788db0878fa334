use mathlib.Core.Path.{ap, ◌∙◌}
use Rattle.std.proofs.Common.{Some}
use Rattle.run.proofs.Passing.{going_start, stretch-many, near-stands, turn-less, turn_on, turn-over, turn_many}
use Rattle.run.proofs.course.Course.pass.Goals as goal

pub loop-near-init : goal.loop-near-init
loop-near-init c = going_start _ _ _ _ _ c.args.self.coded

pub stretch-requires : goal.stretch-requires
stretch-requires c = c.loop-near.invariant.stands

pub returns-in_err-near : goal.returns-in_err-near
returns-in_err-near c = let s = c.args.self in let l = c.loop-near in stretch-many _ _ s.coded _ _ _ _ _ l.invariant _ _ c.stretch.ensures c.in_err-near.was _ c.from_residual.ensures

pub turn-requires : goal.turn-requires
turn-requires c = let s = c.args.self in let l = c.loop-near in let n = near-stands _ _ s.coded _ _ _ _ _ l.invariant _ _ c.stretch.ensures _ c.in_ok-near.was in (n.0, n.1)

pub returns-in_err-next : goal.returns-in_err-next
returns-in_err-next c = let s = c.args.self in let l = c.loop-near in turn_many _ _ s.coded _ _ _ _ _ l.invariant _ _ c.stretch.ensures _ c.in_ok-near.was _ _ c.turn.ensures c.in_err-next.was _ c.from_residual-in_err-next.ensures

pub loop-near-smaller : goal.loop-near-smaller
loop-near-smaller c = let s = c.args.self in let l = c.loop-near in turn-less _ _ s.coded _ _ _ _ _ l.invariant _ _ c.stretch.ensures _ c.in_ok-near.was _ _ c.turn.ensures _ (c.in_ok-next.was ∙ ap Some c.in-On.is)

pub loop-near-preserved : goal.loop-near-preserved
loop-near-preserved c = let s = c.args.self in let l = c.loop-near in turn_on _ _ s.coded _ _ _ _ _ l.invariant _ _ c.stretch.ensures _ c.in_ok-near.was _ _ c.turn.ensures _ (c.in_ok-next.was ∙ ap Some c.in-On.is)

pub returns-in-Over : goal.returns-in-Over
returns-in-Over c = let s = c.args.self in let l = c.loop-near in turn-over _ _ s.coded _ _ _ _ _ l.invariant _ _ c.stretch.ensures _ c.in_ok-near.was _ _ c.turn.ensures _ _ (c.in_ok-next.was ∙ ap Some c.in-Over.is)
