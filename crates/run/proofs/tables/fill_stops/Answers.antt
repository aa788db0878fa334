use mathlib.Core.Path.{refl}
use native.Mathlib.Omega.{arith}
use Rattle.run.proofs.Tabled.{stopping-start, place_in, stop-less, stopping-next, stopped}
use Rattle.run.proofs.tables.fill_stops.Goals as goal

pub loop-k-init : goal.loop-k-init
loop-k-init c = stopping-start _ _ _ _

pub bounds-places-k : goal.bounds-places-k
bounds-places-k c = let l = c.loop-k in let b = l.invariant.below in let h = c.requires.0.long in let e = c.args.function.counted in omega arith

pub bounds-function-places : goal.bounds-function-places
bounds-function-places c = let l = c.loop-k in place_in _ c.args.function.coded _ c.args.function.counted _ _ _ _ l.invariant c.loop-k-test.true _ c.requires.0 _ refl

pub overflow_cast-stops : goal.overflow_cast-stops
overflow_cast-stops c = let l = c.loop-k in let z = stop-less _ c.args.function.coded _ c.args.function.counted _ _ _ _ l.invariant c.loop-k-test.true _ c.requires.0 _ refl _ c.nearer-stop.ensures in omega arith

pub bounds-stops-k : goal.bounds-stops-k
bounds-stops-k c = let l = c.loop-k in let b = l.invariant.below in let m = l.invariant.long in let h = c.requires.1 in omega arith

pub loop-k-preserved : goal.loop-k-preserved
loop-k-preserved c = let l = c.loop-k in stopping-next _ c.args.function.coded _ c.args.function.counted _ _ _ _ l.invariant c.loop-k-test.true _ c.requires.0 _ refl _ c.nearer-stop.ensures c.requires.1 _ refl

pub shape_of-stops : goal.shape_of-stops
shape_of-stops c = c.loop-k.invariant.long

pub returns : goal.returns
returns c = stopped _ _ _ _ _ _ c.args.function.counted c.requires.1 c.loop-k-test.false c.loop-k.invariant
