use mathlib.Core.Path.{refl}
use native.Mathlib.Omega.{arith}
use Rattle.run.proofs.Stretching.{p-to-q, stretch-full, stretch-on}
use Rattle.run.proofs.course.Course.stretch.Goals as goal

pub overflow_sub-q : goal.overflow_sub-q
overflow_sub-q c = let s = c.args.self.now in let t = p-to-q _ s.coded _ _ _ c.requires _ s.halts _ refl _ s.begins _ c.reach-to.ensures _ _ refl refl in omega arith

pub slice_bounds-copy-count : goal.slice_bounds-copy-count
slice_bounds-copy-count c = let s = c.args.self.now in let t = p-to-q _ s.coded _ _ _ c.requires _ s.halts _ refl _ s.begins _ c.reach-to.ensures _ _ refl refl in omega arith

pub slice_bounds-copy-start : goal.slice_bounds-copy-start
slice_bounds-copy-start c = let s = c.args.self.now in let t = p-to-q _ s.coded _ _ _ c.requires _ s.halts _ refl _ s.begins _ c.reach-to.ensures _ _ refl refl in omega arith

pub slice_bounds-copy-end : goal.slice_bounds-copy-end
slice_bounds-copy-end c = let s = c.args.self.now in let t = p-to-q _ s.coded _ _ _ c.requires _ s.halts _ refl _ s.begins _ c.reach-to.ensures _ _ refl refl in omega arith

pub overflow_sub-result-2 : goal.overflow_sub-result-2
overflow_sub-result-2 c = let s = c.args.self.now in let t = p-to-q _ s.coded _ _ _ c.requires _ s.halts _ refl _ s.begins _ c.reach-to.ensures _ _ refl refl in omega arith

pub returns-then-self-s : goal.returns-then-self-s
returns-then-self-s c = let s = c.args.self.now in stretch-full _ s.coded _ _ _ c.requires _ s.halts _ refl _ s.begins _ c.reach-to.ensures _ _ refl refl _ _ c.if-self-s.true

pub returns : goal.returns
returns c = let s = c.args.self.now in stretch-on _ s.coded _ _ _ c.requires _ s.halts _ refl _ s.begins _ c.reach-to.ensures _ _ refl refl _ _ c.if-self-s.false c.copy.ensures
