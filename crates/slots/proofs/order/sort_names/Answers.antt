use Rattle.slots.proofs.Ordering.{sort-start, sort-first, sort-put, sort-done}
use Rattle.slots.proofs.Spotting.{sort-rest}
use native.Mathlib.Omega.{arith}
use mathlib.Core.Path.{refl}
use Rattle.slots.proofs.order.sort_names.Goals as goal

pub loop-i-init : goal.loop-i-init
loop-i-init c = sort-start _ _

pub offset_bounds-places-i : goal.offset_bounds-places-i
offset_bounds-places-i c = let h = c.loop-i.invariant.most in let k = c.loop-i.invariant.kept in omega arith

pub slice_bounds-insert_first-count : goal.slice_bounds-insert_first-count
slice_bounds-insert_first-count c = let h = c.loop-i.invariant.most in let k = c.loop-i.invariant.kept in omega arith

pub slice_bounds-insert_first-start : goal.slice_bounds-insert_first-start
slice_bounds-insert_first-start c = let h = c.loop-i.invariant.most in let k = c.loop-i.invariant.kept in omega arith

pub slice_bounds-insert_first-end : goal.slice_bounds-insert_first-end
slice_bounds-insert_first-end c = let h = c.loop-i.invariant.most in let k = c.loop-i.invariant.kept in omega arith

pub insert_first-requires : goal.insert_first-requires
insert_first-requires c = (sort-first _ _ _ _ _ c.loop-i.invariant c.loop-i-test.true refl, sort-rest _ _ _ _ _ c.loop-i.invariant c.loop-i-test.true refl)

pub loop-i-preserved : goal.loop-i-preserved
loop-i-preserved c = sort-put _ _ _ _ _ c.loop-i.invariant c.loop-i-test.true refl _ c.insert_first.auto.places c.insert_first.ensures

pub shape_of-places : goal.shape_of-places
shape_of-places c = c.loop-i.invariant.kept

pub returns : goal.returns
returns c = sort-done _ _ _ _ c.loop-i.invariant c.loop-i-test.false
