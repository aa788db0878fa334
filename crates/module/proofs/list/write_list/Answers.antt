-- element by element
use native.Mathlib.Omega.{arith}
use Rattle.writing.proofs.Begun.{begun_first, begun-now, begun-back, begun-as, begun-length, begun-fits, begun-piece, begun-next, begun-done}
use Rattle.module.proofs.Pieces.{counted-first, counted-two, elements_next, elements-none}
use Rattle.module.proofs.list.write_list.Goals as goal

pub write_number-at-requires : goal.write_number-at-requires
write_number-at-requires g c = omega (arith, c.requires, counted-two (g.L.Listed.elements c.args.list.now))

pub loop-i-init : goal.loop-i-init
loop-i-init g c =
    let begun = begun_first (counted-first _ c.count-n.ensures) c.requires c.write_number-at.ensures in
    (omega arith, begun-now begun)

pub write_at-at-requires : goal.write_at-at-requires
write_at-at-requires g c =
    let here = begun-as c.loop-i.invariant.1 _ (elements_next _ c.loop-i.i (omega arith)) in
    (omega arith, begun-piece here)

pub overflow_add-at : goal.overflow_add-at
overflow_add-at g c =
    let begun = begun_first (counted-first _ c.count-n.ensures) c.requires c.write_number-at.ensures in
    let here = begun-as c.loop-i.invariant.1 _ (elements_next _ c.loop-i.i (omega arith)) in
    omega (arith, begun-fits here, begun-length here, begun-length begun, c.write_at-at.ensures.count, c.well_formed)

pub loop-i-preserved : goal.loop-i-preserved
loop-i-preserved g c =
    let here = begun-as c.loop-i.invariant.1 _ (elements_next _ c.loop-i.i (omega arith)) in
    (omega arith, begun-next here c.write_at-at.ensures)

pub returns : goal.returns
returns g c =
    let begun = begun_first (counted-first _ c.count-n.ensures) c.requires c.write_number-at.ensures in
    begun-back begun (begun-done (begun-as c.loop-i.invariant.1 _ (elements-none _ c.loop-i.i (omega arith))))
