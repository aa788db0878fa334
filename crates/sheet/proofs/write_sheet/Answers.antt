use native.Mathlib.Omega.{arith}
use Prim.Native.Nat.{◌<◌}
use Rattle.writing.proofs.Begun.{begun-length, begun-fits, begun-piece}
use Rattle.sheet.proofs.SheetLaws.{sheeting-start, sheeting-head, sheeting-code, counts-few, line-few, line-41, sheeting-here, sheeting-next, totals-few, sheeting-last, last-41, sheeting-done, sheeting-same}
use Rattle.sheet.proofs.write_sheet.Goals as goal

pub loop-f-init : goal.loop-f-init
loop-f-init c = sheeting-start _ _ _ _ c.requires.0 c.requires.3

pub overflow_add-p : goal.overflow_add-p
overflow_add-p c = let h = sheeting-head c.loop-f.invariant c.requires.2 c.loop-f-test.true in omega arith

pub number_at-n-requires : goal.number_at-n-requires
number_at-n-requires c = let h = sheeting-head c.loop-f.invariant c.requires.2 c.loop-f-test.true in (omega arith, omega arith)

pub overflow_add-p-in-loop-f : goal.overflow_add-p-in-loop-f
overflow_add-p-in-loop-f c = let h = sheeting-head c.loop-f.invariant c.requires.2 c.loop-f-test.true in omega arith

pub count_code-code-requires : goal.count_code-code-requires
count_code-code-requires c = sheeting-code c.loop-f.invariant c.requires.2 c.loop-f-test.true c.number_at-n.ensures.0

pub slice_bounds-write_count-count : goal.slice_bounds-write_count-count
slice_bounds-write_count-count c = let y = c.requires.1 in omega (arith, begun-fits (sheeting-here c.loop-f.invariant c.requires.2 c.loop-f-test.true c.number_at-n.ensures.0 c.count_code-code.ensures))

pub slice_bounds-write_count-start : goal.slice_bounds-write_count-start
slice_bounds-write_count-start c = let y = c.requires.1 in omega (arith, begun-fits (sheeting-here c.loop-f.invariant c.requires.2 c.loop-f-test.true c.number_at-n.ensures.0 c.count_code-code.ensures))

pub invariant_of-row : goal.invariant_of-row
invariant_of-row c = record { few = line-few c.loop-f.invariant c.requires.2 c.loop-f-test.true c.number_at-n.ensures.0 c.count_code-code.ensures }

pub write_count-requires : goal.write_count-requires
write_count-requires c =
    let y = c.requires.1 in let h = c.loop-f-test.true in let hf : c.loop-f.f < 65536 = omega arith in let l = c.loop-f.invariant in let e = c.number_at-n.ensures.0 in
    let b = begun-piece (sheeting-here l c.requires.2 h e c.count_code-code.ensures) in let w = line-41 l c.requires.2 h e c.count_code-code.ensures hf in
    (hf, omega arith)

pub overflow_add-put : goal.overflow_add-put
overflow_add-put c =
    let y = c.requires.1 in let h = c.loop-f-test.true in let l = c.loop-f.invariant in let e = c.number_at-n.ensures.0 in let b = sheeting-here l c.requires.2 h e c.count_code-code.ensures in
    omega (arith, line-41 l c.requires.2 h e c.count_code-code.ensures (omega arith), begun-fits b, begun-length b, c.well_formed)

pub overflow_add-totals : goal.overflow_add-totals
overflow_add-totals c = omega (arith, (counts-few c.loop-f.invariant c.requires.2 c.loop-f-test.true c.number_at-n.ensures.0 c.count_code-code.ensures).all)

pub overflow_add-totals-in-loop-f : goal.overflow_add-totals-in-loop-f
overflow_add-totals-in-loop-f c = omega (arith, (counts-few c.loop-f.invariant c.requires.2 c.loop-f-test.true c.number_at-n.ensures.0 c.count_code-code.ensures).questions)

pub overflow_add-totals-in-loop-f-2 : goal.overflow_add-totals-in-loop-f-2
overflow_add-totals-in-loop-f-2 c = omega (arith, (counts-few c.loop-f.invariant c.requires.2 c.loop-f-test.true c.number_at-n.ensures.0 c.count_code-code.ensures).calls)

pub loop-f-preserved : goal.loop-f-preserved
loop-f-preserved c = let y = c.requires.1 in let h = c.loop-f-test.true in sheeting-next c.loop-f.invariant c.requires.2 h c.number_at-n.ensures.0 c.count_code-code.ensures (omega arith) c.write_count.ensures

pub slice_bounds-write_total-count : goal.slice_bounds-write_total-count
slice_bounds-write_total-count c = omega (arith, begun-fits (sheeting-last c.loop-f.invariant c.requires.2 c.loop-f-test.false))

pub slice_bounds-write_total-start : goal.slice_bounds-write_total-start
slice_bounds-write_total-start c = omega (arith, begun-fits (sheeting-last c.loop-f.invariant c.requires.2 c.loop-f-test.false))

pub invariant_of-totals : goal.invariant_of-totals
invariant_of-totals c = record { few = totals-few c.loop-f.invariant c.requires.2 }

pub write_total-requires : goal.write_total-requires
write_total-requires c =
    let l = c.loop-f.invariant in let b = begun-piece (sheeting-last l c.requires.2 c.loop-f-test.false) in
    let w = last-41 l c.requires.2 c.loop-f-test.false in omega arith

pub overflow_add-result : goal.overflow_add-result
overflow_add-result c =
    let l = c.loop-f.invariant in let b = sheeting-last l c.requires.2 c.loop-f-test.false in
    omega (arith, last-41 l c.requires.2 c.loop-f-test.false, begun-fits b, begun-length b, c.well_formed)

pub shape_of-out : goal.shape_of-out
shape_of-out c = sheeting-same c.loop-f.invariant c.requires.2 c.loop-f-test.false c.write_total.ensures

pub returns : goal.returns
returns c = sheeting-done c.loop-f.invariant c.requires.2 c.loop-f-test.false c.write_total.ensures
