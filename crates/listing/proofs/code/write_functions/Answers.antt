use native.Mathlib.Omega.{arith}
use Rattle.writing.proofs.Begun.{begun-length, begun-fits, begun-piece}
use Rattle.listing.proofs.CodeLaws.{listing_start, listing-done, listing-head, listing-function, listing-piece, listing-few, listing_step}
use Rattle.listing.proofs.code.write_functions.Goals as goal

pub loop-f-init : goal.loop-f-init
loop-f-init c = listing_start _ _ _ _ c.requires.0 c.requires.3

pub overflow_add-p : goal.overflow_add-p
overflow_add-p c = let h = listing-head c.loop-f.invariant c.loop-f-test.true in omega arith

pub number_at-n-requires : goal.number_at-n-requires
number_at-n-requires c = let h = listing-head c.loop-f.invariant c.loop-f-test.true in (omega arith, omega arith)

pub overflow_add-p-in-loop-f : goal.overflow_add-p-in-loop-f
overflow_add-p-in-loop-f c = let h = listing-head c.loop-f.invariant c.loop-f-test.true in omega arith

pub slice_bounds-write_function-count : goal.slice_bounds-write_function-count
slice_bounds-write_function-count c = omega (arith, begun-fits (listing-piece c.loop-f.invariant c.loop-f-test.true c.number_at-n.ensures.0))

pub slice_bounds-write_function-start : goal.slice_bounds-write_function-start
slice_bounds-write_function-start c = omega (arith, begun-fits (listing-piece c.loop-f.invariant c.loop-f-test.true c.number_at-n.ensures.0))

pub write_function-lines-requires : goal.write_function-lines-requires
write_function-lines-requires c =
    let l = c.loop-f.invariant in
    let e = c.number_at-n.ensures in
    let e₁ = e.1 in
    let h = c.loop-f-test.true in
    let w = listing-few l h e.0 in
    let x = c.requires.2 in
    let y = c.requires.1 in
    ((listing-function l h e.0).code, omega arith, omega arith, omega arith, begun-piece (listing-piece l h e.0))

pub overflow_add-put : goal.overflow_add-put
overflow_add-put c =
    let b = listing-piece c.loop-f.invariant c.loop-f-test.true c.number_at-n.ensures.0 in
    omega (arith, c.write_function-lines.ensures.wrote.count, begun-fits b, begun-length b, c.well_formed)

pub overflow_add-k : goal.overflow_add-k
overflow_add-k c = let w = listing-few c.loop-f.invariant c.loop-f-test.true c.number_at-n.ensures.0 in let x = c.requires.2 in omega arith

pub loop-f-preserved : goal.loop-f-preserved
loop-f-preserved c = listing_step c.loop-f.invariant c.loop-f-test.true c.number_at-n.ensures.0 c.write_function-lines.ensures

pub shape_of-out : goal.shape_of-out
shape_of-out c = begun-length c.loop-f.invariant.begun

pub returns : goal.returns
returns c = let l = c.loop-f in listing-done _ _ _ _ _ l.p l.put l.f l.k c.loop-f-test.false l.invariant
