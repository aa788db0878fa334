use native.Mathlib.Omega.{arith}
use mathlib.Core.Path.{◌≡◌, subst}
use Rattle.std.specs.Prelude.{Option}
use Rattle.std.proofs.Common.{rules}
use Rattle.reader.specs.View.{Walks}
use Rattle.reader.specs.declared.Placed.{Placed}
use Rattle.reader.specs.declared.iteration.Instructions.{Instructions}
use Rattle.writing.proofs.Begun.{begun-length, begun-fits, begun-piece}
use Rattle.listing.proofs.CodeLaws.{lining-start, lining-operands, lining-in, lining-piece, lining-more, lining-done}
use Rattle.listing.proofs.code.write_code.Goals as goal

-- what the iteration gave, as it was matched
walks-as : (s t : Instructions) {x y : Option Placed} → x ≡ y → Walks s x t → Walks s y t
walks-as s t e w = subst (λ (x : Option Placed). Walks s x t) e w

pub loop-placed-init : goal.loop-placed-init
loop-placed-init c = lining-start _ _ _ _ c.into_iter-placed-iterator.result (search rules) (search rules) (search rules) c.requires.3

pub overflow_add-k : goal.overflow_add-k
overflow_add-k c =
    let w = walks-as _ _ c.in-Some.is c.next.ensures.steps in
    let v = c.loop-placed.invariant in
    let x = c.requires.2 in
    let h = lining-in v c.next.new.self w in
    omega arith

pub slice_bounds-write_entry-count : goal.slice_bounds-write_entry-count
slice_bounds-write_entry-count c =
    let w = walks-as _ _ c.in-Some.is c.next.ensures.steps in
    let v = c.loop-placed.invariant in
    omega (arith, begun-fits (lining-piece v c.next.new.self w))

pub slice_bounds-write_entry-start : goal.slice_bounds-write_entry-start
slice_bounds-write_entry-start c =
    let w = walks-as _ _ c.in-Some.is c.next.ensures.steps in
    let v = c.loop-placed.invariant in
    omega (arith, begun-fits (lining-piece v c.next.new.self w))

pub write_entry-put-requires : goal.write_entry-put-requires
write_entry-put-requires c =
    let w = walks-as _ _ c.in-Some.is c.next.ensures.steps in
    let v = c.loop-placed.invariant in
    let x = c.requires.0 in
    let y = c.requires.2 in
    let h = lining-in v c.next.new.self w in
    (omega arith, c.requires.1, omega arith, lining-operands v c.next.new.self w (λ j. (c.type_inv.code j).fits), begun-piece (lining-piece v c.next.new.self w))

pub overflow_add-put : goal.overflow_add-put
overflow_add-put c =
    let w = walks-as _ _ c.in-Some.is c.next.ensures.steps in
    let v = c.loop-placed.invariant in
    let p = lining-piece v c.next.new.self w in
    omega (arith, c.write_entry-put.ensures.count, begun-fits p, begun-length p, c.well_formed)

pub loop-placed-preserved : goal.loop-placed-preserved
loop-placed-preserved c =
    let w = walks-as _ _ c.in-Some.is c.next.ensures.steps in
    let v = c.loop-placed.invariant in
    lining-more v c.next.new.self w c.write_entry-put.ensures

pub returns : goal.returns
returns c =
    lining-done c.loop-placed.invariant c.next.new.self (walks-as _ _ c.in-None.is c.next.ensures.steps)
