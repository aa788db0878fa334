use native.Mathlib.Omega.{arith}
use Rattle.writing.proofs.Begun.{from-long}
use Rattle.listing.proofs.Entries.{page-53, entry_new, entry_old, page-then-line, line-alone}
use Rattle.listing.proofs.code.write_entry.Goals as goal

pub write_page-requires : goal.write_page-requires
write_page-requires c = let l = entry_new _ _ _ c.requires.0 c.requires.1 c.requires.2 c.requires.3 c.if-k-eq0.true in let r = c.requires.4 in (omega arith, omega arith)

pub slice_bounds-write_line-count : goal.slice_bounds-write_line-count
slice_bounds-write_line-count c = let l = entry_new _ _ _ c.requires.0 c.requires.1 c.requires.2 c.requires.3 c.if-k-eq0.true in let r = c.requires.4 in let k = c.write_page.auto.out in omega arith

pub slice_bounds-write_line-start : goal.slice_bounds-write_line-start
slice_bounds-write_line-start c = let l = entry_new _ _ _ c.requires.0 c.requires.1 c.requires.2 c.requires.3 c.if-k-eq0.true in let r = c.requires.4 in let k = c.write_page.auto.out in omega arith

pub write_line-requires : goal.write_line-requires
write_line-requires c =
    let l = entry_new _ _ _ c.requires.0 c.requires.1 c.requires.2 c.requires.3 c.if-k-eq0.true in let r = c.requires.4 in let g = page-53 c.args.k c.requires.0 in
    (c.requires.1, c.requires.2, c.requires.3, from-long 53 53 _ _ _ c.write_page.ensures (omega arith) (omega arith))

pub returns-then-k-eq0 : goal.returns-then-k-eq0
returns-then-k-eq0 c = page-then-line _ _ _ c.requires.0 c.requires.1 c.requires.2 c.requires.3 c.if-k-eq0.true c.requires.4 c.write_page.ensures c.write_line.ensures

pub write_line-requires-2 : goal.write_line-requires-2
write_line-requires-2 c = let l = entry_old _ _ _ c.requires.0 c.requires.1 c.requires.2 c.requires.3 c.if-k-eq0.false in let r = c.requires.4 in (c.requires.1, c.requires.2, c.requires.3, omega arith)

pub returns : goal.returns
returns c = line-alone _ _ _ c.requires.0 c.requires.1 c.requires.2 c.requires.3 c.if-k-eq0.false c.write_line-2.ensures
