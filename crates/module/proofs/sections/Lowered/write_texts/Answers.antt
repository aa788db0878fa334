-- the symbols are written
use native.Mathlib.Omega.{arith}
use Rattle.writing.proofs.Begun.{begun_first, begun-length, begun-fits, begun-piece, begun-next, begun-done}
use Rattle.module.proofs.Whole.{texts-pieces, length-texts}
use Rattle.module.proofs.sections.Lowered.write_texts.Goals as goal

pub write_list-at-requires : goal.write_list-at-requires
write_list-at-requires c =
    let s = c.symbols-symbols in let t = c.strings-strings in
    let a = c.args.self.now in
    let n = length-texts a.tree.now a.made.now a.tables.now a.counts s.ensures.tree s.ensures.made s.ensures.entries t.ensures.tree t.ensures.entries in
    omega (arith, n, c.requires)

pub slice_bounds-write_list-count : goal.slice_bounds-write_list-count
slice_bounds-write_list-count c =
    let s = c.symbols-symbols in let t = c.strings-strings in
    let begun = begun_first (texts-pieces _ _ _ _ s.ensures.tree s.ensures.made s.ensures.entries t.ensures.tree t.ensures.entries) c.requires c.write_list-at.ensures in
    omega (arith, begun-fits begun)

pub slice_bounds-write_list-start : goal.slice_bounds-write_list-start
slice_bounds-write_list-start c =
    let s = c.symbols-symbols in let t = c.strings-strings in
    let begun = begun_first (texts-pieces _ _ _ _ s.ensures.tree s.ensures.made s.ensures.entries t.ensures.tree t.ensures.entries) c.requires c.write_list-at.ensures in
    omega (arith, begun-fits begun)

pub write_list-requires : goal.write_list-requires
write_list-requires c =
    let s = c.symbols-symbols in let t = c.strings-strings in
    let begun = begun_first (texts-pieces _ _ _ _ s.ensures.tree s.ensures.made s.ensures.entries t.ensures.tree t.ensures.entries) c.requires c.write_list-at.ensures in
    begun-piece begun

pub overflow_add-result : goal.overflow_add-result
overflow_add-result c =
    let s = c.symbols-symbols in let t = c.strings-strings in
    let begun = begun_first (texts-pieces _ _ _ _ s.ensures.tree s.ensures.made s.ensures.entries t.ensures.tree t.ensures.entries) c.requires c.write_list-at.ensures in
    omega (arith, begun-fits begun, begun-length begun, c.write_list.ensures.count, c.well_formed)

pub returns : goal.returns
returns c =
    let s = c.symbols-symbols in let t = c.strings-strings in
    let begun = begun_first (texts-pieces _ _ _ _ s.ensures.tree s.ensures.made s.ensures.entries t.ensures.tree t.ensures.entries) c.requires c.write_list-at.ensures in
    begun-done (begun-next begun c.write_list.ensures)
