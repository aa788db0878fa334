-- the name is written
use native.Mathlib.Omega.{arith}
use mathlib.Core.Path.{ap}
use lib.ListN.{length, get_or}
use Rattle.writing.proofs.Begun.{begun_first, begun-length, begun-fits, begun-piece, begun-next, begun-done}
use Rattle.module.proofs.Lengths.{name-short}
use Rattle.module.proofs.CodeLengths.{classes-fewer, class-pieces, length-class}
use Rattle.module.proofs.classes.ClassesListed.write_at.Goals as goal

pub offset_bounds-self-i : goal.offset_bounds-self-i
offset_bounds-self-i c = let s = c.args.self.now in omega (arith, classes-fewer s.tree.now s.methods.now s.names.now s.places.now, c.requires)

pub bounds-self-i : goal.bounds-self-i
bounds-self-i c = let s = c.args.self.now in omega (arith, classes-fewer s.tree.now s.methods.now s.names.now s.places.now, c.requires)

pub methods_at-methods-requires : goal.methods_at-methods-requires
methods_at-methods-requires c = let s = c.args.self.now in omega (arith, classes-fewer s.tree.now s.methods.now s.names.now s.places.now, c.requires)

pub write_counted-at-requires : goal.write_counted-at-requires
write_counted-at-requires c =
    let n = length-class _ _ _ _ _ c.name_part-name.ensures.result_value c.methods_at-methods.ensures.tree c.methods_at-methods.ensures.words c.requires.0 in
    let a = c.args.self.now in
    let s = name-short a.tree.now (get_or a.names.now c.args.i 0) a.tree_bytes in
    (omega (arith, ap length c.name_part-name.ensures.result_value, s), omega (arith, n, c.requires.1), omega arith)

pub slice_bounds-write_list-count : goal.slice_bounds-write_list-count
slice_bounds-write_list-count c =
    let named = begun_first (class-pieces _ _ _ _ _ c.name_part-name.ensures.result_value c.methods_at-methods.ensures.tree c.methods_at-methods.ensures.words c.requires.0) c.requires.1 c.write_counted-at.ensures in
    omega (arith, begun-fits named)

pub slice_bounds-write_list-start : goal.slice_bounds-write_list-start
slice_bounds-write_list-start c =
    let named = begun_first (class-pieces _ _ _ _ _ c.name_part-name.ensures.result_value c.methods_at-methods.ensures.tree c.methods_at-methods.ensures.words c.requires.0) c.requires.1 c.write_counted-at.ensures in
    omega (arith, begun-fits named)

pub write_list-requires : goal.write_list-requires
write_list-requires c =
    let named = begun_first (class-pieces _ _ _ _ _ c.name_part-name.ensures.result_value c.methods_at-methods.ensures.tree c.methods_at-methods.ensures.words c.requires.0) c.requires.1 c.write_counted-at.ensures in
    begun-piece named

pub overflow_add-result : goal.overflow_add-result
overflow_add-result c =
    let named = begun_first (class-pieces _ _ _ _ _ c.name_part-name.ensures.result_value c.methods_at-methods.ensures.tree c.methods_at-methods.ensures.words c.requires.0) c.requires.1 c.write_counted-at.ensures in
    omega (arith, begun-fits named, begun-length named, c.write_list.ensures.count, c.well_formed)

pub returns : goal.returns
returns c =
    let named = begun_first (class-pieces _ _ _ _ _ c.name_part-name.ensures.result_value c.methods_at-methods.ensures.tree c.methods_at-methods.ensures.words c.requires.0) c.requires.1 c.write_counted-at.ensures in
    begun-done (begun-next named c.write_list.ensures)
