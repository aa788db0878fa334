-- the name is written
use native.Mathlib.Omega.{arith}
use mathlib.Core.Path.{ap}
use Prim.Native.Nat.{◌/◌}
use lib.ListN.{length, get_or}
use Rattle.writing.proofs.Begun.{begun_first, begun-length, begun-fits, begun-number, begun-next, begun-done}
use Rattle.module.proofs.Lengths.{name-short, method-pieces, length-method}
use Rattle.module.proofs.classes.MethodsListed.write_at.Goals as goal

pub write_counted-at-requires : goal.write_counted-at-requires
write_counted-at-requires c =
    let s = c.args.self.now in
    let k = name-short s.tree.now (get_or s.words.now c.args.i 0 / 256) s.tree_bytes in
    let e = c.name_part-name.ensures.result_value in
    let n = length-method _ _ _ e c.requires.0 in
    (omega (arith, ap length e, k), omega (arith, n, c.requires.1), omega arith)

pub slice_bounds-write_number-count : goal.slice_bounds-write_number-count
slice_bounds-write_number-count c =
    let named = begun_first (method-pieces _ _ _ c.name_part-name.ensures.result_value c.requires.0) c.requires.1 c.write_counted-at.ensures in
    omega (arith, begun-fits named)

pub slice_bounds-write_number-start : goal.slice_bounds-write_number-start
slice_bounds-write_number-start c =
    let named = begun_first (method-pieces _ _ _ c.name_part-name.ensures.result_value c.requires.0) c.requires.1 c.write_counted-at.ensures in
    omega (arith, begun-fits named)

pub write_number-requires : goal.write_number-requires
write_number-requires c =
    let named = begun_first (method-pieces _ _ _ c.name_part-name.ensures.result_value c.requires.0) c.requires.1 c.write_counted-at.ensures in
    (begun-number _ _ named, omega arith)

pub overflow_add-result : goal.overflow_add-result
overflow_add-result c =
    let named = begun_first (method-pieces _ _ _ c.name_part-name.ensures.result_value c.requires.0) c.requires.1 c.write_counted-at.ensures in
    omega (arith, begun-fits named, begun-length named, begun-number _ _ named, c.write_number.ensures.count, c.well_formed)

pub returns : goal.returns
returns c =
    let named = begun_first (method-pieces _ _ _ c.name_part-name.ensures.result_value c.requires.0) c.requires.1 c.write_counted-at.ensures in
    begun-done (begun-next named c.write_number.ensures)
