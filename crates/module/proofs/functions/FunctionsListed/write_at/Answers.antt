-- the head is written, number by number
use native.Mathlib.Omega.{arith}
use mathlib.Core.Path.{ap}
use Prim.Native.Nat.{◌/◌, ◌%◌}
use lib.ListN.{length, get_or}
use Rattle.writing.proofs.Begun.{begun_first, begun-length, begun-fits, begun-number, begun-piece, begun-next, begun-done}
use Rattle.module.proofs.CodeLengths.{region-short, functions-fewer, function-pieces, length-function}
use Rattle.module.proofs.functions.FunctionsListed.write_at.Goals as goal

pub offset_bounds-self-i : goal.offset_bounds-self-i
offset_bounds-self-i c = let s = c.args.self.now in omega (arith, functions-fewer s.tree.now s.finished.now s.heads.now s.places.now, c.requires)

pub bounds-self-i : goal.bounds-self-i
bounds-self-i c = let s = c.args.self.now in omega (arith, functions-fewer s.tree.now s.finished.now s.heads.now s.places.now, c.requires)

pub code_at-code-requires : goal.code_at-code-requires
code_at-code-requires c = let s = c.args.self.now in omega (arith, functions-fewer s.tree.now s.finished.now s.heads.now s.places.now, c.requires)

pub height_of-height-requires : goal.height_of-height-requires
height_of-height-requires c =
    let k = get_or c.args.self.now.places.now c.args.i 0 in
    omega (arith, ap length c.code_at-code.ensures.words, region-short (k / 65536) (k % 65536) c.args.self.now.finished.now)

pub write_number-at-requires : goal.write_number-at-requires
write_number-at-requires c =
    let n = length-function _ _ _ _ _ c.code_at-code.ensures.tree c.code_at-code.ensures.words c.requires.0 in
    omega (arith, n, c.requires.1)

pub slice_bounds-write_number-count : goal.slice_bounds-write_number-count
slice_bounds-write_number-count c =
    let begun = begun_first (function-pieces _ _ _ _ _ c.code_at-code.ensures.tree c.code_at-code.ensures.words c.requires.0 (c.height_of-height.ensures _)) c.requires.1 c.write_number-at.ensures in
    omega (arith, begun-fits begun)

pub slice_bounds-write_number-start : goal.slice_bounds-write_number-start
slice_bounds-write_number-start c =
    let begun = begun_first (function-pieces _ _ _ _ _ c.code_at-code.ensures.tree c.code_at-code.ensures.words c.requires.0 (c.height_of-height.ensures _)) c.requires.1 c.write_number-at.ensures in
    omega (arith, begun-fits begun)

pub write_number-at-requires-2 : goal.write_number-at-requires-2
write_number-at-requires-2 c =
    let begun = begun_first (function-pieces _ _ _ _ _ c.code_at-code.ensures.tree c.code_at-code.ensures.words c.requires.0 (c.height_of-height.ensures _)) c.requires.1 c.write_number-at.ensures in
    (begun-number _ _ begun, omega arith)

pub overflow_add-at : goal.overflow_add-at
overflow_add-at c =
    let begun = begun_first (function-pieces _ _ _ _ _ c.code_at-code.ensures.tree c.code_at-code.ensures.words c.requires.0 (c.height_of-height.ensures _)) c.requires.1 c.write_number-at.ensures in
    omega (arith, begun-fits begun, begun-length begun, begun-number _ _ begun, c.write_number-at-2.ensures.count, c.well_formed)

pub slice_bounds-write_number-count-2 : goal.slice_bounds-write_number-count-2
slice_bounds-write_number-count-2 c =
    let begun = begun_first (function-pieces _ _ _ _ _ c.code_at-code.ensures.tree c.code_at-code.ensures.words c.requires.0 (c.height_of-height.ensures _)) c.requires.1 c.write_number-at.ensures in
    omega (arith, begun-fits (begun-next begun c.write_number-at-2.ensures))

pub slice_bounds-write_number-start-2 : goal.slice_bounds-write_number-start-2
slice_bounds-write_number-start-2 c =
    let begun = begun_first (function-pieces _ _ _ _ _ c.code_at-code.ensures.tree c.code_at-code.ensures.words c.requires.0 (c.height_of-height.ensures _)) c.requires.1 c.write_number-at.ensures in
    omega (arith, begun-fits (begun-next begun c.write_number-at-2.ensures))

pub write_number-at-requires-3 : goal.write_number-at-requires-3
write_number-at-requires-3 c =
    let begun = begun_first (function-pieces _ _ _ _ _ c.code_at-code.ensures.tree c.code_at-code.ensures.words c.requires.0 (c.height_of-height.ensures _)) c.requires.1 c.write_number-at.ensures in
    (begun-number _ _ (begun-next begun c.write_number-at-2.ensures), omega arith)

pub overflow_add-at-2 : goal.overflow_add-at-2
overflow_add-at-2 c =
    let begun = begun_first (function-pieces _ _ _ _ _ c.code_at-code.ensures.tree c.code_at-code.ensures.words c.requires.0 (c.height_of-height.ensures _)) c.requires.1 c.write_number-at.ensures in
    let b = begun-next begun c.write_number-at-2.ensures in
    omega (arith, begun-fits b, begun-length b, c.write_number-at-3.ensures.count, c.well_formed)

pub slice_bounds-write_number-count-3 : goal.slice_bounds-write_number-count-3
slice_bounds-write_number-count-3 c =
    let begun = begun_first (function-pieces _ _ _ _ _ c.code_at-code.ensures.tree c.code_at-code.ensures.words c.requires.0 (c.height_of-height.ensures _)) c.requires.1 c.write_number-at.ensures in
    omega (arith, begun-fits (begun-next (begun-next begun c.write_number-at-2.ensures) c.write_number-at-3.ensures))

pub slice_bounds-write_number-start-3 : goal.slice_bounds-write_number-start-3
slice_bounds-write_number-start-3 c =
    let begun = begun_first (function-pieces _ _ _ _ _ c.code_at-code.ensures.tree c.code_at-code.ensures.words c.requires.0 (c.height_of-height.ensures _)) c.requires.1 c.write_number-at.ensures in
    omega (arith, begun-fits (begun-next (begun-next begun c.write_number-at-2.ensures) c.write_number-at-3.ensures))

pub write_number-at-requires-4 : goal.write_number-at-requires-4
write_number-at-requires-4 c =
    let begun = begun_first (function-pieces _ _ _ _ _ c.code_at-code.ensures.tree c.code_at-code.ensures.words c.requires.0 (c.height_of-height.ensures _)) c.requires.1 c.write_number-at.ensures in
    (begun-number _ _ (begun-next (begun-next begun c.write_number-at-2.ensures) c.write_number-at-3.ensures), omega arith)

pub overflow_add-at-3 : goal.overflow_add-at-3
overflow_add-at-3 c =
    let begun = begun_first (function-pieces _ _ _ _ _ c.code_at-code.ensures.tree c.code_at-code.ensures.words c.requires.0 (c.height_of-height.ensures _)) c.requires.1 c.write_number-at.ensures in
    let b = (begun-next (begun-next begun c.write_number-at-2.ensures) c.write_number-at-3.ensures) in
    omega (arith, begun-fits b, begun-length b, c.write_number-at-4.ensures.count, c.well_formed)

pub slice_bounds-write_list-count : goal.slice_bounds-write_list-count
slice_bounds-write_list-count c =
    let begun = begun_first (function-pieces _ _ _ _ _ c.code_at-code.ensures.tree c.code_at-code.ensures.words c.requires.0 (c.height_of-height.ensures _)) c.requires.1 c.write_number-at.ensures in
    omega (arith, begun-fits (begun-next (begun-next (begun-next begun c.write_number-at-2.ensures) c.write_number-at-3.ensures) c.write_number-at-4.ensures))

pub slice_bounds-write_list-start : goal.slice_bounds-write_list-start
slice_bounds-write_list-start c =
    let begun = begun_first (function-pieces _ _ _ _ _ c.code_at-code.ensures.tree c.code_at-code.ensures.words c.requires.0 (c.height_of-height.ensures _)) c.requires.1 c.write_number-at.ensures in
    omega (arith, begun-fits (begun-next (begun-next (begun-next begun c.write_number-at-2.ensures) c.write_number-at-3.ensures) c.write_number-at-4.ensures))

pub write_list-requires : goal.write_list-requires
write_list-requires c =
    let begun = begun_first (function-pieces _ _ _ _ _ c.code_at-code.ensures.tree c.code_at-code.ensures.words c.requires.0 (c.height_of-height.ensures _)) c.requires.1 c.write_number-at.ensures in
    begun-piece (begun-next (begun-next (begun-next begun c.write_number-at-2.ensures) c.write_number-at-3.ensures) c.write_number-at-4.ensures)

pub overflow_add-result : goal.overflow_add-result
overflow_add-result c =
    let begun = begun_first (function-pieces _ _ _ _ _ c.code_at-code.ensures.tree c.code_at-code.ensures.words c.requires.0 (c.height_of-height.ensures _)) c.requires.1 c.write_number-at.ensures in
    let b = begun-next (begun-next (begun-next begun c.write_number-at-2.ensures) c.write_number-at-3.ensures) c.write_number-at-4.ensures in
    omega (arith, begun-fits b, begun-length b, c.write_list.ensures.count, c.well_formed)

pub returns : goal.returns
returns c =
    let begun = begun_first (function-pieces _ _ _ _ _ c.code_at-code.ensures.tree c.code_at-code.ensures.words c.requires.0 (c.height_of-height.ensures _)) c.requires.1 c.write_number-at.ensures in
    begun-done (begun-next (begun-next (begun-next (begun-next begun c.write_number-at-2.ensures) c.write_number-at-3.ensures) c.write_number-at-4.ensures) c.write_list.ensures)
