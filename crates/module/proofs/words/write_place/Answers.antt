-- the opcode is written
use native.Mathlib.Omega.{arith}
use Rattle.writing.proofs.Begun.{begun-length, begun-fits, begun-number, begun-next, begun-done}
use Rattle.module.proofs.Encoding.{begun-place}
use Rattle.module.proofs.words.write_place.Goals as goal

pub bounds-out-0 : goal.bounds-out-0
bounds-out-0 c =
    let begun = begun-place c.args.tree.now c.args.out.now c.args.w c.requires.0 c.requires.1 in
    omega (arith, begun-fits begun, begun-length begun)

pub slice_bounds-write_literal-count : goal.slice_bounds-write_literal-count
slice_bounds-write_literal-count c =
    let begun = begun-place c.args.tree.now c.args.out.now c.args.w c.requires.0 c.requires.1 in
    omega (arith, begun-fits begun)

pub slice_bounds-write_literal-start : goal.slice_bounds-write_literal-start
slice_bounds-write_literal-start c =
    let begun = begun-place c.args.tree.now c.args.out.now c.args.w c.requires.0 c.requires.1 in
    omega (arith, begun-fits begun)

pub write_literal-requires : goal.write_literal-requires
write_literal-requires c =
    let begun = begun-place c.args.tree.now c.args.out.now c.args.w c.requires.0 c.requires.1 in
    begun-number _ _ begun

pub overflow_add-result : goal.overflow_add-result
overflow_add-result c =
    let begun = begun-place c.args.tree.now c.args.out.now c.args.w c.requires.0 c.requires.1 in
    omega (arith, (begun-done (begun-next begun c.write_literal.ensures)).count, c.requires.1, c.well_formed)

pub returns : goal.returns
returns c =
    let begun = begun-place c.args.tree.now c.args.out.now c.args.w c.requires.0 c.requires.1 in
    begun-done (begun-next begun c.write_literal.ensures)
