-- the count is written, then the version
use native.Mathlib.Omega.{arith}
use Rattle.writing.proofs.Begun.{begun_headed, begun-length, begun-fits, begun-number, begun-next, begun-done}
use Rattle.writing.proofs.numbers.write_head.Goals as goal

pub slice_bounds-write_number-count : goal.slice_bounds-write_number-count
slice_bounds-write_number-count c = omega (arith, begun-fits (begun_headed c.args.size c.args.version c.requires.0 c.write_number-at.ensures))

pub slice_bounds-write_number-start : goal.slice_bounds-write_number-start
slice_bounds-write_number-start c = omega (arith, begun-fits (begun_headed c.args.size c.args.version c.requires.0 c.write_number-at.ensures))

pub write_number-requires : goal.write_number-requires
write_number-requires c = (begun-number 1 c.args.version (begun_headed c.args.size c.args.version c.requires.0 c.write_number-at.ensures), omega arith)

pub overflow_add-result : goal.overflow_add-result
overflow_add-result c =
    let b = begun_headed c.args.size c.args.version c.requires.0 c.write_number-at.ensures in
    omega (arith, begun-fits b, begun-length b, c.write_number.ensures.count, c.well_formed)

pub returns : goal.returns
returns c = begun-done (begun-next (begun_headed c.args.size c.args.version c.requires.0 c.write_number-at.ensures) c.write_number.ensures)
