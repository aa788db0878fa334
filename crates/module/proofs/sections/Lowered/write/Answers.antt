-- the head is written
use native.Mathlib.Omega.{arith}
use Rattle.writing.proofs.Begun.{begun_first, begun-length, begun-fits, begun-piece, begun-next, begun-done}
use Rattle.module.proofs.Whole.{length-module, module-pieces}
use Rattle.module.proofs.sections.Lowered.write.Goals as goal

pub write_head-at-requires : goal.write_head-at-requires
write_head-at-requires c =
    let a = c.args.self.now in let n = length-module a.tree.now a.made.now a.code.now a.tables.now a.counts in
    (omega (arith, c.requires.0, c.requires.2), omega (arith, c.requires.0), omega (arith, c.requires.1))

pub slice_bounds-write_texts-count : goal.slice_bounds-write_texts-count
slice_bounds-write_texts-count c =
    let s = c.args.self.now in
    let begun = begun_first (module-pieces s.tree.now s.made.now s.code.now s.tables.now s.counts c.args.size c.requires.0) (omega (arith, c.requires.0, c.requires.2)) c.write_head-at.ensures in
    omega (arith, begun-fits begun)

pub slice_bounds-write_texts-start : goal.slice_bounds-write_texts-start
slice_bounds-write_texts-start c =
    let s = c.args.self.now in
    let begun = begun_first (module-pieces s.tree.now s.made.now s.code.now s.tables.now s.counts c.args.size c.requires.0) (omega (arith, c.requires.0, c.requires.2)) c.write_head-at.ensures in
    omega (arith, begun-fits begun)

pub write_texts-at-requires : goal.write_texts-at-requires
write_texts-at-requires c =
    let s = c.args.self.now in
    let begun = begun_first (module-pieces s.tree.now s.made.now s.code.now s.tables.now s.counts c.args.size c.requires.0) (omega (arith, c.requires.0, c.requires.2)) c.write_head-at.ensures in
    begun-piece begun

pub overflow_add-at : goal.overflow_add-at
overflow_add-at c =
    let s = c.args.self.now in
    let begun = begun_first (module-pieces s.tree.now s.made.now s.code.now s.tables.now s.counts c.args.size c.requires.0) (omega (arith, c.requires.0, c.requires.2)) c.write_head-at.ensures in
    let b = begun in omega (arith, begun-fits b, begun-length b, c.write_texts-at.ensures.count, c.well_formed)

pub slice_bounds-write_bodies-count : goal.slice_bounds-write_bodies-count
slice_bounds-write_bodies-count c =
    let s = c.args.self.now in
    let begun = begun_first (module-pieces s.tree.now s.made.now s.code.now s.tables.now s.counts c.args.size c.requires.0) (omega (arith, c.requires.0, c.requires.2)) c.write_head-at.ensures in
    omega (arith, begun-fits (begun-next begun c.write_texts-at.ensures))

pub slice_bounds-write_bodies-start : goal.slice_bounds-write_bodies-start
slice_bounds-write_bodies-start c =
    let s = c.args.self.now in
    let begun = begun_first (module-pieces s.tree.now s.made.now s.code.now s.tables.now s.counts c.args.size c.requires.0) (omega (arith, c.requires.0, c.requires.2)) c.write_head-at.ensures in
    omega (arith, begun-fits (begun-next begun c.write_texts-at.ensures))

pub write_bodies-requires : goal.write_bodies-requires
write_bodies-requires c =
    let s = c.args.self.now in
    let begun = begun_first (module-pieces s.tree.now s.made.now s.code.now s.tables.now s.counts c.args.size c.requires.0) (omega (arith, c.requires.0, c.requires.2)) c.write_head-at.ensures in
    begun-piece (begun-next begun c.write_texts-at.ensures)

pub overflow_add-result : goal.overflow_add-result
overflow_add-result c =
    let s = c.args.self.now in
    let begun = begun_first (module-pieces s.tree.now s.made.now s.code.now s.tables.now s.counts c.args.size c.requires.0) (omega (arith, c.requires.0, c.requires.2)) c.write_head-at.ensures in
    let b = begun-next begun c.write_texts-at.ensures in
    omega (arith, begun-fits b, begun-length b, c.write_bodies.ensures.count, c.well_formed)

pub returns : goal.returns
returns c =
    let s = c.args.self.now in
    let begun = begun_first (module-pieces s.tree.now s.made.now s.code.now s.tables.now s.counts c.args.size c.requires.0) (omega (arith, c.requires.0, c.requires.2)) c.write_head-at.ensures in
    begun-done (begun-next (begun-next begun c.write_texts-at.ensures) c.write_bodies.ensures)
