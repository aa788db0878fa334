use native.Mathlib.Omega.{arith}
use Rattle.definitions.proofs.ReadFits.{small_bytes}
use Rattle.writing.proofs.Begun.{begun_first, begun-length, begun-fits, begun-piece, begun-number, begun-next, begun-done}
use Rattle.cut.proofs.Writing.{stretch-after, stretch-within, spanned}
use Rattle.cut.proofs.write.write_stretch.Goals as goal

pub slice_bounds-stmts-count : goal.slice_bounds-stmts-count
slice_bounds-stmts-count c = omega (arith, c.stretch_end-end.ensures, stretch-after _ (small_bytes c.args.tree.now (λ i. (c.type_inv.tree i).fits)) c.requires.1)

pub slice_bounds-stmts-start : goal.slice_bounds-stmts-start
slice_bounds-stmts-start c = omega (arith, c.stretch_end-end.ensures, stretch-after _ (small_bytes c.args.tree.now (λ i. (c.type_inv.tree i).fits)) c.requires.1)

pub slice_bounds-stmts-end : goal.slice_bounds-stmts-end
slice_bounds-stmts-end c = omega (arith, c.stretch_end-end.ensures, stretch-within _ (small_bytes c.args.tree.now (λ i. (c.type_inv.tree i).fits)) c.requires.1)

pub write_head-at-requires : goal.write_head-at-requires
write_head-at-requires c =
    let s = spanned _ (small_bytes c.args.tree.now (λ i. (c.type_inv.tree i).fits)) c.requires.1 c.stretch_end-end.ensures in
    (omega (arith, s.long, c.requires.2), omega arith, omega (arith, s.short, c.requires.0))

pub slice_bounds-write_number-count : goal.slice_bounds-write_number-count
slice_bounds-write_number-count c =
    let s = spanned _ (small_bytes c.args.tree.now (λ i. (c.type_inv.tree i).fits)) c.requires.1 c.stretch_end-end.ensures in
    let begun = begun_first s.pieces c.requires.2 c.write_head-at.ensures in
    omega (arith, begun-fits begun)

pub slice_bounds-write_number-start : goal.slice_bounds-write_number-start
slice_bounds-write_number-start c =
    let s = spanned _ (small_bytes c.args.tree.now (λ i. (c.type_inv.tree i).fits)) c.requires.1 c.stretch_end-end.ensures in
    let begun = begun_first s.pieces c.requires.2 c.write_head-at.ensures in
    omega (arith, begun-fits begun)

pub write_number-at-requires : goal.write_number-at-requires
write_number-at-requires c =
    let s = spanned _ (small_bytes c.args.tree.now (λ i. (c.type_inv.tree i).fits)) c.requires.1 c.stretch_end-end.ensures in
    let begun = begun_first s.pieces c.requires.2 c.write_head-at.ensures in
    (begun-number 2 c.args.stretch.count begun, omega arith)

pub overflow_add-at : goal.overflow_add-at
overflow_add-at c =
    let s = spanned _ (small_bytes c.args.tree.now (λ i. (c.type_inv.tree i).fits)) c.requires.1 c.stretch_end-end.ensures in
    let begun = begun_first s.pieces c.requires.2 c.write_head-at.ensures in
    omega (arith, begun-fits begun, begun-length begun, c.write_number-at.ensures.count, c.well_formed)

pub slice_bounds-write_bytes-count : goal.slice_bounds-write_bytes-count
slice_bounds-write_bytes-count c =
    let s = spanned _ (small_bytes c.args.tree.now (λ i. (c.type_inv.tree i).fits)) c.requires.1 c.stretch_end-end.ensures in
    let begun = begun_first s.pieces c.requires.2 c.write_head-at.ensures in
    omega (arith, begun-fits (begun-next begun c.write_number-at.ensures))

pub slice_bounds-write_bytes-start : goal.slice_bounds-write_bytes-start
slice_bounds-write_bytes-start c =
    let s = spanned _ (small_bytes c.args.tree.now (λ i. (c.type_inv.tree i).fits)) c.requires.1 c.stretch_end-end.ensures in
    let begun = begun_first s.pieces c.requires.2 c.write_head-at.ensures in
    omega (arith, begun-fits (begun-next begun c.write_number-at.ensures))

pub write_bytes-requires : goal.write_bytes-requires
write_bytes-requires c =
    let s = spanned _ (small_bytes c.args.tree.now (λ i. (c.type_inv.tree i).fits)) c.requires.1 c.stretch_end-end.ensures in
    let begun = begun_first s.pieces c.requires.2 c.write_head-at.ensures in
    begun-piece (begun-next begun c.write_number-at.ensures)

pub overflow_add-result : goal.overflow_add-result
overflow_add-result c =
    let s = spanned _ (small_bytes c.args.tree.now (λ i. (c.type_inv.tree i).fits)) c.requires.1 c.stretch_end-end.ensures in
    let begun = begun_first s.pieces c.requires.2 c.write_head-at.ensures in
    let b = begun-next begun c.write_number-at.ensures in
    omega (arith, begun-fits b, begun-length b, c.write_bytes.ensures.count, c.well_formed)

pub returns : goal.returns
returns c =
    let s = spanned _ (small_bytes c.args.tree.now (λ i. (c.type_inv.tree i).fits)) c.requires.1 c.stretch_end-end.ensures in
    let begun = begun_first s.pieces c.requires.2 c.write_head-at.ensures in
    begun-done (begun-next (begun-next begun c.write_number-at.ensures) c.write_bytes.ensures)
