-- the functions are written, and then the classes
use native.Mathlib.Omega.{arith}
use Rattle.writing.proofs.Begun.{begun_first, begun-length, begun-fits, begun-piece, begun-next, begun-done}
use Rattle.module.proofs.Whole.{bodies-pieces, length-bodies}
use Rattle.module.proofs.sections.Lowered.write_bodies.Goals as goal

pub write_list-at-requires : goal.write_list-at-requires
write_list-at-requires c =
    let f = c.functions-functions.ensures in let k = c.classes-classes.ensures in
    let a = c.args.self.now in
    let n = length-bodies a.tree.now a.code.now a.tables.now a.counts f.tree f.finished f.heads f.places k.tree k.methods k.names k.places c.constants-constants.ensures in
    omega (arith, n, c.requires)

pub slice_bounds-write_list-count : goal.slice_bounds-write_list-count
slice_bounds-write_list-count c =
    let f = c.functions-functions.ensures in let k = c.classes-classes.ensures in
    let begun = begun_first (bodies-pieces _ _ _ _ f.tree f.finished f.heads f.places k.tree k.methods k.names k.places c.constants-constants.ensures) c.requires c.write_list-at.ensures in
    omega (arith, begun-fits begun)

pub slice_bounds-write_list-start : goal.slice_bounds-write_list-start
slice_bounds-write_list-start c =
    let f = c.functions-functions.ensures in let k = c.classes-classes.ensures in
    let begun = begun_first (bodies-pieces _ _ _ _ f.tree f.finished f.heads f.places k.tree k.methods k.names k.places c.constants-constants.ensures) c.requires c.write_list-at.ensures in
    omega (arith, begun-fits begun)

pub write_list-at-requires-2 : goal.write_list-at-requires-2
write_list-at-requires-2 c =
    let f = c.functions-functions.ensures in let k = c.classes-classes.ensures in
    let begun = begun_first (bodies-pieces _ _ _ _ f.tree f.finished f.heads f.places k.tree k.methods k.names k.places c.constants-constants.ensures) c.requires c.write_list-at.ensures in
    begun-piece begun

pub overflow_add-at : goal.overflow_add-at
overflow_add-at c =
    let f = c.functions-functions.ensures in let k = c.classes-classes.ensures in
    let begun = begun_first (bodies-pieces _ _ _ _ f.tree f.finished f.heads f.places k.tree k.methods k.names k.places c.constants-constants.ensures) c.requires c.write_list-at.ensures in
    omega (arith, begun-fits begun, begun-length begun, c.write_list-at-2.ensures.count, c.well_formed)

pub slice_bounds-write_list-count-2 : goal.slice_bounds-write_list-count-2
slice_bounds-write_list-count-2 c =
    let f = c.functions-functions.ensures in let k = c.classes-classes.ensures in
    let begun = begun_first (bodies-pieces _ _ _ _ f.tree f.finished f.heads f.places k.tree k.methods k.names k.places c.constants-constants.ensures) c.requires c.write_list-at.ensures in
    omega (arith, begun-fits (begun-next begun c.write_list-at-2.ensures))

pub slice_bounds-write_list-start-2 : goal.slice_bounds-write_list-start-2
slice_bounds-write_list-start-2 c =
    let f = c.functions-functions.ensures in let k = c.classes-classes.ensures in
    let begun = begun_first (bodies-pieces _ _ _ _ f.tree f.finished f.heads f.places k.tree k.methods k.names k.places c.constants-constants.ensures) c.requires c.write_list-at.ensures in
    omega (arith, begun-fits (begun-next begun c.write_list-at-2.ensures))

pub write_list-requires : goal.write_list-requires
write_list-requires c =
    let f = c.functions-functions.ensures in let k = c.classes-classes.ensures in
    let begun = begun_first (bodies-pieces _ _ _ _ f.tree f.finished f.heads f.places k.tree k.methods k.names k.places c.constants-constants.ensures) c.requires c.write_list-at.ensures in
    begun-piece (begun-next begun c.write_list-at-2.ensures)

pub overflow_add-result : goal.overflow_add-result
overflow_add-result c =
    let f = c.functions-functions.ensures in let k = c.classes-classes.ensures in
    let begun = begun_first (bodies-pieces _ _ _ _ f.tree f.finished f.heads f.places k.tree k.methods k.names k.places c.constants-constants.ensures) c.requires c.write_list-at.ensures in
    let b = begun-next begun c.write_list-at-2.ensures in
    omega (arith, begun-fits b, begun-length b, c.write_list.ensures.count, c.well_formed)

pub returns : goal.returns
returns c =
    let f = c.functions-functions.ensures in let k = c.classes-classes.ensures in
    let begun = begun_first (bodies-pieces _ _ _ _ f.tree f.finished f.heads f.places k.tree k.methods k.names k.places c.constants-constants.ensures) c.requires c.write_list-at.ensures in
    begun-done (begun-next (begun-next begun c.write_list-at-2.ensures) c.write_list.ensures)
