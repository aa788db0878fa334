-- how long the lists are
use native.Mathlib.Omega.{arith}
use Rattle.module.proofs.Whole.{bodies-fit}
use Rattle.module.proofs.sections.Lowered.bodies_size.Goals as goal

pub list_size-requires : goal.list_size-requires
list_size-requires c =
    let f = c.functions-functions.ensures in let k = c.classes-classes.ensures in
    let a = c.args.self.now in
    let h = bodies-fit a.tree.now a.code.now a.tables.now a.counts f.tree f.finished f.heads f.places k.tree k.methods k.names k.places c.constants-constants.ensures c.classes-classes.result.tree_bytes c.args.self.now.roomy in
    omega (arith, h)

pub list_size-requires-2 : goal.list_size-requires-2
list_size-requires-2 c =
    let f = c.functions-functions.ensures in let k = c.classes-classes.ensures in
    let a = c.args.self.now in
    let h = bodies-fit a.tree.now a.code.now a.tables.now a.counts f.tree f.finished f.heads f.places k.tree k.methods k.names k.places c.constants-constants.ensures c.classes-classes.result.tree_bytes c.args.self.now.roomy in
    omega (arith, h)

pub overflow_add-result : goal.overflow_add-result
overflow_add-result c =
    let f = c.functions-functions.ensures in let k = c.classes-classes.ensures in
    let a = c.args.self.now in
    let h = bodies-fit a.tree.now a.code.now a.tables.now a.counts f.tree f.finished f.heads f.places k.tree k.methods k.names k.places c.constants-constants.ensures c.classes-classes.result.tree_bytes c.args.self.now.roomy in
    omega (arith, h, c.list_size.ensures, c.list_size-2.ensures)

pub list_size-requires-3 : goal.list_size-requires-3
list_size-requires-3 c =
    let f = c.functions-functions.ensures in let k = c.classes-classes.ensures in
    let a = c.args.self.now in
    let h = bodies-fit a.tree.now a.code.now a.tables.now a.counts f.tree f.finished f.heads f.places k.tree k.methods k.names k.places c.constants-constants.ensures c.classes-classes.result.tree_bytes c.args.self.now.roomy in
    omega (arith, h)

pub overflow_add-result-2 : goal.overflow_add-result-2
overflow_add-result-2 c =
    let f = c.functions-functions.ensures in let k = c.classes-classes.ensures in
    let a = c.args.self.now in
    let h = bodies-fit a.tree.now a.code.now a.tables.now a.counts f.tree f.finished f.heads f.places k.tree k.methods k.names k.places c.constants-constants.ensures c.classes-classes.result.tree_bytes c.args.self.now.roomy in
    omega (arith, h, c.list_size.ensures, c.list_size-2.ensures, c.list_size-3.ensures)

pub returns : goal.returns
returns c =
    let f = c.functions-functions.ensures in let k = c.classes-classes.ensures in
    let a = c.args.self.now in
    let h = bodies-fit a.tree.now a.code.now a.tables.now a.counts f.tree f.finished f.heads f.places k.tree k.methods k.names k.places c.constants-constants.ensures c.classes-classes.result.tree_bytes c.args.self.now.roomy in
    (omega (arith, h, c.list_size.ensures, c.list_size-2.ensures, c.list_size-3.ensures), omega (arith, h, c.list_size.ensures, c.list_size-2.ensures, c.list_size-3.ensures))
