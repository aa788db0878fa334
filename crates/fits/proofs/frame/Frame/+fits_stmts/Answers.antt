use native.Mathlib.Omega.{arith}
use mathlib.Core.Logic.{⊎_elim}
use mathlib.Core.Path.{sym, ap, ◌∙◌}
use Rattle.numerals.specs.Kinds.{stmt_byte}
use Rattle.state.specs.State.{slot_names}
use Rattle.tree_view.proofs.StmtViews.{stmt-inside, stmt-deep, stmt-known, view-expr, view-return, view-assign, view-if, view-while, view-for}
use Rattle.tree_view.proofs.StmtViews.{view-def, view-class, view-block, view-stmts-more, view-branches-more, view-methods-more, else-inside}
use Rattle.slots.proofs.Gathering.{elifs-counted, elifs-read, elifs-are, else-reads}
use Rattle.fits.proofs.Walking.{stopped, walks_next, first-over, second_walks, left-start, left-next, left_over, left-done, def-over, def-few, def-slotted}
use Rattle.fits.proofs.ExprKinds.{long-enough}
use Rattle.fits.proofs.StmtKinds.{fits-value, fits-return, fits-assign, fits-if, fits-while, fits-for, fits-def, fits-class, fits-pass, block-there, block-moved}
use Rattle.fits.proofs.StmtKinds.{fits-node, stmts-step, stmts-end, stmts-ok, stmts-start, fits-block, branches-step, branches-last, else-none, else-some}
use Rattle.fits.proofs.StmtKinds.{methods-step, methods-end, methods-ok, def_body, class-count, class-methods, class-over, class-done, def-framed}
use Rattle.fits.proofs.frame.Frame.+fits_stmts.Goals as goal
use Rattle.numerals.proofs.KindBytes.{plain-kind}

pub block-u16_at-count-requires : goal.block-u16_at-count-requires
block-u16_at-count-requires t c = let h = (view-block _ _ _ c.requires).parts.count.bytes in omega arith

pub block-loop-init : goal.block-loop-init
block-loop-init t c = stmts-start _ _ _ _ c.requires c.u16_at-count.ensures.0 _ _ (omega arith)

pub block-stmt-requires : goal.block-stmt-requires
block-stmt-requires t c = (omega arith, (view-stmts-more _ _ _ _ (omega (arith, c.loop-test.true)) c.loop.invariant.reads).parts.head)

pub block-returns-in_err-p : goal.block-returns-in_err-p
block-returns-in_err-p t c =
    let step = stmts-step _ _ _ _ _ c.loop.invariant.reads (omega (arith, c.loop-test.true)) in
    let over = left_over _ _ _ _ _ _ _ c.loop.invariant _ _ _ step c.stmt.ensures c.in_err-p.was in
    stopped _ _ _ c.from_residual.ensures (fits-block _ _ _ _ c.requires c.u16_at-count.ensures.0 _ _ over)

pub block-loop-preserved : goal.block-loop-preserved
block-loop-preserved t c = left-next _ _ _ _ _ _ _ c.loop.invariant _ _ _ _ _ (stmts-step _ _ _ _ _ c.loop.invariant.reads (omega (arith, c.loop-test.true))) c.stmt.ensures c.in_ok-p.was (omega arith)

pub block-returns : goal.block-returns
block-returns t c =
    let end = stmts-end _ _ (slot_names c.args.self.tree.now c.args.self.slots.now) _ _ c.loop.invariant.reads (omega (arith, c.loop-test.false)) in
    let ok = stmts-ok _ _ _ _ _ c.loop.invariant.reads (omega (arith, c.loop-test.false)) in
    fits-block _ _ _ _ c.requires c.u16_at-count.ensures.0 _ _ (left-done _ _ _ _ _ _ _ c.loop.invariant end ok)

pub branch-returns-in_err-p : goal.branch-returns-in_err-p
branch-returns-in_err-p t c = stopped _ _ _ c.from_residual.ensures (first-over _ _ _ _ _ c.expr.ensures c.in_err-p.was)

pub branch-block-requires : goal.branch-block-requires
branch-block-requires t c = (omega arith, block-there _ _ _ _ (walks_next _ _ _ _ c.expr.ensures c.in_ok-p.was).0 c.requires)

pub branch-returns : goal.branch-returns
branch-returns t c = second_walks _ _ _ _ _ _ _ c.expr.ensures c.in_ok-p.was (block-moved _ _ _ _ (walks_next _ _ _ _ c.expr.ensures c.in_ok-p.was).0 _ _ c.block.ensures)

pub class-name_end-p-requires : goal.class-name_end-p-requires
class-name_end-p-requires t c = (view-class _ _ _ c.requires.0 c.requires.1).parts.name

pub class-u16_at-count-requires : goal.class-u16_at-count-requires
class-u16_at-count-requires t c = let h = class-count _ _ _ _ 0 (view-class _ _ _ c.requires.0 c.requires.1).parts c.name_end-p.ensures in omega arith

pub class-overflow_add-p : goal.class-overflow_add-p
class-overflow_add-p t c = let h = class-count _ _ _ _ 0 (view-class _ _ _ c.requires.0 c.requires.1).parts c.name_end-p.ensures in omega arith

pub class-overflow_sub-depth : goal.class-overflow_sub-depth
class-overflow_sub-depth t c = let h = stmt-deep _ _ _ c.requires.0 in omega arith

pub class-methods-requires : goal.class-methods-requires
class-methods-requires t c = let h = stmt-deep _ _ _ c.requires.0 in (omega arith, (class-methods _ _ _ _ _ (view-class _ _ _ c.requires.0 c.requires.1).parts c.name_end-p.ensures c.u16_at-count.ensures.0))

pub class-returns-in_err-methods : goal.class-returns-in_err-methods
class-returns-in_err-methods t c = stopped _ _ _ c.from_residual.ensures (class-over _ _ _ _ _ (view-class _ _ _ c.requires.0 c.requires.1).parts c.name_end-p.ensures c.u16_at-count.ensures.0 _ _ c.methods.ensures c.in_err-methods.was)

pub class-returns : goal.class-returns
class-returns t c = class-done _ _ _ _ _ (view-class _ _ _ c.requires.0 c.requires.1).parts c.name_end-p.ensures c.u16_at-count.ensures.0 _ _ _ _ c.methods.ensures c.in_ok-methods.was c.skip_stmt.ensures

pub def-returns-in_err-frame : goal.def-returns-in_err-frame
def-returns-in_err-frame t c = stopped _ _ _ c.from_residual.ensures (def-over (def-framed _ _ _ _ _ c.name_end-params.ensures c.skip_params-p.ensures
    c.requires c.collect_locals.ensures) _ _ c.in_err-frame.was)

pub def-slice_bounds-block-end : goal.def-slice_bounds-block-end
def-slice_bounds-block-end t c =
    let h = def-few c.collect_locals.ensures c.in_ok-frame.was in
    let k = c.collect_locals.auto.slots in omega arith

pub def-invariant_of-block-clause-slotted : goal.def-invariant_of-block-clause-slotted
def-invariant_of-block-clause-slotted t c = def-slotted c.collect_locals.ensures c.in_ok-frame.was (long-enough c.collect_locals.new.slots c.collect_locals.auto.slots)

pub def-returns : goal.def-returns
def-returns t c =
    def_body _ _ _ _ _ c.name_end-params.ensures
    c.skip_params-p.ensures
    c.requires _
    c.collect_locals.ensures c.in_ok-frame.was
    (long-enough c.collect_locals.new.slots
    c.collect_locals.auto.slots) c.block.ensures

pub elifs-loop-init : goal.elifs-loop-init
elifs-loop-init t c = left-start _ _ _ _ _ _ (omega arith) c.requires

pub elifs-branch-self-requires : goal.elifs-branch-self-requires
elifs-branch-self-requires t c = (omega arith, (view-branches-more _ _ _ _ (omega (arith, c.loop-test.true)) c.loop.invariant.reads).parts.first)

pub elifs-returns-in_err-p : goal.elifs-returns-in_err-p
elifs-returns-in_err-p t c = stopped _ _ _ c.from_residual.ensures (left_over _ _ _ _ _ _ _ c.loop.invariant _ _ _ (branches-step _ _ _ _ _ c.loop.invariant.reads (omega (arith, c.loop-test.true))) c.branch-self.ensures c.in_err-p.was)

pub elifs-loop-preserved : goal.elifs-loop-preserved
elifs-loop-preserved t c = left-next _ _ _ _ _ _ _ c.loop.invariant _ _ _ _ _ (branches-step _ _ _ _ _ c.loop.invariant.reads (omega (arith, c.loop-test.true))) c.branch-self.ensures c.in_ok-p.was (omega arith)

pub elifs-else_block-requires : goal.elifs-else_block-requires
elifs-else_block-requires t c = (omega arith, branches-last _ _ (slot_names c.args.self.tree.now c.args.self.slots.now) _ _ c.loop.invariant.reads (omega (arith, c.loop-test.false)))

pub else_block-bounds-self-at : goal.else_block-bounds-self-at
else_block-bounds-self-at t c = let h = else-inside _ _ _ 0 (omega arith) c.requires in omega arith

pub else_block-returns-then-self-at-eq0 : goal.else_block-returns-then-self-at-eq0
else_block-returns-then-self-at-eq0 t c = else-none _ _ _ c.requires _ c.if-self-at-eq0.true

pub else_block-block-requires : goal.else_block-block-requires
else_block-block-requires t c = (omega arith, else-reads _ _ _ c.requires c.if-self-at-eq0.false)

pub else_block-returns : goal.else_block-returns
else_block-returns t c = else-some _ _ _ c.requires _ c.if-self-at-eq0.false _ c.block.ensures

pub branches-returns-in_err-p : goal.branches-returns-in_err-p
branches-returns-in_err-p t c = stopped _ _ _ c.from_residual.ensures (first-over _ _ _ _ _ c.branch-self.ensures c.in_err-p.was)

pub branches-u16_at-count-requires : goal.branches-u16_at-count-requires
branches-u16_at-count-requires t c = let h = elifs-counted _ _ _ _ 0 (walks_next _ _ _ _ c.branch-self.ensures c.in_ok-p.was).0 c.requires in omega arith

pub branches-overflow_add-p : goal.branches-overflow_add-p
branches-overflow_add-p t c = let h = elifs-counted _ _ _ _ 0 (walks_next _ _ _ _ c.branch-self.ensures c.in_ok-p.was).0 c.requires in omega arith

pub branches-elifs-requires : goal.branches-elifs-requires
branches-elifs-requires t c = (omega arith, elifs-read _ _ _ _ _ (walks_next _ _ _ _ c.branch-self.ensures c.in_ok-p.was).0 c.u16_at-count.ensures.0 c.requires)

pub branches-returns : goal.branches-returns
branches-returns t c = second_walks _ _ _ _ _ _ _ c.branch-self.ensures c.in_ok-p.was (fits-node _ _ _ _ (elifs-are _ _ _ _ _ (walks_next _ _ _ _ c.branch-self.ensures c.in_ok-p.was).0 c.u16_at-count.ensures.0) c.elifs.ensures)

pub methods-loop-init : goal.methods-loop-init
methods-loop-init t c = left-start _ _ _ _ _ _ (omega arith) c.requires

pub methods-def-requires : goal.methods-def-requires
methods-def-requires t c = (omega arith, (view-methods-more _ _ _ _ (omega (arith, c.loop-test.true)) c.loop.invariant.reads).parts.first)

pub methods-returns-in_err-p : goal.methods-returns-in_err-p
methods-returns-in_err-p t c = stopped _ _ _ c.from_residual.ensures (left_over _ _ _ _ _ _ _ c.loop.invariant _ _ _ (methods-step _ _ _ _ c.loop.invariant.reads (omega (arith, c.loop-test.true))) c.def.ensures c.in_err-p.was)

pub methods-loop-preserved : goal.methods-loop-preserved
methods-loop-preserved t c = left-next _ _ _ _ _ _ _ c.loop.invariant _ _ _ _ _ (methods-step _ _ _ _ c.loop.invariant.reads (omega (arith, c.loop-test.true))) c.def.ensures c.in_ok-p.was (omega arith)

pub methods-returns : goal.methods-returns
methods-returns t c = left-done _ _ _ _ _ _ _ c.loop.invariant (methods-end _ _ _ _ c.loop.invariant.reads (omega (arith, c.loop-test.false))) (methods-ok _ _ _ _ c.loop.invariant.reads (omega (arith, c.loop-test.false)))

pub stmt-bounds-self-at : goal.stmt-bounds-self-at
stmt-bounds-self-at t c = stmt-inside _ _ _ c.requires

pub stmt-of-requires : goal.stmt-of-requires
stmt-of-requires t c = stmt-known _ _ _ c.requires

pub stmt-overflow_sub-below : goal.stmt-overflow_sub-below
stmt-overflow_sub-below t c = let h = stmt-deep _ _ _ c.requires in omega arith

pub stmt-expr-requires : goal.stmt-expr-requires
unfolding stmt_byte
stmt-expr-requires t c = ⊎_elim (λ e. (view-expr _ _ _ c.requires (sym c.of.ensures ∙ ap stmt_byte e)).parts) (λ e. (view-return _ _ _ c.requires (sym c.of.ensures ∙ ap stmt_byte e)).parts) c.in-Expr.is

pub stmt-assign-requires : goal.stmt-assign-requires
unfolding stmt_byte
stmt-assign-requires t c = (view-assign _ _ _ c.requires (sym c.in-Assign.ensures)).parts

pub stmt-branches-requires : goal.stmt-branches-requires
unfolding stmt_byte
stmt-branches-requires t c = let h = stmt-deep _ _ _ c.requires in (omega arith, (view-if _ _ _ c.requires (sym c.in-If.ensures)).parts)

pub stmt-branch-self-requires : goal.stmt-branch-self-requires
unfolding stmt_byte
stmt-branch-self-requires t c = let h = stmt-deep _ _ _ c.requires in (omega arith, (view-while _ _ _ c.requires (sym c.in-While.ensures)).parts)

pub stmt-loop_over-requires : goal.stmt-loop_over-requires
unfolding stmt_byte
stmt-loop_over-requires t c = let h = stmt-deep _ _ _ c.requires in (omega arith, (view-for _ _ _ c.requires (sym c.in-For.ensures)).parts)

pub stmt-def-requires : goal.stmt-def-requires
unfolding stmt_byte
stmt-def-requires t c = let h = stmt-deep _ _ _ c.requires in (omega arith, (view-def _ _ _ c.requires (sym c.in-Def.ensures)).parts)

pub stmt-class-requires : goal.stmt-class-requires
unfolding stmt_byte
stmt-class-requires t c = let h = stmt-deep _ _ _ c.requires in (omega arith, (c.requires, sym c.in-Class.ensures))

pub stmt-returns-in-Break : goal.stmt-returns-in-Break
stmt-returns-in-Break t c = fits-pass _ _ _ c.requires _ (plain-kind _ _ c.of.ensures c.in-Break.is)

pub stmt-returns-in-Expr : goal.stmt-returns-in-Expr
unfolding stmt_byte
stmt-returns-in-Expr t c = ⊎_elim
    (λ e. fits-value _ _ _ c.requires _ _ (sym c.of.ensures ∙ ap stmt_byte e) c.expr.ensures)
    (λ e. fits-return _ _ _ c.requires _ _ (sym c.of.ensures ∙ ap stmt_byte e) c.expr.ensures)
    c.in-Expr.is

pub stmt-returns-in-Assign : goal.stmt-returns-in-Assign
unfolding stmt_byte
stmt-returns-in-Assign t c = fits-assign _ _ _ c.requires _ _ (sym c.in-Assign.ensures) c.assign.ensures

pub stmt-returns-in-If : goal.stmt-returns-in-If
unfolding stmt_byte
stmt-returns-in-If t c = fits-if _ _ _ c.requires _ _ (sym c.in-If.ensures) c.branches.ensures

pub stmt-returns-in-While : goal.stmt-returns-in-While
unfolding stmt_byte
stmt-returns-in-While t c = fits-while _ _ _ c.requires _ _ (sym c.in-While.ensures) c.branch-self.ensures

pub stmt-returns-in-For : goal.stmt-returns-in-For
unfolding stmt_byte
stmt-returns-in-For t c = fits-for _ _ _ c.requires _ _ (sym c.in-For.ensures) c.loop_over.ensures

pub stmt-returns-in-Def : goal.stmt-returns-in-Def
unfolding stmt_byte
stmt-returns-in-Def t c = fits-def _ _ _ c.requires _ _ (sym c.in-Def.ensures) c.def.ensures

pub stmt-returns-in-Class : goal.stmt-returns-in-Class
unfolding stmt_byte
stmt-returns-in-Class t c = fits-class _ _ _ c.requires _ _ (sym c.in-Class.ensures) c.class.ensures
