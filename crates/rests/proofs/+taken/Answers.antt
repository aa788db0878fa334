use native.Mathlib.Omega.{arith}
use mathlib.Core.Path.{sym}
use Rattle.numerals.specs.Kinds.{stmt_byte}
use Rattle.tree_view.proofs.StmtViews.{stmt-inside, stmt-deep, stmt-known, view-if, view-while, view-for, view-def, view-class, view-block, else-inside}
use Rattle.rests.proofs.Taking.{takes_two, left-start, left-next, left-done, left-last}
use Rattle.tree_view.proofs.StmtViews.{branches-within}
use Rattle.rests.proofs.StmtKinds.{stmt-within, body-within, def-within, plain-kind, simple-taken, pass-taken, if-taken, while-taken, for-taken, def-taken, class-methods, attributes-there, class-taken}
use Rattle.rests.proofs.StmtKinds.{body_reads, body-taken, for-branch, for-body, def-reads, def-block, def-params}
use Rattle.rests.proofs.StmtKinds.{stmts-head, stmts-step, stmts-end, stmts-none, stmts-start, block-taken, branches-head, branches-step, branches-last, branches-done, else-none, else-reads}
use Rattle.rests.proofs.StmtKinds.{else-taken, elifs-counted, elifs-read, elifs-taken, methods-head, methods-step, methods-end, methods-none}
use Rattle.rests.proofs.+taken.Goals as goal

pub taken_block-u16_at-count-requires : goal.taken_block-u16_at-count-requires
taken_block-u16_at-count-requires t c = let h = (view-block _ _ _ c.requires.1).parts.count.bytes in omega arith

pub taken_block-loop-init : goal.taken_block-loop-init
taken_block-loop-init t c = stmts-start _ _ _ _ c.requires.1 c.u16_at-count.ensures.0 (omega arith)

pub taken_block-taken_stmt-one-requires : goal.taken_block-taken_stmt-one-requires
taken_block-taken_stmt-one-requires t c = (omega arith, (c.requires.0, stmts-head _ _ _ _ c.loop.invariant.reads (omega (arith, c.loop-test.true))))

pub taken_block-overflow_add-sum : goal.taken_block-overflow_add-sum
taken_block-overflow_add-sum t c =
    let w = stmt-within _ _ _ (stmts-head _ _ _ _ c.loop.invariant.reads (omega (arith, c.loop-test.true))) in
    let T = c.taken_stmt-one.ensures in
    omega (arith, c.loop.invariant.small, T.small, T.next, w)

pub taken_block-loop-preserved : goal.taken_block-loop-preserved
taken_block-loop-preserved t c = left-next c.loop.invariant (stmts-step _ _ _ _ c.loop.invariant.reads (omega (arith, c.loop-test.true))) c.taken_stmt-one.ensures (omega arith)

pub taken_block-returns : goal.taken_block-returns
taken_block-returns t c =
    let i = c.loop.invariant in
    block-taken _ _ _ _ c.requires.1 c.u16_at-count.ensures.0 (left-done i (stmts-end _ _ _ _ i.reads (omega (arith, c.loop-test.false))) (stmts-none _ _ _ _ i.reads (omega (arith, c.loop-test.false))))

pub taken_branch-taken_block-requires : goal.taken_branch-taken_block-requires
taken_branch-taken_block-requires t c = (omega arith, (c.requires.0, body_reads _ _ _ _ c.skip_expr-p.ensures c.requires.1))

pub taken_branch-returns : goal.taken_branch-returns
taken_branch-returns t c = body-taken _ _ _ _ c.skip_expr-p.ensures c.requires.0 c.requires.1 c.taken_block.ensures

pub taken_class-name_end-p-requires : goal.taken_class-name_end-p-requires
taken_class-name_end-p-requires t c = (view-class _ _ _ c.requires.1 c.requires.2).parts.name

pub taken_class-u16_at-count-requires : goal.taken_class-u16_at-count-requires
taken_class-u16_at-count-requires t c = let h = (view-class _ _ _ c.requires.1 c.requires.2).parts.count.bytes in omega (arith, h, c.name_end-p.ensures)

pub taken_class-overflow_add-p : goal.taken_class-overflow_add-p
taken_class-overflow_add-p t c = let h = (view-class _ _ _ c.requires.1 c.requires.2).parts.count.bytes in omega (arith, h, c.name_end-p.ensures)

pub taken_class-overflow_sub-depth : goal.taken_class-overflow_sub-depth
taken_class-overflow_sub-depth t c = let h = stmt-deep _ _ _ c.requires.1 in omega arith

pub taken_class-taken_methods-methods-requires : goal.taken_class-taken_methods-methods-requires
taken_class-taken_methods-methods-requires t c =
    let h = stmt-deep _ _ _ c.requires.1 in
    (omega arith, (c.requires.0, class-methods _ _ _ c.requires.0 c.requires.1 c.requires.2 _ _ c.name_end-p.ensures c.u16_at-count.ensures.0))

pub taken_class-overflow_sub-result : goal.taken_class-overflow_sub-result
taken_class-overflow_sub-result t c =
    let h = attributes-there _ _ _ c.requires.0 c.requires.1 c.requires.2 _ _ c.name_end-p.ensures c.u16_at-count.ensures.0 c.taken_methods-methods.ensures in
    let e = c.skip_stmt-next.ensures in omega (arith, h, e)

pub taken_class-overflow_sub-result-2 : goal.taken_class-overflow_sub-result-2
taken_class-overflow_sub-result-2 t c =
    let h = attributes-there _ _ _ c.requires.0 c.requires.1 c.requires.2 _ _ c.name_end-p.ensures c.u16_at-count.ensures.0 c.taken_methods-methods.ensures in
    let e = c.skip_stmt-next.ensures in omega (arith, h, e)

pub taken_class-overflow_add-result : goal.taken_class-overflow_add-result
taken_class-overflow_add-result t c =
    let T = c.taken_methods-methods.ensures in
    let h = attributes-there _ _ _ c.requires.0 c.requires.1 c.requires.2 _ _ c.name_end-p.ensures c.u16_at-count.ensures.0 T in
    let e = c.skip_stmt-next.ensures in
    let w = stmt-within _ _ _ c.requires.1 in
    omega (arith, h, w, T.small, e)

pub taken_class-returns : goal.taken_class-returns
taken_class-returns t c =
    class-taken _ _ _ c.requires.0 c.requires.1 c.requires.2 _ _ c.name_end-p.ensures c.u16_at-count.ensures.0 c.taken_methods-methods.ensures _ c.skip_stmt-next.ensures

pub taken_def-skip_params-p-requires : goal.taken_def-skip_params-p-requires
taken_def-skip_params-p-requires t c = def-params _ _ _ _ c.name_end-params.ensures c.requires.1

pub taken_def-taken_block-requires : goal.taken_def-taken_block-requires
taken_def-taken_block-requires t c = (omega arith, (c.requires.0, def-reads _ _ _ _ _ c.name_end-params.ensures c.skip_params-p.ensures c.requires.1))

pub taken_def-returns : goal.taken_def-returns
taken_def-returns t c = def-block _ _ _ _ _ c.name_end-params.ensures c.skip_params-p.ensures c.taken_block.ensures

pub taken_elifs-loop-init : goal.taken_elifs-loop-init
taken_elifs-loop-init t c = left-start (omega arith) c.requires.1

pub taken_elifs-taken_branch-one-requires : goal.taken_elifs-taken_branch-one-requires
taken_elifs-taken_branch-one-requires t c = (omega arith, (c.requires.0, branches-head _ _ _ _ c.loop.invariant.reads (omega (arith, c.loop-test.true))))

pub taken_elifs-overflow_add-sum : goal.taken_elifs-overflow_add-sum
taken_elifs-overflow_add-sum t c =
    let w = body-within _ _ _ (branches-head _ _ _ _ c.loop.invariant.reads (omega (arith, c.loop-test.true))) in
    let T = c.taken_branch-one.ensures in
    omega (arith, c.loop.invariant.small, T.small, T.next, w)

pub taken_elifs-loop-preserved : goal.taken_elifs-loop-preserved
taken_elifs-loop-preserved t c = left-next c.loop.invariant (branches-step _ _ _ _ c.loop.invariant.reads (omega (arith, c.loop-test.true))) c.taken_branch-one.ensures (omega arith)

pub taken_elifs-taken_else-last-requires : goal.taken_elifs-taken_else-last-requires
taken_elifs-taken_else-last-requires t c = (omega arith, (c.requires.0, branches-last _ _ _ _ c.loop.invariant.reads (omega (arith, c.loop-test.false))))

pub taken_elifs-overflow_add-result : goal.taken_elifs-overflow_add-result
taken_elifs-overflow_add-result t c =
    let w = branches-within _ _ _ _ (branches-last _ _ _ _ c.loop.invariant.reads (omega (arith, c.loop-test.false))) in
    let T = c.taken_else-last.ensures in
    omega (arith, c.loop.invariant.small, T.small, T.next, w)

pub taken_elifs-returns : goal.taken_elifs-returns
taken_elifs-returns t c = left-last c.loop.invariant (branches-done _ _ _ _ c.loop.invariant.reads (omega (arith, c.loop-test.false)) c.taken_else-last.ensures)

pub taken_else-bounds-tree-at : goal.taken_else-bounds-tree-at
taken_else-bounds-tree-at t c = let h = else-inside _ _ _ 0 (omega arith) c.requires.1 in omega arith

pub taken_else-returns-then-tree-at-eq0 : goal.taken_else-returns-then-tree-at-eq0
taken_else-returns-then-tree-at-eq0 t c = else-none _ _ _ c.requires.1 c.if-tree-at-eq0.true

pub taken_else-taken_block-requires : goal.taken_else-taken_block-requires
taken_else-taken_block-requires t c = (omega arith, (c.requires.0, else-reads _ _ _ c.requires.1 c.if-tree-at-eq0.false))

pub taken_else-returns : goal.taken_else-returns
taken_else-returns t c = else-taken _ _ _ c.requires.1 c.if-tree-at-eq0.false c.taken_block.ensures

pub taken_for-taken_branch-requires : goal.taken_for-taken_branch-requires
taken_for-taken_branch-requires t c = (omega arith, (c.requires.0, for-branch _ _ _ _ c.name_end-p.ensures c.requires.1))

pub taken_for-returns : goal.taken_for-returns
taken_for-returns t c = for-body _ _ _ _ c.name_end-p.ensures c.taken_branch.ensures

pub taken_if-u16_at-count-requires : goal.taken_if-u16_at-count-requires
taken_if-u16_at-count-requires t c = let h = elifs-counted _ _ _ _ c.taken_branch-first.ensures.next c.requires.1 in omega arith

pub taken_if-taken_elifs-others-requires : goal.taken_if-taken_elifs-others-requires
taken_if-taken_elifs-others-requires t c = (omega arith, (c.requires.0, elifs-read _ _ _ _ c.taken_branch-first.ensures.next c.requires.1 _ c.u16_at-count.ensures.0))

pub taken_if-overflow_add-result : goal.taken_if-overflow_add-result
taken_if-overflow_add-result t c =
    let S = c.taken_branch-first.ensures in
    let T = c.taken_elifs-others.ensures in
    let w = branches-within _ _ _ _ (elifs-read _ _ _ _ S.next c.requires.1 _ c.u16_at-count.ensures.0) in
    omega (arith, S.small, T.small, T.next, w)

pub taken_if-returns : goal.taken_if-returns
taken_if-returns t c =
    let S = c.taken_branch-first.ensures in
    takes_two S (elifs-taken _ _ _ _ S.next c.requires.1 _ c.u16_at-count.ensures.0 c.taken_elifs-others.ensures) (omega arith)

pub taken_methods-loop-init : goal.taken_methods-loop-init
taken_methods-loop-init t c = left-start (omega arith) c.requires.1

pub taken_methods-taken_def-one-requires : goal.taken_methods-taken_def-one-requires
taken_methods-taken_def-one-requires t c = (omega arith, (c.requires.0, methods-head _ _ _ _ c.loop.invariant.reads (omega (arith, c.loop-test.true))))

pub taken_methods-overflow_add-sum : goal.taken_methods-overflow_add-sum
taken_methods-overflow_add-sum t c =
    let w = def-within _ _ _ (methods-head _ _ _ _ c.loop.invariant.reads (omega (arith, c.loop-test.true))) in
    let T = c.taken_def-one.ensures in
    omega (arith, c.loop.invariant.small, T.small, T.next, w)

pub taken_methods-loop-preserved : goal.taken_methods-loop-preserved
taken_methods-loop-preserved t c = left-next c.loop.invariant (methods-step _ _ _ _ c.loop.invariant.reads (omega (arith, c.loop-test.true))) c.taken_def-one.ensures (omega arith)

pub taken_methods-returns : goal.taken_methods-returns
taken_methods-returns t c =
    let i = c.loop.invariant in
    left-done i (methods-end _ _ _ _ i.reads (omega (arith, c.loop-test.false))) (methods-none _ _ _ _ i.reads (omega (arith, c.loop-test.false)))

pub taken_stmt-bounds-tree-at : goal.taken_stmt-bounds-tree-at
taken_stmt-bounds-tree-at t c = stmt-inside _ _ _ c.requires.1

pub taken_stmt-of-requires : goal.taken_stmt-of-requires
taken_stmt-of-requires t c = stmt-known _ _ _ c.requires.1

pub taken_stmt-overflow_sub-depth : goal.taken_stmt-overflow_sub-depth
taken_stmt-overflow_sub-depth t c = let h = stmt-deep _ _ _ c.requires.1 in omega arith

pub taken_stmt-overflow_sub-depth-in-While : goal.taken_stmt-overflow_sub-depth-in-While
taken_stmt-overflow_sub-depth-in-While t c = let h = stmt-deep _ _ _ c.requires.1 in omega arith

pub taken_stmt-overflow_sub-depth-in-For : goal.taken_stmt-overflow_sub-depth-in-For
taken_stmt-overflow_sub-depth-in-For t c = let h = stmt-deep _ _ _ c.requires.1 in omega arith

pub taken_stmt-overflow_sub-depth-in-Def : goal.taken_stmt-overflow_sub-depth-in-Def
taken_stmt-overflow_sub-depth-in-Def t c = let h = stmt-deep _ _ _ c.requires.1 in omega arith

pub taken_stmt-taken_if-requires : goal.taken_stmt-taken_if-requires
unfolding stmt_byte
taken_stmt-taken_if-requires t c = let h = stmt-deep _ _ _ c.requires.1 in (omega arith, (c.requires.0, (view-if _ _ _ c.requires.1 (sym c.in-If.ensures)).parts))

pub taken_stmt-taken_branch-requires : goal.taken_stmt-taken_branch-requires
unfolding stmt_byte
taken_stmt-taken_branch-requires t c = let h = stmt-deep _ _ _ c.requires.1 in (omega arith, (c.requires.0, (view-while _ _ _ c.requires.1 (sym c.in-While.ensures)).parts))

pub taken_stmt-taken_for-requires : goal.taken_stmt-taken_for-requires
unfolding stmt_byte
taken_stmt-taken_for-requires t c = let h = stmt-deep _ _ _ c.requires.1 in (omega arith, (c.requires.0, (view-for _ _ _ c.requires.1 (sym c.in-For.ensures)).parts))

pub taken_stmt-taken_def-requires : goal.taken_stmt-taken_def-requires
unfolding stmt_byte
taken_stmt-taken_def-requires t c = let h = stmt-deep _ _ _ c.requires.1 in (omega arith, (c.requires.0, (view-def _ _ _ c.requires.1 (sym c.in-Def.ensures)).parts))

pub taken_stmt-taken_class-requires : goal.taken_stmt-taken_class-requires
unfolding stmt_byte
taken_stmt-taken_class-requires t c = (omega arith, (c.requires.0, c.requires.1, sym c.in-Class.ensures))

pub taken_stmt-returns-in-Pass : goal.taken_stmt-returns-in-Pass
unfolding stmt_byte
taken_stmt-returns-in-Pass t c = pass-taken _ _ _ c.requires.0 c.requires.1 (sym c.in-Pass.ensures)

pub taken_stmt-returns-in-Break : goal.taken_stmt-returns-in-Break
taken_stmt-returns-in-Break t c = simple-taken _ _ _ c.requires.0 c.requires.1 c.skip_stmt.ensures c.of.ensures (plain-kind c.in-Break.is)

pub taken_stmt-returns-in-If : goal.taken_stmt-returns-in-If
unfolding stmt_byte
taken_stmt-returns-in-If t c = if-taken _ _ _ c.requires.0 c.requires.1 (sym c.in-If.ensures) c.taken_if.ensures

pub taken_stmt-returns-in-While : goal.taken_stmt-returns-in-While
unfolding stmt_byte
taken_stmt-returns-in-While t c = while-taken _ _ _ c.requires.0 c.requires.1 (sym c.in-While.ensures) c.taken_branch.ensures

pub taken_stmt-returns-in-For : goal.taken_stmt-returns-in-For
unfolding stmt_byte
taken_stmt-returns-in-For t c = for-taken _ _ _ c.requires.0 c.requires.1 (sym c.in-For.ensures) c.taken_for.ensures

pub taken_stmt-returns-in-Def : goal.taken_stmt-returns-in-Def
unfolding stmt_byte
taken_stmt-returns-in-Def t c = def-taken _ _ _ c.requires.0 c.requires.1 (sym c.in-Def.ensures) c.taken_def.ensures
