-- Statements, branches and blocks: each way out by the law of its kind.
use Prim.Native.Nat.{ℕ}
use mathlib.Core.Path.{refl, sym, ap, ◌∙◌, subst}
use native.Mathlib.Omega.{arith}
use Rattle.tree_view.specs.Places.{ParamsAt, params_at}
use Rattle.tree_view.proofs.StmtViews.{stmt-deep, stmt-inside, stmt-known, view-block, else-inside}
use Rattle.measure_stmts.proofs.Knowledge.{there-expr, there_two, expr-sized, value-sized, assign-sized}
use Rattle.measure_stmts.proofs.Walking.{stmt-jump, stmt-pass, value-reads, stmt-value, assign-seen, stmt-assign, if-seen, stmt-if, while-seen, stmt-while, for-seen, stmt-for}
use Rattle.measure_stmts.proofs.Walking.{def-seen, stmt-def, class-seen, stmt-class, block-reads, branch-stopped, branch-done, branch-few, for-reads, for-stopped, for-done, for-few}
use Rattle.measure_stmts.proofs.Walking.{if-stopped, if-counted, if-reads, if-over, if-done, if-few}
use Rattle.measure_stmts.proofs.Several.{stmts-start, stmts-done, stmts-head, stmts-stopped, stmts-next, branches-start, branches-last, branches-over, branches-done, branches-few}
use Rattle.measure_stmts.proofs.Several.{branches-head, branches-stopped, branches-next, else-none, else-reads, else-some, def-full, def-reads, def-over, def-done}
use Rattle.measure_stmts.proofs.Several.{methods-start, methods-done, methods-head, methods-stopped, methods-next, class-full, class-counted, class-reads, class-over, class-done}
use Rattle.measure_stmts.proofs.blocks.+measure_stmts.Goals as goal

-- ---- a statement

pub measure_stmt-overflow_sub-below : goal.measure_stmt-overflow_sub-below
measure_stmt-overflow_sub-below t c = let h = stmt-deep _ _ _ c.requires in omega arith

pub measure_stmt-bounds-m-at : goal.measure_stmt-bounds-m-at
measure_stmt-bounds-m-at t c = stmt-inside _ _ _ c.requires

pub measure_stmt-of-requires : goal.measure_stmt-of-requires
measure_stmt-of-requires t c = stmt-known _ _ _ c.requires

pub measure_stmt-returns-in-Break : goal.measure_stmt-returns-in-Break
measure_stmt-returns-in-Break t c = stmt-jump _ _ _ _ c.requires c.of.ensures c.in-Break.is refl refl

pub measure_stmt-returns-in-Pass : goal.measure_stmt-returns-in-Pass
measure_stmt-returns-in-Pass t c = stmt-pass _ _ _ _ c.requires c.of.ensures c.in-Pass.is refl refl

pub measure_stmt-more-requires : goal.measure_stmt-more-requires
measure_stmt-more-requires t c = (there-expr c.args.m c.knowing.result c.args.begun.now c.knowing.ensures.scope c.knowing.ensures.known _ _ (value-reads c.args.m c.args.begun.now _ _ c.requires c.of.ensures c.in-Expr.is), omega arith)

pub measure_stmt-returns-in-Expr : goal.measure_stmt-returns-in-Expr
measure_stmt-returns-in-Expr t c = stmt-value _ _ _ _ c.requires c.of.ensures c.in-Expr.is (value-sized c.args.m c.knowing.result c.args.begun.now c.knowing.ensures.scope c.knowing.ensures.known _ _ _ 1 c.more.ensures)

pub measure_stmt-measure_assign-requires : goal.measure_stmt-measure_assign-requires
measure_stmt-measure_assign-requires t c =
    there_two c.args.m c.knowing-in-Assign.result c.args.begun.now c.knowing-in-Assign.ensures.scope c.knowing-in-Assign.ensures.known _ _ (assign-seen c.args.m c.args.begun.now _ _ c.requires c.of.ensures c.in-Assign.is).parts

pub measure_stmt-returns-in-Assign : goal.measure_stmt-returns-in-Assign
measure_stmt-returns-in-Assign t c =
    stmt-assign _ _ _ _ c.requires c.of.ensures c.in-Assign.is (assign-sized c.args.m c.knowing-in-Assign.result c.args.begun.now c.knowing-in-Assign.ensures.scope c.knowing-in-Assign.ensures.known _ _ _ c.measure_assign.ensures)

pub measure_stmt-measure_if-requires : goal.measure_stmt-measure_if-requires
measure_stmt-measure_if-requires t c = let h = stmt-deep _ _ _ c.requires in (omega arith, (if-seen c.args.m c.args.begun.now _ _ c.requires c.of.ensures c.in-If.is).parts)

pub measure_stmt-returns-in-If : goal.measure_stmt-returns-in-If
measure_stmt-returns-in-If t c = stmt-if _ _ _ _ c.requires c.of.ensures c.in-If.is c.measure_if.ensures

pub measure_stmt-measure_branch-requires : goal.measure_stmt-measure_branch-requires
measure_stmt-measure_branch-requires t c = let h = stmt-deep _ _ _ c.requires in (omega arith, (while-seen c.args.m c.args.begun.now _ _ c.requires c.of.ensures c.in-While.is).parts)

pub measure_stmt-returns-in-While : goal.measure_stmt-returns-in-While
measure_stmt-returns-in-While t c = stmt-while _ _ _ _ c.requires c.of.ensures c.in-While.is c.measure_branch.ensures

pub measure_stmt-measure_for-requires : goal.measure_stmt-measure_for-requires
measure_stmt-measure_for-requires t c = let h = stmt-deep _ _ _ c.requires in (omega arith, (for-seen c.args.m c.args.begun.now _ _ c.requires c.of.ensures c.in-For.is).parts)

pub measure_stmt-returns-in-For : goal.measure_stmt-returns-in-For
measure_stmt-returns-in-For t c = stmt-for _ _ _ _ c.requires c.of.ensures c.in-For.is c.measure_for.ensures

pub measure_stmt-measure_def-requires : goal.measure_stmt-measure_def-requires
measure_stmt-measure_def-requires t c = let h = stmt-deep _ _ _ c.requires in (omega arith, (def-seen c.args.m c.args.begun.now _ _ c.requires c.of.ensures c.in-Def.is).parts)

pub measure_stmt-returns-in-Def : goal.measure_stmt-returns-in-Def
measure_stmt-returns-in-Def t c = stmt-def _ _ _ _ c.requires c.of.ensures c.in-Def.is c.measure_def.ensures

pub measure_stmt-measure_class-requires : goal.measure_stmt-measure_class-requires
measure_stmt-measure_class-requires t c =
    let h = stmt-deep _ _ _ c.requires in
    (omega arith, ((class-seen c.args.m c.args.begun.now _ _ c.requires c.of.ensures c.in-Class.is).parts, c.skip_stmt-next.ensures ∙ ap (λ z. z.end) (class-seen c.args.m c.args.begun.now _ _ c.requires c.of.ensures c.in-Class.is).is))

pub measure_stmt-returns-in-Class : goal.measure_stmt-returns-in-Class
measure_stmt-returns-in-Class t c = stmt-class _ _ _ _ c.requires c.of.ensures c.in-Class.is c.measure_class.ensures

-- ---- a block

pub measure_block-u16_at-count-requires : goal.measure_block-u16_at-count-requires
measure_block-u16_at-count-requires t c = (view-block _ _ _ c.requires).parts.count

pub measure_block-loop-init : goal.measure_block-loop-init
measure_block-loop-init t c = stmts-start _ _ _ _ _ _ c.requires c.u16_at-count.ensures.0 (omega arith)

pub measure_block-measure_stmt-requires : goal.measure_block-measure_stmt-requires
measure_block-measure_stmt-requires t c = (omega arith, stmts-head _ _ c.loop.invariant (omega (arith, c.loop-test.true)))

pub measure_block-returns-in_err-one : goal.measure_block-returns-in_err-one
measure_block-returns-in_err-one t c = stmts-stopped _ _ c.loop.invariant (omega (arith, c.loop-test.true)) c.measure_stmt.ensures c.in_err-one.was c.from_residual.ensures

pub measure_block-overflow_add-size : goal.measure_block-overflow_add-size
measure_block-overflow_add-size t c = let n = stmts-next _ _ c.loop.invariant (omega (arith, c.loop-test.true)) c.measure_stmt.ensures c.in_ok-one.was refl refl in omega (arith, n.1.most, n.0.start, c.args.m.short)

pub measure_block-loop-preserved : goal.measure_block-loop-preserved
measure_block-loop-preserved t c = stmts-next _ _ c.loop.invariant (omega (arith, c.loop-test.true)) c.measure_stmt.ensures c.in_ok-one.was refl (omega arith)

pub measure_block-returns : goal.measure_block-returns
measure_block-returns t c = stmts-done _ _ c.loop.invariant (omega (arith, c.loop-test.false)) refl refl

-- ---- a condition and a block

pub measure_branch-expr-condition-requires : goal.measure_branch-expr-condition-requires
measure_branch-expr-condition-requires t c = there-expr c.args.m c.knowing.result c.args.begun.now c.knowing.ensures.scope c.knowing.ensures.known _ _ c.requires.condition

pub measure_branch-measure_block-requires : goal.measure_branch-measure_block-requires
measure_branch-measure_block-requires t c =
    (omega arith, block-reads c.args.m c.args.begun.now _ _ _ (expr-sized c.args.m c.knowing.result c.args.begun.now c.knowing.ensures.scope c.knowing.ensures.known _ _ _ c.expr-condition.ensures) c.requires)

pub measure_branch-returns-in_err-block : goal.measure_branch-returns-in_err-block
measure_branch-returns-in_err-block t c =
    branch-stopped _ _ _ _ _ (expr-sized c.args.m c.knowing.result c.args.begun.now c.knowing.ensures.scope c.knowing.ensures.known _ _ _ c.expr-condition.ensures) c.measure_block.ensures c.in_err-block.was c.from_residual.ensures

pub measure_branch-overflow_add-result : goal.measure_branch-overflow_add-result
measure_branch-overflow_add-result t c =
    omega (
      arith,
      branch-few _ _ _ _ _ (expr-sized c.args.m c.knowing.result c.args.begun.now c.knowing.ensures.scope c.knowing.ensures.known _ _ _ c.expr-condition.ensures) c.measure_block.ensures c.in_ok-block.was c.args.m.short
          c.requires,
    )

pub measure_branch-overflow_add-result-2 : goal.measure_branch-overflow_add-result-2
measure_branch-overflow_add-result-2 t c =
    omega (
      arith,
      branch-few _ _ _ _ _ (expr-sized c.args.m c.knowing.result c.args.begun.now c.knowing.ensures.scope c.knowing.ensures.known _ _ _ c.expr-condition.ensures) c.measure_block.ensures c.in_ok-block.was c.args.m.short
          c.requires,
    )

pub measure_branch-returns : goal.measure_branch-returns
measure_branch-returns t c = branch-done _ _ _ _ _ (expr-sized c.args.m c.knowing.result c.args.begun.now c.knowing.ensures.scope c.knowing.ensures.known _ _ _ c.expr-condition.ensures) c.measure_block.ensures c.in_ok-block.was refl refl

-- ---- an if

pub measure_if-measure_branch-requires : goal.measure_if-measure_branch-requires
measure_if-measure_branch-requires t c = (omega arith, c.requires.first)

pub measure_if-returns-in_err-first : goal.measure_if-returns-in_err-first
measure_if-returns-in_err-first t c = if-stopped _ _ _ _ _ c.measure_branch.ensures c.in_err-first.was c.from_residual.ensures

pub measure_if-u16_at-count-requires : goal.measure_if-u16_at-count-requires
measure_if-u16_at-count-requires t c = record { bytes = if-counted _ _ _ _ _ c.measure_branch.ensures c.in_ok-first.was c.requires }

pub measure_if-measure_elifs-requires : goal.measure_if-measure_elifs-requires
measure_if-measure_elifs-requires t c = (omega arith, if-reads _ _ _ _ _ c.measure_branch.ensures c.in_ok-first.was c.u16_at-count.ensures.0 c.requires)

pub measure_if-returns-in_err-rest : goal.measure_if-returns-in_err-rest
measure_if-returns-in_err-rest t c = if-over _ _ _ _ _ c.measure_branch.ensures c.in_ok-first.was c.u16_at-count.ensures.0 c.measure_elifs.ensures c.in_err-rest.was c.from_residual-in_err-rest.ensures

pub measure_if-overflow_add-result : goal.measure_if-overflow_add-result
measure_if-overflow_add-result t c = omega (arith, if-few _ _ _ _ _ c.measure_branch.ensures c.in_ok-first.was c.u16_at-count.ensures.0 c.measure_elifs.ensures c.in_ok-rest.was c.args.m.short c.requires)

pub measure_if-returns : goal.measure_if-returns
measure_if-returns t c = if-done _ _ _ _ _ c.measure_branch.ensures c.in_ok-first.was c.u16_at-count.ensures.0 c.measure_elifs.ensures c.in_ok-rest.was refl refl

-- ---- elifs

pub measure_elifs-loop-init : goal.measure_elifs-loop-init
measure_elifs-loop-init t c = branches-start _ _ _ _ _ _ c.requires (omega arith)

pub measure_elifs-measure_branch-requires : goal.measure_elifs-measure_branch-requires
measure_elifs-measure_branch-requires t c = (omega arith, branches-head _ _ c.loop.invariant (omega (arith, c.loop-test.true)))

pub measure_elifs-returns-in_err-one : goal.measure_elifs-returns-in_err-one
measure_elifs-returns-in_err-one t c = branches-stopped _ _ c.loop.invariant (omega (arith, c.loop-test.true)) c.measure_branch.ensures c.in_err-one.was c.from_residual.ensures

pub measure_elifs-overflow_add-size : goal.measure_elifs-overflow_add-size
measure_elifs-overflow_add-size t c = let n = branches-next _ _ c.loop.invariant (omega (arith, c.loop-test.true)) c.measure_branch.ensures c.in_ok-one.was refl refl in omega (arith, n.1.most, n.0.start, c.args.m.short)

pub measure_elifs-loop-preserved : goal.measure_elifs-loop-preserved
measure_elifs-loop-preserved t c = branches-next _ _ c.loop.invariant (omega (arith, c.loop-test.true)) c.measure_branch.ensures c.in_ok-one.was refl (omega arith)

pub measure_elifs-measure_else-requires : goal.measure_elifs-measure_else-requires
measure_elifs-measure_else-requires t c = (omega arith, branches-last _ _ c.loop.invariant (omega (arith, c.loop-test.false)))

pub measure_elifs-returns-in_err-last : goal.measure_elifs-returns-in_err-last
measure_elifs-returns-in_err-last t c = branches-over _ _ c.loop.invariant (omega (arith, c.loop-test.false)) c.measure_else.ensures c.in_err-last.was c.from_residual-in_err-last.ensures

pub measure_elifs-overflow_add-result : goal.measure_elifs-overflow_add-result
measure_elifs-overflow_add-result t c = omega (arith, branches-few _ _ c.loop.invariant (omega (arith, c.loop-test.false)) c.measure_else.ensures c.in_ok-last.was c.args.m.short)

pub measure_elifs-returns : goal.measure_elifs-returns
measure_elifs-returns t c = branches-done _ _ c.loop.invariant (omega (arith, c.loop-test.false)) c.measure_else.ensures c.in_ok-last.was refl refl

-- ---- an else block or none

pub measure_else-bounds-m-at : goal.measure_else-bounds-m-at
measure_else-bounds-m-at t c = else-inside _ _ _ 0 (omega arith) c.requires

pub measure_else-returns-then-m-at-eq0 : goal.measure_else-returns-then-m-at-eq0
measure_else-returns-then-m-at-eq0 t c = else-none _ _ c.requires _ c.if-m-at-eq0.true refl refl

pub measure_else-measure_block-requires : goal.measure_else-measure_block-requires
measure_else-measure_block-requires t c = (omega arith, else-reads c.args.m _ c.requires c.if-m-at-eq0.false)

pub measure_else-returns : goal.measure_else-returns
measure_else-returns t c = else-some _ _ c.requires c.if-m-at-eq0.false c.measure_block.ensures

-- ---- a for

pub measure_for-name_end-start-requires : goal.measure_for-name_end-start-requires
measure_for-name_end-start-requires t c = c.requires.name

pub measure_for-measure_branch-requires : goal.measure_for-measure_branch-requires
measure_for-measure_branch-requires t c = (omega arith, for-reads c.args.m c.args.begun.now _ _ _ c.name_end-start.ensures c.requires)

pub measure_for-returns-in_err-branch : goal.measure_for-returns-in_err-branch
measure_for-returns-in_err-branch t c = for-stopped _ _ _ _ _ c.name_end-start.ensures c.measure_branch.ensures c.in_err-branch.was c.from_residual.ensures

pub measure_for-overflow_add-result : goal.measure_for-overflow_add-result
measure_for-overflow_add-result t c = omega (arith, for-few _ _ _ _ _ c.name_end-start.ensures c.measure_branch.ensures c.in_ok-branch.was c.args.m.short c.requires)

pub measure_for-returns : goal.measure_for-returns
measure_for-returns t c = for-done _ _ _ _ _ c.name_end-start.ensures c.measure_branch.ensures c.in_ok-branch.was refl refl

-- ---- a def

pub measure_def-note_function-requires : goal.measure_def-note_function-requires
measure_def-note_function-requires t c = omega (arith, c.requires.name.byte, c.args.m.short)

pub measure_def-returns-in_err-note_function : goal.measure_def-returns-in_err-note_function
measure_def-returns-in_err-note_function t c = def-full c.args.m c.args.depth c.args.at c.note_function.ensures c.in_err-note_function.was c.from_residual.ensures

pub measure_def-name_end-params-requires : goal.measure_def-name_end-params-requires
measure_def-name_end-params-requires t c = c.requires.name

pub measure_def-skip_params-block-requires : goal.measure_def-skip_params-block-requires
measure_def-skip_params-block-requires t c = subst (λ (q : ℕ). ParamsAt c.args.m.scope.tree.now q) (sym c.name_end-params.ensures) c.requires.params

pub measure_def-measure_block-requires : goal.measure_def-measure_block-requires
measure_def-measure_block-requires t c =
    (omega arith, def-reads c.args.m c.args.depth c.args.at c.note_function.ensures (c.skip_params-block.ensures ∙ ap (λ (q : ℕ). (params_at c.args.m.scope.tree.now q).end) c.name_end-params.ensures) c.requires)

pub measure_def-returns-in_err-body : goal.measure_def-returns-in_err-body
measure_def-returns-in_err-body t c =
    def-over c.args.m c.args.depth c.args.at c.note_function.ensures (c.skip_params-block.ensures ∙ ap (λ (q : ℕ). (params_at c.args.m.scope.tree.now q).end) c.name_end-params.ensures) c.in_ok-note_function.was c.measure_block.ensures
    c.in_err-body.was c.from_residual-in_err-body.ensures

pub measure_def-returns : goal.measure_def-returns
measure_def-returns t c =
    def-done c.args.m c.args.depth c.args.at c.note_function.ensures (c.skip_params-block.ensures ∙ ap (λ (q : ℕ). (params_at c.args.m.scope.tree.now q).end) c.name_end-params.ensures) c.in_ok-note_function.was c.measure_block.ensures
    c.in_ok-body.was refl refl

-- ---- methods

pub measure_methods-loop-init : goal.measure_methods-loop-init
measure_methods-loop-init t c = methods-start _ _ _ _ _ _ c.requires (omega arith)

pub measure_methods-measure_def-requires : goal.measure_methods-measure_def-requires
measure_methods-measure_def-requires t c = (omega arith, methods-head _ _ c.loop.invariant (omega (arith, c.loop-test.true)))

pub measure_methods-returns-in_err-one : goal.measure_methods-returns-in_err-one
measure_methods-returns-in_err-one t c = methods-stopped _ _ c.loop.invariant (omega (arith, c.loop-test.true)) c.measure_def.ensures c.in_err-one.was c.from_residual.ensures

pub measure_methods-loop-preserved : goal.measure_methods-loop-preserved
measure_methods-loop-preserved t c = methods-next _ _ c.loop.invariant (omega (arith, c.loop-test.true)) c.measure_def.ensures c.in_ok-one.was (omega arith)

pub measure_methods-returns : goal.measure_methods-returns
measure_methods-returns t c = methods-done _ _ c.loop.invariant (omega (arith, c.loop-test.false)) refl refl

-- ---- a class

pub measure_class-note_class-requires : goal.measure_class-note_class-requires
measure_class-note_class-requires t c = omega (arith, c.requires.0.name.byte, c.args.m.short)

pub measure_class-returns-in_err-note_class : goal.measure_class-returns-in_err-note_class
measure_class-returns-in_err-note_class t c = class-full c.args.m c.args.depth c.args.at c.note_class.ensures c.in_err-note_class.was c.from_residual.ensures

pub measure_class-name_end-start-requires : goal.measure_class-name_end-start-requires
measure_class-name_end-start-requires t c = c.requires.0.name

pub measure_class-u16_at-count-requires : goal.measure_class-u16_at-count-requires
measure_class-u16_at-count-requires t c = record { bytes = class-counted c.args.m c.args.depth c.args.at c.note_class.ensures c.name_end-start.ensures refl c.requires.0 }

pub measure_class-measure_methods-requires : goal.measure_class-measure_methods-requires
measure_class-measure_methods-requires t c = (omega arith, class-reads c.args.m c.args.depth c.args.at c.note_class.ensures c.name_end-start.ensures c.u16_at-count.ensures.0 c.requires.0)

pub measure_class-returns-in_err-measure_methods : goal.measure_class-returns-in_err-measure_methods
measure_class-returns-in_err-measure_methods t c =
    class-over c.args.m c.args.depth c.args.at c.note_class.ensures c.name_end-start.ensures c.u16_at-count.ensures.0 c.in_ok-note_class.was c.measure_methods.ensures c.in_err-measure_methods.was
    c.from_residual-in_err-measure_methods.ensures

pub measure_class-returns : goal.measure_class-returns
measure_class-returns t c =
    class-done c.args.m c.args.depth c.args.at c.note_class.ensures c.name_end-start.ensures c.u16_at-count.ensures.0 c.in_ok-note_class.was c.measure_methods.ensures c.in_ok-measure_methods.was c.requires.0 refl c.requires.1
