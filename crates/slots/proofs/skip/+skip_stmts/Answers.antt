use native.Mathlib.Omega.{arith}
use mathlib.Core.Path.{sym}
use Rattle.numerals.specs.Kinds.{stmt_byte}
use Rattle.tree_view.proofs.StmtViews.{stmt-inside, stmt-deep, stmt-known, view-assign, view-if, view-while, view-for, view-def, view-class, view-block, else-inside}
use Rattle.slots.proofs.KindGroups.{word-byte, value-byte}
use Rattle.slots.proofs.SkippingStmts.{short-done, value-reads, value-done, assign-done, if-done, while-done, for-done, def-done, class-done}
use Rattle.slots.proofs.SkippingStmts.{stmts-head, stmts-done, branches-head, branches-last, branches-done, else-none, else-reads, else-done}
use Rattle.slots.proofs.SkippingStmts.{elifs-read, elifs-done, methods-head, methods-done, methods-read, attributes-there, attributes-done}
use Rattle.slots.proofs.skip.+skip_stmts.Goals as goal

pub skip_block-u16_at-count-requires : goal.skip_block-u16_at-count-requires
skip_block-u16_at-count-requires t c = let h = (view-block _ _ _ c.requires).parts.count.bytes in omega arith

pub skip_block-skip_each-requires : goal.skip_block-skip_each-requires
skip_block-skip_each-requires t c = λ m q i w. (omega arith, stmts-head _ _ _ _ c.requires c.u16_at-count.ensures.0 (λ q o s. s) m q i w)

pub skip_block-returns : goal.skip_block-returns
skip_block-returns t c = stmts-done _ _ _ _ c.requires c.u16_at-count.ensures.0 (λ q o s. s) _ c.skip_each.ensures

pub skip_class-skip_each-methods-requires : goal.skip_class-skip_each-methods-requires
skip_class-skip_each-methods-requires t c = λ m q i w. (omega arith, methods-head _ _ _ _ (methods-read _ _ _ _ c.name_end-p.ensures c.requires _ c.u16_at-count.ensures.0) (λ q o s. s) m q i w)

pub skip_class-skip_attributes-requires : goal.skip_class-skip_attributes-requires
skip_class-skip_attributes-requires t c =
    let w = methods-done _ _ _ _ (methods-read _ _ _ _ c.name_end-p.ensures c.requires _ c.u16_at-count.ensures.0) (λ q o s. s) _ c.skip_each-methods.ensures in
    attributes-there _ _ _ _ c.name_end-p.ensures c.requires _ c.u16_at-count.ensures.0 _ w

pub skip_class-returns : goal.skip_class-returns
skip_class-returns t c =
    let w = methods-done _ _ _ _ (methods-read _ _ _ _ c.name_end-p.ensures c.requires _ c.u16_at-count.ensures.0) (λ q o s. s) _ c.skip_each-methods.ensures in
    attributes-done _ _ _ _ c.name_end-p.ensures c.requires _ c.u16_at-count.ensures.0 _ w _ c.skip_attributes.ensures

pub skip_else-bounds-tree-at : goal.skip_else-bounds-tree-at
skip_else-bounds-tree-at t c = let h = else-inside _ _ _ 0 (omega arith) c.requires in omega arith

pub skip_else-returns-then-tree-at-eq0 : goal.skip_else-returns-then-tree-at-eq0
skip_else-returns-then-tree-at-eq0 t c = else-none _ _ _ c.requires c.if-tree-at-eq0.true

pub skip_else-skip_block-requires : goal.skip_else-skip_block-requires
skip_else-skip_block-requires t c = (omega arith, else-reads _ _ _ c.requires c.if-tree-at-eq0.false)

pub skip_else-returns : goal.skip_else-returns
skip_else-returns t c = else-done _ _ _ c.requires c.if-tree-at-eq0.false _ c.skip_block.ensures

pub skip_if-skip_each-elifs-requires : goal.skip_if-skip_each-elifs-requires
skip_if-skip_each-elifs-requires t c = λ m q i w. (omega arith, branches-head _ _ _ _ (elifs-read _ _ _ _ c.skip_branch-first.ensures c.requires _ c.u16_at-count.ensures.0) (λ q o s. s) m q i w)

pub skip_if-skip_else-requires : goal.skip_if-skip_else-requires
skip_if-skip_else-requires t c = (omega arith, branches-last _ _ _ _ (elifs-read _ _ _ _ c.skip_branch-first.ensures c.requires _ c.u16_at-count.ensures.0) (λ q o s. s) _ c.skip_each-elifs.ensures)

pub skip_if-returns : goal.skip_if-returns
skip_if-returns t c =
    let r = elifs-read _ _ _ _ c.skip_branch-first.ensures c.requires _ c.u16_at-count.ensures.0 in
    elifs-done _ _ _ _ c.skip_branch-first.ensures c.requires _ c.u16_at-count.ensures.0 _ (branches-done _ _ _ _ r (λ q o s. s) _ _ c.skip_each-elifs.ensures c.skip_else.ensures)

pub skip_stmt-bounds-tree-at : goal.skip_stmt-bounds-tree-at
skip_stmt-bounds-tree-at t c = let h = stmt-inside _ _ _ c.requires in omega arith

pub skip_stmt-of-requires : goal.skip_stmt-of-requires
skip_stmt-of-requires t c = stmt-known _ _ _ c.requires

pub skip_stmt-overflow_sub-depth : goal.skip_stmt-overflow_sub-depth
skip_stmt-overflow_sub-depth t c = let h = stmt-deep _ _ _ c.requires in omega arith

pub skip_stmt-skip_expr-requires : goal.skip_stmt-skip_expr-requires
skip_stmt-skip_expr-requires t c = value-reads _ _ _ c.requires (value-byte c.of.ensures c.in-Expr.is)

pub skip_stmt-overflow_sub-depth-in-Assign : goal.skip_stmt-overflow_sub-depth-in-Assign
skip_stmt-overflow_sub-depth-in-Assign t c = let h = stmt-deep _ _ _ c.requires in omega arith

pub skip_stmt-skip_two-requires : goal.skip_stmt-skip_two-requires
unfolding stmt_byte
skip_stmt-skip_two-requires t c = (view-assign _ _ _ c.requires (sym c.in-Assign.ensures)).parts

pub skip_stmt-overflow_sub-depth-in-If : goal.skip_stmt-overflow_sub-depth-in-If
skip_stmt-overflow_sub-depth-in-If t c = let h = stmt-deep _ _ _ c.requires in omega arith

pub skip_stmt-skip_if-requires : goal.skip_stmt-skip_if-requires
unfolding stmt_byte
skip_stmt-skip_if-requires t c = let h = stmt-deep _ _ _ c.requires in (omega arith, (view-if _ _ _ c.requires (sym c.in-If.ensures)).parts)

pub skip_stmt-overflow_sub-depth-in-While : goal.skip_stmt-overflow_sub-depth-in-While
skip_stmt-overflow_sub-depth-in-While t c = let h = stmt-deep _ _ _ c.requires in omega arith

pub skip_stmt-skip_branch-requires : goal.skip_stmt-skip_branch-requires
unfolding stmt_byte
skip_stmt-skip_branch-requires t c = let h = stmt-deep _ _ _ c.requires in (omega arith, (view-while _ _ _ c.requires (sym c.in-While.ensures)).parts)

pub skip_stmt-overflow_sub-depth-in-For : goal.skip_stmt-overflow_sub-depth-in-For
skip_stmt-overflow_sub-depth-in-For t c = let h = stmt-deep _ _ _ c.requires in omega arith

pub skip_stmt-skip_for-requires : goal.skip_stmt-skip_for-requires
unfolding stmt_byte
skip_stmt-skip_for-requires t c = let h = stmt-deep _ _ _ c.requires in (omega arith, (view-for _ _ _ c.requires (sym c.in-For.ensures)).parts)

pub skip_stmt-overflow_sub-depth-in-Def : goal.skip_stmt-overflow_sub-depth-in-Def
skip_stmt-overflow_sub-depth-in-Def t c = let h = stmt-deep _ _ _ c.requires in omega arith

pub skip_stmt-skip_def-requires : goal.skip_stmt-skip_def-requires
unfolding stmt_byte
skip_stmt-skip_def-requires t c = let h = stmt-deep _ _ _ c.requires in (omega arith, (view-def _ _ _ c.requires (sym c.in-Def.ensures)).parts)

pub skip_stmt-overflow_sub-depth-in-Class : goal.skip_stmt-overflow_sub-depth-in-Class
skip_stmt-overflow_sub-depth-in-Class t c = let h = stmt-deep _ _ _ c.requires in omega arith

pub skip_stmt-skip_class-requires : goal.skip_stmt-skip_class-requires
unfolding stmt_byte
skip_stmt-skip_class-requires t c = let h = stmt-deep _ _ _ c.requires in (omega arith, (view-class _ _ _ c.requires (sym c.in-Class.ensures)).parts)

pub skip_stmt-returns-in-Break : goal.skip_stmt-returns-in-Break
skip_stmt-returns-in-Break t c = short-done _ _ _ c.requires (word-byte c.of.ensures c.in-Break.is)

pub skip_stmt-returns-in-Expr : goal.skip_stmt-returns-in-Expr
skip_stmt-returns-in-Expr t c = value-done _ _ _ c.requires _ (value-byte c.of.ensures c.in-Expr.is) c.skip_expr.ensures

pub skip_stmt-returns-in-Assign : goal.skip_stmt-returns-in-Assign
unfolding stmt_byte
skip_stmt-returns-in-Assign t c = assign-done _ _ _ c.requires _ (sym c.in-Assign.ensures) c.skip_two.ensures

pub skip_stmt-returns-in-If : goal.skip_stmt-returns-in-If
unfolding stmt_byte
skip_stmt-returns-in-If t c = if-done _ _ _ c.requires _ (sym c.in-If.ensures) c.skip_if.ensures

pub skip_stmt-returns-in-While : goal.skip_stmt-returns-in-While
unfolding stmt_byte
skip_stmt-returns-in-While t c = while-done _ _ _ c.requires _ (sym c.in-While.ensures) c.skip_branch.ensures

pub skip_stmt-returns-in-For : goal.skip_stmt-returns-in-For
unfolding stmt_byte
skip_stmt-returns-in-For t c = for-done _ _ _ c.requires _ (sym c.in-For.ensures) c.skip_for.ensures

pub skip_stmt-returns-in-Def : goal.skip_stmt-returns-in-Def
unfolding stmt_byte
skip_stmt-returns-in-Def t c = def-done _ _ _ c.requires _ (sym c.in-Def.ensures) c.skip_def.ensures

pub skip_stmt-returns-in-Class : goal.skip_stmt-returns-in-Class
unfolding stmt_byte
skip_stmt-returns-in-Class t c = class-done _ _ _ c.requires _ (sym c.in-Class.ensures) c.skip_class.ensures
