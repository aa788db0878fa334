use mathlib.Core.Path.{sym, ap, ◌∙◌}
use Rattle.std.proofs.Common.{rules, arith}
use Rattle.numerals.specs.Kinds.{stmt_byte}
use Rattle.tree_view.specs.Judge.{judge_branch, judge_if, judge_for, judge_def, judge_method, judge_class}
use Rattle.parts.proofs.Steps.{step, stop, count-step, count-stop, done, along-start, along-next, along-stop, along-end}
use Rattle.tree.proofs.Checking.{stmt-stop, stmt-deep, stmt-no-kind, kind-step, stmt-leaves, stmt-value, stmts-turns, elifs-turns, methods-turns}
use Rattle.tree.proofs.Checking.{stmts-end, elifs-end, methods-end, block-stop, block-step, else-stop, else-done, else-step, else-no-byte}
use Rattle.tree_view.proofs.StmtLaws.{at-pass, at-assign, at-if, at-while, at-for, at-def, at-class}
use Rattle.tree.proofs.stmts.+check.Goals as goal

pub check_block-returns-in_err-n : goal.check_block-returns-in_err-n
check_block-returns-in_err-n t c = block-stop _ _ (search rules) c.in_err-n.ensures

pub check_block-loop-init : goal.check_block-loop-init
check_block-loop-init t c = along-start _ _ _ _ (omega arith)

pub check_block-returns-in_err-check_stmt : goal.check_block-returns-in_err-check_stmt
check_block-returns-in_err-check_stmt t c = block-step _ _ c.in_ok-n.ensures (along-stop (stmts-turns _ _) (search rules) c.loop.invariant c.in_err-check_stmt.ensures (omega arith))

pub check_block-loop-preserved : goal.check_block-loop-preserved
check_block-loop-preserved t c = along-next (stmts-turns _ _) c.loop.invariant c.in_ok-check_stmt.ensures (omega arith)

pub check_block-returns : goal.check_block-returns
check_block-returns t c = block-step _ _ c.in_ok-n.ensures (along-end c.loop.invariant (stmts-end _ _ _ _ (omega arith)))

pub check_branch-returns-in_err-check_expr : goal.check_branch-returns-in_err-check_expr
unfolding judge_branch
check_branch-returns-in_err-check_expr t c = stop _ (search rules) c.in_err-check_expr.ensures

pub check_branch-returns : goal.check_branch-returns
unfolding judge_branch
check_branch-returns t c = step c.in_ok-check_expr.ensures c.check_block.ensures

pub check_class-returns-in_err-name : goal.check_class-returns-in_err-name
unfolding judge_class
check_class-returns-in_err-name t c = stop _ (search rules) c.in_err-name.ensures

pub check_class-returns-in_err-n : goal.check_class-returns-in_err-n
unfolding judge_class
check_class-returns-in_err-n t c = step c.in_ok-name.ensures (count-stop _ (search rules) c.in_err-n.ensures)

pub check_class-returns-in_err-check_methods : goal.check_class-returns-in_err-check_methods
unfolding judge_class
check_class-returns-in_err-check_methods t c = step c.in_ok-name.ensures (count-step _ c.in_ok-n.ensures (stop _ (search rules) c.in_err-check_methods.ensures))

pub check_class-returns : goal.check_class-returns
unfolding judge_class
check_class-returns t c = step c.in_ok-name.ensures (count-step _ c.in_ok-n.ensures (step c.in_ok-check_methods.ensures c.check_attributes.ensures))

pub check_def-returns-in_err-name : goal.check_def-returns-in_err-name
unfolding judge_def
check_def-returns-in_err-name t c = stop _ (search rules) c.in_err-name.ensures

pub check_def-returns-in_err-params : goal.check_def-returns-in_err-params
unfolding judge_def
check_def-returns-in_err-params t c = step c.in_ok-name.ensures (stop _ (search rules) c.in_err-params.ensures)

pub check_def-returns : goal.check_def-returns
unfolding judge_def
check_def-returns t c = step c.in_ok-name.ensures (step c.in_ok-params.ensures c.check_block.ensures)

pub check_elifs-loop-init : goal.check_elifs-loop-init
check_elifs-loop-init t c = along-start _ _ _ _ (omega arith)

pub check_elifs-returns-in_err-check_branch : goal.check_elifs-returns-in_err-check_branch
check_elifs-returns-in_err-check_branch t c = along-stop (elifs-turns _ _) (search rules) c.loop.invariant c.in_err-check_branch.ensures (omega arith)

pub check_elifs-loop-preserved : goal.check_elifs-loop-preserved
check_elifs-loop-preserved t c = along-next (elifs-turns _ _) c.loop.invariant c.in_ok-check_branch.ensures (omega arith)

pub check_elifs-returns : goal.check_elifs-returns
check_elifs-returns t c = along-end c.loop.invariant (elifs-end _ _ _ (omega arith) c.check_else.ensures)

pub check_else-returns-in_err-byte : goal.check_else-returns-in_err-byte
check_else-returns-in_err-byte t c = else-stop _ _ (search rules) c.in_err-byte.ensures

pub check_else-returns-in-0 : goal.check_else-returns-in-0
check_else-returns-in-0 t c = else-done _ _ c.in_ok-byte.ensures c.in-0.is

pub check_else-returns-in-1 : goal.check_else-returns-in-1
check_else-returns-in-1 t c = else-step _ _ c.in_ok-byte.ensures c.in-1.is c.check_block.ensures

pub check_else-returns-in_default : goal.check_else-returns-in_default
check_else-returns-in_default t c = else-no-byte _ _ c.in_ok-byte.ensures (search rules) (search rules)

pub check_for-returns-in_err-name : goal.check_for-returns-in_err-name
unfolding judge_for
check_for-returns-in_err-name t c = stop _ (search rules) c.in_err-name.ensures

pub check_for-returns : goal.check_for-returns
unfolding judge_for
check_for-returns t c = step c.in_ok-name.ensures c.check_branch.ensures

pub check_if-returns-in_err-check_branch : goal.check_if-returns-in_err-check_branch
unfolding judge_if
check_if-returns-in_err-check_branch t c = stop _ (search rules) c.in_err-check_branch.ensures

pub check_if-returns-in_err-n : goal.check_if-returns-in_err-n
unfolding judge_if
check_if-returns-in_err-n t c = step c.in_ok-check_branch.ensures (count-stop _ (search rules) c.in_err-n.ensures)

pub check_if-returns : goal.check_if-returns
unfolding judge_if
check_if-returns t c = step c.in_ok-check_branch.ensures (count-step _ c.in_ok-n.ensures c.check_elifs.ensures)

pub check_method-returns-in_err-head : goal.check_method-returns-in_err-head
unfolding judge_method
check_method-returns-in_err-head t c = stop _ (search rules) c.in_err-head.ensures

pub check_method-returns : goal.check_method-returns
unfolding judge_method
check_method-returns t c = step c.in_ok-head.ensures c.check_block.ensures

pub check_methods-loop-init : goal.check_methods-loop-init
check_methods-loop-init t c = along-start _ _ _ _ (omega arith)

pub check_methods-returns-in_err-check_method : goal.check_methods-returns-in_err-check_method
check_methods-returns-in_err-check_method t c = along-stop (methods-turns _) (search rules) c.loop.invariant c.in_err-check_method.ensures (omega arith)

pub check_methods-loop-preserved : goal.check_methods-loop-preserved
check_methods-loop-preserved t c = along-next (methods-turns _) c.loop.invariant c.in_ok-check_method.ensures (omega arith)

pub check_methods-returns : goal.check_methods-returns
check_methods-returns t c = along-end c.loop.invariant (methods-end _ _ _ (omega arith))

pub check_stmt-returns-in_err-byte : goal.check_stmt-returns-in_err-byte
check_stmt-returns-in_err-byte t c = stmt-stop _ _ (search rules) c.in_err-byte.ensures

pub check_stmt-returns-then-depth-eq0 : goal.check_stmt-returns-then-depth-eq0
check_stmt-returns-then-depth-eq0 t c = stmt-deep _ _ _ c.in_ok-byte.ensures c.if-depth-eq0.true

pub check_stmt-returns-in_default : goal.check_stmt-returns-in_default
check_stmt-returns-in_default t c = stmt-no-kind _ _ c.in_ok-byte.ensures c.if-depth-eq0.false (search rules)

pub check_stmt-returns-in-Break : goal.check_stmt-returns-in-Break
check_stmt-returns-in-Break t c = stmt-leaves _ _ c.in_ok-byte.ensures c.if-depth-eq0.false c.in-Ok.ensures c.in-Break.is c.note.ensures

pub check_stmt-returns-in-Expr : goal.check_stmt-returns-in-Expr
check_stmt-returns-in-Expr t c = stmt-value _ _ c.in_ok-byte.ensures c.if-depth-eq0.false c.in-Ok.ensures c.in-Expr.is c.check_expr.ensures

pub check_stmt-returns-in-Pass : goal.check_stmt-returns-in-Pass
unfolding stmt_byte
check_stmt-returns-in-Pass t c = kind-step _ 2 c.in_ok-byte.ensures c.if-depth-eq0.false (sym c.in-Ok.ensures ∙ ap stmt_byte c.in-Pass.is) (λ t p w f h e. at-pass _ _ t p w f h e) done

pub check_stmt-returns-in-Assign : goal.check_stmt-returns-in-Assign
unfolding stmt_byte
check_stmt-returns-in-Assign t c = kind-step _ 5 c.in_ok-byte.ensures c.if-depth-eq0.false (sym c.in-Ok.ensures ∙ ap stmt_byte c.in-Assign.is) (λ t p w f h e. at-assign _ _ t p w f h e) c.check_assign.ensures

pub check_stmt-returns-in-If : goal.check_stmt-returns-in-If
unfolding stmt_byte
check_stmt-returns-in-If t c = kind-step _ 6 c.in_ok-byte.ensures c.if-depth-eq0.false (sym c.in-Ok.ensures ∙ ap stmt_byte c.in-If.is) (λ t p w f h e. at-if _ _ t p w f h e) c.check_if.ensures

pub check_stmt-returns-in-While : goal.check_stmt-returns-in-While
unfolding stmt_byte
check_stmt-returns-in-While t c = kind-step _ 7 c.in_ok-byte.ensures c.if-depth-eq0.false (sym c.in-Ok.ensures ∙ ap stmt_byte c.in-While.is) (λ t p w f h e. at-while _ _ t p w f h e) c.check_branch.ensures

pub check_stmt-returns-in-For : goal.check_stmt-returns-in-For
unfolding stmt_byte
check_stmt-returns-in-For t c = kind-step _ 8 c.in_ok-byte.ensures c.if-depth-eq0.false (sym c.in-Ok.ensures ∙ ap stmt_byte c.in-For.is) (λ t p w f h e. at-for _ _ t p w f h e) c.check_for.ensures

pub check_stmt-returns-in-Def : goal.check_stmt-returns-in-Def
unfolding stmt_byte
check_stmt-returns-in-Def t c = kind-step _ 9 c.in_ok-byte.ensures c.if-depth-eq0.false (sym c.in-Ok.ensures ∙ ap stmt_byte c.in-Def.is) (λ t p w f h e. at-def _ _ t p w f h e) c.check_def.ensures

pub check_stmt-returns-in-Class : goal.check_stmt-returns-in-Class
unfolding stmt_byte
check_stmt-returns-in-Class t c = kind-step _ 10 c.in_ok-byte.ensures c.if-depth-eq0.false (sym c.in-Ok.ensures ∙ ap stmt_byte c.in-Class.is) (λ t p w f h e. at-class _ _ t p w f h e) c.check_class.ensures
