-- Statements by their kinds, and one at a time.
use native.Mathlib.Omega.{arith}
use Prim.Native.Nat.{ℕ}
use mathlib.Core.Path.{refl, sym, ap, ◌∙◌}
use mathlib.Core.List.{List}
use Rattle.definitions.specs.Tree.{Stmt}
use Rattle.tree_view.specs.Places.{Node}
use Rattle.tree_view.specs.StmtAt.{stmt_at, block_at}
use Rattle.tree_view.proofs.StmtViews.{stmt-inside, stmt-known, stmt-deep, view-block, else-inside}
use Rattle.slots.proofs.Steps.{adds-counted, gathers-as}
use Rattle.slots.proofs.Gathering.{assign-seen, if-seen, while-seen, for-seen, while-done, plain-gathered, value-reads, value-gathered, named-there, named-stopped, named-gathered}
use Rattle.slots.proofs.Gathering.{block-reads, stmts-start, stmts-head, stmts-stopped, stmts-next, stmts-done, branches-head, branches-stopped, branches-next, branches-last, branches-done, else-none, else-reads, else-some}
use Rattle.slots.proofs.Gathering.{if-stopped, if-counted, if-elifs, if-done, for-stopped, for-done}
use Rattle.slots.proofs.walk.Gathering.+gather.Goals as goal

pub block-u16_at-count-requires : goal.block-u16_at-count-requires
block-u16_at-count-requires t c = (view-block _ _ _ c.requires).parts.count

pub block-loop-init : goal.block-loop-init
block-loop-init t c = stmts-start _ _ _ c.requires c.u16_at-count.ensures.0 _ (omega arith)

pub block-stmt-requires : goal.block-stmt-requires
block-stmt-requires t c = let i = c.loop.invariant in (omega arith, stmts-head _ _ _ i.0 i.1 (omega (arith, c.loop-test.true)))

pub block-returns-in_err-p : goal.block-returns-in_err-p
block-returns-in_err-p t c = let i = c.loop.invariant in stmts-stopped _ _ _ i.0 i.1 (omega (arith, c.loop-test.true)) c.stmt.ensures c.in_err-p.was c.from_residual.ensures

pub block-loop-preserved : goal.block-loop-preserved
block-loop-preserved t c = let i = c.loop.invariant in stmts-next _ _ _ i.0 i.1 (omega (arith, c.loop-test.true)) c.stmt.ensures c.in_ok-p.was _ (omega arith)

pub block-returns : goal.block-returns
block-returns t c = let i = c.loop.invariant in stmts-done _ _ _ i.0 i.1 (omega (arith, c.loop-test.false))

pub branch-block-requires : goal.branch-block-requires
branch-block-requires t c = (omega arith, block-reads _ _ _ _ c.skip_expr-p.ensures c.requires)

pub branch-returns : goal.branch-returns
branch-returns t c = gathers-as (block_at _ _) c.skip_expr-p.ensures c.block.ensures

pub elifs-branch-self-requires : goal.elifs-branch-self-requires
elifs-branch-self-requires t c = let i = c.loop.invariant in (omega arith, branches-head _ _ _ i.0 i.1 (omega (arith, c.loop-test.true)))

pub elifs-returns-in_err-p : goal.elifs-returns-in_err-p
elifs-returns-in_err-p t c = let i = c.loop.invariant in branches-stopped _ _ _ i.0 i.1 (omega (arith, c.loop-test.true)) c.branch-self.ensures c.in_err-p.was c.from_residual.ensures

pub elifs-loop-preserved : goal.elifs-loop-preserved
elifs-loop-preserved t c = let i = c.loop.invariant in branches-next _ _ _ i.0 i.1 (omega (arith, c.loop-test.true)) c.branch-self.ensures c.in_ok-p.was _ (omega arith)

pub elifs-else_block-requires : goal.elifs-else_block-requires
elifs-else_block-requires t c = let i = c.loop.invariant in (omega arith, branches-last _ _ _ i.0 i.1 (omega (arith, c.loop-test.false)))

pub elifs-returns : goal.elifs-returns
elifs-returns t c = let i = c.loop.invariant in branches-done _ _ _ i.0 i.1 (omega (arith, c.loop-test.false)) c.else_block.ensures

pub else_block-bounds-self-at : goal.else_block-bounds-self-at
else_block-bounds-self-at t c = else-inside _ _ _ 0 (omega arith) c.requires

pub else_block-returns-then-self-at-eq0 : goal.else_block-returns-then-self-at-eq0
else_block-returns-then-self-at-eq0 t c = else-none _ _ _ c.requires c.if-self-at-eq0.true _

pub else_block-block-requires : goal.else_block-block-requires
else_block-block-requires t c = (omega arith, else-reads _ _ _ c.requires c.if-self-at-eq0.false)

pub else_block-returns : goal.else_block-returns
else_block-returns t c = else-some _ _ _ c.requires c.if-self-at-eq0.false c.block.ensures

pub for_stmt-returns-in_err-name : goal.for_stmt-returns-in_err-name
for_stmt-returns-in_err-name t c = let s = adds-counted {a = c.args.self.now} (omega (arith, c.min-self.ensures)) refl refl c.name.ensures in for-stopped _ _ s c.in_err-name.was c.from_residual.ensures

pub for_stmt-returns : goal.for_stmt-returns
for_stmt-returns t c = let s = adds-counted {a = c.args.self.now} (omega (arith, c.min-self.ensures)) refl refl c.name.ensures in for-done _ _ s c.name_end.ensures c.in_ok-name.was c.branch-self.ensures

pub if_stmt-returns-in_err-p : goal.if_stmt-returns-in_err-p
if_stmt-returns-in_err-p t c = if-stopped _ _ c.branch-self.ensures c.in_err-p.was c.from_residual.ensures

pub if_stmt-u16_at-count-requires : goal.if_stmt-u16_at-count-requires
if_stmt-u16_at-count-requires t c = if-counted _ _ c.branch-self.ensures c.in_ok-p.was c.requires

pub if_stmt-elifs-requires : goal.if_stmt-elifs-requires
if_stmt-elifs-requires t c = (omega arith, if-elifs _ _ c.branch-self.ensures c.in_ok-p.was c.u16_at-count.ensures.0 c.requires)

pub if_stmt-returns : goal.if_stmt-returns
if_stmt-returns t c = if-done _ _ c.branch-self.ensures c.in_ok-p.was c.u16_at-count.ensures.0 c.elifs.ensures

pub stmt-bounds-self-at : goal.stmt-bounds-self-at
stmt-bounds-self-at t c = stmt-inside _ _ _ c.requires

pub stmt-of-requires : goal.stmt-of-requires
stmt-of-requires t c = stmt-known _ _ _ c.requires

pub stmt-overflow_sub-depth : goal.stmt-overflow_sub-depth
stmt-overflow_sub-depth t c = let h = stmt-deep _ _ _ c.requires in omega arith

pub stmt-skip_value-requires : goal.stmt-skip_value-requires
stmt-skip_value-requires t c = value-reads _ _ _ c.requires c.of.ensures c.in-Expr.is

pub stmt-overflow_sub-depth-in-Assign : goal.stmt-overflow_sub-depth-in-Assign
stmt-overflow_sub-depth-in-Assign t c = let h = stmt-deep _ _ _ c.requires in omega arith

pub stmt-overflow_sub-depth-in-If : goal.stmt-overflow_sub-depth-in-If
stmt-overflow_sub-depth-in-If t c = let h = stmt-deep _ _ _ c.requires in omega arith

pub stmt-overflow_sub-depth-in-While : goal.stmt-overflow_sub-depth-in-While
stmt-overflow_sub-depth-in-While t c = let h = stmt-deep _ _ _ c.requires in omega arith

pub stmt-overflow_sub-depth-in-For : goal.stmt-overflow_sub-depth-in-For
stmt-overflow_sub-depth-in-For t c = let h = stmt-deep _ _ _ c.requires in omega arith

pub stmt-assign-requires : goal.stmt-assign-requires
stmt-assign-requires t c = (assign-seen _ _ _ c.requires c.of.ensures c.in-Assign.is).parts

pub stmt-if_stmt-requires : goal.stmt-if_stmt-requires
stmt-if_stmt-requires t c = let h = stmt-deep _ _ _ c.requires in (omega arith, (if-seen _ _ _ c.requires c.of.ensures c.in-If.is).parts)

pub stmt-branch-self-requires : goal.stmt-branch-self-requires
stmt-branch-self-requires t c = let h = stmt-deep _ _ _ c.requires in (omega arith, (while-seen _ _ _ c.requires c.of.ensures c.in-While.is).parts)

pub stmt-for_stmt-requires : goal.stmt-for_stmt-requires
stmt-for_stmt-requires t c = let h = stmt-deep _ _ _ c.requires in (omega arith, (for-seen _ _ _ c.requires c.of.ensures c.in-For.is).parts)

pub stmt-name-requires : goal.stmt-name-requires
stmt-name-requires t c = (named-there _ _ _ c.requires c.of.ensures c.in-Def.is).byte

pub stmt-returns-in_err-name-in-Def : goal.stmt-returns-in_err-name-in-Def
stmt-returns-in_err-name-in-Def t c = named-stopped _ _ _ c.requires c.of.ensures c.in-Def.is c.name.ensures c.in_err-name-in-Def.was c.from_residual.ensures

pub stmt-returns-in-Break : goal.stmt-returns-in-Break
stmt-returns-in-Break t c = plain-gathered _ _ _ c.requires c.of.ensures c.in-Break.is _

pub stmt-returns-in-Expr : goal.stmt-returns-in-Expr
stmt-returns-in-Expr t c = value-gathered _ _ _ c.requires c.of.ensures c.in-Expr.is _ c.skip_value.ensures

pub stmt-returns-in-Assign : goal.stmt-returns-in-Assign
stmt-returns-in-Assign t c = gathers-as (λ (x : Node Stmt). x) (sym (assign-seen _ _ _ c.requires c.of.ensures c.in-Assign.is).is) c.assign.ensures

pub stmt-returns-in-If : goal.stmt-returns-in-If
stmt-returns-in-If t c = gathers-as (λ (x : Node Stmt). x) (sym (if-seen _ _ _ c.requires c.of.ensures c.in-If.is).is) c.if_stmt.ensures

pub stmt-returns-in-While : goal.stmt-returns-in-While
stmt-returns-in-While t c = gathers-as (λ (x : Node Stmt). x) (sym (while-seen _ _ _ c.requires c.of.ensures c.in-While.is).is) (while-done _ _ _ c.branch-self.ensures)

pub stmt-returns-in-For : goal.stmt-returns-in-For
stmt-returns-in-For t c = gathers-as (λ (x : Node Stmt). x) (sym (for-seen _ _ _ c.requires c.of.ensures c.in-For.is).is) c.for_stmt.ensures

pub stmt-returns-in_ok-name-in-Def : goal.stmt-returns-in_ok-name-in-Def
stmt-returns-in_ok-name-in-Def t c =
    named-gathered _ _ _ c.requires c.of.ensures c.in-Def.is c.name.ensures c.in_ok-name-in-Def.was
    (c.skip_stmt.ensures ∙ ap (λ (s : List ℕ). (stmt_at c.args.depth s c.args.at).end) c.name.ensures.same_tree)
