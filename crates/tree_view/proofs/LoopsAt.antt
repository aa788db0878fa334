-- The loops of a statement, a block or branches, by those of the parts. Assumes nothing.
use Prim.Native.Nat.{ℕ, zero, suc, ◌+◌, ◌-◌, ◌<◌, ◌≤◌}
use mathlib.Core.Path.{◌≡◌, refl, sym, ap, ◌∙◌}
use mathlib.Core.List.{List}
use native.Mathlib.Omega.{arith}
use lib.ListN.{get_or}
use Rattle.definitions.specs.Tree.{Stmt, Block, Branches}
use Rattle.definitions.specs.Slots.{loops_stmt, loops_block, loops_branches}
use Rattle.tree_view.specs.Places.{Node, count_at, name_end}
use Rattle.tree_view.specs.StmtAt.{stmt_at, block_at, stmts_at, branches_at, StmtReads, BlockReads, StmtsRead, BranchesRead, body_at, elifs_at}
use Rattle.tree_view.specs.StmtAt.{expr_stmt_at, return_at, assign_at, if_at, while_at, for_at, when_at, else_at, def_at, class_at, cons_at}
use Rattle.tree_view.proofs.StmtViews.{stmt-known, view-break, view-continue, view-pass, view-expr, view-return, view-assign, view-if, view-while, view-for, view-def, view-class}
use Rattle.tree_view.proofs.StmtViews.{view-block, view-stmts-none, view-stmts-more, view-branches-more, else-known, view-done, view-else}

-- ---- a statement

module _ (d : ℕ) (t : List ℕ) (p : ℕ) (r : StmtReads d t p) where
  loops-as : (y : Node Stmt) → stmt_at d t p ≡ y → loops_stmt y.value ≡ loops_stmt (stmt_at d t p).value
  loops-as y e = ap (λ (x : Node Stmt). loops_stmt x.value) (sym e)

  pub if-loops : get_or t p 0 ≡ 6 → loops_block (body_at (d - 1) t (p + 1)).value + loops_branches (elifs_at (d - 1) t (p + 1)).value ≡ loops_stmt (stmt_at d t p).value
  unfolding loops_stmt if_at
  if-loops e = loops-as _ (view-if d t p r e).is

  pub while-loops : get_or t p 0 ≡ 7 → loops_block (body_at (d - 1) t (p + 1)).value ≡ loops_stmt (stmt_at d t p).value
  unfolding loops_stmt while_at
  while-loops e = loops-as _ (view-while d t p r e).is

  pub for-loops : get_or t p 0 ≡ 8 → 1 + loops_block (body_at (d - 1) t (name_end t (p + 1))).value ≡ loops_stmt (stmt_at d t p).value
  unfolding loops_stmt for_at
  for-loops e = loops-as _ (view-for d t p r e).is

  by-kind : (k : ℕ) → get_or t p 0 ≡ k → k < 11 → (6 ≤ k → 9 ≤ k) → 0 ≡ loops_stmt (stmt_at d t p).value
  unfolding loops_stmt expr_stmt_at return_at assign_at def_at class_at
  by-kind zero e h x = loops-as _ (view-break d t p r e)
  by-kind (suc zero) e h x = loops-as _ (view-continue d t p r e)
  by-kind (suc (suc zero)) e h x = loops-as _ (view-pass d t p r e)
  by-kind (suc (suc (suc zero))) e h x = loops-as _ (view-expr d t p r e).is
  by-kind (suc (suc (suc (suc zero)))) e h x = loops-as _ (view-return d t p r e).is
  by-kind (suc (suc (suc (suc (suc zero))))) e h x = loops-as _ (view-assign d t p r e).is
  by-kind (suc (suc (suc (suc (suc (suc zero)))))) e h x = absurd (omega (arith, x (omega arith)))
  by-kind (suc (suc (suc (suc (suc (suc (suc zero))))))) e h x = absurd (omega (arith, x (omega arith)))
  by-kind (suc (suc (suc (suc (suc (suc (suc (suc zero)))))))) e h x = absurd (omega (arith, x (omega arith)))
  by-kind (suc (suc (suc (suc (suc (suc (suc (suc (suc zero))))))))) e h x = loops-as _ (view-def d t p r e).is
  by-kind (suc (suc (suc (suc (suc (suc (suc (suc (suc (suc zero)))))))))) e h x = loops-as _ (view-class d t p r e).is
  by-kind (suc (suc (suc (suc (suc (suc (suc (suc (suc (suc (suc k))))))))))) e h x = absurd (omega arith)

  -- any other: a def and a class have theirs for themselves
  pub other-loops : (6 ≤ get_or t p 0 → 9 ≤ get_or t p 0) → 0 ≡ loops_stmt (stmt_at d t p).value
  other-loops x = by-kind (get_or t p 0) refl (stmt-known d t p r) x

module _ (d : ℕ) (t : List ℕ) where
  -- ---- a block

  pub block-loops : {n p q : ℕ} → BlockReads d t p → n ≡ count_at t p → q ≡ p + 2 → loops_block (stmts_at d n t q).value ≡ loops_block (block_at d t p).value
  block-loops {n} {p} r e f = (λ j. loops_block (stmts_at d (e j) t (f j)).value) ∙ ap (λ (x : Node Block). loops_block x.value) (sym (view-block d t p r).is)

  -- by another word for the position
  pub loops-at : {p q : ℕ} → q ≡ p → loops_block (block_at d t q).value ≡ loops_block (block_at d t p).value
  loops-at e = ap (λ (x : ℕ). loops_block (block_at d t x).value) e

  pub stmts-loops : {n p : ℕ} → 0 < n → StmtsRead d n t p → loops_block (stmts_at d n t p).value ≡ loops_stmt (stmt_at d t p).value + loops_block (stmts_at d (n - 1) t (stmt_at d t p).end).value
  unfolding loops_stmt cons_at
  stmts-loops {n} {p} h r = ap (λ (x : Node Block). loops_block x.value) (view-stmts-more d n t p h r).is

  pub none-loops : {n p : ℕ} → n ≤ 0 → StmtsRead d n t p → loops_block (stmts_at d n t p).value ≡ 0
  unfolding loops_stmt
  none-loops {n} {p} h r = ap (λ (x : Node Block). loops_block x.value) (view-stmts-none d n t p h r.start)

  -- ---- elifs, and an else block or none

  pub elifs-loops : {n p : ℕ} → 0 < n → BranchesRead d n t p
      → loops_branches (branches_at d n t p).value ≡ loops_block (body_at d t p).value + loops_branches (branches_at d (n - 1) t (body_at d t p).end).value
  unfolding loops_stmt when_at
  elifs-loops {n} {p} h r = ap (λ (x : Node Branches). loops_branches x.value) (view-branches-more d t p n h r).is

  pub no-else-loops : {p : ℕ} → BranchesRead d 0 t p → get_or t p 0 ≡ 0 → 0 ≡ loops_branches (branches_at d 0 t p).value
  unfolding loops_stmt
  no-else-loops {p} r e = sym (ap (λ (x : Node Branches). loops_branches x.value) (view-done d t p 0 (omega arith) r e))

  pub else-loops : {p : ℕ} → BranchesRead d 0 t p → (get_or t p 0 ≡ 0 → ⊥) → loops_block (block_at d t (p + 1)).value ≡ loops_branches (branches_at d 0 t p).value
  unfolding loops_stmt else_at
  else-loops {p} r h =
      let one : get_or t p 0 ≡ 1 = (let k = else-known d t p 0 (omega arith) r in omega arith) in
      sym (ap (λ (x : Node Branches). loops_branches x.value) (view-else d t p 0 (omega arith) r one).is)
