use native.Mathlib.Omega.{arith}
use mathlib.Core.Path.{◌∙◌}
use Rattle.tree_view.proofs.StmtViews.{stmt-inside}
use Rattle.instep.proofs.Parts.{stmts-head}
use Rattle.instep.proofs.Ways.{counting-done, counting-pass, counting-kept}
use Rattle.instep.proofs.spans.kept.Goals as goal
use Rattle.instep.proofs.spans.kept.Goals.{then-tree-p-eq-PASS, else-tree-p-eq-PASS}

pub bounds-tree-p : goal.bounds-tree-p
bounds-tree-p c = stmt-inside _ _ _ (stmts-head _ _ _ _ (omega (arith, c.loop-test.true)) c.loop.invariant.reads)

pub overflow_add-sum : goal.overflow_add-sum
overflow_add-sum c = let h = c.loop.invariant.few in omega (arith, c.loop-test.true)

pub skip_stmt-p-requires : goal.skip_stmt-p-requires
skip_stmt-p-requires c = stmts-head _ _ _ _ (omega (arith, c.loop-test.true)) c.loop.invariant.reads

pub loop-preserved : goal.loop-preserved
loop-preserved c =
    let h = c.loop.invariant in
    elim c.if-tree-p-eq-PASS.branch [
      | then-tree-p-eq-PASS w ↦ counting-pass h (omega (arith, c.loop-test.true)) (omega arith) w.if-tree-p-eq-PASS.true w.p-is w.sum-is
      | else-tree-p-eq-PASS w ↦ counting-kept h (omega (arith, c.loop-test.true)) (omega arith) w.if-tree-p-eq-PASS.false (w.p-is ∙ w.skip_stmt-p.ensures) w.sum-is
    ]

pub returns : goal.returns
returns c = counting-done c.loop.invariant (omega (arith, c.loop-test.false))
