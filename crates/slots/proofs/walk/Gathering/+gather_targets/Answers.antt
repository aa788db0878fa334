-- A target by its kind, and targets one at a time.
use native.Mathlib.Omega.{arith}
use Prim.Native.Nat.{ℕ, ◌+◌}
use mathlib.Core.Path.{sym, ap, ◌∙◌, subst}
use mathlib.Core.List.{List}
use Rattle.tree_view.specs.Places.{There, name_end}
use Rattle.tree_view.proofs.ExprViews.{expr-inside, expr-deep, expr-known}
use Rattle.slots.proofs.Targeting.{var-there, var-gathered, var-stopped, tuple-list, tuple-reads, tuple-gathered, other-gathered, targets-head, targets-stopped, targets_next, targets-done}
use Rattle.slots.proofs.walk.Gathering.+gather_targets.Goals as goal

pub target-bounds-self-at : goal.target-bounds-self-at
target-bounds-self-at t c = expr-inside _ _ _ c.requires

pub target-of-requires : goal.target-of-requires
target-of-requires t c = expr-known _ _ _ c.requires

pub target-name-requires : goal.target-name-requires
target-name-requires t c = (var-there _ _ _ c.requires c.of.ensures c.in-Variable.is).byte

pub target-returns-in_err-name-in-Variable : goal.target-returns-in_err-name-in-Variable
target-returns-in_err-name-in-Variable t c = var-stopped _ _ _ c.requires c.of.ensures c.in-Variable.is c.name.ensures c.in_err-name-in-Variable.was c.from_residual.ensures

pub target-name_end-requires : goal.target-name_end-requires
target-name_end-requires t c = subst (λ (s : List ℕ). There s (c.args.at + 1)) (sym c.name.ensures.same_tree) (var-there _ _ _ c.requires c.of.ensures c.in-Variable.is)

pub target-u16_at-count-requires : goal.target-u16_at-count-requires
target-u16_at-count-requires t c = (tuple-list _ _ _ c.requires c.of.ensures c.in-Tuple.is).count

pub target-overflow_sub-depth : goal.target-overflow_sub-depth
target-overflow_sub-depth t c = let h = expr-deep _ _ _ c.requires in omega arith

pub target-targets-requires : goal.target-targets-requires
target-targets-requires t c = let h = expr-deep _ _ _ c.requires in (omega arith, tuple-reads _ _ _ c.requires c.of.ensures c.in-Tuple.is c.u16_at-count.ensures.0)

pub target-returns-in_ok-name-in-Variable : goal.target-returns-in_ok-name-in-Variable
target-returns-in_ok-name-in-Variable t c =
    var-gathered _ _ _ c.requires c.of.ensures c.in-Variable.is c.name.ensures c.in_ok-name-in-Variable.was
    (c.name_end.ensures ∙ ap (λ (s : List ℕ). name_end s (c.args.at + 1)) c.name.ensures.same_tree)

pub target-returns-in-Tuple : goal.target-returns-in-Tuple
target-returns-in-Tuple t c = tuple-gathered _ _ _ c.requires c.of.ensures c.in-Tuple.is c.u16_at-count.ensures.0 c.targets.ensures

pub target-returns-in_default : goal.target-returns-in_default
target-returns-in_default t c = other-gathered _ _ _ c.requires c.of.ensures c.in_default.not-Variable c.in_default.not-Tuple _ c.skip_expr.ensures

pub targets-target-requires : goal.targets-target-requires
targets-target-requires t c = let i = c.loop.invariant in (omega arith, targets-head _ _ _ i.0 i.1 (omega (arith, c.loop-test.true)))

pub targets-returns-in_err-p : goal.targets-returns-in_err-p
targets-returns-in_err-p t c = let i = c.loop.invariant in targets-stopped _ _ _ i.0 i.1 (omega (arith, c.loop-test.true)) c.target.ensures c.in_err-p.was c.from_residual.ensures

pub targets-loop-preserved : goal.targets-loop-preserved
targets-loop-preserved t c = let i = c.loop.invariant in targets_next _ _ _ i.0 i.1 (omega (arith, c.loop-test.true)) c.target.ensures c.in_ok-p.was _ (omega arith)

pub targets-returns : goal.targets-returns
targets-returns t c = let i = c.loop.invariant in targets-done _ _ _ i.0 i.1 (omega (arith, c.loop-test.false))
