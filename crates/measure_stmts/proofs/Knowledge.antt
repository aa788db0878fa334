-- Expressions measured with the names noted: the same scope, and what is so far.
use Prim.Native.Nat.{ℕ, ◌+◌}
use mathlib.Core.Path.{◌≡◌, sym, subst}
use Rattle.definitions.specs.Tree.{view}
use Rattle.definitions.specs.Measured.{SoFar, measure_expr, measure_assign}
use Rattle.tree_view.specs.ExprAt.{expr_at, second_at, ExprReads, TwoAt}
use Rattle.state.specs.State.{slot_names}
use Rattle.state.specs.declared.Scope.{Scope}
use Rattle.measure.specs.declared.measurer.Measurer.{Measurer}
use Rattle.measure.specs.declared.Measure.{Measure}
use Rattle.measure.specs.Known.{known}
use Rattle.measure.specs.Sized.{Sized}
use Rattle.measure_stmts.specs.declared.begun.Begun.{Begun}
use Rattle.measure_stmts.specs.Walked.{seen}

module _ (m k : Measurer) (a : Begun) (e : k.scope ≡ m.scope) (f : known k ≡ seen m a) where
  by-both : (P : Scope → SoFar → Type 0) → P k.scope (known k) → P m.scope (seen m a)
  by-both P x = subst (λ (s : SoFar). P m.scope s) f (subst (λ (s : Scope). P s (known k)) e x)

  module _ (d p : ℕ) where
    pub there-expr : ExprReads d m.scope.tree.now p → ExprReads d k.scope.tree.now p
    there-expr r = subst (λ (s : Scope). ExprReads d s.tree.now p) (sym e) r

    pub there_two : TwoAt d m.scope.tree.now p → TwoAt d k.scope.tree.now p
    there_two r = subst (λ (s : Scope). TwoAt d s.tree.now p) (sym e) r

    module _ (s : Measure) where
      pub expr-sized : Sized s p (expr_at d k.scope.tree.now p).end 0 (measure_expr (slot_names k.scope.tree.now k.scope.slots.now) (known k) (expr_at d k.scope.tree.now p).value)
          → Sized s p (expr_at d m.scope.tree.now p).end 0 (measure_expr (slot_names m.scope.tree.now m.scope.slots.now) (seen m a) (expr_at d m.scope.tree.now p).value)
      expr-sized S = by-both (λ c g. Sized s p (expr_at d c.tree.now p).end 0 (measure_expr (slot_names c.tree.now c.slots.now) g (expr_at d c.tree.now p).value)) S

      pub value-sized : (more : ℕ) → Sized s p (expr_at d k.scope.tree.now p).end more (measure_expr (slot_names k.scope.tree.now k.scope.slots.now) (known k) (expr_at d k.scope.tree.now p).value + more)
          → Sized s p (expr_at d m.scope.tree.now p).end more (measure_expr (slot_names m.scope.tree.now m.scope.slots.now) (seen m a) (expr_at d m.scope.tree.now p).value + more)
      value-sized more S = by-both (λ c g. Sized s p (expr_at d c.tree.now p).end more (measure_expr (slot_names c.tree.now c.slots.now) g (expr_at d c.tree.now p).value + more)) S

      -- the instructions of an assignment
      abbrev assign : Scope → SoFar → ℕ
      assign c g =
          let names = slot_names c.tree.now c.slots.now in
          measure_assign (view (expr_at d c.tree.now p).value) names g (measure_expr names g (second_at d c.tree.now p).value)

      pub assign-sized : Sized s p (second_at d k.scope.tree.now p).end 1 (assign k.scope (known k)) → Sized s p (second_at d m.scope.tree.now p).end 1 (assign m.scope (seen m a))
      assign-sized S = by-both (λ c g. Sized s p (second_at d c.tree.now p).end 1 (assign c g)) S
