-- The form of the expression at a position by its kind byte: of those that are no targets, none. Assumes nothing.
use Prim.Native.Nat.{ℕ, zero, suc, ◌<◌}
use mathlib.Core.Path.{◌≡◌, refl, ap, ◌∙◌}
use mathlib.Core.List.{List}
use native.Mathlib.Omega.{arith}
use lib.ListN.{get_or}
use Rattle.definitions.specs.Tree.{Expr, as_other, view, view_display}
use Rattle.tree_view.specs.Places.{Node}
use Rattle.tree_view.proofs.Nodes.{Seen}
use Rattle.tree_view.specs.ExprAt.{expr_at, ExprReads, int_at, float_at, string_at, unary_at, binary_at, call_at, display_at, dict_at, lambda_at}
use Rattle.tree_view.proofs.ExprViews.{expr-known, view-none, view-false, view-true, view-int, view-float, view-string, view-unary, view-binary, view-call, view-list, view-dict}
use Rattle.tree_view.proofs.ExprViews.{view-set, view-tree-set, view-lambda}
use Rattle.tree_view.proofs.Operators.{unary-other, binary-other}

module _ (d : ℕ) (t : List ℕ) (p : ℕ) (r : ExprReads d t p) where
  abbrev Other : Type 0
  Other = view (expr_at d t p).value ≡ as_other

  seen : {P : Type 0} {y : Node Expr} → Seen P (expr_at d t p) y → view y.value ≡ as_other → Other
  seen v e = ap (λ (x : Node Expr). view x.value) v.is ∙ e

  by-kind : (k : ℕ) → get_or t p 0 ≡ k → k < 18 → (k ≡ 6 → ⊥) → (k ≡ 10 → ⊥) → (k ≡ 13 → ⊥) → (k ≡ 16 → ⊥) → Other
  unfolding view view_display int_at float_at string_at unary_at binary_at call_at display_at dict_at lambda_at
  by-kind zero e h a b f g = ap (λ (x : Node Expr). view x.value) (view-none d t p r e)
  by-kind (suc zero) e h a b f g = ap (λ (x : Node Expr). view x.value) (view-false d t p r e)
  by-kind (suc (suc zero)) e h a b f g = ap (λ (x : Node Expr). view x.value) (view-true d t p r e)
  by-kind (suc (suc (suc zero))) e h a b f g = seen (view-int d t p r e) refl
  by-kind (suc (suc (suc (suc zero)))) e h a b f g = seen (view-float d t p r e) refl
  by-kind (suc (suc (suc (suc (suc zero))))) e h a b f g = seen (view-string d t p r e) refl
  by-kind (suc (suc (suc (suc (suc (suc zero)))))) e h a b f g = absurd (a refl)
  by-kind (suc (suc (suc (suc (suc (suc (suc zero))))))) e h a b f g = let v = view-unary d t p r e in seen v (unary-other _ _ v.parts.operator)
  by-kind (suc (suc (suc (suc (suc (suc (suc (suc zero)))))))) e h a b f g = let v = view-binary d t p r e in seen v (binary-other _ _ _ v.parts.operator)
  by-kind (suc (suc (suc (suc (suc (suc (suc (suc (suc zero))))))))) e h a b f g = seen (view-call d t p r e) refl
  by-kind (suc (suc (suc (suc (suc (suc (suc (suc (suc (suc zero)))))))))) e h a b f g = absurd (b refl)
  by-kind (suc (suc (suc (suc (suc (suc (suc (suc (suc (suc (suc zero))))))))))) e h a b f g = seen (view-list d t p r e) refl
  by-kind (suc (suc (suc (suc (suc (suc (suc (suc (suc (suc (suc (suc zero)))))))))))) e h a b f g = seen (view-dict d t p r e) refl
  by-kind (suc (suc (suc (suc (suc (suc (suc (suc (suc (suc (suc (suc (suc zero))))))))))))) e h a b f g = absurd (f refl)
  by-kind (suc (suc (suc (suc (suc (suc (suc (suc (suc (suc (suc (suc (suc (suc zero)))))))))))))) e h a b f g = seen (view-set d t p r e) refl
  by-kind (suc (suc (suc (suc (suc (suc (suc (suc (suc (suc (suc (suc (suc (suc (suc zero))))))))))))))) e h a b f g = seen (view-tree-set d t p r e) refl
  by-kind (suc (suc (suc (suc (suc (suc (suc (suc (suc (suc (suc (suc (suc (suc (suc (suc zero)))))))))))))))) e h a b f g = absurd (g refl)
  by-kind (suc (suc (suc (suc (suc (suc (suc (suc (suc (suc (suc (suc (suc (suc (suc (suc (suc zero))))))))))))))))) e h a b f g = seen (view-lambda d t p r e) refl
  by-kind (suc (suc (suc (suc (suc (suc (suc (suc (suc (suc (suc (suc (suc (suc (suc (suc (suc (suc k)))))))))))))))))) e h a b f g = absurd (omega arith)

  -- neither a variable, an attribute, a tuple nor an index
  pub other-form : (get_or t p 0 ≡ 6 → ⊥) → (get_or t p 0 ≡ 10 → ⊥) → (get_or t p 0 ≡ 13 → ⊥) → (get_or t p 0 ≡ 16 → ⊥) → view (expr_at d t p).value ≡ as_other
  other-form = by-kind (get_or t p 0) refl (expr-known d t p r)
