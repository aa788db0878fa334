-- Facts of every expression of some kinds. Assumes nothing.
use Prim.Native.Nat.{ℕ, zero, suc, ◌+◌, ◌-◌, ◌<◌}
use mathlib.Core.Path.{◌≡◌, refl, ap, ◌∙◌}
use mathlib.Core.List.{List}
use mathlib.Core.Logic.{◌⊎◌, inl, inr}
use native.Mathlib.Omega.{arith}
use lib.ListN.{get_or}
use Rattle.definitions.specs.Tree.{Literal, Display, list_d, tuple_d, set_d, tree_set_d}
use Rattle.definitions.specs.Tree.{View, as_var, as_attr, as_index, as_tuple, view, view_display}
use Rattle.definitions.specs.Tree.{Expr, lit}
use Rattle.tree_view.specs.Places.{Node, node, name_from}
use Rattle.tree_view.specs.ExprAt.{expr_at, ExprReads, int_at, float_at, string_at, var_at}
use Rattle.tree_view.specs.ExprAt.{ListAt, list_at, second_at, attribute_at, display_at, index_at}
use Rattle.tree_view.proofs.Nodes.{Seen}
use Rattle.tree_view.proofs.ExprViews.{view-none, view-false, view-true, view-int, view-float, view-string, view-var}
use Rattle.tree_view.proofs.ExprViews.{view-attribute, view-list, view-tuple, view-set, view-tree-set, view-index}

literal-is : (x : Node Expr) (l : Literal) (m : ℕ) → x ≡ node (lit l) m → (k : Literal) × (x.value ≡ lit k)
literal-is x l m e = (l, ap (λ (y : Node Expr). y.value) e)

view-is : (x y : Node Expr) (v : View) → x ≡ y → view y.value ≡ v → view x.value ≡ v
view-is x y v e f = ap (λ (z : Node Expr). view z.value) e ∙ f

module _ (d : ℕ) (t : List ℕ) (p : ℕ) (r : ExprReads d t p) where
  abbrev x : Node Expr
  x = expr_at d t p

  -- a literal, of the kinds below 6
  literal-kind : (k : ℕ) → get_or t p 0 ≡ k → k < 6 → (l : Literal) × ((expr_at d t p).value ≡ lit l)
  unfolding int_at float_at string_at
  literal-kind zero e h = literal-is x _ _ (view-none d t p r e)
  literal-kind (suc zero) e h = literal-is x _ _ (view-false d t p r e)
  literal-kind (suc (suc zero)) e h = literal-is x _ _ (view-true d t p r e)
  literal-kind (suc (suc (suc zero))) e h = literal-is x _ _ (view-int d t p r e).is
  literal-kind (suc (suc (suc (suc zero)))) e h = literal-is x _ _ (view-float d t p r e).is
  literal-kind (suc (suc (suc (suc (suc zero))))) e h = literal-is x _ _ (view-string d t p r e).is
  literal-kind (suc (suc (suc (suc (suc (suc k)))))) e h = absurd (omega arith)

  pub seen-literal : get_or t p 0 < 6 → (l : Literal) × ((expr_at d t p).value ≡ lit l)
  seen-literal h = literal-kind (get_or t p 0) refl h

  -- a list, tuple, set or tree set
  pub seen-display : (get_or t p 0 ≡ 11) ⊎ ((get_or t p 0 ≡ 13) ⊎ ((get_or t p 0 ≡ 14) ⊎ (get_or t p 0 ≡ 15))) → (k : Display) × Seen (ListAt (d - 1) t (p + 1)) (expr_at d t p) (display_at k (d - 1) t (p + 1))
  seen-display (inl e) = (list_d, view-list d t p r e)
  seen-display (inr (inl e)) = (tuple_d, view-tuple d t p r e)
  seen-display (inr (inr (inl e))) = (set_d, view-set d t p r e)
  seen-display (inr (inr (inr e))) = (tree_set_d, view-tree-set d t p r e)

  -- the forms that targets tell apart
  pub form-var : get_or t p 0 ≡ 6 → view (expr_at d t p).value ≡ as_var (name_from t (p + 1))
  unfolding view var_at
  form-var e = view-is x _ _ (view-var d t p r e).is refl

  pub form-attribute : get_or t p 0 ≡ 10 → view (expr_at d t p).value ≡ as_attr (expr_at (d - 1) t (p + 1)).value (name_from t (expr_at (d - 1) t (p + 1)).end)
  unfolding view attribute_at
  form-attribute e = view-is x _ _ (view-attribute d t p r e).is refl

  pub form-tuple : get_or t p 0 ≡ 13 → view (expr_at d t p).value ≡ as_tuple (list_at (d - 1) t (p + 1)).value
  unfolding view view_display display_at
  form-tuple e = view-is x _ _ (view-tuple d t p r e).is refl

  pub form-index : get_or t p 0 ≡ 16 → view (expr_at d t p).value ≡ as_index (expr_at (d - 1) t (p + 1)).value (second_at (d - 1) t (p + 1)).value
  unfolding view index_at
  form-index e = view-is x _ _ (view-index d t p r e).is refl
