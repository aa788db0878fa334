-- Assignments by the kind of the target: what each holds, its code and its end.
use Prim.Native.Nat.{ℕ, ◌+◌, ◌-◌, ◌<◌}
use mathlib.Core.Path.{◌≡◌, refl, sym, ap, ◌∙◌, subst}
use mathlib.Core.Bool.{true}
use mathlib.Core.List.{List, []}
use native.Mathlib.Omega.{arith}
use lib.ListN.{length, get_or}
use Rattle.definitions.specs.Bytes.{Name}
use Rattle.definitions.specs.Tree.{Expr, Exprs, View, view, view_display}
use Rattle.definitions.specs.Instruction.{StoreAttr, StoreIndex}
use Rattle.definitions.specs.Tables.{Emit, emits, one, ◌⨟◌, intern}
use Rattle.definitions.specs.Wellformed.{ask_expr}
use Rattle.definitions.specs.Lower.{store, unpack, assign_by}
use Rattle.tree_view.specs.Places.{Node, count_at, name_from, name_end}
use Rattle.tree_view.specs.ExprAt.{expr_at, var_at, attribute_at, display_at, index_at, second_at}
use Rattle.tree_view.proofs.ExprViews.{expr-deep, expr-inside, view-var, view-attribute, view-tuple, view-index}
use Rattle.state.specs.Words.{name_at}
use Rattle.lower_forms.specs.Lowerable.{Relied, Lowerable, expr_code}
use Rattle.lower_forms.proofs.ExprArms.{and_both}
use Rattle.lower_forms.specs.Elements.{elements_at}
use Rattle.lower_forms.specs.Assigned.{AssignLowerable, assign_code, VariableAssigned, AttributeAssigned, IndexAssigned, TupleAssigned}
use Rattle.tree_view.proofs.OtherForms.{other-form}
use Rattle.lower_forms.proofs.Unpacking.{list-is}

-- the assignment at p holds what Parts says; its code is e, by the names of the slots, and it ends at q
pub record AssignArm (Parts : Type 0) (d : ℕ) (t : List ℕ) (p : ℕ) (e : List Name → Emit) (q : ℕ) : Type 0 where
  pub parts : Parts
  pub code : (names : List Name) → e names ≡ assign_code d t names p
  pub end : q ≡ (second_at d t p).end

module _ (d : ℕ) (t : List ℕ) (p : ℕ) (r : AssignLowerable d t p) where
  pub assign-inside : p < length t
  assign-inside = expr-inside d t p r.target

  pub assign-deep : 0 < d
  assign-deep = let h = expr-deep d t p r.target in omega arith

  -- the target and where it ends, by other words
  module _ (x : Node Expr) (is : expr_at d t p ≡ x) where
    asked : (q : ℕ) → Relied q → ask_expr q x.value ≡ true
    asked q j = ap (λ (n : Node Expr). ask_expr q n.value) (sym is) ∙ r.asks q j

    valued : Lowerable d t x.end
    valued = subst (λ (n : Node Expr). Lowerable d t n.end) is r.value

    coded : (names : List Name) → assign_by (view x.value) names (expr_code d t names x.end) ≡ assign_code d t names p
    coded names = ap (λ (n : Node Expr). assign_by (view n.value) names (expr_code d t names n.end)) (sym is)

    ends : (expr_at d t x.end).end ≡ (second_at d t p).end
    ends = ap (λ (n : Node Expr). (expr_at d t n.end).end) (sym is)

  pub arm-variable : get_or t p 0 ≡ 6 → AssignArm (VariableAssigned d t (p + 1)) d t p
      (λ names. expr_code d t names (name_end t (p + 1)) ⨟ store names (name_at t (p + 1))) (expr_at d t (name_end t (p + 1))).end
  unfolding var_at view assign_by name_from name_at
  arm-variable k =
      let v = view-var d t p r.target k in
      record { parts = record { name = v.parts; value = valued _ v.is }; code = coded _ v.is; end = ends _ v.is }

  pub arm-attribute : get_or t p 0 ≡ 10 → AssignArm (AttributeAssigned d t (p + 1)) d t p
      (λ names. expr_code (d - 1) t names (p + 1) ⨟ expr_code d t names (name_end t (expr_at (d - 1) t (p + 1)).end) ⨟ intern (name_at t (expr_at (d - 1) t (p + 1)).end) (λ k. one (StoreAttr k)))
      (expr_at d t (name_end t (expr_at (d - 1) t (p + 1)).end)).end
  unfolding attribute_at view assign_by name_from name_at ask_expr
  arm-attribute k =
      let v = view-attribute d t p r.target k in
      record {
        parts = record {
          deep = assign-deep;
          object = record { reads = v.parts.object; asks = λ q j. (and_both _ _ (asked _ v.is q j)).0 };
          name = v.parts.name;
          value = valued _ v.is;
        };
        code = coded _ v.is;
        end = ends _ v.is;
      }

  pub arm-tuple : get_or t p 0 ≡ 13 → AssignArm (TupleAssigned d t p) d t p
      (λ names. expr_code d t names (expr_at d t p).end ⨟ unpack names (elements_at (d - 1) t (count_at t (p + 1)) (p + 3)) 0) (second_at d t p).end
  unfolding display_at view view_display assign_by
  arm-tuple k =
      let v = view-tuple d t p r.target k in
      let z : p + 1 + 2 ≡ p + 3 = omega arith in
      record {
        parts = record { deep = assign-deep; target = r.target; elements = v.parts; value = r.value };
        code = λ names.
            ap (λ (es : Exprs). expr_code d t names (expr_at d t p).end ⨟ unpack names es 0)
            (ap (elements_at (d - 1) t (count_at t (p + 1))) (sym z) ∙ sym (list-is (d - 1) t (count_at t (p + 1)) (p + 1 + 2) v.parts.elements))
            ∙ ap (λ (n : Node Expr). assign_by (view n.value) names (expr_code d t names (expr_at d t p).end)) (sym v.is);
        end = refl;
      }

  pub arm-index : get_or t p 0 ≡ 16 → AssignArm (IndexAssigned d t (p + 1)) d t p
      (λ names. expr_code (d - 1) t names (p + 1) ⨟ expr_code (d - 1) t names (expr_at (d - 1) t (p + 1)).end ⨟ expr_code d t names (second_at (d - 1) t (p + 1)).end ⨟ one StoreIndex)
      (expr_at d t (second_at (d - 1) t (p + 1)).end).end
  unfolding index_at view assign_by ask_expr
  arm-index k =
      let v = view-index d t p r.target k in
      let a = λ (q : ℕ) (j : Relied q). and_both _ _ (asked _ v.is q j) in
      record {
        parts = record {
          deep = assign-deep;
          pair = record {
            first = record { reads = v.parts.first; asks = λ q j. (a q j).0 };
            second = record { reads = v.parts.second; asks = λ q j. (a q j).1 };
          };
          value = valued _ v.is;
        };
        code = coded _ v.is;
        end = ends _ v.is;
      }

  -- question 10 refuses the other targets
  pub arm-other : (names : List Name) → (get_or t p 0 ≡ 6 → ⊥) → (get_or t p 0 ≡ 10 → ⊥) → (get_or t p 0 ≡ 13 → ⊥) → (get_or t p 0 ≡ 16 → ⊥) → assign_code d t names p ≡ emits []
  unfolding assign_by
  arm-other names a b f g = ap (λ (w : View). assign_by w names (expr_code d t names (expr_at d t p).end)) (other-form d t p r.target a b f g)

-- ---- by another word for the position

pub second-at : (d : ℕ) (t : List ℕ) (p q r : ℕ) → q ≡ (expr_at d t p).end → r ≡ (expr_at d t q).end → r ≡ (second_at d t p).end
second-at d t p q r e f = f ∙ ap (λ (x : ℕ). (expr_at d t x).end) e
