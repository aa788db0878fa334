-- What each way out of a measure of targets and assignments shows.
use Prim.Native.Nat.{ℕ, suc, ◌+◌, ◌*◌, ◌-◌, ◌<◌, ◌≤◌}
use mathlib.Core.Path.{◌≡◌, refl, sym, ap, ◌∙◌, subst}
use mathlib.Core.Bool.{Bool, true, false}
use mathlib.Core.List.{List}
use native.Mathlib.Omega.{arith}
use lib.ListN.{length, get_or}
use lib.Dec.{eqb}
use borrow.Author.Tests.{eqb-true, eqb-false}
use Rattle.definitions.specs.Bytes.{Name}
use Rattle.definitions.specs.Wellformed.{is_tuple}
use Rattle.definitions.specs.Tree.{list_d, tuple_d, dict_d, set_d, tree_set_d, Expr, lit, var, unary, binary, logical, call, attr, display, index, lambda, Exprs}
use Rattle.definitions.specs.Tree.{View, as_var, as_attr, as_index, as_tuple, as_other, view, view_display}
use Rattle.definitions.specs.Measured.{SoFar, measure_expr, measure_copy, measure_target, measure_unpack, measure_assign}
use Rattle.tree_view.specs.Places.{Node, count_at, name_end}
use Rattle.tree_view.specs.ExprAt.{expr_at, exprs_at, ExprReads, ExprsRead, TwoAt, second_at, ListAt, list_at, cons_exprs_at, var_at, attribute_at, display_at, index_at}
use Rattle.tree_view.proofs.ExprViews.{expr-within, view-var, view-attribute, view-tuple, view-index, view-exprs-none, view-exprs-more}
use Rattle.tree_view.proofs.OtherForms.{other-form}
use Rattle.slots.proofs.Kinded.{form-var, form-attribute, form-tuple, form-index}
use Rattle.measure.specs.declared.Measure.{Measure}
use Rattle.measure.specs.Sized.{Sized}
use Rattle.tree_view.proofs.LeafNodes.{name-after}
use Rattle.measure.proofs.Measuring.{expr-ahead}
use Rattle.measure_stmts.proofs.Later.{expr-later}

-- ---- an element of a tuple target, by its form

unfoldable target_form : View → ℕ
target_form (as_var x) = 1
target_form (as_attr o x) = 0
target_form (as_index o i) = 0
target_form (as_tuple es) = measure_unpack es 0
target_form as_other = 0

target-form : (e : Expr) → measure_target e ≡ target_form (view e)
unfolding measure_target target_form view view_display is_tuple
target-form (lit l) = refl
target-form (var x) = refl
target-form (unary op e) = refl
target-form (binary op l r) = refl
target-form (logical op l r) = refl
target-form (call f es) = refl
target-form (attr o x) = refl
target-form (display list_d es) = refl
target-form (display tuple_d es) = refl
target-form (display dict_d es) = refl
target-form (display set_d es) = refl
target-form (display tree_set_d es) = refl
target-form (index o i) = refl
target-form (lambda ps b) = refl

module _ (r : Measure) (d : ℕ) (t : List ℕ) (p : ℕ) (reads : ExprReads d t p) where
  -- one byte is taken at least
  abbrev Target : Type 0
  Target = Sized r (p + 1) (expr_at d t p).end 0 (measure_target (expr_at d t p).value)

  by_form : (w : View) → view (expr_at d t p).value ≡ w → measure_target (expr_at d t p).value ≡ target_form w
  by_form w e = target-form (expr_at d t p).value ∙ ap target_form e

  pub target-var : get_or t p 0 ≡ 6 → r.size ≡ 1 → r.next ≡ name_end t (p + 1) → Target
  unfolding target_form var_at name_end
  target-var e a b =
      let v = (view-var d t p reads e).is in
      let end : (expr_at d t p).end ≡ name_end t (p + 1) = ap (λ (z : Node Expr). z.end) v in
      record { next_is = b ∙ sym end; size_is = a ∙ sym (by_form _ (form-var d t p reads e)); most = omega (arith, a, end) }

  pub target-tuple : get_or t p 0 ≡ 13 → Sized r (p + 1) (list_at (d - 1) t (p + 1)).end 0 (measure_unpack (list_at (d - 1) t (p + 1)).value 0) → Target
  unfolding target_form display_at
  target-tuple e S =
      let end : (expr_at d t p).end ≡ (list_at (d - 1) t (p + 1)).end = ap (λ (z : Node Expr). z.end) (view-tuple d t p reads e).is in
      record { next_is = S.next_is ∙ sym end; size_is = S.size_is ∙ sym (by_form _ (form-tuple d t p reads e)); most = omega (arith, S.most, end) }

  none-stored : (get_or t p 0 ≡ 6 → ⊥) → (get_or t p 0 ≡ 13 → ⊥) → measure_target (expr_at d t p).value ≡ 0
  unfolding target_form
  none-stored f g = by (eqb (get_or t p 0) 10) (eqb (get_or t p 0) 16) refl refl
    where
      by : (a b : Bool) → eqb (get_or t p 0) 10 ≡ a → eqb (get_or t p 0) 16 ≡ b → measure_target (expr_at d t p).value ≡ 0
      by true b h i = by_form _ (form-attribute d t p reads (eqb-true _ _ h))
      by false true h i = by_form _ (form-index d t p reads (eqb-true _ _ i))
      by false false h i = by_form _ (other-form d t p reads f (eqb-false _ _ h) g (eqb-false _ _ i))

  pub target_none : (get_or t p 0 ≡ 6 → ⊥) → (get_or t p 0 ≡ 13 → ⊥) → r.size ≡ 0 → r.next ≡ (expr_at d t p).end → Target
  target_none f g a b = record { next_is = b; size_is = a ∙ sym (none-stored f g); most = omega (arith, a, expr-later d t p reads) }

-- ---- elements, one at a time: the next one is that of the place `index`

pub record ElementsLeft (d : ℕ) (t : List ℕ) (n₀ p₀ n p size copy : ℕ) : Type 0 where
  pub index : ℕ
  pub reads : ExprsRead d n t p
  pub end : (exprs_at d n₀ t p₀).end ≡ (exprs_at d n t p).end
  pub sum : measure_unpack (exprs_at d n₀ t p₀).value 0 ≡ size + measure_unpack (exprs_at d n t p).value index
  pub copies : copy ≡ measure_copy index
  pub few : copy ≤ 1
  pub most : size + 256 * p₀ ≤ 256 * p

pub elements-start : (d : ℕ) (t : List ℕ) (n m p : ℕ) → ListAt d t p → n ≡ count_at t p → n ≡ m → ElementsLeft d t n (p + 2) m (p + 2) 0 0
unfolding measure_target measure_copy
elements-start d t n m p L e i = subst (λ (j : ℕ). ElementsLeft d t n (p + 2) j (p + 2) 0 0) i
    (record { index = 0; reads = subst (λ (k : ℕ). ExprsRead d k t (p + 2)) (sym e) L.elements; end = refl; sum = omega arith; copies = refl; few = omega arith; most = omega arith })

module _ (d : ℕ) (t : List ℕ) (n₀ p₀ n p size copy : ℕ) (l : ElementsLeft d t n₀ p₀ n p size copy) where
  module _ (h : 0 < n) where
    pub elements-head : ExprReads d t p
    elements-head = (view-exprs-more d n t p h l.reads).parts.head

    -- the sizes are small
    pub elements-few : (o : Measure) → length t ≤ 32768 → Sized o (p + 1) (expr_at d t p).end 0 (measure_target (expr_at d t p).value) → size + (o.size + copy + 2) ≤ 16777216
    elements-few o short S = omega (arith, S.most, expr-within d t p elements-head, l.most, l.reads.start, l.few)

    pub elements-next : (o : Measure) (m j : ℕ) → Sized o (p + 1) (expr_at d t p).end 0 (measure_target (expr_at d t p).value) → m ≡ size + (o.size + copy + 2) → n - 1 ≡ j
        → ElementsLeft d t n₀ p₀ j o.next m 1
    unfolding cons_exprs_at measure_target measure_copy
    elements-next o m j S e c =
        let v = view-exprs-more d n t p h l.reads in
        let i = l.index in
        let q = S.next_is in
        let split : measure_unpack (exprs_at d n t p).value i ≡ measure_unpack (exprs_at d (n - 1) t (expr_at d t p).end).value (suc i) + (measure_copy i + (2 + measure_target (expr_at d t p).value))
        = ap (λ (z : Node Exprs). measure_unpack z.value i) v.is in
        let now : measure_unpack (exprs_at d (n - 1) t (expr_at d t p).end).value (suc i) ≡ measure_unpack (exprs_at d (n - 1) t o.next).value (suc i) = ap (λ (z : ℕ). measure_unpack (exprs_at d (n - 1) t z).value (suc i)) (sym q) in
        subst (λ (z : ℕ). ElementsLeft d t n₀ p₀ z o.next m 1) c (record {
          index = suc i;
          reads = subst (λ (z : ℕ). ExprsRead d (n - 1) t z) (sym q) v.parts.rest;
          end = l.end ∙ ap (λ (z : Node Exprs). z.end) v.is ∙ ap (λ (z : ℕ). (exprs_at d (n - 1) t z).end) (sym q);
          sum = omega (arith, l.sum, split, now, S.size_is, l.copies, e);
          copies = refl;
          few = omega arith;
          most = omega (arith, l.most, S.most, q, e, l.few);
        })

  pub elements-done : (r : Measure) (a : ℕ) → n ≤ 0 → n₀ ≡ count_at t a → p₀ ≡ a + 2 → r.size ≡ size → r.next ≡ p → Sized r a (list_at d t a).end 0 (measure_unpack (list_at d t a).value 0)
  unfolding measure_target
  elements-done r a h e f b c =
      let v = view-exprs-none d n t p h l.reads.start in
      let none : measure_unpack (exprs_at d n t p).value l.index ≡ 0 = ap (λ (z : Node Exprs). measure_unpack z.value l.index) v in
      let same : exprs_at d n₀ t p₀ ≡ list_at d t a = ap (λ (z : ℕ). exprs_at d n₀ t z) f ∙ ap (λ (k : ℕ). exprs_at d k t (a + 2)) e in
      let all : measure_unpack (exprs_at d n₀ t p₀).value 0 ≡ measure_unpack (list_at d t a).value 0 = ap (λ (z : Node Exprs). measure_unpack z.value 0) same in
      let end : p ≡ (list_at d t a).end = sym (l.end ∙ ap (λ (z : Node Exprs). z.end) v) ∙ ap (λ (z : Node Exprs). z.end) same in
      record { next_is = c ∙ end; size_is = omega (arith, b, l.sum, none, all); most = omega (arith, b, l.most, end, f) }

-- ---- an assignment, by its target's form: the value stands where the target ends

module _ (d : ℕ) (t : List ℕ) (p : ℕ) (two : TwoAt d t p) where
  second-there : (q : ℕ) → q ≡ (expr_at d t p).end → ExprReads d t q
  second-there q e = subst (λ (z : ℕ). ExprReads d t z) (sym e) two.second

  pub second-var : (q : ℕ) → get_or t p 0 ≡ 6 → q ≡ name_end t (p + 1) → ExprReads d t q
  unfolding var_at
  second-var q e f = second-there q (f ∙ sym (ap (λ (z : Node Expr). z.end) (view-var d t p two.first e).is))

  pub second-attribute : (o q : ℕ) → get_or t p 0 ≡ 10 → o ≡ (expr_at (d - 1) t (p + 1)).end → q ≡ name_end t o → ExprReads d t q
  unfolding attribute_at
  second-attribute o q e f g = second-there q (g ∙ ap (name_end t) f ∙ sym (ap (λ (z : Node Expr). z.end) (view-attribute d t p two.first e).is))

  pub second-tuple : (q : ℕ) → get_or t p 0 ≡ 13 → q ≡ (list_at (d - 1) t (p + 1)).end → ExprReads d t q
  unfolding display_at
  second-tuple q e f = second-there q (f ∙ sym (ap (λ (z : Node Expr). z.end) (view-tuple d t p two.first e).is))

  pub tuple-few : (a : Measure) (n : ℕ) → length t ≤ 32768 → get_or t p 0 ≡ 13 → Sized a (p + 1) (list_at (d - 1) t (p + 1)).end 0 n → a.size ≤ 16777216
  unfolding display_at
  tuple-few a n short e S =
      let end : (expr_at d t p).end ≡ (list_at (d - 1) t (p + 1)).end = ap (λ (z : Node Expr). z.end) (view-tuple d t p two.first e).is in
      omega (arith, S.most, end, expr-within d t p two.first)

  module _ (o : Measure) (n : ℕ) (e : get_or t p 0 ≡ 16) (O : Sized o (p + 1) (expr_at (d - 1) t (p + 1)).end 0 n) where
    pub index-there : ExprReads (d - 1) t o.next
    index-there = subst (λ (z : ℕ). ExprReads (d - 1) t z) (sym O.next_is) (view-index d t p two.first e).parts.second

    pub second-index : (q : ℕ) → q ≡ (expr_at (d - 1) t o.next).end → ExprReads d t q
    unfolding index_at
    second-index q f =
        let at : (expr_at (d - 1) t o.next).end ≡ (second_at (d - 1) t (p + 1)).end = ap (λ (z : ℕ). (expr_at (d - 1) t z).end) O.next_is in
        second-there q (f ∙ at ∙ sym (ap (λ (z : Node Expr). z.end) (view-index d t p two.first e).is))

    pub index-few : (i : Measure) (k : ℕ) → length t ≤ 32768 → Sized i o.next (expr_at (d - 1) t o.next).end (o.size + 1) k → i.size ≤ 16777216
    index-few i k short I = omega (arith, O.most, O.next_is, I.most, expr-within (d - 1) t o.next index-there)

module _ (r : Measure) (names : List Name) (k : SoFar) (d : ℕ) (t : List ℕ) (p : ℕ) (two : TwoAt d t p) where
  abbrev value : ℕ
  value = measure_expr names k (second_at d t p).value

  abbrev Assign : Type 0
  Assign = Sized r p (second_at d t p).end 1 (measure_assign (view (expr_at d t p).value) names k value)

  assign-by : (w : View) (q more : ℕ) → view (expr_at d t p).value ≡ w → q ≡ (expr_at d t p).end → Sized r q (expr_at d t q).end more (measure_expr names k (expr_at d t q).value + more)
      → value + more ≡ measure_assign w names k value → more + 256 * p ≤ 1 + 256 * q → Assign
  assign-by w q more e f S g m =
      let same : expr_at d t q ≡ second_at d t p = ap (λ (z : ℕ). expr_at d t z) f in
      let end : (expr_at d t q).end ≡ (second_at d t p).end = ap (λ (z : Node Expr). z.end) same in
      record {
        next_is = S.next_is ∙ end;
        size_is = S.size_is ∙ ap (λ (z : Node Expr). measure_expr names k z.value + more) same ∙ g ∙ ap (λ (v : View). measure_assign v names k value) (sym e);
        most = omega (arith, S.most, end, m);
      }

  pub assign-var : (q : ℕ) → get_or t p 0 ≡ 6 → q ≡ name_end t (p + 1) → Sized r q (expr_at d t q).end 1 (measure_expr names k (expr_at d t q).value + 1) → Assign
  unfolding measure_assign var_at
  assign-var q e f S =
      let end : (expr_at d t p).end ≡ name_end t (p + 1) = ap (λ (z : Node Expr). z.end) (view-var d t p two.first e).is in
      assign-by _ q 1 (form-var d t p two.first e) (f ∙ sym end) S refl (omega (arith, f, name-after t (p + 1)))

  pub assign-attribute : (o : Measure) (q : ℕ) → get_or t p 0 ≡ 10 → Sized o (p + 1) (expr_at (d - 1) t (p + 1)).end 0 (measure_expr names k (expr_at (d - 1) t (p + 1)).value) → q ≡ name_end t o.next
      → Sized r q (expr_at d t q).end (o.size + 1) (measure_expr names k (expr_at d t q).value + (o.size + 1)) → Assign
  unfolding measure_assign attribute_at
  assign-attribute o q e O f S =
      let end : (expr_at d t p).end ≡ name_end t (expr_at (d - 1) t (p + 1)).end = ap (λ (z : Node Expr). z.end) (view-attribute d t p two.first e).is in
      let at : q ≡ name_end t (expr_at (d - 1) t (p + 1)).end = f ∙ ap (name_end t) O.next_is in
      assign-by _ q (o.size + 1) (form-attribute d t p two.first e) (at ∙ sym end) S (omega (arith, O.size_is)) (omega (arith, O.most, at, name-after t (expr_at (d - 1) t (p + 1)).end))

  pub assign-tuple : (a : Measure) → get_or t p 0 ≡ 13 → Sized a (p + 1) (list_at (d - 1) t (p + 1)).end 0 (measure_unpack (list_at (d - 1) t (p + 1)).value 0)
      → Sized r a.next (expr_at d t a.next).end a.size (measure_expr names k (expr_at d t a.next).value + a.size) → Assign
  unfolding measure_assign display_at
  assign-tuple a e A S =
      let end : (expr_at d t p).end ≡ (list_at (d - 1) t (p + 1)).end = ap (λ (z : Node Expr). z.end) (view-tuple d t p two.first e).is in
      assign-by _ a.next a.size (form-tuple d t p two.first e) (A.next_is ∙ sym end) S (ap (λ (n : ℕ). value + n) A.size_is) (omega (arith, A.most, A.next_is))

  pub assign-index : (o i : Measure) → get_or t p 0 ≡ 16 → Sized o (p + 1) (expr_at (d - 1) t (p + 1)).end 0 (measure_expr names k (expr_at (d - 1) t (p + 1)).value)
      → Sized i o.next (expr_at (d - 1) t o.next).end (o.size + 1) (measure_expr names k (expr_at (d - 1) t o.next).value + (o.size + 1))
      → Sized r i.next (expr_at d t i.next).end i.size (measure_expr names k (expr_at d t i.next).value + i.size) → Assign
  unfolding measure_assign index_at
  assign-index o i e O I S =
      let end : (expr_at d t p).end ≡ (second_at (d - 1) t (p + 1)).end = ap (λ (z : Node Expr). z.end) (view-index d t p two.first e).is in
      let second : expr_at (d - 1) t o.next ≡ second_at (d - 1) t (p + 1) = ap (λ (z : ℕ). expr_at (d - 1) t z) O.next_is in
      let at : i.next ≡ (second_at (d - 1) t (p + 1)).end = I.next_is ∙ ap (λ (z : Node Expr). z.end) second in
      let size : measure_expr names k (expr_at (d - 1) t o.next).value ≡ measure_expr names k (second_at (d - 1) t (p + 1)).value = ap (λ (z : Node Expr). measure_expr names k z.value) second in
      assign-by _ i.next i.size (form-index d t p two.first e) (at ∙ sym end) S (omega (arith, O.size_is, I.size_is, size)) (omega (arith, O.most, I.most, I.next_is, O.next_is))

  pub assign_other : (q : ℕ) → (get_or t p 0 ≡ 6 → ⊥) → (get_or t p 0 ≡ 10 → ⊥) → (get_or t p 0 ≡ 13 → ⊥) → (get_or t p 0 ≡ 16 → ⊥) → q ≡ (expr_at d t p).end → r.size ≡ 0 → r.next ≡ (expr_at d t q).end → Assign
  unfolding measure_assign
  assign_other q e f g h at a b =
      let end : (expr_at d t q).end ≡ (second_at d t p).end = ap (λ (z : ℕ). (expr_at d t z).end) at in
      record {
        next_is = b ∙ end;
        size_is = a ∙ ap (λ (v : View). measure_assign v names k value) (sym (other-form d t p two.first e f g h));
        most = omega (arith, a, expr-ahead d t p two.first, expr-ahead d t (expr_at d t p).end two.second);
      }
