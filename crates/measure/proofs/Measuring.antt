-- What each way out of a measure shows.
use Prim.Native.Nat.{ℕ, ◌+◌, ◌*◌, ◌-◌, ◌<◌, ◌≤◌}
use mathlib.Core.Path.{◌≡◌, refl, sym, ap, ◌∙◌, subst}
use mathlib.Core.Bool.{Bool, true, false}
use mathlib.Core.List.{List}
use mathlib.Core.Logic.{◌⊎◌, inl, inr, ⊎_elim}
use native.Mathlib.Omega.{arith}
use lib.ListN.{length, get_or}
use lib.Dec.{eqb}
use borrow.Author.Tests.{lt-ltb, le-ltb, eqb-true, eqb-false}
use Rattle.definitions.specs.Bytes.{Name}
use Rattle.definitions.specs.Tree.{none_l, LogicalOp, and_op, or_op, Display, list_d, tuple_d, dict_d, set_d, tree_set_d}
use Rattle.definitions.specs.Tree.{Expr, lit, var, unary, binary, logical, call, attr, display, index, lambda, Exprs}
use Rattle.definitions.specs.Tree.{View, as_var, as_attr, as_index, as_tuple, as_other, view, view_display}
use Rattle.definitions.specs.Slots.{captures}
use Rattle.definitions.specs.Measured.{SoFar, direct, measure_call, measure_expr, measure_exprs, measure_object}
use Rattle.tree_view.specs.Places.{Node, count_at, name_end, params_at, text_node_at}
use Rattle.tree_view.specs.ExprAt.{expr_at, exprs_at, ExprReads, ExprsRead, unary_of, binary_of, var_at, string_at, unary_at, second_at}
use Rattle.tree_view.specs.ExprAt.{binary_at, list_at, call_at, attribute_at, display_at, pairs_at, dict_at, index_at, LambdaAt, lambda_at, cons_exprs_at}
use Rattle.state.specs.State.{slots_from, slot_names, Slots}
use Rattle.slots.specs.Held.{CapturesAt}
use Rattle.slots.proofs.Adding.{first-length, name-bytes}
use Rattle.state.specs.Words.{name_at}
use Rattle.definitions.specs.Parse.{parse_expr}
use Rattle.definitions.proofs.Begins.{le-or-gt}
use Rattle.tree_view.proofs.LeafNodes.{params-after}
use Rattle.measure.proofs.Ahead.{node-after}
use Rattle.tree_view.proofs.ExprLaws.{steady-E}
use Rattle.tree_view.proofs.ExprViews.{expr-within, binary-of, and-of, or-of, view-string, view-var, view-unary, view-binary, view-call, view-attribute, view-dict, view-index, view-lambda, view-exprs-none, view-exprs-more}
use Rattle.slots.proofs.Skipping.{plain_done, number-done}
use Rattle.tree_view.proofs.Operators.{unary-each}
use Rattle.tree_view.proofs.OtherForms.{other-form}
use Rattle.slots.proofs.Kinded.{seen-literal, seen-display, form-var, form-attribute, form-tuple, form-index}
use Rattle.measure.specs.declared.Measure.{Measure}
use Rattle.measure.specs.Sized.{call_more, binary_more, Sized}

-- ---- calls

display-adds : (k : SoFar) (d : Display) (fs : Exprs) (m n : ℕ) → measure_call (view_display d fs) k m 0 n ≡ m + call_more k (view_display d fs) + n
unfolding measure_call call_more view_display
display-adds k list_d fs m n = omega arith
display-adds k tuple_d fs m n = omega arith
display-adds k dict_d fs m n = omega arith
display-adds k set_d fs m n = omega arith
display-adds k tree_set_d fs m n = omega arith

-- the instruction that calls adds this
pub call-adds : (names : List Name) (k : SoFar) (f : Expr) (es : Exprs) → measure_expr names k (call f es) ≡ measure_expr names k f + call_more k (view f) + measure_exprs names k es
unfolding measure_expr measure_call measure_object call_more view
call-adds names k (lit l) es = omega arith
call-adds names k (var x) es = go (direct k x) (measure_exprs names k es)
  where
    go : (b : Bool) (n : ℕ) → ◌≡◌ {A = ℕ} (elim b as (λ z. ℕ) [ true ↦ n + 1 | false ↦ 1 + (n + 1) ]) (1 + (elim b as (λ z. ℕ) [ true ↦ 0 | false ↦ 1 ]) + n)
    go true n = omega arith
    go false n = omega arith
call-adds names k (unary op e) es = omega arith
call-adds names k (binary op l r) es = omega arith
call-adds names k (logical op l r) es = omega arith
call-adds names k (call f fs) es = omega arith
call-adds names k (attr o x) es = omega arith
call-adds names k (display d fs) es = display-adds k d fs (measure_exprs names k fs + 1) (measure_exprs names k es)
call-adds names k (index o i) es = omega arith
call-adds names k (lambda ps b) es = omega arith

-- a callee by its kind
pub more-attribute : (k : SoFar) (v : View) (o : Expr) (x : Name) → v ≡ as_attr o x → 0 ≡ call_more k v
unfolding call_more
more-attribute k v o x e = rw e

-- ---- operators

unary-adds : (names : List Name) (k : SoFar) (op : ℕ) (e : Expr) → op < 3 → measure_expr names k (unary_of op e) ≡ measure_expr names k e + 1
unfolding measure_expr
unary-adds names k op e h = unary-each (λ (f : Expr → Expr). measure_expr names k (f e) ≡ measure_expr names k e + 1) (λ o. refl) op h

pub more-low : (op : ℕ) → op < 12 → binary_more op ≡ 1
unfolding binary_more
more-low op h = ap (λ (b : Bool). elim b as (λ z. ℕ) [ true ↦ 1 | false ↦ 3 ]) (lt-ltb op 12 h)

pub more-high : (op : ℕ) → 12 ≤ op → binary_more op ≡ 3
unfolding binary_more
more-high op h = ap (λ (b : Bool). elim b as (λ z. ℕ) [ true ↦ 1 | false ↦ 3 ]) (le-ltb op 12 h)

binary-adds : (names : List Name) (k : SoFar) (op : ℕ) (l r : Expr) → op < 14 → measure_expr names k (binary_of op l r) ≡ measure_expr names k l + (measure_expr names k r + binary_more op)
unfolding measure_expr
binary-adds names k op l r h = ⊎_elim
    (λ (m : 12 ≤ op). ⊎_elim
    (λ (o : 13 ≤ op). logical-adds or_op (or-of op (omega arith)) m)
    (λ (o : op < 13). logical-adds and_op (and-of op (omega arith)) m)
    (le-or-gt 13 op))
    (λ (m : op < 12). ap (λ (f : Expr → Expr → Expr). measure_expr names k (f l r)) (binary-of op m) ∙ ap (λ (n : ℕ). measure_expr names k l + (measure_expr names k r + n)) (sym (more-low op m)))
    (le-or-gt 12 op)
  where
    logical-adds : (o : LogicalOp) → binary_of op ≡ logical o → 12 ≤ op → measure_expr names k (binary_of op l r) ≡ measure_expr names k l + (measure_expr names k r + binary_more op)
    logical-adds o e m = ap (λ (f : Expr → Expr → Expr). measure_expr names k (f l r)) e ∙ ap (λ (n : ℕ). measure_expr names k l + (measure_expr names k r + n)) (sym (more-high op m))

-- ---- sizes

-- an expression by the node that it is
pub kind-sized : (r : Measure) (names : List Name) (k : SoFar) (d : ℕ) (t : List ℕ) (p : ℕ) (y : Node Expr) (q more n : ℕ) → expr_at d t p ≡ y → Sized r q y.end more n → n ≡ measure_expr names k y.value → more + 256 * p ≤ 256 * q
    → Sized r p (expr_at d t p).end 0 (measure_expr names k (expr_at d t p).value)
kind-sized r names k d t p y q more n e s f g =
    let h : (expr_at d t p).end ≡ y.end = ap (λ (z : Node Expr). z.end) e in
    record { next_is = s.next_is ∙ sym h; size_is = s.size_is ∙ f ∙ ap (λ (z : Node Expr). measure_expr names k z.value) (sym e); most = omega (arith, s.most, h) }

module _ (r : Measure) (names : List Name) (k : SoFar) (d : ℕ) (t : List ℕ) (p : ℕ) (reads : ExprReads d t p) where
  abbrev Whole : Type 0
  Whole = Sized r p (expr_at d t p).end 0 (measure_expr names k (expr_at d t p).value)

  -- a literal
  pub literal-sized : r.size ≡ 1 → r.next ≡ (expr_at d t p).end → p < r.next → get_or t p 0 < 6 → Whole
  unfolding measure_expr
  literal-sized a b c h =
      let l = seen-literal d t p reads h in
      record { next_is = b; size_is = a ∙ ap (measure_expr names k) (sym l.1); most = omega arith }

  pub var-sized : get_or t p 0 ≡ 6 → r.size ≡ 1 → r.next ≡ name_end t (p + 1) → Whole
  unfolding measure_expr var_at name_end
  var-sized e a b = kind-sized r names k d t p _ (p + 1) 256 1 (view-var d t p reads e).is (record { next_is = b; size_is = a; most = omega arith }) refl (omega arith)

  pub unary-sized : get_or t p 0 ≡ 7 → Sized r (p + 1 + 1) (expr_at (d - 1) t (p + 1 + 1)).end 1 (measure_expr names k (expr_at (d - 1) t (p + 1 + 1)).value + 1) → Whole
  unfolding unary_at
  unary-sized e s = let v = view-unary d t p reads e in kind-sized r names k d t p _ (p + 1 + 1) 1 _ v.is s (sym (unary-adds names k _ _ v.parts.operator)) (omega arith)

  pub binary-sized : (more : ℕ) → more ≡ binary_more (get_or t (p + 1) 0) → more ≤ 3 → get_or t p 0 ≡ 8
      → Sized r (p + 1 + 1) (second_at (d - 1) t (p + 1 + 1)).end more (measure_expr names k (expr_at (d - 1) t (p + 1 + 1)).value + (measure_expr names k (second_at (d - 1) t (p + 1 + 1)).value + more)) → Whole
  unfolding binary_at
  binary-sized more m few e s =
      let v = view-binary d t p reads e in
      kind-sized r names k d t p _ (p + 1 + 1) more _ v.is s
      (ap (λ (n : ℕ). measure_expr names k (expr_at (d - 1) t (p + 1 + 1)).value + (measure_expr names k (second_at (d - 1) t (p + 1 + 1)).value + n)) m ∙ sym (binary-adds names k _ _ _ v.parts.operator)) (omega arith)

  pub call-sized : get_or t p 0 ≡ 9 → Sized r (p + 1) (list_at (d - 1) t (expr_at (d - 1) t (p + 1)).end).end 1
      (measure_expr names k (expr_at (d - 1) t (p + 1)).value + call_more k (view (expr_at (d - 1) t (p + 1)).value) + measure_exprs names k (list_at (d - 1) t (expr_at (d - 1) t (p + 1)).end).value) → Whole
  unfolding call_at
  call-sized e s = kind-sized r names k d t p _ (p + 1) 1 _ (view-call d t p reads e).is s (sym (call-adds names k _ _)) (omega arith)

  pub attribute-sized : get_or t p 0 ≡ 10 → Sized r (p + 1) (name_end t (expr_at (d - 1) t (p + 1)).end) 1 (measure_expr names k (expr_at (d - 1) t (p + 1)).value + 1) → Whole
  unfolding attribute_at measure_expr
  attribute-sized e s = kind-sized r names k d t p _ (p + 1) 1 _ (view-attribute d t p reads e).is s refl (omega arith)

  pub display-sized : (get_or t p 0 ≡ 11) ⊎ ((get_or t p 0 ≡ 13) ⊎ ((get_or t p 0 ≡ 14) ⊎ (get_or t p 0 ≡ 15))) → Sized r (p + 1) (list_at (d - 1) t (p + 1)).end 1 (1 + measure_exprs names k (list_at (d - 1) t (p + 1)).value) → Whole
  unfolding display_at measure_expr
  display-sized e s = kind-sized r names k d t p _ (p + 1) 1 _ (seen-display d t p reads e).1.is s (omega arith) (omega arith)

  pub dict-sized : get_or t p 0 ≡ 12 → Sized r (p + 1) (pairs_at (d - 1) t (p + 1)).end 1 (1 + measure_exprs names k (pairs_at (d - 1) t (p + 1)).value) → Whole
  unfolding dict_at measure_expr
  dict-sized e s = kind-sized r names k d t p _ (p + 1) 1 _ (view-dict d t p reads e).is s (omega arith) (omega arith)

  pub index-sized : get_or t p 0 ≡ 16 → Sized r (p + 1) (second_at (d - 1) t (p + 1)).end 1 (measure_expr names k (expr_at (d - 1) t (p + 1)).value + (measure_expr names k (second_at (d - 1) t (p + 1)).value + 1)) → Whole
  unfolding index_at measure_expr
  index-sized e s = kind-sized r names k d t p _ (p + 1) 1 _ (view-index d t p reads e).is s refl (omega arith)

  pub lambda-sized : get_or t p 0 ≡ 17 → Sized r (p + 1) (expr_at (d - 1) t (params_at t (p + 1)).end).end 256 (length (captures names (params_at t (p + 1)).value (expr_at (d - 1) t (params_at t (p + 1)).end).value) + 1) → Whole
  unfolding lambda_at measure_expr
  lambda-sized e s = kind-sized r names k d t p _ (p + 1) 256 _ (view-lambda d t p reads e).is s refl (omega arith)

-- an expression, and one instruction more, up to a later end
pub one-more : (a r : Measure) (p e f m : ℕ) → Sized a p e 0 m → r.size ≡ a.size + 1 → r.next ≡ f → e ≤ f → Sized r p f 1 (m + 1)
one-more a r p e f m s b c h = record { next_is = c; size_is = b ∙ ap (λ (n : ℕ). n + 1) s.size_is; most = omega (arith, s.most) }

-- an expression, and so many instructions more
pub more-sized : (a r : Measure) (p e more m : ℕ) → Sized a p e 0 m → r.size ≡ a.size + more → r.next ≡ a.next → Sized r p e more (m + more)
more-sized a r p e more m s b c = record { next_is = c ∙ s.next_is; size_is = b ∙ ap (λ (n : ℕ). n + more) s.size_is; most = omega (arith, s.most, b) }

-- one expression after another, and so many more
pub two_sized : (a b r : Measure) (p e f more m n : ℕ) → Sized a p e 0 m → Sized b a.next f 0 n → r.size ≡ a.size + (b.size + more) → r.next ≡ b.next → Sized r p f more (m + (n + more))
two_sized a b r p e f more m n s u g h =
    record { next_is = h ∙ u.next_is; size_is = g ∙ ap (λ (x : ℕ). x + (b.size + more)) s.size_is ∙ ap (λ (x : ℕ). m + (x + more)) u.size_is; most = omega (arith, s.most, s.next_is, u.most) }

-- ---- one at a time

pub record ExprsLeft (d : ℕ) (t : List ℕ) (names : List Name) (k : SoFar) (n₀ p₀ more n p size : ℕ) : Type 0 where
  pub reads : ExprsRead d n t p
  pub end : (exprs_at d n₀ t p₀).end ≡ (exprs_at d n t p).end
  pub sum : more + measure_exprs names k (exprs_at d n₀ t p₀).value ≡ size + measure_exprs names k (exprs_at d n t p).value
  pub most : size + 256 * p₀ ≤ more + 256 * p

pub exprs-start : (d : ℕ) (t : List ℕ) (names : List Name) (k : SoFar) (n p more m : ℕ) → n ≡ m → ExprsRead d n t p → ExprsLeft d t names k n p more m p more
exprs-start d t names k n p more m e r = subst (λ (i : ℕ). ExprsLeft d t names k n p more i p more) e (record { reads = r; end = refl; sum = refl; most = omega arith })

module _ (d : ℕ) (t : List ℕ) (names : List Name) (k : SoFar) (n₀ p₀ more n p size : ℕ) (l : ExprsLeft d t names k n₀ p₀ more n p size) where
  module _ (h : 0 < n) where
    pub exprs-head : ExprReads d t p
    exprs-head = (view-exprs-more d n t p h l.reads).parts.head

    pub exprs-next : (o : Measure) (m i : ℕ) → Sized o p (expr_at d t p).end 0 (measure_expr names k (expr_at d t p).value) → m ≡ size + o.size → n - 1 ≡ i → ExprsLeft d t names k n₀ p₀ more i o.next m
    unfolding cons_exprs_at measure_exprs
    exprs-next o m i s e c =
        let v = view-exprs-more d n t p h l.reads in
        let q : measure_exprs names k (exprs_at d n t p).value ≡ measure_expr names k (expr_at d t p).value + measure_exprs names k (exprs_at d (n - 1) t (expr_at d t p).end).value =
        ap (λ (z : Node Exprs). measure_exprs names k z.value) v.is in
        let w : measure_exprs names k (exprs_at d (n - 1) t (expr_at d t p).end).value ≡ measure_exprs names k (exprs_at d (n - 1) t o.next).value =
        ap (λ (z : ℕ). measure_exprs names k (exprs_at d (n - 1) t z).value) (sym s.next_is) in
        let u : ExprsLeft d t names k n₀ p₀ more (n - 1) o.next m = record {
          reads = subst (λ (z : ℕ). ExprsRead d (n - 1) t z) (sym s.next_is) v.parts.rest;
          end = l.end ∙ ap (λ (z : Node Exprs). z.end) v.is ∙ ap (λ (z : ℕ). (exprs_at d (n - 1) t z).end) (sym s.next_is);
          sum = omega (arith, l.sum, q, w, s.size_is);
          most = omega (arith, l.most, s.most, s.next_is);
        } in
        subst (λ (z : ℕ). ExprsLeft d t names k n₀ p₀ more z o.next m) c u

  pub exprs-done : (o : Measure) → o.next ≡ p → o.size ≡ size → n ≤ 0 → Sized o p₀ (exprs_at d n₀ t p₀).end more (more + measure_exprs names k (exprs_at d n₀ t p₀).value)
  unfolding measure_exprs
  exprs-done o a b h =
      let e = view-exprs-none d n t p h l.reads.start in
      let q : measure_exprs names k (exprs_at d n t p).value ≡ 0 = ap (λ (z : Node Exprs). measure_exprs names k z.value) e in
      let f : (exprs_at d n₀ t p₀).end ≡ p = l.end ∙ ap (λ (z : Node Exprs). z.end) e in
      record { next_is = a ∙ sym f; size_is = omega (arith, b, l.sum, q); most = omega (arith, b, f, l.most) }

-- ---- positions only rise

pub expr-ahead : (d : ℕ) (t : List ℕ) (p : ℕ) → ExprReads d t p → p ≤ (expr_at d t p).end
expr-ahead d t p r = node-after (lit none_l) (parse_expr d) t p (steady-E d) r

pub string-ahead : (d : ℕ) (t : List ℕ) (p : ℕ) → ExprReads d t p → get_or t p 0 ≡ 5 → p < (expr_at d t p).end
unfolding string_at text_node_at
string-ahead d t p r e = let h : (expr_at d t p).end ≡ p + 1 + 2 + count_at t (p + 1) = ap (λ (z : Node Expr). z.end) (view-string d t p r e).is in omega arith

-- a literal has at least one byte
pub literal-ahead : (d : ℕ) (t : List ℕ) (p : ℕ) → ExprReads d t p → get_or t p 0 < 6 → p < (expr_at d t p).end
literal-ahead d t p r h = ⊎_elim
    (λ (l : 5 ≤ get_or t p 0). string-ahead d t p r (omega arith))
    (λ (l : get_or t p 0 < 5). ⊎_elim
    (λ (m : 3 ≤ get_or t p 0). let e = number-done d t p r (p + 1 + 8) (number m l) refl in omega arith)
    (λ (m : get_or t p 0 < 3). let e = plain_done d t p r m in omega arith)
    (le-or-gt 3 (get_or t p 0)))
    (le-or-gt 5 (get_or t p 0))
  where
    number : 3 ≤ get_or t p 0 → get_or t p 0 < 5 → (get_or t p 0 ≡ 3) ⊎ (get_or t p 0 ≡ 4)
    number m l = ⊎_elim (λ (g : 4 ≤ get_or t p 0). inr (omega arith)) (λ (g : get_or t p 0 < 4). inl (omega arith)) (le-or-gt 4 (get_or t p 0))

-- ---- the ways out

pub more-few : (k : SoFar) (v : View) → call_more k v ≤ 1
unfolding call_more
more-few k (as_var x) = go (direct k x)
  where
    go : (b : Bool) → (elim b as (λ z. ℕ) [ true ↦ 0 | false ↦ 1 ]) ≤ 1
    go true = omega arith
    go false = omega arith
more-few k (as_attr o x) = omega arith
more-few k (as_index o i) = omega arith
more-few k (as_tuple es) = omega arith
more-few k as_other = omega arith

-- an expression that begins where another ends
pub moved-expr : (d : ℕ) (t : List ℕ) (p q : ℕ) → q ≡ p → ExprReads d t p → ExprReads d t q
moved-expr d t p q e r = subst (λ (m : ℕ). ExprReads d t m) (sym e) r

-- how many instructions an expression of a short tree may have
pub few : (r : Measure) (d : ℕ) (t : List ℕ) (p n : ℕ) → length t ≤ 32768 → ExprReads d t p → Sized r p (expr_at d t p).end 0 n → r.size ≤ 8388608
few r d t p n h reads s = omega (arith, s.most, expr-within d t p reads)

pub call-done : (d : ℕ) (t : List ℕ) (p : ℕ) (names : List Name) (k : SoFar) (a r : Measure) (c : ℕ) → Sized a p (expr_at d t p).end 0 (measure_expr names k (expr_at d t p).value) → c ≡ call_more k (view (expr_at d t p).value)
    → Sized r a.next (list_at d t a.next).end (a.size + c) (a.size + c + measure_exprs names k (list_at d t a.next).value)
    → Sized r p (list_at d t (expr_at d t p).end).end 1 (measure_expr names k (expr_at d t p).value + call_more k (view (expr_at d t p).value) + measure_exprs names k (list_at d t (expr_at d t p).end).value)
call-done d t p names k a r c s e u =
    let f : (list_at d t a.next).end ≡ (list_at d t (expr_at d t p).end).end = ap (λ (m : ℕ). (list_at d t m).end) s.next_is in
    let g : measure_exprs names k (list_at d t a.next).value ≡ measure_exprs names k (list_at d t (expr_at d t p).end).value = ap (λ (m : ℕ). measure_exprs names k (list_at d t m).value) s.next_is in
    record { next_is = u.next_is ∙ f; size_is = omega (arith, u.size_is, s.size_is, e, g); most = omega (arith, u.most, s.most, s.next_is, f, e, more-few k (view (expr_at d t p).value)) }

pub list-sized : (names : List Name) (k : SoFar) (r : Measure) (p more : ℕ) (x y : Node Exprs) → x ≡ y → Sized r (p + 2) x.end more (more + measure_exprs names k x.value) → Sized r p y.end more (more + measure_exprs names k y.value)
list-sized names k r p more x y e s =
    let f : x.end ≡ y.end = ap (λ (z : Node Exprs). z.end) e in
    record { next_is = s.next_is ∙ f; size_is = s.size_is ∙ ap (λ (z : Node Exprs). more + measure_exprs names k z.value) e; most = omega (arith, s.most, f) }

pub two-done : (d : ℕ) (t : List ℕ) (p : ℕ) (names : List Name) (k : SoFar) (a b r : Measure) (more : ℕ) → Sized a p (expr_at d t p).end 0 (measure_expr names k (expr_at d t p).value)
    → Sized b a.next (expr_at d t a.next).end 0 (measure_expr names k (expr_at d t a.next).value)
    → r.size ≡ a.size + (b.size + more) → r.next ≡ b.next → Sized r p (second_at d t p).end more (measure_expr names k (expr_at d t p).value + (measure_expr names k (second_at d t p).value + more))
two-done d t p names k a b r more s u g h =
    two_sized a b r p (expr_at d t p).end (second_at d t p).end more (measure_expr names k (expr_at d t p).value) (measure_expr names k (second_at d t p).value) s
    (subst (λ (q : ℕ). Sized b a.next (expr_at d t q).end 0 (measure_expr names k (expr_at d t q).value)) s.next_is u) g h

pub lambda-done : (d : ℕ) (t : List ℕ) (p q : ℕ) (r : Measure) (n : ℕ) (slots ps : List ℕ) → q ≡ (params_at t p).end → LambdaAt d t p → Slots t slots → slots_from + 255 < length ps
    → CapturesAt n t slots ps (captures (slot_names t slots) (params_at t p).value (expr_at d t q).value) → r.size ≡ n + 1 → r.next ≡ (expr_at d t q).end
    → Sized r p (expr_at d t (params_at t p).end).end 256 (length (captures (slot_names t slots) (params_at t p).value (expr_at d t (params_at t p).end).value) + 1)
lambda-done d t p q r n slots ps e l s room c g h =
    let names = slot_names t slots in
    let f : (expr_at d t q).end ≡ (expr_at d t (params_at t p).end).end = ap (λ (m : ℕ). (expr_at d t m).end) e in
    let few : n ≤ 255 = omega (arith, c.few, s.few) in
    let count : length (captures names (params_at t p).value (expr_at d t q).value) ≡ n = ap length (sym c.names) ∙ first-length t n ps (omega arith) in
    let same : length (captures names (params_at t p).value (expr_at d t q).value) ≡ length (captures names (params_at t p).value (expr_at d t (params_at t p).end).value) =
    ap (λ (m : ℕ). length (captures names (params_at t p).value (expr_at d t m).value)) e in
    record { next_is = h ∙ f; size_is = omega (arith, g, count, same); most = omega (arith, g, few, params-after t p, expr-ahead d t (params_at t p).end l.body) }

pub more-most : (k : SoFar) (v : View) (c : ℕ) → c ≡ call_more k v → c ≤ 1
more-most k v c e = omega (arith, e, more-few k v)

-- ---- calls by name

module _ (k : SoFar) (d : ℕ) (t : List ℕ) (p : ℕ) (reads : ExprReads d t p) where
  pub more-method : get_or t p 0 ≡ 10 → 0 ≡ call_more k (view (expr_at d t p).value)
  more-method e = more-attribute k _ _ _ (form-attribute d t p reads e)

  pub more-name : (r : ℕ) (b : Bool) → get_or t p 0 ≡ 6 → b ≡ direct k (name_at t (p + 1)) → r ≡ (elim b as (λ z. ℕ) [ true ↦ 0 | false ↦ 1 ]) → r ≡ call_more k (view (expr_at d t p).value)
  unfolding call_more
  more-name r b e f g = g ∙ ap (λ (c : Bool). elim c as (λ z. ℕ) [ true ↦ 0 | false ↦ 1 ]) (f ∙ ap (direct k) (name-bytes t (p + 1))) ∙ ap (call_more k) (sym (form-var d t p reads e))

  pub more-other : (get_or t p 0 ≡ 6 → ⊥) → (get_or t p 0 ≡ 10 → ⊥) → 1 ≡ call_more k (view (expr_at d t p).value)
  unfolding call_more
  more-other f g = by (eqb (get_or t p 0) 13) (eqb (get_or t p 0) 16) refl refl
    where
      by : (b c : Bool) → eqb (get_or t p 0) 13 ≡ b → eqb (get_or t p 0) 16 ≡ c → 1 ≡ call_more k (view (expr_at d t p).value)
      by true c h i = ap (call_more k) (sym (form-tuple d t p reads (eqb-true _ _ h)))
      by false true h i = ap (call_more k) (sym (form-index d t p reads (eqb-true _ _ i)))
      by false false h i = ap (call_more k) (sym (other-form d t p reads f g (eqb-false _ _ h) (eqb-false _ _ i)))
