-- Where statements, blocks, branches, methods and attributes end, one way out at a time. Assumes nothing.
use Prim.Native.Nat.{ℕ, zero, suc, ◌+◌, ◌-◌, ◌<◌, ◌≤◌}
use mathlib.Core.Path.{◌≡◌, refl, sym, ap, ◌∙◌, subst}
use mathlib.Core.List.{List}
use mathlib.Core.Logic.{◌⊎◌, ⊎_elim}
use native.Mathlib.Omega.{arith}
use lib.ListN.{length, get_or}
use Rattle.definitions.specs.Tree.{Stmt, Block, Branches, Methods, Attribute}
use Rattle.tree_view.specs.Places.{Node, count_at, name_end, There}
use Rattle.tree_view.specs.ExprAt.{expr_at, ExprReads, second_at}
use Rattle.tree_view.specs.StmtAt.{stmt_at, block_at, stmts_at, branches_at, methods_at, attributes_at, values_at, StmtReads, BlockReads, StmtsRead, BranchesRead, MethodsRead, AttributesRead, ValuesRead}
use Rattle.tree_view.specs.StmtAt.{expr_stmt_at, return_at, assign_at, BranchAt, body_at, IfAt, elifs_at, if_at, while_at, for_at, when_at}
use Rattle.tree_view.specs.StmtAt.{else_at, DefAt, def_block_at, def_at, method_at, ClassAt, class_methods_at, class_at, value_at, cons_at}
use Rattle.tree_view.proofs.StmtViews.{view-break, view-continue, view-pass, view-expr, view-return, view-assign, view-if, view-while, view-for, view-def, view-class}
use Rattle.tree_view.proofs.StmtViews.{view-block, view-stmts-none, view-stmts-more, view-branches-more, else-known, view-done, view-else, view-methods-none, view-methods-more, view-attributes, view-values-none, view-values-more}
use Rattle.slots.specs.Steps.{Leads}
use Rattle.slots.proofs.Walks.{along}

-- ---- the kinds of statement

module _ (d : ℕ) (t : List ℕ) (p : ℕ) (r : StmtReads d t p) where
  simple-kind : (k : ℕ) → get_or t p 0 ≡ k → k < 3 → p + 1 ≡ (stmt_at d t p).end
  simple-kind zero e h = sym (ap (λ (z : Node Stmt). z.end) (view-break d t p r e))
  simple-kind (suc zero) e h = sym (ap (λ (z : Node Stmt). z.end) (view-continue d t p r e))
  simple-kind (suc (suc zero)) e h = sym (ap (λ (z : Node Stmt). z.end) (view-pass d t p r e))
  simple-kind (suc (suc (suc k))) e h = absurd (omega arith)

  -- Break, Continue and Pass
  pub short-done : get_or t p 0 < 3 → p + 1 ≡ (stmt_at d t p).end
  short-done h = simple-kind (get_or t p 0) refl h

  module _ (o : ℕ) where
    made_of : (y : Node Stmt) → stmt_at d t p ≡ y → o ≡ y.end → o ≡ (stmt_at d t p).end
    made_of y e g = g ∙ sym (ap (λ (z : Node Stmt). z.end) e)

    expr-done : get_or t p 0 ≡ 3 → o ≡ (expr_at (d - 1) t (p + 1)).end → o ≡ (stmt_at d t p).end
    unfolding expr_stmt_at
    expr-done e g = made_of _ (view-expr d t p r e).is g

    return-done : get_or t p 0 ≡ 4 → o ≡ (expr_at (d - 1) t (p + 1)).end → o ≡ (stmt_at d t p).end
    unfolding return_at
    return-done e g = made_of _ (view-return d t p r e).is g

    pub value-done : (get_or t p 0 ≡ 3) ⊎ (get_or t p 0 ≡ 4) → o ≡ (expr_at (d - 1) t (p + 1)).end → o ≡ (stmt_at d t p).end
    value-done e g = ⊎_elim (λ (h : get_or t p 0 ≡ 3). expr-done h g) (λ (h : get_or t p 0 ≡ 4). return-done h g) e

    pub assign-done : get_or t p 0 ≡ 5 → o ≡ (second_at (d - 1) t (p + 1)).end → o ≡ (stmt_at d t p).end
    unfolding assign_at
    assign-done e g = made_of _ (view-assign d t p r e).is g

    pub if-done : get_or t p 0 ≡ 6 → o ≡ (elifs_at (d - 1) t (p + 1)).end → o ≡ (stmt_at d t p).end
    unfolding if_at
    if-done e g = made_of _ (view-if d t p r e).is g

    pub while-done : get_or t p 0 ≡ 7 → o ≡ (body_at (d - 1) t (p + 1)).end → o ≡ (stmt_at d t p).end
    unfolding while_at
    while-done e g = made_of _ (view-while d t p r e).is g

    pub for-done : get_or t p 0 ≡ 8 → o ≡ (body_at (d - 1) t (name_end t (p + 1))).end → o ≡ (stmt_at d t p).end
    unfolding for_at
    for-done e g = made_of _ (view-for d t p r e).is g

    pub def-done : get_or t p 0 ≡ 9 → o ≡ (def_block_at (d - 1) t (p + 1)).end → o ≡ (stmt_at d t p).end
    unfolding def_at
    def-done e g = made_of _ (view-def d t p r e).is g

    pub class-done : get_or t p 0 ≡ 10 → o ≡ (attributes_at (d - 1) t (class_methods_at (d - 1) t (p + 1)).end).end → o ≡ (stmt_at d t p).end
    unfolding class_at
    class-done e g = made_of _ (view-class d t p r e).is g

  pub value-reads : (get_or t p 0 ≡ 3) ⊎ (get_or t p 0 ≡ 4) → ExprReads (d - 1) t (p + 1)
  value-reads = ⊎_elim (λ (e : get_or t p 0 ≡ 3). (view-expr d t p r e).parts) (λ (e : get_or t p 0 ≡ 4). (view-return d t p r e).parts)

-- ---- blocks, one statement at a time

record StmtsLeft (d : ℕ) (t : List ℕ) (n₀ p₀ n p : ℕ) : Type 0 where
  reads : StmtsRead d n t p
  end : (stmts_at d n₀ t p₀).end ≡ (stmts_at d n t p).end

stmts-next : (d : ℕ) (t : List ℕ) (n₀ p₀ n p e : ℕ) → 0 < n → StmtsLeft d t n₀ p₀ n p → e ≡ (stmt_at d t p).end → StmtsLeft d t n₀ p₀ (n - 1) e
unfolding cons_at
stmts-next d t n₀ p₀ n p e h l k = let v = view-stmts-more d n t p h l.reads in record {
  reads = subst (λ (m : ℕ). StmtsRead d (n - 1) t m) (sym k) v.parts.rest;
  end = l.end ∙ ap (λ (z : Node Block). z.end) v.is ∙ ap (λ (m : ℕ). (stmts_at d (n - 1) t m).end) (sym k);
}

module _ (d : ℕ) (t : List ℕ) (a n : ℕ) (r : BlockReads d t a) (e : n ≡ count_at t a) {step : ℕ → ℕ → Type 0} (f : (q o : ℕ) → step q o → o ≡ (stmt_at d t q).end) where
  stmts-left : (m q : ℕ) → m ≤ n → Leads step m (a + 2) q → StmtsLeft d t n (a + 2) (n - m) q
  stmts-left = along (StmtsLeft d t n (a + 2)) n (a + 2)
      (record { reads = subst (λ (m : ℕ). StmtsRead d m t (a + 2)) (sym e) (view-block d t a r).parts.statements; end = refl })
      (λ m q o i l s. stmts-next d t n (a + 2) m q o i l (f q o s))

  pub stmts-head : (m q : ℕ) → m < n → Leads step m (a + 2) q → StmtReads d t q
  stmts-head m q i w = (view-stmts-more d (n - m) t q (omega arith) (stmts-left m q (omega arith) w).reads).parts.head

  pub stmts-done : (q : ℕ) → Leads step n (a + 2) q → q ≡ (block_at d t a).end
  stmts-done q w = let l = stmts-left n q (omega arith) w in
      sym (l.end ∙ ap (λ (z : Node Block). z.end) (view-stmts-none d (n - n) t q (omega arith) l.reads.start))
      ∙ ap (λ (m : ℕ). (stmts_at d m t (a + 2)).end) e
      ∙ sym (ap (λ (z : Node Block). z.end) (view-block d t a r).is)

-- ---- branches, one at a time

record BranchesLeft (d : ℕ) (t : List ℕ) (n₀ p₀ n p : ℕ) : Type 0 where
  reads : BranchesRead d n t p
  end : (branches_at d n₀ t p₀).end ≡ (branches_at d n t p).end

branches-next : (d : ℕ) (t : List ℕ) (n₀ p₀ n p e : ℕ) → 0 < n → BranchesLeft d t n₀ p₀ n p → e ≡ (body_at d t p).end → BranchesLeft d t n₀ p₀ (n - 1) e
unfolding when_at
branches-next d t n₀ p₀ n p e h l k = let v = view-branches-more d t p n h l.reads in record {
  reads = subst (λ (m : ℕ). BranchesRead d (n - 1) t m) (sym k) v.parts.rest;
  end = l.end ∙ ap (λ (z : Node Branches). z.end) v.is ∙ ap (λ (m : ℕ). (branches_at d (n - 1) t m).end) (sym k);
}

module _ (d : ℕ) (t : List ℕ) (n p : ℕ) (r : BranchesRead d n t p) {step : ℕ → ℕ → Type 0} (f : (q o : ℕ) → step q o → o ≡ (body_at d t q).end) where
  branches-left : (m q : ℕ) → m ≤ n → Leads step m p q → BranchesLeft d t n p (n - m) q
  branches-left = along (BranchesLeft d t n p) n p (record { reads = r; end = refl }) (λ m q o i l s. branches-next d t n p m q o i l (f q o s))

  pub branches-head : (m q : ℕ) → m < n → Leads step m p q → BranchAt d t q
  branches-head m q i w = (view-branches-more d t q (n - m) (omega arith) (branches-left m q (omega arith) w).reads).parts.first

  none-left : n - n ≡ 0
  none-left = omega arith

  pub branches-last : (q : ℕ) → Leads step n p q → BranchesRead d 0 t q
  branches-last q w = subst (λ (m : ℕ). BranchesRead d m t q) none-left (branches-left n q (omega arith) w).reads

  pub branches-done : (q o : ℕ) → Leads step n p q → o ≡ (branches_at d 0 t q).end → o ≡ (branches_at d n t p).end
  branches-done q o w g = g ∙ sym ((branches-left n q (omega arith) w).end ∙ ap (λ (m : ℕ). (branches_at d m t q).end) none-left)

module _ (d : ℕ) (t : List ℕ) (p : ℕ) (r : BranchesRead d 0 t p) where
  pub else-none : get_or t p 0 ≡ 0 → p + 1 ≡ (branches_at d 0 t p).end
  else-none e = sym (ap (λ (z : Node Branches). z.end) (view-done d t p 0 (omega arith) r e))

  module _ (h : get_or t p 0 ≡ 0 → ⊥) where
    is_one : get_or t p 0 ≡ 1
    is_one = let k = else-known d t p 0 (omega arith) r in omega arith

    pub else-reads : BlockReads d t (p + 1)
    else-reads = (view-else d t p 0 (omega arith) r is_one).parts

    pub else-done : (o : ℕ) → o ≡ (block_at d t (p + 1)).end → o ≡ (branches_at d 0 t p).end
    unfolding else_at
    else-done o g = g ∙ sym (ap (λ (z : Node Branches). z.end) (view-else d t p 0 (omega arith) r is_one).is)

-- the elifs of an If whose first branch ends at p
module _ (d : ℕ) (t : List ℕ) (a p : ℕ) (e : p ≡ (body_at d t a).end) (i : IfAt d t a) where
  pub elifs-counted : p + 2 ≤ length t
  elifs-counted = let h = i.count.bytes in omega arith

  module _ (n : ℕ) (f : n ≡ count_at t p) where
    same_count : n ≡ count_at t (body_at d t a).end
    same_count = f ∙ ap (count_at t) e

    pub elifs-read : BranchesRead d n t (p + 2)
    elifs-read = subst (λ (m : ℕ). BranchesRead d m t (p + 2)) (sym same_count) (subst (λ (m : ℕ). BranchesRead d (count_at t (body_at d t a).end) t (m + 2)) (sym e) i.rest)

    pub elifs-done : (o : ℕ) → o ≡ (branches_at d n t (p + 2)).end → o ≡ (elifs_at d t a).end
    elifs-done o g = g ∙ ap (λ (m : ℕ). (branches_at d m t (p + 2)).end) same_count ∙ ap (λ (m : ℕ). (branches_at d (count_at t (body_at d t a).end) t (m + 2)).end) e

-- ---- methods, one at a time

record MethodsLeft (d : ℕ) (t : List ℕ) (n₀ p₀ n p : ℕ) : Type 0 where
  reads : MethodsRead d n t p
  end : (methods_at d n₀ t p₀).end ≡ (methods_at d n t p).end

methods-next : (d : ℕ) (t : List ℕ) (n₀ p₀ n p e : ℕ) → 0 < n → MethodsLeft d t n₀ p₀ n p → e ≡ (def_block_at d t p).end → MethodsLeft d t n₀ p₀ (n - 1) e
unfolding method_at
methods-next d t n₀ p₀ n p e h l k = let v = view-methods-more d t p n h l.reads in record {
  reads = subst (λ (m : ℕ). MethodsRead d (n - 1) t m) (sym k) v.parts.rest;
  end = l.end ∙ ap (λ (z : Node Methods). z.end) v.is ∙ ap (λ (m : ℕ). (methods_at d (n - 1) t m).end) (sym k);
}

module _ (d : ℕ) (t : List ℕ) (n p : ℕ) (r : MethodsRead d n t p) {step : ℕ → ℕ → Type 0} (f : (q o : ℕ) → step q o → o ≡ (def_block_at d t q).end) where
  methods-left : (m q : ℕ) → m ≤ n → Leads step m p q → MethodsLeft d t n p (n - m) q
  methods-left = along (MethodsLeft d t n p) n p (record { reads = r; end = refl }) (λ m q o i l s. methods-next d t n p m q o i l (f q o s))

  pub methods-head : (m q : ℕ) → m < n → Leads step m p q → DefAt d t q
  methods-head m q i w = (view-methods-more d t q (n - m) (omega arith) (methods-left m q (omega arith) w).reads).parts.first

  pub methods-done : (q : ℕ) → Leads step n p q → q ≡ (methods_at d n t p).end
  methods-done q w = let l = methods-left n q (omega arith) w in sym (l.end ∙ ap (λ (z : Node Methods). z.end) (view-methods-none d t q (n - n) (omega arith) l.reads.start))

-- ---- attributes, one at a time: a name, and a value where it ends

record ValuesLeft (d : ℕ) (t : List ℕ) (n₀ p₀ n p : ℕ) : Type 0 where
  reads : ValuesRead d n t p
  end : (values_at d n₀ t p₀).end ≡ (values_at d n t p).end

values-next : (d : ℕ) (t : List ℕ) (n₀ p₀ n p e : ℕ) → 0 < n → ValuesLeft d t n₀ p₀ n p → e ≡ (expr_at d t (name_end t p)).end → ValuesLeft d t n₀ p₀ (n - 1) e
unfolding value_at
values-next d t n₀ p₀ n p e h l k = let v = view-values-more d t p n h l.reads in record {
  reads = subst (λ (m : ℕ). ValuesRead d (n - 1) t m) (sym k) v.parts.rest;
  end = l.end ∙ ap (λ (z : Node (List Attribute)). z.end) v.is ∙ ap (λ (m : ℕ). (values_at d (n - 1) t m).end) (sym k);
}

module _ (d : ℕ) (t : List ℕ) (a n : ℕ) (r : AttributesRead d t a) (e : n ≡ count_at t a) {step : ℕ → ℕ → Type 0} (f : (q o : ℕ) → step q o → o ≡ (expr_at d t (name_end t q)).end) where
  values-left : (m q : ℕ) → m ≤ n → Leads step m (a + 2) q → ValuesLeft d t n (a + 2) (n - m) q
  values-left = along (ValuesLeft d t n (a + 2)) n (a + 2)
      (record { reads = subst (λ (m : ℕ). ValuesRead d m t (a + 2)) (sym e) (view-attributes d t a r).parts.values; end = refl })
      (λ m q o i l s. values-next d t n (a + 2) m q o i l (f q o s))

  module _ (m q : ℕ) (i : m < n) (w : Leads step m (a + 2) q) where
    pub values-name : There t q
    values-name = (view-values-more d t q (n - m) (omega arith) (values-left m q (omega arith) w).reads).parts.name

    pub values-value : ExprReads d t (name_end t q)
    values-value = (view-values-more d t q (n - m) (omega arith) (values-left m q (omega arith) w).reads).parts.value

  pub values-done : (q : ℕ) → Leads step n (a + 2) q → q ≡ (attributes_at d t a).end
  values-done q w = let l = values-left n q (omega arith) w in
      sym (l.end ∙ ap (λ (z : Node (List Attribute)). z.end) (view-values-none d t q (n - n) (omega arith) l.reads.start))
      ∙ ap (λ (m : ℕ). (values_at d m t (a + 2)).end) e
      ∙ sym (ap (λ (z : Node (List Attribute)). z.end) (view-attributes d t a r).is)

-- ---- a class, whose name ends at p and whose n methods at q

module _ (d : ℕ) (t : List ℕ) (a p : ℕ) (e : p ≡ name_end t a) (i : ClassAt d t a) where
  module _ (n : ℕ) (f : n ≡ count_at t p) where
    method-count : n ≡ count_at t (name_end t a)
    method-count = f ∙ ap (count_at t) e

    pub methods-read : MethodsRead d n t (p + 2)
    methods-read = subst (λ (m : ℕ). MethodsRead d m t (p + 2)) (sym method-count) (subst (λ (m : ℕ). MethodsRead d (count_at t (name_end t a)) t (m + 2)) (sym e) i.methods)

    module _ (q : ℕ) (g : q ≡ (methods_at d n t (p + 2)).end) where
      methods-end : q ≡ (class_methods_at d t a).end
      methods-end = g ∙ ap (λ (m : ℕ). (methods_at d m t (p + 2)).end) method-count ∙ ap (λ (m : ℕ). (methods_at d (count_at t (name_end t a)) t (m + 2)).end) e

      pub attributes-there : AttributesRead d t q
      attributes-there = subst (λ (m : ℕ). AttributesRead d t m) (sym methods-end) i.attributes

      pub attributes-done : (o : ℕ) → o ≡ (attributes_at d t q).end → o ≡ (attributes_at d t (class_methods_at d t a).end).end
      attributes-done o k = k ∙ ap (λ (m : ℕ). (attributes_at d t m).end) methods-end
