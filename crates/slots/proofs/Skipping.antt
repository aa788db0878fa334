-- Where texts, parameters and expressions end, one way out at a time. Assumes nothing.
use Prim.Native.Nat.{ℕ, zero, suc, ◌+◌, ◌-◌, ◌<◌, ◌≤◌}
use mathlib.Core.Path.{◌≡◌, refl, sym, ap, ◌∙◌, subst}
use mathlib.Core.List.{List}
use mathlib.Core.Logic.{◌⊎◌, ⊎_elim}
use native.Mathlib.Omega.{arith}
use native.Mathlib.Numerals.{sub-one}
use lib.ListN.{get_or}
use Rattle.definitions.specs.Tree.{Expr, Exprs}
use Rattle.tree_view.specs.Places.{Node, count_at, name_end, There, names_end, AllThere, ParamsAt, params_at, text_node_at}
use Rattle.tree_view.specs.ExprAt.{expr_at, exprs_at, ExprReads, ExprsRead, int_at, float_at, string_at, var_at, unary_at, second_at, binary_at}
use Rattle.tree_view.specs.ExprAt.{list_at, call_at, attribute_at, display_at, pairs_at, dict_at, index_at, lambda_at, cons_exprs_at}
use Rattle.tree_view.proofs.NameLaws.{there-first, there-next}
use Rattle.tree_view.proofs.ExprViews.{view-none, view-false, view-true, view-int, view-float, view-string, view-var, view-unary, view-binary, view-call, view-attribute, view-dict, view-index, view-lambda, view-exprs-none, view-exprs-more}
use Rattle.slots.specs.Steps.{Leads}
use Rattle.slots.proofs.Kinded.{seen-display}
use Rattle.slots.proofs.Walks.{along}

pub text-done : (t : List ℕ) (p n : ℕ) → n ≡ count_at t p → p + 2 + n ≡ (text_node_at t p).end
unfolding text_node_at
text-done t p n e = ap (λ (m : ℕ). p + 2 + m) e

-- ---- parameters

ends_more : (t : List ℕ) (n p e : ℕ) → e ≡ name_end t p → 0 < n → names_end t n p ≡ names_end t (n - 1) e
unfolding names_end
ends_more t zero p e h k = absurd (omega arith)
ends_more t (suc n) p e h k = ap (λ (m : ℕ). names_end t n m) (sym h) ∙ ap (λ (m : ℕ). names_end t m e) (sym (sub-one (suc n)))

ends-none : (t : List ℕ) (n p : ℕ) → n ≤ 0 → names_end t n p ≡ p
unfolding names_end
ends-none t zero p h = refl
ends-none t (suc n) p h = absurd (omega arith)

-- the names left from p on end where those from p₀ on do
record NamesLeft (t : List ℕ) (n₀ p₀ n p : ℕ) : Type 0 where
  there : AllThere t n p
  end : names_end t n₀ p₀ ≡ names_end t n p

module _ (t : List ℕ) (a n : ℕ) (h : ParamsAt t a) (e : n ≡ count_at t a) {step : ℕ → ℕ → Type 0} (f : (q o : ℕ) → step q o → o ≡ name_end t q) where
  names-left : (m q : ℕ) → m ≤ n → Leads step m (a + 2) q → NamesLeft t n (a + 2) (n - m) q
  names-left = along (NamesLeft t n (a + 2)) n (a + 2) (record { there = rw e h.names; end = refl })
      (λ m q r i l s. record { there = there-next t m q r (f q r s) i l.there; end = l.end ∙ ends_more t m q r (f q r s) i })

  pub names-head : (m q : ℕ) → m < n → Leads step m (a + 2) q → There t q
  names-head m q i w = there-first t _ q (omega arith) (names-left m q (omega arith) w).there

  pub names-done : (q : ℕ) → Leads step n (a + 2) q → q ≡ (params_at t a).end
  unfolding params_at
  names-done q w = sym (ends-none t (n - n) q (omega arith)) ∙ sym (names-left n q (omega arith) w).end ∙ ap (λ (m : ℕ). names_end t m (a + 2)) e

-- ---- the kinds of expression

module _ (d : ℕ) (t : List ℕ) (p : ℕ) (r : ExprReads d t p) where
  plain-kind : (k : ℕ) → get_or t p 0 ≡ k → k < 3 → p + 1 ≡ (expr_at d t p).end
  plain-kind zero e h = sym (ap (λ (z : Node Expr). z.end) (view-none d t p r e))
  plain-kind (suc zero) e h = sym (ap (λ (z : Node Expr). z.end) (view-false d t p r e))
  plain-kind (suc (suc zero)) e h = sym (ap (λ (z : Node Expr). z.end) (view-true d t p r e))
  plain-kind (suc (suc (suc k))) e h = absurd (omega arith)

  -- None, False and True
  pub plain_done : get_or t p 0 < 3 → p + 1 ≡ (expr_at d t p).end
  plain_done h = plain-kind (get_or t p 0) refl h

  module _ (o : ℕ) where
    made_of : (y : Node Expr) → expr_at d t p ≡ y → o ≡ y.end → o ≡ (expr_at d t p).end
    made_of y e g = g ∙ sym (ap (λ (z : Node Expr). z.end) e)

    int-done : get_or t p 0 ≡ 3 → o ≡ p + 1 + 8 → o ≡ (expr_at d t p).end
    unfolding int_at
    int-done e g = made_of _ (view-int d t p r e).is g

    float-done : get_or t p 0 ≡ 4 → o ≡ p + 1 + 8 → o ≡ (expr_at d t p).end
    unfolding float_at
    float-done e g = made_of _ (view-float d t p r e).is g

    -- an integer or a float
    pub number-done : (get_or t p 0 ≡ 3) ⊎ (get_or t p 0 ≡ 4) → o ≡ p + 1 + 8 → o ≡ (expr_at d t p).end
    number-done e g = ⊎_elim (λ (h : get_or t p 0 ≡ 3). int-done h g) (λ (h : get_or t p 0 ≡ 4). float-done h g) e

    pub string-done : get_or t p 0 ≡ 5 → o ≡ (text_node_at t (p + 1)).end → o ≡ (expr_at d t p).end
    unfolding string_at
    string-done e g = made_of _ (view-string d t p r e).is g

    pub var-done : get_or t p 0 ≡ 6 → o ≡ name_end t (p + 1) → o ≡ (expr_at d t p).end
    unfolding var_at
    var-done e g = made_of _ (view-var d t p r e).is g

    pub unary-done : get_or t p 0 ≡ 7 → o ≡ (expr_at (d - 1) t (p + 1 + 1)).end → o ≡ (expr_at d t p).end
    unfolding unary_at
    unary-done e g = made_of _ (view-unary d t p r e).is g

    pub binary-done : get_or t p 0 ≡ 8 → o ≡ (second_at (d - 1) t (p + 1 + 1)).end → o ≡ (expr_at d t p).end
    unfolding binary_at
    binary-done e g = made_of _ (view-binary d t p r e).is g

    pub call-done : get_or t p 0 ≡ 9 → o ≡ (list_at (d - 1) t (expr_at (d - 1) t (p + 1)).end).end → o ≡ (expr_at d t p).end
    unfolding call_at
    call-done e g = made_of _ (view-call d t p r e).is g

    pub attribute-done : get_or t p 0 ≡ 10 → o ≡ name_end t (expr_at (d - 1) t (p + 1)).end → o ≡ (expr_at d t p).end
    unfolding attribute_at
    attribute-done e g = made_of _ (view-attribute d t p r e).is g

    pub display-done : (get_or t p 0 ≡ 11) ⊎ ((get_or t p 0 ≡ 13) ⊎ ((get_or t p 0 ≡ 14) ⊎ (get_or t p 0 ≡ 15))) → o ≡ (list_at (d - 1) t (p + 1)).end → o ≡ (expr_at d t p).end
    unfolding display_at
    display-done e g = made_of _ (seen-display d t p r e).1.is g

    pub dict-done : get_or t p 0 ≡ 12 → o ≡ (pairs_at (d - 1) t (p + 1)).end → o ≡ (expr_at d t p).end
    unfolding dict_at
    dict-done e g = made_of _ (view-dict d t p r e).is g

    pub index-done : get_or t p 0 ≡ 16 → o ≡ (second_at (d - 1) t (p + 1)).end → o ≡ (expr_at d t p).end
    unfolding index_at
    index-done e g = made_of _ (view-index d t p r e).is g

    pub lambda-done : get_or t p 0 ≡ 17 → o ≡ (expr_at (d - 1) t (params_at t (p + 1)).end).end → o ≡ (expr_at d t p).end
    unfolding lambda_at
    lambda-done e g = made_of _ (view-lambda d t p r e).is g

-- ---- expressions, one at a time

-- those left from p on end where those from p₀ on do
record ExprsLeft (d : ℕ) (t : List ℕ) (n₀ p₀ n p : ℕ) : Type 0 where
  reads : ExprsRead d n t p
  end : (exprs_at d n₀ t p₀).end ≡ (exprs_at d n t p).end

exprs-next : (d : ℕ) (t : List ℕ) (n₀ p₀ n p e : ℕ) → 0 < n → ExprsLeft d t n₀ p₀ n p → e ≡ (expr_at d t p).end → ExprsLeft d t n₀ p₀ (n - 1) e
unfolding cons_exprs_at
exprs-next d t n₀ p₀ n p e h l k = let v = view-exprs-more d n t p h l.reads in record {
  reads = subst (λ (m : ℕ). ExprsRead d (n - 1) t m) (sym k) v.parts.rest;
  end = l.end ∙ ap (λ (z : Node Exprs). z.end) v.is ∙ ap (λ (m : ℕ). (exprs_at d (n - 1) t m).end) (sym k);
}

module _ (d : ℕ) (t : List ℕ) (n p : ℕ) (r : ExprsRead d n t p) {step : ℕ → ℕ → Type 0} (f : (q o : ℕ) → step q o → o ≡ (expr_at d t q).end) where
  exprs-left : (m q : ℕ) → m ≤ n → Leads step m p q → ExprsLeft d t n p (n - m) q
  exprs-left = along (ExprsLeft d t n p) n p (record { reads = r; end = refl }) (λ m q o i l s. exprs-next d t n p m q o i l (f q o s))

  pub exprs-head : (m q : ℕ) → m < n → Leads step m p q → ExprReads d t q
  exprs-head m q i w = (view-exprs-more d (n - m) t q (omega arith) (exprs-left m q (omega arith) w).reads).parts.head

  pub exprs-done : (q : ℕ) → Leads step n p q → q ≡ (exprs_at d n t p).end
  exprs-done q w = let l = exprs-left n q (omega arith) w in sym (l.end ∙ ap (λ (z : Node Exprs). z.end) (view-exprs-none d (n - n) t q (omega arith) l.reads.start))
