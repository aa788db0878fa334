-- Expressions one after the other: the first and the others.
use Prim.Native.Nat.{ℕ, ◌-◌, ◌≤◌, ◌<◌}
use mathlib.Core.Path.{◌≡◌, sym, ap, ◌∙◌}
use mathlib.Core.List.{List, []}
use Rattle.definitions.specs.Bytes.{Name}
use Rattle.definitions.specs.Tree.{Exprs}
use Rattle.definitions.specs.Wellformed.{ask_exprs}
use Rattle.definitions.specs.Tables.{emits, ◌⨟◌}
use Rattle.definitions.specs.Lower.{emit_exprs}
use Rattle.tree_view.specs.Places.{Node}
use Rattle.tree_view.specs.ExprAt.{expr_at, exprs_at, cons_exprs_at}
use Rattle.tree_view.proofs.ExprViews.{view-exprs-none, view-exprs-more}
use Rattle.lower_forms.specs.Lowerable.{Relied, Lowerable, LowerableMany, expr_code, exprs_code}
use Rattle.lower_forms.proofs.ExprArms.{and_both}

-- the first expression and the others
pub record More (d n : ℕ) (t : List ℕ) (p : ℕ) : Type 0 where
  pub head : Lowerable d t p
  pub rest : LowerableMany d (n - 1) t (expr_at d t p).end
  pub code : (names : List Name) → exprs_code d n t names p ≡ expr_code d t names p ⨟ exprs_code d (n - 1) t names (expr_at d t p).end
  pub end : (exprs_at d n t p).end ≡ (exprs_at d (n - 1) t (expr_at d t p).end).end

pub more-view : (d n : ℕ) (t : List ℕ) (p : ℕ) → 0 < n → LowerableMany d n t p → More d n t p
unfolding cons_exprs_at emit_exprs ask_exprs
more-view d n t p h r =
    let v = view-exprs-more d n t p h r.reads in
    let w = ap (λ (x : Node Exprs). x.value) v.is in
    let a = λ (q : ℕ) (j : Relied q). and_both _ _ (ap (ask_exprs q) (sym w) ∙ r.asks q j) in
    record {
      head = record { reads = v.parts.head; asks = λ q j. (a q j).0 };
      rest = record { reads = v.parts.rest; asks = λ q j. (a q j).1 };
      code = λ names. ap (emit_exprs names) w;
      end = ap (λ (x : Node Exprs). x.end) v.is;
    }

pub none-code : (d n : ℕ) (t : List ℕ) (names : List Name) (p : ℕ) → n ≤ 0 → LowerableMany d n t p → (exprs_code d n t names p ≡ emits []) × ((exprs_at d n t p).end ≡ p)
unfolding emit_exprs
none-code d n t names p h r = let v = view-exprs-none d n t p h r.reads.start in (ap (λ (x : Node Exprs). emit_exprs names x.value) v, ap (λ (x : Node Exprs). x.end) v)
