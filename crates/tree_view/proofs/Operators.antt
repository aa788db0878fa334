-- The operators of a byte: what holds of each, and that none is a target. Assumes nothing.
use Prim.Native.Nat.{ℕ, ◌<◌, ◌≤◌}
use mathlib.Core.Path.{◌≡◌, refl, sym, subst}
use mathlib.Core.Logic.{⊎_elim}
use native.Mathlib.Omega.{arith}
use lib.ListN.{get_or}
use Rattle.std.proofs.lemmas.Bool.{cases_lt}
use Rattle.definitions.specs.Tree.{Expr, unary, binary, logical, UnaryOp, not_op, BinaryOp, add_op, LogicalOp, and_op, or_op, as_other, view}
use Rattle.tree_view.specs.ExprAt.{unary_of, binary_of, unary_ops, binary_ops}
use Rattle.tree_view.proofs.ExprViews.{unary-of, binary-of, and-of, or-of}

-- what holds of every operator holds of the one of a byte
pub unary-each : (P : (Expr → Expr) → Type 0) → ((op : UnaryOp) → P (unary op)) → (k : ℕ) → k < 3 → P (unary_of k)
unary-each P f k h = subst P (sym (unary-of k h)) (f (get_or unary_ops k not_op))

pub binary-each : (P : (Expr → Expr → Expr) → Type 0) → ((op : BinaryOp) → P (binary op)) → ((op : LogicalOp) → P (logical op)) → (k : ℕ) → k < 14 → P (binary_of k)
binary-each P f g k h = ⊎_elim
    (λ (l : k < 12). subst P (sym (binary-of k l)) (f (get_or binary_ops k add_op)))
    (λ (l : 12 ≤ k). ⊎_elim
    (λ (m : k < 13). subst P (sym (and-of k (omega arith))) (g and_op))
    (λ (m : 13 ≤ k). subst P (sym (or-of k (omega arith))) (g or_op))
    (cases_lt k 13))
    (cases_lt k 12)

-- an operator's value is of no other form
pub unary-other : (k : ℕ) (e : Expr) → k < 3 → view (unary_of k e) ≡ as_other
unfolding view
unary-other k e h = unary-each (λ (f : Expr → Expr). view (f e) ≡ as_other) (λ op. refl) k h

pub binary-other : (k : ℕ) (l r : Expr) → k < 14 → view (binary_of k l r) ≡ as_other
unfolding view
binary-other k l r h = binary-each (λ (f : Expr → Expr → Expr). view (f l r) ≡ as_other) (λ op. refl) (λ op. refl) k h
