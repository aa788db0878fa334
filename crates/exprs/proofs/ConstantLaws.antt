-- Constants and plain variables, judged by their kind byte alone. Assumes nothing.
use Prim.Native.Nat.{ℕ, zero, suc, ◌+◌, ◌-◌, ◌<◌, ◌≤◌}
use mathlib.Core.Path.{◌≡◌, refl, sym, ap, ◌∙◌}
use mathlib.Core.Bool.{true}
use mathlib.Core.List.{List}
use native.Mathlib.Omega.{arith}
use lib.ListN.{length, get_or}
use Rattle.tree_view.specs.Judge.{fits_role, suited, judge_name, judge_expr, judge_many}
use Rattle.tree_view.specs.Judge.{Next}
use Rattle.tree_view.specs.declared.roles.Role.{Role}
use Rattle.tree_view.specs.declared.roles.Role.TheVariants.{Value, Target as as_target}
use Rattle.tree_view.proofs.Laws.{then_next}
use Rattle.tree_view.proofs.LeafLaws.{noted-yes, suits-value}
use Rattle.parts.specs.Judged.{SkipsBelow}
use Rattle.parts.specs.declared.checker.Checker.{Checker}
use Rattle.exprs.specs.Constants.{PassesOver, Skipped}
use Rattle.tree_view.proofs.ExprLaws.{at_none, at-false, at_true, at-var, many_more}

-- a constant as a value: one byte, of which nothing is asked
pub constant-value : (d : ℕ) (t : List ℕ) (p w : ℕ) → (d ≡ 0 → ⊥) → p < length t → get_or t p 0 < 3 → Next (p + 1) w ≡ judge_expr Value d t p w
constant-value d t p w f h l = go (get_or t p 0) refl l
  where
    u : w ≡ suited Value (get_or t p 0) w
    u = suits-value Value (get_or t p 0) w refl

    go : (k : ℕ) → get_or t p 0 ≡ k → k < 3 → Next (p + 1) w ≡ judge_expr Value d t p w
    go zero e l = at_none Value d t p w w f h u e
    go (suc zero) e l = at-false Value d t p w w f h u e
    go (suc (suc zero)) e l = at_true Value d t p w w f h u e
    go (suc (suc (suc k))) e l = absurd (omega arith)

-- a variable as a target: its name
pub variable-target : (d : ℕ) (t : List ℕ) (p w : ℕ) → (d ≡ 0 → ⊥) → p < length t → get_or t p 0 ≡ 6 → judge_name t (p + 1) w ≡ judge_expr as_target d t p w
unfolding suited fits_role
variable-target d t p w f h e = at-var as_target d t p w w f h (let s : w ≡ suited as_target 6 w = noted-yes w 10 true refl in s ∙ ap (λ (k : ℕ). suited as_target k w) (sym e)) e

-- a constant at the head of a list of values
many-constant : (d : ℕ) (t : List ℕ) (n p w : ℕ) → (d ≡ 0 → ⊥) → p < length t → 0 < n → get_or t p 0 < 3 → judge_many Value d t n p w ≡ judge_many Value d t (n - 1) (p + 1) w
many-constant d t n p w f h m l = many_more Value d t n p w (omega arith) m ∙ then_next _ _ _ _ (sym (constant-value d t p w f h l))

many-at : (r : Role) (d : ℕ) (t : List ℕ) (n m p q w : ℕ) → n ≡ m → p ≡ q → judge_many r d t n p w ≡ judge_many r d t m q w
many-at r d t n m p q w e g = rw (e, g)

-- nothing is passed over
pass-none : (r : Role) (d : ℕ) (t : List ℕ) (n p : ℕ) → p ≤ length t → PassesOver r d t n p 0
pass-none r d t n p h = record { few = omega arith; inside = omega arith; same = λ w. many-at r d t _ _ _ _ w (omega arith) (omega arith) }

-- constants in a list of values are passed over
same-past : (d : ℕ) (t : List ℕ) (n p k : ℕ) → (d ≡ 0 → ⊥) → k ≤ n → p + k ≤ length t → ((i : ℕ) → i < k → get_or t (p + i) 0 < 3) →
    (w : ℕ) → judge_many Value d t n p w ≡ judge_many Value d t (n - k) (p + k) w
same-past d t n p zero f a b c w = many-at Value d t _ _ _ _ w (omega arith) (omega arith)
same-past d t n p (suc k) f a b c w =
    same-past d t n p k f (omega arith) (omega arith) (λ i l. c i (omega arith)) w
    ∙ many-constant d t (n - k) (p + k) w f (omega arith) (omega arith) (c k (omega arith))
    ∙ many-at Value d t _ _ _ _ w (omega arith) (omega arith)

pub skip-constants : (r : Role) (d n k : ℕ) {c c₁ : Checker} → r ≡ Value → 0 < d → SkipsBelow 3 n k c c₁ → Skipped r d n k c c₁
skip-constants r d n k {c = c} e f s = record {
  passes = rw e (let h = s.went.room in record { few = s.few; inside = h; same = same-past d c.tree.now n c.at k (λ z. absurd (omega arith)) s.few h s.each });
  tree = s.went.tree;
  at = s.went.at;
  first = s.went.first;
}

pub skip-none : (r : Role) (d n : ℕ) (c : Checker) → Skipped r d n 0 c c
skip-none r d n c = record { passes = pass-none r d c.tree.now n c.at c.inside; tree = refl; at = omega arith; first = refl }
