-- What check_expr finds at each kind, and a list of expressions one by one. Assumes nothing.
use Prim.Native.Nat.{ℕ, ◌+◌, ◌-◌, ◌<◌, ◌≤◌}
use mathlib.Core.Path.{◌≡◌, refl, sym, ap, subst, ◌∙◌}
use mathlib.Core.List.{List}
use mathlib.Core.Logic.{◌⊎◌, inl, inr}
use native.Mathlib.Omega.{arith}
use lib.ListN.{length, get_or}
use Rattle.std.specs.Prelude.{Option, Result, Ok, Err}
use Rattle.numerals.specs.Kinds.{expr_byte}
use Rattle.numerals.specs.declared.kinds.ExprKind.{ExprKind}
use Rattle.numerals.specs.declared.kinds.ExprKind.TheVariants.{NoneLiteral, False, True, Int, Float, List as list_kind, Set, TreeSet}
use Rattle.questions.specs.declared.Question.{Question}
use Rattle.questions.specs.declared.Question.TheVariants.{TreeLayout, Depth}
use Rattle.questions.specs.Numbers.{number}
use Rattle.definitions.specs.Bytes.{field}
use Rattle.tree_view.specs.Judge.{Passed, judged, unasked, suited, judge_expr, inner, judge_many, judge_display}
use Rattle.parts.specs.Asked.{stand}
use Rattle.parts.specs.Judged.{passed_by, Judged, ReadsByte, StandChanged}
use Rattle.parts.specs.declared.asked.BlockQuestion.{BlockQuestion}
use Rattle.parts.specs.declared.checker.Checker.{Checker}
use Rattle.tree_view.specs.declared.roles.Role.{Role}
use Rattle.parts.proofs.Steps.{Turns, Along, done}
use Rattle.exprs.specs.Constants.{Skipped}
use Rattle.tree_view.proofs.ExprLaws.{expr-none, expr-end, expr-unknown, many-none, many_more, at_none, at-false, at_true, at-int, at-float, at-list, at_set, at-tree-set}

pub expr-stop : (r : Role) (d : ℕ) {q : Question} {o : Result (Unit {0}) Question} {c c₁ : Checker} → o ≡ Err q → ReadsByte (Err q) c c₁ → Judged o c c₁ (judge_expr r d)
unfolding passed_by number ReadsByte
expr-stop r d {c = c} {c₁ = c₁} e a = record {
  tree = a.tree;
  answer = ap (λ (o : Result (Unit {0}) Question). passed_by o c₁) (e ∙ ap Err a.layout) ∙ sym (expr-end r d c.tree.now c.at (stand c.first) (let h = a.short in omega arith));
}

pub expr-deep : (r : Role) (d b : ℕ) {c c₁ : Checker} → ReadsByte (Ok b) c c₁ → d ≡ 0 → Judged (Err Depth) c c₁ (judge_expr r d)
unfolding passed_by number ReadsByte
expr-deep r d b {c = c} a e = record { tree = a.0.tree; answer = sym (expr-none r d c.tree.now c.at (stand c.first) e (let h = a.0.room in omega arith)) }

pub expr-no-kind : (r : Role) (d : ℕ) {b : ℕ} {c c₁ : Checker} → ReadsByte (Ok b) c c₁ → (d ≡ 0 → ⊥) → 17 < b → Judged (Err TreeLayout) c c₁ (judge_expr r d)
unfolding passed_by number ReadsByte
expr-no-kind r d {c = c} a f h = record { tree = a.0.tree; answer = sym (expr-unknown r d c.tree.now c.at (stand c.first) f (let h = a.0.room in omega arith) (let e = a.1 in omega arith)) }

-- after a kind byte, what is judged of the rest by K is what is judged of the expression
abbrev pub Kind : (r : Role) (d k : ℕ) (K : List ℕ → ℕ → ℕ → Passed) → Type 0
Kind r d k K = (t : List ℕ) (p w u : ℕ) → (d ≡ 0 → ⊥) → p < length t → u ≡ suited r (get_or t p 0) w → get_or t p 0 ≡ k → K t (p + 1) u ≡ judge_expr r d t p w

pub expr-step : (r : Role) (d k : ℕ) {K : List ℕ → ℕ → ℕ → Passed} {b : ℕ} {o : Result (Unit {0}) Question} {c c₁ c₂ c₃ : Checker} →
    ReadsByte (Ok b) c c₁ → (d ≡ 0 → ⊥) → StandChanged c₁ c₂ (suited r b) → b ≡ k → Kind r d k K → Judged o c₂ c₃ K → Judged o c c₃ (judge_expr r d)
unfolding ReadsByte
expr-step r d k {K = K} {b = b} {c = c} {c₁ = c₁} {c₂ = c₂} a f s e l j = record {
  tree = j.tree ∙ s.tree ∙ a.0.tree;
  answer = j.answer ∙ ap (λ (t : List ℕ). K t c₂.at (stand c₂.first)) (s.tree ∙ a.0.tree) ∙ ap (λ (p : ℕ). K c.tree.now p (stand c₂.first)) (s.at ∙ a.0.at)
      ∙ l c.tree.now c.at (stand c.first) (stand c₂.first) f (let h = a.0.room in omega arith)
      (s.stand ∙ ap (λ (o : Option BlockQuestion). suited r b (stand o)) a.0.first ∙ ap (λ (k : ℕ). suited r k (stand c.first)) a.1) (sym a.1 ∙ e);
}

-- kinds that read on alike
pub expr-constant : (r : Role) (d : ℕ) {k : ExprKind} {b : ℕ} {u : Unit {0}} {c c₁ c₂ : Checker} → ReadsByte (Ok b) c c₁ → (d ≡ 0 → ⊥) → StandChanged c₁ c₂ (suited r b) → expr_byte k ≡ b →
    (k ≡ NoneLiteral) ⊎ ((k ≡ False) ⊎ (k ≡ True)) → Judged (Ok u) c c₂ (judge_expr r d)
unfolding expr_byte
expr-constant r d a f s e (inl h) = expr-step r d 0 a f s (sym e ∙ ap expr_byte h) (λ t p w u f h s e. at_none r d t p w u f h s e) done
expr-constant r d a f s e (inr (inl h)) = expr-step r d 1 a f s (sym e ∙ ap expr_byte h) (λ t p w u f h s e. at-false r d t p w u f h s e) done
expr-constant r d a f s e (inr (inr h)) = expr-step r d 2 a f s (sym e ∙ ap expr_byte h) (λ t p w u f h s e. at_true r d t p w u f h s e) done

pub expr-eight : (r : Role) (d : ℕ) {k : ExprKind} {b : ℕ} {o : Result (Unit {0}) Question} {c c₁ c₂ c₃ : Checker} → ReadsByte (Ok b) c c₁ → (d ≡ 0 → ⊥) → StandChanged c₁ c₂ (suited r b) → expr_byte k ≡ b →
    (k ≡ Int) ⊎ (k ≡ Float) → Judged o c₂ c₃ (judged unasked (field 8)) → Judged o c c₃ (judge_expr r d)
unfolding expr_byte
expr-eight r d a f s e (inl h) j = expr-step r d 3 a f s (sym e ∙ ap expr_byte h) (λ t p w u f h s e. at-int r d t p w u f h s e) j
expr-eight r d a f s e (inr h) j = expr-step r d 4 a f s (sym e ∙ ap expr_byte h) (λ t p w u f h s e. at-float r d t p w u f h s e) j

pub expr-values : (r : Role) (d : ℕ) {b : ℕ} {k : ExprKind} {o : Result (Unit {0}) Question} {c c₁ c₂ c₃ : Checker} → ReadsByte (Ok b) c c₁ → (d ≡ 0 → ⊥) → StandChanged c₁ c₂ (suited r b) → expr_byte k ≡ b →
    (k ≡ list_kind) ⊎ ((k ≡ Set) ⊎ (k ≡ TreeSet)) → Judged o c₂ c₃ (judge_display (d - 1)) → Judged o c c₃ (judge_expr r d)
unfolding expr_byte
expr-values r d a f s e (inl h) j = expr-step r d 11 a f s (sym e ∙ ap expr_byte h) (λ t p w u f h s e. at-list r d t p w u f h s e) j
expr-values r d a f s e (inr (inl h)) j = expr-step r d 14 a f s (sym e ∙ ap expr_byte h) (λ t p w u f h s e. at_set r d t p w u f h s e) j
expr-values r d a f s e (inr (inr h)) j = expr-step r d 15 a f s (sym e ∙ ap expr_byte h) (λ t p w u f h s e. at-tree-set r d t p w u f h s e) j

-- ---- n expressions

abbrev pub many : Role → ℕ → ℕ → List ℕ → ℕ → ℕ → Passed
many r d n t p w = judge_many r d t n p w

pub many-turns : (r : Role) (d : ℕ) → Turns (many r d) (judge_expr r d)
many-turns r d = record { more = many_more r d }

pub many-end : (r : Role) (d n : ℕ) (c : Checker) {u : Unit {0}} → n ≤ 0 → Judged (Ok u) c c (many r d n)
unfolding passed_by
many-end r d n c h = record { tree = refl; answer = sym (many-none r d c.tree.now n c.at (stand c.first) c.inside h) }

-- constants are passed over
pub many-skip : {r : Role} {d n m k : ℕ} {c₀ c c₁ : Checker} → Along (many r d) n m c₀ c → Skipped r d m k c c₁ → Along (many r d) n (m - k) c₀ c₁
many-skip {r = r} {d = d} {m = m} {k = k} {c = c} {c₁ = c₁} a s = record {
  tree = s.tree ∙ a.tree;
  same = a.same ∙ s.passes.same (stand c.first) ∙ ap (λ (t : List ℕ). judge_many r d t (m - k) (c.at + k) (stand c.first)) (sym s.tree)
      ∙ ap (λ (p : ℕ). judge_many r d c₁.tree.now (m - k) p (stand c.first)) (sym s.at) ∙ ap (λ (o : Option BlockQuestion). judge_many r d c₁.tree.now (m - k) c₁.at (stand o)) (sym s.first);
}

-- the elements of a tuple have its inner role
pub tuple-role : {s : Role} (r : Role) (d n : ℕ) {o : Result (Unit {0}) Question} {c c₁ : Checker} → s ≡ inner r →
    Judged o c c₁ (λ t p w. judge_many s d t n p w) → Judged o c c₁ (λ t p w. judge_many (inner r) d t n p w)
tuple-role r d n {o = o} {c = c} {c₁ = c₁} e j = subst (λ (x : Role). Judged o c c₁ (λ t p w. judge_many x d t n p w)) e j
