-- What check_stmt finds at each kind, and lists of parts one by one. Assumes nothing.
use Prim.Native.Nat.{ℕ, ◌+◌, ◌-◌, ◌<◌, ◌≤◌}
use mathlib.Core.Path.{◌≡◌, refl, sym, ap, ◌∙◌}
use mathlib.Core.Bool.{Bool, true, false, true≢false}
use mathlib.Core.List.{List}
use mathlib.Core.Logic.{◌⊎◌, inl, inr}
use native.Mathlib.Omega.{arith}
use lib.ListN.{length, get_or}
use Rattle.std.specs.Prelude.{Option, Result, Ok, Err}
use Rattle.numerals.specs.Kinds.{stmt_byte}
use Rattle.numerals.specs.declared.kinds.StmtKind.{StmtKind}
use Rattle.numerals.specs.declared.kinds.StmtKind.TheVariants.{Break, Continue, Expr, Return}
use Rattle.questions.specs.declared.Question.{Question}
use Rattle.questions.specs.declared.Question.TheVariants.{TreeLayout, Depth}
use Rattle.questions.specs.Numbers.{number}
use Rattle.definitions.specs.Wellformed.{if_asked}
use Rattle.parts.specs.Asked.{number_asked, stand}
use Rattle.tree_view.specs.Judge.{Passed, Next, least, judge_name, judge_expr, judge_stmt, judge_block, judge_stmts, judge_branch, judge_branches, judge_method, judge_methods, judge_attribute_list, judge_attributes, judge_attribute_value}
use Rattle.parts.specs.Judged.{passed_by, Judged, ReadsCount, ReadsByte, SkipsByte, SkipsBelow, StandChanged, answered}
use Rattle.parts.specs.declared.asked.BlockQuestion.{BlockQuestion}
use Rattle.parts.specs.declared.asked.BlockQuestion.TheVariants.{Loops}
use Rattle.parts.specs.declared.checker.Checker.{Checker}
use Rattle.tree_view.specs.declared.roles.Role.TheVariants.{Value, Target as as_target}
use Rattle.parts.proofs.Steps.{Turns, count-step, count-stop, stay, done}
use Rattle.exprs.proofs.ConstantLaws.{constant-value, variable-target}
use Rattle.tree_view.proofs.StmtLaws.{stmt-none, stmt-end, stmt-unknown, at-break, at-continue, at-expr, at_return, block-law}
use Rattle.tree_view.proofs.StmtLaws.{attributes-law, stmts-none, stmts-more, branches-none, branches-more, methods-none, methods-more}
use Rattle.tree_view.proofs.StmtLaws.{attributes-none, attributes-more, else-end, else-none, else-block, else-unknown}

pub stmt-stop : (l : Bool) (d : ℕ) {q : Question} {o : Result (Unit {0}) Question} {c c₁ : Checker} → o ≡ Err q → ReadsByte (Err q) c c₁ → Judged o c c₁ (judge_stmt l d)
unfolding passed_by number ReadsByte
stmt-stop l d {c = c} {c₁ = c₁} e a = record {
  tree = a.tree;
  answer = ap (λ (o : Result (Unit {0}) Question). passed_by o c₁) (e ∙ ap Err a.layout) ∙ sym (stmt-end l d c.tree.now c.at (stand c.first) (let h = a.short in omega arith));
}

pub stmt-deep : (l : Bool) (d b : ℕ) {c c₁ : Checker} → ReadsByte (Ok b) c c₁ → d ≡ 0 → Judged (Err Depth) c c₁ (judge_stmt l d)
unfolding passed_by number ReadsByte
stmt-deep l d b {c = c} a e = record { tree = a.0.tree; answer = sym (stmt-none l d c.tree.now c.at (stand c.first) e (let h = a.0.room in omega arith)) }

pub stmt-no-kind : (l : Bool) (d : ℕ) {b : ℕ} {c c₁ : Checker} → ReadsByte (Ok b) c c₁ → (d ≡ 0 → ⊥) → 10 < b → Judged (Err TreeLayout) c c₁ (judge_stmt l d)
unfolding passed_by number ReadsByte
stmt-no-kind l d {c = c} a f h = record { tree = a.0.tree; answer = sym (stmt-unknown l d c.tree.now c.at (stand c.first) f (let h = a.0.room in omega arith) (let e = a.1 in omega arith)) }

-- after a byte k, what is judged of the rest by K is what is judged of the whole by J
abbrev pub Kind : (d k : ℕ) (K J : List ℕ → ℕ → ℕ → Passed) → Type 0
Kind d k K J = (t : List ℕ) (p w : ℕ) → (d ≡ 0 → ⊥) → p < length t → get_or t p 0 ≡ k → K t (p + 1) w ≡ J t p w

pub kind-step : (d k : ℕ) {K J : List ℕ → ℕ → ℕ → Passed} {b : ℕ} {o : Result (Unit {0}) Question} {c c₁ c₂ : Checker} →
    ReadsByte (Ok b) c c₁ → (d ≡ 0 → ⊥) → b ≡ k → Kind d k K J → Judged o c₁ c₂ K → Judged o c c₂ J
unfolding ReadsByte
kind-step d k {K = K} {c = c} {c₁ = c₁} a f e l j = record {
  tree = j.tree ∙ a.0.tree;
  answer = j.answer ∙ ap (λ (t : List ℕ). K t c₁.at (stand c₁.first)) a.0.tree ∙ ap (λ (p : ℕ). K c.tree.now p (stand c₁.first)) a.0.at
      ∙ ap (λ (o : Option BlockQuestion). K c.tree.now (c.at + 1) (stand o)) a.0.first ∙ l c.tree.now c.at (stand c.first) f (let h = a.0.room in omega arith) (sym a.1 ∙ e);
}

-- a break and a continue
loop-noted : (l : Bool) {u : Unit {0}} {c c₁ : Checker} → StandChanged c c₁ (answered Loops l) → Judged (Ok u) c c₁ (λ t p w. Next p (least w (λ q. if_asked 9 q l)))
unfolding passed_by number_asked
loop-noted l {c = c} {c₁ = c₁} s = record { tree = s.tree; answer = ap (λ (p : ℕ). Next p (stand c₁.first)) s.at ∙ ap (Next c.at) s.stand }

pub stmt-leaves : (l : Bool) (d : ℕ) {k : StmtKind} {b : ℕ} {u : Unit {0}} {c c₁ c₂ : Checker} → ReadsByte (Ok b) c c₁ → (d ≡ 0 → ⊥) → stmt_byte k ≡ b → (k ≡ Break) ⊎ (k ≡ Continue) →
    StandChanged c₁ c₂ (answered Loops l) → Judged (Ok u) c c₂ (judge_stmt l d)
unfolding stmt_byte
stmt-leaves l d a f e (inl h) s = kind-step d 0 a f (sym e ∙ ap stmt_byte h) (λ t p w f h e. at-break l d t p w f h e) (loop-noted l s)
stmt-leaves l d a f e (inr h) s = kind-step d 1 a f (sym e ∙ ap stmt_byte h) (λ t p w f h e. at-continue l d t p w f h e) (loop-noted l s)

-- an expression and a return
pub stmt-value : (l : Bool) (d : ℕ) {k : StmtKind} {b : ℕ} {o : Result (Unit {0}) Question} {c c₁ c₂ : Checker} → ReadsByte (Ok b) c c₁ → (d ≡ 0 → ⊥) → stmt_byte k ≡ b → (k ≡ Expr) ⊎ (k ≡ Return) →
    Judged o c₁ c₂ (judge_expr Value (d - 1)) → Judged o c c₂ (judge_stmt l d)
unfolding stmt_byte
stmt-value l d a f e (inl h) j = kind-step d 3 a f (sym e ∙ ap stmt_byte h) (λ t p w f h e. at-expr l d t p w f h e) j
stmt-value l d a f e (inr h) j = kind-step d 4 a f (sym e ∙ ap stmt_byte h) (λ t p w f h e. at_return l d t p w f h e) j

-- a target that is a variable, or another
pub target-variable : (d : ℕ) {b : Bool} {o : Result (Unit {0}) Question} {c c₁ c₂ : Checker} → (d ≡ 0 → ⊥) → b ≡ true → SkipsByte 6 b c c₁ → Judged o c₁ c₂ judge_name → Judged o c c₂ (judge_expr as_target d)
unfolding SkipsByte
target-variable d {b = true} f e s j = kind-step d 6 s f refl (variable-target d) j
target-variable d {b = false} f e s j = absurd (true≢false (sym e))

pub target-other : {b : Bool} {K : List ℕ → ℕ → ℕ → Passed} {o : Result (Unit {0}) Question} {c c₁ c₂ : Checker} → b ≡ false → SkipsByte 6 b c c₁ → Judged o c₁ c₂ K → Judged o c c₂ K
unfolding SkipsByte
target-other {b = true} e s j = absurd (true≢false e)
target-other {b = false} e s j = stay s.0 j

pub moved : {K : List ℕ → ℕ → ℕ → Passed} {o : Result (Unit {0}) Question} {c c₁ c₂ : Checker} → c₁ ≡ c → Judged o c₁ c₂ K → Judged o c c₂ K
moved e j = rw (sym e) j

-- a value that is a constant
constant-at : (t : List ℕ) (p q : ℕ) → q ≡ p → get_or t q 0 < 3 → get_or t p 0 < 3
constant-at t p q e h = rw (sym e) h

pub value-constant : (d k : ℕ) {u : Unit {0}} {c c₁ : Checker} → (d ≡ 0 → ⊥) → k ≡ 1 → SkipsBelow 3 1 k c c₁ → Judged (Ok u) c c₁ (judge_expr Value d)
unfolding passed_by
value-constant d k {c = c} {c₁ = c₁} f e s =
    let r = s.went.room in let a = s.went.at in
    record {
      tree = s.went.tree;
      answer = ap (λ (p : ℕ). Next p (stand c₁.first)) (let z : c₁.at ≡ c.at + 1 = omega arith in z) ∙ ap (λ (o : Option BlockQuestion). Next (c.at + 1) (stand o)) s.went.first
          ∙ constant-value d c.tree.now c.at (stand c.first) f (omega arith) (constant-at c.tree.now c.at (c.at + 0) (omega arith) (s.each 0 (omega arith)));
    }

-- ---- lists

abbrev pub stmts : Bool → ℕ → ℕ → List ℕ → ℕ → ℕ → Passed
stmts l d n t p w = judge_stmts l d t n p w

abbrev pub elifs : Bool → ℕ → ℕ → List ℕ → ℕ → ℕ → Passed
elifs l d n t p w = judge_branches l d t n p w

abbrev pub methods : ℕ → ℕ → List ℕ → ℕ → ℕ → Passed
methods d n t p w = judge_methods d t n p w

abbrev pub values : ℕ → ℕ → List ℕ → ℕ → ℕ → Passed
values d n t p w = judge_attributes d t n p w

pub stmts-turns : (l : Bool) (d : ℕ) → Turns (stmts l d) (judge_stmt l d)
stmts-turns l d = record { more = stmts-more l d }

pub elifs-turns : (l : Bool) (d : ℕ) → Turns (elifs l d) (judge_branch l d)
elifs-turns l d = record { more = branches-more l d }

pub methods-turns : (d : ℕ) → Turns (methods d) (judge_method d)
methods-turns d = record { more = methods-more d }

pub values-turns : (d : ℕ) → Turns (values d) (judge_attribute_value d)
values-turns d = record { more = attributes-more d }

pub stmts-end : (l : Bool) (d n : ℕ) (c : Checker) {u : Unit {0}} → n ≤ 0 → Judged (Ok u) c c (stmts l d n)
unfolding passed_by
stmts-end l d n c h = record { tree = refl; answer = sym (stmts-none l d c.tree.now n c.at (stand c.first) c.inside h) }

pub elifs-end : (l : Bool) (d n : ℕ) {o : Result (Unit {0}) Question} {c c₁ : Checker} → n ≤ 0 → Judged o c c₁ (elifs l d 0) → Judged o c c₁ (elifs l d n)
elifs-end l d n {c = c} h j = record { tree = j.tree; answer = j.answer ∙ sym (branches-none l d c.tree.now n c.at (stand c.first) h) }

pub methods-end : (d n : ℕ) (c : Checker) {u : Unit {0}} → n ≤ 0 → Judged (Ok u) c c (methods d n)
unfolding passed_by
methods-end d n c h = record { tree = refl; answer = sym (methods-none d c.tree.now n c.at (stand c.first) c.inside h) }

pub values-end : (d n : ℕ) (c : Checker) {u : Unit {0}} → n ≤ 0 → Judged (Ok u) c c (values d n)
unfolding passed_by
values-end d n c h = record { tree = refl; answer = sym (attributes-none d c.tree.now n c.at (stand c.first) c.inside h) }

-- ---- counts

pub block-stop : (l : Bool) (d : ℕ) {q : Question} {o : Result (Unit {0}) Question} {c c₁ : Checker} → o ≡ Err q → ReadsCount (Err q) c c₁ → Judged o c c₁ (judge_block l d)
block-stop l d {c = c} e a = let j = count-stop (stmts l d) e a in record { tree = j.tree; answer = j.answer ∙ sym (block-law l d c.tree.now c.at (stand c.first) c.inside) }

pub block-step : (l : Bool) (d : ℕ) {n : ℕ} {o : Result (Unit {0}) Question} {c c₁ c₂ : Checker} → ReadsCount (Ok n) c c₁ → Judged o c₁ c₂ (stmts l d n) → Judged o c c₂ (judge_block l d)
block-step l d {c = c} a b = let j = count-step (stmts l d) a b in record { tree = j.tree; answer = j.answer ∙ sym (block-law l d c.tree.now c.at (stand c.first) c.inside) }

pub attributes-stop : (d : ℕ) {q : Question} {o : Result (Unit {0}) Question} {c c₁ : Checker} → o ≡ Err q → ReadsCount (Err q) c c₁ → Judged o c c₁ (judge_attribute_list d)
attributes-stop d {c = c} e a = let j = count-stop (values d) e a in record { tree = j.tree; answer = j.answer ∙ sym (attributes-law d c.tree.now c.at (stand c.first) c.inside) }

pub attributes-step : (d : ℕ) {n : ℕ} {o : Result (Unit {0}) Question} {c c₁ c₂ : Checker} → ReadsCount (Ok n) c c₁ → Judged o c₁ c₂ (values d n) → Judged o c c₂ (judge_attribute_list d)
attributes-step d {c = c} a b = let j = count-step (values d) a b in record { tree = j.tree; answer = j.answer ∙ sym (attributes-law d c.tree.now c.at (stand c.first) c.inside) }

-- ---- an else block or none

pub else-stop : (l : Bool) (d : ℕ) {q : Question} {o : Result (Unit {0}) Question} {c c₁ : Checker} → o ≡ Err q → ReadsByte (Err q) c c₁ → Judged o c c₁ (elifs l d 0)
unfolding passed_by number ReadsByte
else-stop l d {c = c} {c₁ = c₁} e a = record {
  tree = a.tree;
  answer = ap (λ (o : Result (Unit {0}) Question). passed_by o c₁) (e ∙ ap Err a.layout) ∙ sym (else-end l d c.tree.now c.at (stand c.first) (let h = a.short in omega arith));
}

pub else-done : (l : Bool) (d : ℕ) {b : ℕ} {u : Unit {0}} {c c₁ : Checker} → ReadsByte (Ok b) c c₁ → b ≡ 0 → Judged (Ok u) c c₁ (elifs l d 0)
else-done l d a e = kind-step 1 0 a (λ z. absurd (omega arith)) e (λ t p w f h e. sym (else-none l d t p w h e)) done

pub else-step : (l : Bool) (d : ℕ) {b : ℕ} {o : Result (Unit {0}) Question} {c c₁ c₂ : Checker} → ReadsByte (Ok b) c c₁ → b ≡ 1 → Judged o c₁ c₂ (judge_block l d) → Judged o c c₂ (elifs l d 0)
else-step l d a e j = kind-step 1 1 a (λ z. absurd (omega arith)) e (λ t p w f h e. sym (else-block l d t p w h e)) j

pub else-no-byte : (l : Bool) (d : ℕ) {b : ℕ} {c c₁ : Checker} → ReadsByte (Ok b) c c₁ → (b ≡ 0 → ⊥) → (b ≡ 1 → ⊥) → Judged (Err TreeLayout) c c₁ (elifs l d 0)
unfolding passed_by number ReadsByte
else-no-byte l d {b = b} {c = c} a f g = record { tree = a.0.tree; answer = sym (else-unknown l d c.tree.now c.at (stand c.first) (let h = a.0.room in omega arith) (let e = a.1 in let z : 2 ≤ b = omega arith in omega arith)) }
