-- One step of a checker after another, and the steps on its bytes. Assumes nothing.
use Prim.Native.Nat.{ℕ, suc, ◌+◌, ◌*◌, ◌-◌, ◌<◌, ◌≤◌}
use mathlib.Core.Path.{◌≡◌, refl, sym, ap, ◌∙◌}
use mathlib.Core.Bool.{Bool, true, false, not, ◌||◌, true≢false}
use mathlib.Core.List.{List, ◌∷◌}
use mathlib.Core.Logic.{inl, inr, ⊎_elim}
use native.Mathlib.Omega.{arith}
use lib.Dec.{eqb, leb, ltb}
use lib.ListN.{length, take, drop, get_or, get_elem?}
use mathlib.Core.Option.{some}
use Rattle.std.proofs.lemmas.Bool.{eqb-false}
use Rattle.std.specs.Prelude.{Option, None, Some, Result, Ok, Err}
use Rattle.definitions.specs.Bytes.{Name, field, text, same}
use Rattle.definitions.specs.Utf8.{is_utf8}
use Rattle.definitions.specs.Wellformed.{if_asked, is_name, is_iterator, distinct, block_questions, init}
use Rattle.questions.specs.declared.Question.{Question}
use Rattle.questions.specs.declared.Question.TheVariants.{TreeLayout}
use Rattle.questions.specs.Numbers.{number}
use Rattle.tree_view.specs.Judge.{Passed, Next, Is, Placed, here, later, least, judged, then_judge, with_number, judged_number_at, operator_at, guarded, unasked}
use Rattle.tree_view.specs.Judge.{ask_text, judge_operator, judge_name, judge_names, judge_params, judge_head, suited, fits_role, filled, tuple_fits_role}
use Rattle.parts.specs.Asked.{number_asked, question_place, stand}
use Rattle.parts.specs.Judged.{passed_by, Judged, counted_by, ReadsCount, CheckerWent, CheckerShort, ReadsByte, StandChanged, answered, Rules, SettlesAtEnd}
use Rattle.tree_view.specs.Places.{count_at, CountThere, name_from, There, names_from, AllThere}
use Rattle.parts.specs.declared.asked.BlockQuestion.{BlockQuestion}
use Rattle.parts.specs.declared.asked.BlockQuestion.TheVariants.{Names, IteratorNames, Strings, Loops, Targets, EmptyTargets, Parameters, Init, ListLengths}
use Rattle.parts.specs.declared.checker.Checker.{Checker}
use Rattle.tree_view.specs.declared.roles.Role.{Role}
use Rattle.tree_view.proofs.Laws.{then_next, then-refused, with-number, with-unread}
use Rattle.tree_view.proofs.LeafLaws.{noted-yes, noted-low, noted-no, eight-short, eight-long, number_short, number-long, operator-end, guard-yes, guard-no, name-at-none, name-at-short, name-whole, text-unread, text-short, text-whole}
use Rattle.tree_view.proofs.NameLaws.{params-law, params-close, name-at-is, names-there, names-none, names_more, head-close}
use Rattle.definitions.proofs.Begins.{le-or-gt}

-- ---- part after part

pub step : {J K : List ℕ → ℕ → ℕ → Passed} {u : Unit {0}} {r : Result (Unit {0}) Question} {c c₁ c₂ : Checker} →
    Judged (Ok u) c c₁ J → Judged r c₁ c₂ K → Judged r c c₂ (λ t p w. then_judge (J t p w) (K t))
unfolding passed_by
step {J = J} {K = K} {c = c} {c₁ = c₁} a b = record {
  tree = b.tree ∙ a.tree;
  answer = b.answer ∙ ap (λ (t : List ℕ). K t c₁.at (stand c₁.first)) a.tree ∙ sym (then_next (J c.tree.now c.at (stand c.first)) (K c.tree.now) c₁.at (stand c₁.first) (sym a.answer));
}

pub stop : {J : List ℕ → ℕ → ℕ → Passed} (K : List ℕ → ℕ → ℕ → Passed) {q : Question} {r : Result (Unit {0}) Question} {c c₁ : Checker} →
    r ≡ Err q → Judged (Err q) c c₁ J → Judged r c c₁ (λ t p w. then_judge (J t p w) (K t))
unfolding passed_by
stop {J = J} K {q = q} {c = c} {c₁ = c₁} e a = record {
  tree = a.tree;
  answer = ap (λ (r : Result (Unit {0}) Question). passed_by r c₁) e ∙ sym (then-refused (J c.tree.now c.at (stand c.first)) (K c.tree.now) (number q) (sym a.answer));
}

-- a count, and what follows it
pub count-step : (K : ℕ → List ℕ → ℕ → ℕ → Passed) {n : ℕ} {r : Result (Unit {0}) Question} {c c₁ c₂ : Checker} →
    ReadsCount (Ok n) c c₁ → Judged r c₁ c₂ (K n) → Judged r c c₂ (λ t p w. with_number (judged_number_at t p) (λ n m. K n t m w))
unfolding counted_by
count-step K {n = n} {c = c} {c₁ = c₁} a b = record {
  tree = b.tree ∙ a.tree;
  answer = b.answer ∙ ap (λ (t : List ℕ). K n t c₁.at (stand c₁.first)) a.tree ∙ ap (λ (o : Option BlockQuestion). K n c.tree.now c₁.at (stand o)) a.first
      ∙ sym (with-number (judged_number_at c.tree.now c.at) (λ n m. K n c.tree.now m (stand c.first)) n c₁.at (sym a.answer));
}

pub count-stop : (K : ℕ → List ℕ → ℕ → ℕ → Passed) {q : Question} {r : Result (Unit {0}) Question} {c c₁ : Checker} →
    r ≡ Err q → ReadsCount (Err q) c c₁ → Judged r c c₁ (λ t p w. with_number (judged_number_at t p) (λ n m. K n t m w))
unfolding counted_by passed_by
count-stop K {q = q} {c = c} {c₁ = c₁} e a = record {
  tree = a.tree;
  answer = ap (λ (r : Result (Unit {0}) Question). passed_by r c₁) e ∙ sym (with-unread (judged_number_at c.tree.now c.at) (λ n m. K n c.tree.now m (stand c.first)) (number q) (sym a.answer));
}

-- a note, and what follows it
pub noted : {K : List ℕ → ℕ → ℕ → Passed} {f : ℕ → ℕ} {r : Result (Unit {0}) Question} {c c₁ c₂ : Checker} →
    StandChanged c c₁ f → Judged r c₁ c₂ K → Judged r c c₂ (λ t p w. K t p (f w))
noted {K = K} {f = f} {c = c} {c₁ = c₁} a b = record {
  tree = b.tree ∙ a.tree;
  answer = b.answer ∙ ap (λ (t : List ℕ). K t c₁.at (stand c₁.first)) a.tree ∙ ap (λ (p : ℕ). K c.tree.now p (stand c₁.first)) a.at ∙ ap (K c.tree.now c.at) a.stand;
}

-- nothing is passed over
pub stay : {K : List ℕ → ℕ → ℕ → Passed} {r : Result (Unit {0}) Question} {c c₁ c₂ : Checker} → CheckerWent 0 c c₁ → Judged r c₁ c₂ K → Judged r c c₂ K
stay a b = noted (record { tree = a.tree; at = let h = a.at in omega arith; stand = ap stand a.first }) b

-- the end
pub done : {c : Checker} {u : Unit {0}} → Judged (Ok u) c c (λ t p w. Next p w)
unfolding passed_by
done = record { tree = refl; answer = refl }

-- ---- so many parts

-- how so many parts of one kind are judged: none, and one before the others
pub record Turns (J : ℕ → List ℕ → ℕ → ℕ → Passed) (E : List ℕ → ℕ → ℕ → Passed) : Type 0 where
  pub more : (t : List ℕ) (n p w : ℕ) → p ≤ length t → 0 < n → J n t p w ≡ then_judge (E t p w) (J (n - 1) t)

-- k parts are left of n, of which the checker stood before the first at c₀
pub record Along (J : ℕ → List ℕ → ℕ → ℕ → Passed) (n k : ℕ) (c₀ c : Checker) : Type 0 where
  pub tree : c.tree.now ≡ c₀.tree.now
  pub same : J n c₀.tree.now c₀.at (stand c₀.first) ≡ J k c.tree.now c.at (stand c.first)

pub along-start : (J : ℕ → List ℕ → ℕ → ℕ → Passed) (n k : ℕ) (c : Checker) → k ≡ n → Along J n k c c
along-start J n k c e = record { tree = refl; same = ap (λ (k : ℕ). J k c.tree.now c.at (stand c.first)) (sym e) }

pub along-next : {J : ℕ → List ℕ → ℕ → ℕ → Passed} {E : List ℕ → ℕ → ℕ → Passed} {n k k' : ℕ} {u : Unit {0}} {c₀ c c₁ : Checker} →
    Turns J E → Along J n k c₀ c → Judged (Ok u) c c₁ E → k ≡ k' + 1 → Along J n k' c₀ c₁
unfolding passed_by
along-next {J = J} {k = k} {k' = k'} {c = c} {c₁ = c₁} l a b e = record {
  tree = b.tree ∙ a.tree;
  same = a.same ∙ l.more c.tree.now k c.at (stand c.first) c.inside (omega arith) ∙ then_next _ _ _ _ (sym b.answer)
      ∙ ap (λ (m : ℕ). J m c.tree.now c₁.at (stand c₁.first)) (let z : k - 1 ≡ k' = omega arith in z) ∙ ap (λ (t : List ℕ). J k' t c₁.at (stand c₁.first)) (sym b.tree);
}

pub along-stop : {J : ℕ → List ℕ → ℕ → ℕ → Passed} {E : List ℕ → ℕ → ℕ → Passed} {n k : ℕ} {q : Question} {r : Result (Unit {0}) Question} {c₀ c c₁ : Checker} →
    Turns J E → r ≡ Err q → Along J n k c₀ c → Judged (Err q) c c₁ E → 0 < k → Judged r c₀ c₁ (J n)
unfolding passed_by
along-stop {J = J} {k = k} {q = q} {c = c} {c₁ = c₁} l e a b h = record {
  tree = b.tree ∙ a.tree;
  answer = ap (λ (r : Result (Unit {0}) Question). passed_by r c₁) e
      ∙ sym (a.same ∙ l.more c.tree.now k c.at (stand c.first) c.inside h ∙ then-refused _ _ (number q) (sym b.answer));
}

pub along-end : {J : ℕ → List ℕ → ℕ → ℕ → Passed} {n k : ℕ} {r : Result (Unit {0}) Question} {c₀ c c₁ : Checker} → Along J n k c₀ c → Judged r c c₁ (J k) → Judged r c₀ c₁ (J n)
along-end a b = record { tree = b.tree ∙ a.tree; answer = b.answer ∙ sym a.same }

-- ---- notes

-- a question's place is where it stands
past : {k q r : ℕ} {qs : List ℕ} → eqb q k ≡ false → Placed k qs r → Placed k (q ∷ qs) (suc r)
past {k = k} {q = q} e p = later (eqb-false q k e) p

pub placed-at : (q : BlockQuestion) → Placed (number_asked q) block_questions (question_place q)
unfolding number_asked question_place block_questions
placed-at Names = here
placed-at IteratorNames = past refl here
placed-at Strings = past refl (past refl here)
placed-at Loops = past refl (past refl (past refl here))
placed-at Targets = past refl (past refl (past refl (past refl here)))
placed-at EmptyTargets = past refl (past refl (past refl (past refl (past refl here))))
placed-at Parameters = past refl (past refl (past refl (past refl (past refl (past refl here)))))
placed-at Init = past refl (past refl (past refl (past refl (past refl (past refl (past refl here))))))
placed-at ListLengths = past refl (past refl (past refl (past refl (past refl (past refl (past refl (past refl here)))))))

pub answered-yes : (q : BlockQuestion) (ok : Bool) (w : ℕ) → ok ≡ true → w ≡ answered q ok w
answered-yes q ok w e = noted-yes w (number_asked q) ok e

pub answered-low : (q : BlockQuestion) (ok : Bool) (w : ℕ) → ok ≡ false → w ≤ question_place q → w ≡ answered q ok w
answered-low q ok w e h = noted-low w (number_asked q) (question_place q) ok (placed-at q) e h

pub answered-no : (q : BlockQuestion) (ok : Bool) (w : ℕ) → ok ≡ false → question_place q < w → question_place q ≡ answered q ok w
answered-no q ok w e h = noted-no w (number_asked q) (question_place q) ok (placed-at q) e (omega arith)

-- ---- eight bytes, counts, operators

pub eight-stop : {q : Question} {r : Result (Unit {0}) Question} {c c₁ : Checker} → r ≡ Err q → CheckerShort 8 c c₁ q → Judged r c c₁ (judged unasked (field 8))
unfolding passed_by number
eight-stop {c = c} {c₁ = c₁} e a = record {
  tree = a.tree;
  answer = ap (λ (r : Result (Unit {0}) Question). passed_by r c₁) (e ∙ ap Err a.layout) ∙ sym (eight-short c.tree.now c.at (stand c.first) (let h = a.short in let i = c.inside in omega arith));
}

pub eight-step : {u : Unit {0}} {c c₁ : Checker} → CheckerWent 8 c c₁ → Judged (Ok u) c c₁ (judged unasked (field 8))
unfolding passed_by
eight-step {c = c} {c₁ = c₁} a = record {
  tree = a.tree;
  answer = rw (a.at, a.first) (sym (eight-long c.tree.now c.at (stand c.first) (let h = a.room in omega arith)));
}

pub counts-stop : {q : Question} {r : Result ℕ Question} {c c₁ : Checker} → r ≡ Err q → CheckerShort 2 c c₁ q → ReadsCount r c c₁
unfolding counted_by number
counts-stop {c = c} {c₁ = c₁} e a = record {
  tree = a.tree;
  first = a.first;
  answer = ap (λ (r : Result ℕ Question). counted_by r c₁) (e ∙ ap Err a.layout) ∙ sym (number_short c.tree.now c.at (let h = a.short in let i = c.inside in omega arith));
}

pub counts-step : {n : ℕ} {c c₁ : Checker} → CheckerWent 2 c c₁ → n ≡ count_at c₁.tree.now c.at → ReadsCount (Ok n) c c₁
unfolding counted_by count_at
counts-step {c = c} {c₁ = c₁} a e = record {
  tree = a.tree;
  first = a.first;
  answer = rw (e, a.at, a.tree) (sym (number-long c.tree.now c.at (let h = a.room in omega arith)));
}

module _ (n : ℕ) {b : Bool} (c : Checker) (e : b ≡ operator_at n c.tree.now c.at) where
  pub operator-off : b ≡ false → Judged (Err TreeLayout) c c (judge_operator n)
  unfolding passed_by number judge_operator
  operator-off h = record { tree = refl; answer = guard-no b _ (Next (c.at + 1) (stand c.first)) e h }

  pub operator-on : {u : Unit {0}} {c₁ : Checker} → b ≡ true → c₁.tree.now ≡ c.tree.now → c₁.at ≡ c.at + 1 → c₁.first ≡ c.first → Judged (Ok u) c c₁ (judge_operator n)
  unfolding passed_by judge_operator
  operator-on h k i j = record { tree = k; answer = guard-yes b _ (Next (c.at + 1) (stand c.first)) _ e h (rw (i, j) refl) }

  pub operator-inside : b ≡ true → c.at < length c.tree.now
  operator-inside h = ⊎_elim
      (λ (k : length c.tree.now ≤ c.at). absurd (true≢false (sym h ∙ e ∙ sym (operator-end n c.tree.now c.at k))))
      (λ (k : c.at < length c.tree.now). k)
      (le-or-gt (length c.tree.now) c.at)

pub name-stop : {q : Question} {r : Result (Unit {0}) Question} {c c₁ : Checker} → r ≡ Err q → ReadsByte (Err q) c c₁ → Judged r c c₁ judge_name
unfolding passed_by number ReadsByte
name-stop {c = c} {c₁ = c₁} e a = record {
  tree = a.tree;
  answer = ap (λ (r : Result (Unit {0}) Question). passed_by r c₁) (e ∙ ap Err a.layout) ∙ sym (name-at-none c.tree.now c.at (stand c.first) (let h = a.short in omega arith));
}

pub name-cut : {q : Question} {n : ℕ} {r : Result (Unit {0}) Question} {c c₁ c₂ : Checker} → r ≡ Err q → ReadsByte (Ok n) c c₁ → CheckerShort n c₁ c₂ q → Judged r c c₂ judge_name
unfolding passed_by number ReadsByte
name-cut {n = n} {c = c} {c₁ = c₁} {c₂ = c₂} e a b = record {
  tree = b.tree ∙ a.0.tree;
  answer = ap (λ (r : Result (Unit {0}) Question). passed_by r c₂) (e ∙ ap Err b.layout)
      ∙ sym (name-at-short c.tree.now c.at (stand c.first) (let h = a.0.room in omega arith)
      (let x = a.1 in let y = b.short in let z = a.0.at in let l = ap length a.0.tree in let h = a.0.room in omega arith));
}

pub name-step : {n : ℕ} {u : Unit {0}} {x : Name} {a b : Bool} {c c₁ c₂ c₃ c₄ : Checker} → ReadsByte (Ok n) c c₁ → CheckerWent n c₁ c₂ → x ≡ take n (drop c₁.at c₁.tree.now) →
    a ≡ is_iterator x → StandChanged c₂ c₃ (answered IteratorNames (not a)) → b ≡ is_name x → StandChanged c₃ c₄ (answered Names b) → Judged (Ok u) c c₄ judge_name
unfolding passed_by ReadsByte number_asked
name-step {n = n} {x = x} {a = a} {b = b} {c = c} {c₁ = c₁} {c₂ = c₂} {c₃ = c₃} {c₄ = c₄} h g e i s o v =
    let part : x ≡ take (c.at + 1 + n - (c.at + 1)) (drop (c.at + 1) c.tree.now) =
    e ∙ ap (λ (k : ℕ). take n (drop k c₁.tree.now)) h.0.at ∙ ap (λ (t : List ℕ). take n (drop (c.at + 1) t)) h.0.tree ∙ ap (λ (k : ℕ). take k (drop (c.at + 1) c.tree.now)) (omega arith) in
    let len = ap length h.0.tree in let z = h.0.at in
    record {
      tree = v.tree ∙ s.tree ∙ g.tree ∙ h.0.tree;
      answer = ap (λ (p : ℕ). Next p (stand c₄.first)) (v.at ∙ s.at ∙ g.at ∙ ap (λ (k : ℕ). k + n) h.0.at)
          ∙ name-whole c.tree.now c.at (stand c.first) (stand c₃.first) (stand c₄.first) n a b (let y = h.0.room in omega arith) (sym h.1) (let y = g.room in omega arith)
          (i ∙ ap is_iterator part) (o ∙ ap is_name part)
          (s.stand ∙ ap (λ (f : Option BlockQuestion). answered IteratorNames (not a) (stand f)) (g.first ∙ h.0.first)) v.stand;
    }

pub string-stop : {q : Question} {r : Result (Unit {0}) Question} {c c₁ : Checker} → r ≡ Err q → ReadsCount (Err q) c c₁ → Judged r c c₁ (judged ask_text text)
unfolding passed_by counted_by
string-stop {q = q} {c = c} {c₁ = c₁} e a = record {
  tree = a.tree;
  answer = ap (λ (r : Result (Unit {0}) Question). passed_by r c₁) e ∙ sym (text-unread c.tree.now c.at (number q) (stand c.first) c.inside (sym a.answer));
}

pub string-cut : {q : Question} {n : ℕ} {r : Result (Unit {0}) Question} {c c₁ c₂ : Checker} → r ≡ Err q → ReadsCount (Ok n) c c₁ → CheckerShort n c₁ c₂ q → Judged r c c₂ (judged ask_text text)
unfolding passed_by counted_by number
string-cut {n = n} {c = c} {c₁ = c₁} {c₂ = c₂} e a b = record {
  tree = b.tree ∙ a.tree;
  answer = ap (λ (r : Result (Unit {0}) Question). passed_by r c₂) (e ∙ ap Err b.layout)
      ∙ sym (text-short c.tree.now c.at n c₁.at (stand c.first) c.inside (sym a.answer) (let y = b.short in let l = ap length a.tree in let i = c₁.inside in omega arith));
}

pub string-step : {n : ℕ} {u : Unit {0}} {x : List ℕ} {b : Bool} {c c₁ c₂ c₃ : Checker} → ReadsCount (Ok n) c c₁ → CheckerWent n c₁ c₂ → x ≡ take n (drop c₁.at c₁.tree.now) →
    b ≡ is_utf8 x → StandChanged c₂ c₃ (answered Strings b) → Judged (Ok u) c c₃ (judged ask_text text)
unfolding passed_by counted_by number_asked
string-step {n = n} {x = x} {b = b} {c = c} {c₁ = c₁} {c₂ = c₂} {c₃ = c₃} a g e i s =
    let part : x ≡ take (c₁.at + n - c₁.at) (drop c₁.at c.tree.now) = e ∙ ap (λ (t : List ℕ). take n (drop c₁.at t)) a.tree ∙ ap (λ (k : ℕ). take k (drop c₁.at c.tree.now)) (omega arith) in
    let len = ap length a.tree in
    record {
      tree = s.tree ∙ g.tree ∙ a.tree;
      answer = ap (λ (p : ℕ). Next p (stand c₃.first)) (s.at ∙ g.at)
          ∙ text-whole c.tree.now c.at n c₁.at (stand c.first) (stand c₃.first) b (s.stand ∙ ap (λ (f : Option BlockQuestion). answered Strings b (stand f)) (g.first ∙ a.first))
          c.inside (sym a.answer) (let y = c₁.inside in omega arith) (let y = g.room in omega arith) (i ∙ ap is_utf8 part);
    }

-- ---- parameters

pub params-stop : {q : Question} {r : Result (Unit {0}) Question} {c c₁ : Checker} → r ≡ Err q → ReadsCount (Err q) c c₁ → Judged r c c₁ judge_params
unfolding passed_by counted_by
params-stop {q = q} {c = c} {c₁ = c₁} e a = record {
  tree = a.tree;
  answer = ap (λ (r : Result (Unit {0}) Question). passed_by r c₁) e ∙ sym (params-law c.tree.now c.at (stand c.first) c.inside ∙ with-unread _ _ (number q) (sym a.answer));
}

names-at : (c c₁ : Checker) (n : ℕ) → c₁.tree.now ≡ c.tree.now → c₁.first ≡ c.first → judge_names c₁.tree.now n c₁.at (stand c₁.first) ≡ judge_names c.tree.now n c₁.at (stand c.first)
names-at c c₁ n e f = rw (e, f)

pub params-cut : {q : Question} {n : ℕ} {r : Result (Unit {0}) Question} {c c₁ c₂ : Checker} → r ≡ Err q → ReadsCount (Ok n) c c₁ → Judged (Err q) c₁ c₂ (λ t p w. judge_names t n p w) → Judged r c c₂ judge_params
unfolding passed_by counted_by
params-cut {q = q} {n = n} {c = c} {c₁ = c₁} {c₂ = c₂} e a b = record {
  tree = b.tree ∙ a.tree;
  answer = ap (λ (r : Result (Unit {0}) Question). passed_by r c₂) e ∙ sym (params-law c.tree.now c.at (stand c.first) c.inside ∙ with-number _ _ n c₁.at (sym a.answer)
      ∙ then-refused _ _ (number q) (sym (b.answer ∙ names-at c c₁ n a.tree a.first)));
}

pub params-step : {n : ℕ} {u v : Unit {0}} {b : Bool} {c c₁ c₂ c₃ c₄ : Checker} → ReadsCount (Ok n) c c₁ → Judged (Ok u) c₁ c₂ (λ t p w. judge_names t n p w) →
    b ≡ distinct (names_from c₂.tree.now n c₁.at) → StandChanged c₂ c₃ (answered Parameters b) → StandChanged c₃ c₄ (answered ListLengths (leb n 255)) → Judged (Ok v) c c₄ judge_params
unfolding passed_by counted_by number_asked
params-step {n = n} {b = b} {c = c} {c₁ = c₁} {c₂ = c₂} {c₃ = c₃} {c₄ = c₄} a g d s v = record {
  tree = v.tree ∙ s.tree ∙ g.tree ∙ a.tree;
  answer = ap (λ (p : ℕ). Next p (stand c₄.first)) (v.at ∙ s.at)
      ∙ params-close c.tree.now n c₁.at c₂.at (stand c₂.first) b (stand c₃.first) (stand c₄.first) (d ∙ ap (λ (t : List ℕ). distinct (names_from t n c₁.at)) (g.tree ∙ a.tree)) s.stand v.stand
      ∙ sym (params-law c.tree.now c.at (stand c.first) c.inside ∙ with-number _ _ n c₁.at (sym a.answer) ∙ then_next _ _ _ _ (sym (g.answer ∙ names-at c c₁ n a.tree a.first)));
}

pub names-there-at : (n : ℕ) {u : Unit {0}} {c c₁ : Checker} → Judged (Ok u) c c₁ (λ t p w. judge_names t n p w) → AllThere c₁.tree.now n c.at
unfolding passed_by
names-there-at n {c = c} {c₁ = c₁} a = rw a.tree (names-there c.tree.now n c.at (stand c.first) _ _ (sym a.answer))

pub names-turns : Turns (λ n t p w. judge_names t n p w) judge_name
names-turns = record { more = names_more }

pub names-end : (n : ℕ) (c : Checker) {u : Unit {0}} → n ≤ 0 → Judged (Ok u) c c (λ t p w. judge_names t n p w)
unfolding passed_by
names-end n c h = record { tree = refl; answer = sym (names-none c.tree.now n c.at (stand c.first) c.inside h) }

-- ---- a method's head

-- a parameter list that passes is counted
counted-list : (t : List ℕ) (p w m v : ℕ) → p ≤ length t → judge_params t p w ≡ Next m v → 2 ≤ length t - p
counted-list t p w m v h e = ⊎_elim
    (λ (g : 2 ≤ length t - p). g)
    (λ (g : length t - p < 2). let x = sym e ∙ params-law t p w h ∙ with-unread _ _ 5 (number_short t p g) in let z : ◌≡◌ {A = ℕ} 0 1 = cc in absurd (omega arith))
    (le-or-gt 2 (length t - p))

pub head-there : {u : Unit {0}} {c c₁ : Checker} (t : List ℕ) → t ≡ c.tree.now → Judged (Ok u) c c₁ judge_name → There t c.at
unfolding passed_by
head-there {c = c} t e a = rw e (name-at-is c.tree.now c.at (stand c.first) _ _ (sym a.answer))

pub head-counted : {u : Unit {0}} {c c₁ : Checker} (t : List ℕ) → t ≡ c.tree.now → Judged (Ok u) c c₁ judge_params → CountThere t c.at
unfolding passed_by
head-counted {c = c} t e a = rw e (record { bytes = let h = counted-list c.tree.now c.at (stand c.first) _ _ c.inside (sym a.answer) in omega arith })

pub head-stop : {q : Question} {r : Result (Unit {0}) Question} {c c₁ : Checker} → r ≡ Err q → Judged (Err q) c c₁ judge_name → Judged r c c₁ judge_head
unfolding passed_by judge_head
head-stop {q = q} {c = c} {c₁ = c₁} e a = record {
  tree = a.tree;
  answer = ap (λ (r : Result (Unit {0}) Question). passed_by r c₁) e ∙ sym (then-refused _ _ (number q) (sym a.answer));
}

pub head-cut : {q : Question} {u : Unit {0}} {r : Result (Unit {0}) Question} {c c₁ c₂ : Checker} → r ≡ Err q → Judged (Ok u) c c₁ judge_name → Judged (Err q) c₁ c₂ judge_params → Judged r c c₂ judge_head
unfolding passed_by judge_head
head-cut {q = q} {c = c} {c₁ = c₁} {c₂ = c₂} e a g = record {
  tree = g.tree ∙ a.tree;
  answer = ap (λ (r : Result (Unit {0}) Question). passed_by r c₂) e ∙ sym (then_next _ _ _ _ (sym a.answer)
      ∙ then-refused _ _ (number q) (sym (g.answer ∙ ap (λ (t : List ℕ). judge_params t c₁.at (stand c₁.first)) a.tree)));
}

pub head-step : {u v y : Unit {0}} {n : ℕ} {b : Bool} {x : Name} {c c₁ c₂ c₃ : Checker} → Judged (Ok u) c c₁ judge_name → Judged (Ok v) c₁ c₂ judge_params →
    x ≡ name_from c₂.tree.now c.at → n ≡ count_at c₂.tree.now c₁.at → b ≡ (not (same x init) || ltb 0 n) → StandChanged c₂ c₃ (answered Init b) → Judged (Ok y) c c₃ judge_head
unfolding passed_by judge_head number_asked count_at
head-step {n = n} {b = b} {x = x} {c = c} {c₁ = c₁} {c₂ = c₂} {c₃ = c₃} a g e f i s =
    let t : c₂.tree.now ≡ c.tree.now = g.tree ∙ a.tree in
    let long = number-long c₁.tree.now c₁.at (counted-list c₁.tree.now c₁.at (stand c₁.first) _ _ c₁.inside (sym g.answer)) in
    let num : judged_number_at c.tree.now c₁.at ≡ Is n (c₁.at + 2) =
    ap (λ (t : List ℕ). judged_number_at t c₁.at) (sym a.tree) ∙ long ∙ ap (λ (k : ℕ). Is k (c₁.at + 2)) (sym (f ∙ ap (λ (t : List ℕ). get_or t c₁.at 0 * 256 + get_or t (c₁.at + 1) 0) g.tree)) in
    record {
      tree = s.tree ∙ t;
      answer = ap (λ (p : ℕ). Next p (stand c₃.first)) s.at
          ∙ head-close c.tree.now c.at c₂.at (stand c₂.first) (stand c₃.first) n b x s.stand i (e ∙ ap (λ (t : List ℕ). name_from t c.at) t)
          ∙ sym (then_next _ _ _ _ (sym a.answer) ∙ then_next _ _ _ _ (sym (g.answer ∙ ap (λ (t : List ℕ). judge_params t c₁.at (stand c₁.first)) a.tree)) ∙ with-number _ _ n (c₁.at + 2) num);
    }

pub suits-step : (r : Role) (k : ℕ) {b : Bool} {c c₁ : Checker} → b ≡ fits_role r k → StandChanged c c₁ (answered Targets b) → StandChanged c c₁ (suited r k)
unfolding suited number_asked
suits-step r k {c = c} e s = record {
  tree = s.tree;
  at = s.at;
  stand = s.stand ∙ ap (λ (b : Bool). least (stand c.first) (λ q. if_asked 10 q b)) e;
}

pub fills-step : (r : Role) (n : ℕ) {b : Bool} {c c₁ : Checker} → b ≡ tuple_fits_role r n → StandChanged c c₁ (answered EmptyTargets b) → StandChanged c c₁ (filled r n)
unfolding filled number_asked
fills-step r n {c = c} e s = record {
  tree = s.tree;
  at = s.at;
  stand = s.stand ∙ ap (λ (b : Bool). least (stand c.first) (λ q. if_asked 36 q b)) e;
}

-- ---- the answer of a block

pub place-known : (q : BlockQuestion) → (question_place q < 9) × (get_elem? block_questions (question_place q) ≡ some (number_asked q))
unfolding question_place number_asked block_questions
place-known Names = (omega arith, refl)
place-known IteratorNames = (omega arith, refl)
place-known Strings = (omega arith, refl)
place-known Loops = (omega arith, refl)
place-known Targets = (omega arith, refl)
place-known EmptyTargets = (omega arith, refl)
place-known Parameters = (omega arith, refl)
place-known Init = (omega arith, refl)
place-known ListLengths = (omega arith, refl)

pub settle-over : (c : Checker) → c.at < length c.tree.now → SettlesAtEnd (Err TreeLayout) c
unfolding SettlesAtEnd
settle-over c h = inl (h, refl)

pub settle-rules : (c : Checker) (r : Result (Unit {0}) Question) → length c.tree.now ≤ c.at → Rules r c → SettlesAtEnd r c
unfolding SettlesAtEnd
settle-rules c (Ok u) h g = (h, g)
settle-rules c (Err q) h g = inr (h, g)

pub rules-yes : (c : Checker) (u : Unit {0}) → c.first ≡ None → Rules (Ok u) c
unfolding Rules stand
rules-yes c u e = ap stand e

pub rules-no : (c : Checker) (q : BlockQuestion) (a : Question) → c.first ≡ Some q → number a ≡ number_asked q → Rules (Err a) c
unfolding Rules stand
rules-no c q a e f =
    let k = place-known q in let z : stand c.first ≡ question_place q = ap stand e in
    (rw z k.0, ap (get_elem? block_questions) z ∙ k.1 ∙ ap some (sym f))

-- ---- a test, and what follows it

operator-then : (b : Bool) (p w : ℕ) (f : ℕ → ℕ → Passed) → then_judge (guarded b (Next p w)) f ≡ guarded b (f p w)
unfolding then_judge guarded
operator-then true p w f = refl
operator-then false p w f = refl

pub guard-step : {K : List ℕ → ℕ → ℕ → Passed} (n : ℕ) {u : Unit {0}} {r : Result (Unit {0}) Question} {c c₁ c₂ : Checker} →
    Judged (Ok u) c c₁ (judge_operator n) → Judged r c₁ c₂ K → Judged r c c₂ (λ t p w. guarded (operator_at n t p) (K t (p + 1) w))
unfolding judge_operator
guard-step {K = K} n {c = c} {c₁ = c₁} a b = let s = step a b in record {
  tree = s.tree;
  answer = s.answer ∙ operator-then (operator_at n c.tree.now c.at) (c.at + 1) (stand c.first) (K c.tree.now);
}

pub guard-stop : (K : List ℕ → ℕ → ℕ → Passed) (n : ℕ) {q : Question} {r : Result (Unit {0}) Question} {c c₁ : Checker} →
    r ≡ Err q → Judged (Err q) c c₁ (judge_operator n) → Judged r c c₁ (λ t p w. guarded (operator_at n t p) (K t (p + 1) w))
unfolding judge_operator
guard-stop K n {c = c} e a = let s = stop K e a in record {
  tree = s.tree;
  answer = s.answer ∙ operator-then (operator_at n c.tree.now c.at) (c.at + 1) (stand c.first) (K c.tree.now);
}
