-- From where a run stands to where it comes: what lies between, and what is left. Assumes nothing.
use Prim.Native.Nat.{ℕ, zero, suc, ◌+◌, ◌-◌, ◌<◌, ◌≤◌}
use mathlib.Core.Path.{◌≡◌, refl, sym, ap, ap₂, ◌∙◌}
use mathlib.Core.List.{List, [], ◌++◌}
use native.Mathlib.Omega.{arith}
use lib.ListN.{length, take, drop, get_or, length-append}
use lib.Seq.{drop-cons}
use Rattle.definitions.specs.Bytes.{concat}
use Rattle.definitions.specs.Instruction.{Instr, Return, encode, encodes}
use Rattle.definitions.specs.Instruction.{Flow, straight}
use Rattle.definitions.specs.Run.{Ran, after, obey, run}
use Rattle.reader.specs.View.{instructions_of}
use Rattle.run.specs.declared.course.Stand.{Stand}
use Rattle.run.specs.Tables.{Coded, flow_at}
use Rattle.run.specs.Pass.{between, Stands, Went, NoFit, run_onward, RunLeads, start}
use Rattle.run.proofs.Coding.{between_is}
use Rattle.run.proofs.Storing.{copied-then, copied_none}
use Rattle.definitions.proofs.Follow.{after_none, after-after}

pub after-as : (a b a' b' : ℕ) (e e' : List ℕ) (r r' : Ran) → a ≡ a' → b ≡ b' → e ≡ e' → r ≡ r' → after a b e r ≡ after a' b' e' r'
after-as a b a' b' e e' r r' p q s t = λ z. after (p z) (q z) (s z) (t z)

-- ---- one lead after another

pub leads-on : (whole middle tail : Ran) (s u v : Stand) (before mid left : List ℕ) → RunLeads whole middle s u before mid → RunLeads middle tail u v mid left → RunLeads whole tail s v before left
leads-on whole middle tail s u v before mid left a b =
    let a1 = a.steps in let a2 = a.used in let a3 = a.written in let b1 = b.steps in let b2 = b.used in let b3 = b.written in
    let l = length-append a.events b.events in
    record {
      events = a.events ++ b.events;
      is = a.is ∙ ap (after (u.steps - s.steps) (u.used - s.used) a.events) b.is
          ∙ after-after (u.steps - s.steps) (u.used - s.used) (v.steps - u.steps) (v.used - u.used) a.events b.events tail
          ∙ after-as (u.steps - s.steps + (v.steps - u.steps)) (u.used - s.used + (v.used - u.used)) (v.steps - s.steps) (v.used - s.used) (a.events ++ b.events) (a.events ++ b.events) tail tail (omega arith) (omega arith) refl refl;
      steps = omega arith;
      used = omega arith;
      written = omega arith;
      copied = copied-then before mid left s.written u.written a.events b.events a.copied a.written b.copied;
    }

pub leads-start : (c answers : List ℕ) (budget : ℕ) (before : List ℕ) → RunLeads (run budget (instructions_of c) 0 answers) (run_onward c answers budget start) start start before before
unfolding run_onward
leads-start c answers budget before = record {
  events = [];
  is = ap (λ (b : ℕ). run b (instructions_of c) 0 answers) (let z : budget ≡ budget - 0 = omega arith in z) ∙ after_none (run (budget - 0) (instructions_of c) 0 answers);
  steps = omega arith;
  used = omega arith;
  written = omega arith;
  copied = copied_none before 0;
}

-- more events than there is room for, further on
pub too_many : (whole tail : Ran) (s u : Stand) (before left : List ℕ) (room : ℕ) → RunLeads whole tail s u before left → room < u.written + length tail.events → room < s.written + length whole.events
too_many whole tail s u before left room a h =
    let v : length whole.events ≡ length a.events + length tail.events = ap (λ (x : Ran). length x.events) a.is ∙ length-append a.events tail.events in
    let w = a.written in omega arith

-- ---- straight on

one-step : (b k : ℕ) (is : List Instr) (answers : List ℕ) → flow_at is k ≡ straight → run (suc b) is k answers ≡ after 1 0 (encode (get_or is k Return)) (run b is (suc k) answers)
unfolding run flow_at obey
one-step b k is answers e = ap (λ (w : Flow). obey w (get_or is k Return) k answers (λ q rest. run b is q rest)) e

pub run-straight : (m b k : ℕ) (is : List Instr) (answers : List ℕ) → k + m ≤ length is → m ≤ b → ((j : ℕ) → k ≤ j → j < k + m → flow_at is j ≡ straight) →
    run b is k answers ≡ after m 0 (encodes (take m (drop k is))) (run (b - m) is (k + m) answers)
unfolding encodes concat
run-straight zero b k is answers l h f =
    after_none (run b is k answers) ∙ ap₂ (λ (x y : ℕ). after 0 0 [] (run x is y answers)) (let z : b ≡ b - 0 = omega arith in z) (let z : k ≡ k + 0 = omega arith in z)
run-straight (suc m) zero k is answers l h f = absurd (omega arith)
run-straight (suc m) (suc b) k is answers l h f =
    one-step b k is answers (f k (omega arith) (omega arith))
    ∙ ap (after 1 0 (encode (get_or is k Return))) (run-straight m b (suc k) is answers (omega arith) (omega arith) (λ j x y. f j (omega arith) (omega arith)))
    ∙ after-after 1 0 m 0 (encode (get_or is k Return)) (encodes (take m (drop (suc k) is))) (run (b - m) is (suc k + m) answers)
    ∙ after-as (1 + m) (0 + 0) (suc m) 0 (encode (get_or is k Return) ++ encodes (take m (drop (suc k) is))) (encodes (take (suc m) (drop k is))) (run (b - m) is (suc k + m) answers) (run (suc b - suc m) is (k + suc m) answers)
    (omega arith) refl
    (ap (λ (js : List Instr). encodes (take (suc m) js)) (sym (drop-cons is k Return (omega arith))))
    (ap₂ (λ (x y : ℕ). run x is y answers) (let z : b - m ≡ suc b - suc m = omega arith in z) (let z : suc k + m ≡ k + suc m = omega arith in z))

module _ (c : List ℕ) (h : Coded c) (answers : List ℕ) (budget room : ℕ) (s : Stand) (st : Stands c budget room s) where
  pub went-leads : (u : Stand) (before left : List ℕ) → Went c budget room s u before left → RunLeads (run_onward c answers budget s) (run_onward c answers budget u) s u before left
  unfolding run_onward
  went-leads u before left w =
      let m = u.place - s.place in
      let f = w.from in let p = w.steps in let q = w.used in let x = w.stands.steps in let y = w.stands.place in
      record {
        events = between c s.place u.place;
        is = run-straight m (budget - s.steps) s.place (instructions_of c) (drop s.used answers) (omega arith) (omega arith) (λ j a b. w.goes j a (omega arith))
            ∙ after-as m 0 (u.steps - s.steps) (u.used - s.used) (encodes (take m (drop s.place (instructions_of c)))) (between c s.place u.place) _ _ (omega arith) (omega arith) (sym (between_is c h s.place u.place f))
            (let e1 : budget - s.steps - m ≡ budget - u.steps = omega arith in let e2 : s.place + m ≡ u.place = omega arith in let e3 : s.used ≡ u.used = sym q in λ z. run (e1 z) (instructions_of c) (e2 z) (drop (e3 z) answers));
        steps = omega arith;
        used = omega arith;
        written = w.written;
        copied = w.copied;
      }

  pub no-fit : NoFit c budget room s → room < s.written + length (run_onward c answers budget s).events
  unfolding run_onward
  no-fit n =
      let m = n.to - s.place in
      let f = n.from in let x = n.within in let y = n.inside in let o = n.over in
      let e = run-straight m (budget - s.steps) s.place (instructions_of c) (drop s.used answers) (omega arith) (omega arith) (λ j a b. n.goes j a (omega arith)) in
      let r = run (budget - s.steps - m) (instructions_of c) (s.place + m) (drop s.used answers) in
      let v : length (run (budget - s.steps) (instructions_of c) s.place (drop s.used answers)).events ≡ length (encodes (take m (drop s.place (instructions_of c)))) + length r.events =
      ap (λ (x : Ran). length x.events) e ∙ length-append (encodes (take m (drop s.place (instructions_of c)))) r.events in
      let w = ap length (between_is c h s.place n.to f) in omega arith
