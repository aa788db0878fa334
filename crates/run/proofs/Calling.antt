-- The run's call, by its cases. Assumes nothing.
use Prim.Native.Nat.{ℕ, ◌+◌, ◌-◌, ◌<◌, ◌≤◌}
use mathlib.Core.Path.{◌≡◌, refl, sym, ap, ap₂, ◌∙◌, subst}
use mathlib.Core.Bool.{Bool, true, false, ◌&&◌}
use mathlib.Core.List.{List, [], ◌∷◌, ◌++◌, append-nil}
use native.Mathlib.Omega.{arith}
use lib.Dec.{leb}
use lib.ListN.{length, take, drop, get_or, length-take, length-drop, get_or-eq_default}
use lib.Seq.{length-take-le, get_or-drop, get_or-take}
use borrow.Author.Tests.{le-leb, lt-leb, leb-true, leb-false}
use Rattle.std.proofs.Common.{Option, Some, None, Result, Ok, Err}
use Rattle.std.specs.List.{list_all}
use Rattle.std.specs.Option.{ok_or}
use Rattle.std.proofs.lemmas.List.Recursion.{same_from_clauses}
use Rattle.questions.specs.declared.Question.{Question}
use Rattle.questions.specs.declared.Question.TheVariants.{Answers, EventRoom}
use Rattle.questions.specs.Numbers.{number}
use Rattle.run.specs.declared.Ran.{Ran as RanSo}
use Rattle.definitions.specs.Bytes.{Parsed, got, counted, all, Answer, refused, accepted, when_accepted}
use Rattle.definitions.specs.Instruction.{Instr}
use Rattle.definitions.specs.Tables.{Tables}
use Rattle.definitions.specs.Reader.{instruction, read_module, ends_in_return, jumps_land}
use Rattle.definitions.specs.Run.{Ran, ended, run}
use Rattle.definitions.specs.Calls.{Counts, function_of, are_answers, events_fit, run_function, run_answer, ran_counts, ran_call, run_call, output_after, written}
use Rattle.reader.specs.View.{Got, function_in_module, CodeAt, instructions_of}
use Rattle.reader.proofs.Encoding.{Small}
use Rattle.reader.proofs.Iterated.{code-is, reads-code, bytes-are}
use Rattle.run.specs.declared.course.Stand.{Stand}
use Rattle.run.specs.Tables.{Coded}
use Rattle.run.specs.Pass.{run_ending_number, counts, ran_said, Called, Finishing, RunPasses, start, stood}
use Rattle.run.proofs.Storing.{copied-written}
use Rattle.definitions.proofs.ReadFits.{module-short}
use Rattle.definitions.proofs.Begins.{Rest, takes-counted, takes-instruction}
use Rattle.reader.proofs.Finding.{when-refused, when-accepted}

-- ---- question 23

pub answers_listed : (xs : List ℕ) → list_all (λ x. leb x 1) xs ≡ are_answers xs
unfolding are_answers all
answers_listed = same_from_clauses (list_all (λ x. leb x 1)) are_answers (λ x b. leb x 1 && b) refl (λ x xs. refl) (λ x xs. refl)

-- ---- what the answer says

pub says-refused : (o : Result RanSo Question) (q : ℕ) → ran_said o ≡ refused q → (p : Question) × (o ≡ Err p) × (number p ≡ q)
unfolding ran_said
says-refused (Err p) q e = (p, refl, cc)
says-refused (Ok r) q f = let z : ◌≡◌ {A = ℕ} 0 1 = cc in absurd (omega arith)

pub says-finished : (o : Result RanSo Question) (n : Counts) → ran_said o ≡ accepted n → (r : RanSo) × (o ≡ Ok r) × (counts r ≡ n)
unfolding ran_said
says-finished (Err p) n e = let z : ◌≡◌ {A = ℕ} 0 1 = cc in absurd (omega arith)
says-finished (Ok r) n f = (r, refl, cc)

-- ---- measured, then written

fitted : (before : List ℕ) (v : Ran) (b : Bool) → leb (length v.events) (length before) ≡ b → events_fit (length before) v ≡ (elim b as (λ z. Answer Ran) [ true ↦ accepted v | false ↦ refused 24 ])
unfolding events_fit
fitted before v b k = ap (λ (x : Bool). (elim x as (λ z. Answer Ran) [ true ↦ accepted v | false ↦ refused 24 ])) k

called : (a : Answer Ran) (want : Answer Ran) (before : List ℕ) (r : Result RanSo Question) (left : List ℕ) → want ≡ a → Called r (ran_call a before) left → Called r (ran_call want before) left
called a want before r left e c = subst (λ (x : Answer Ran). Called r (ran_call x before) left) (sym e) c

refuses : (q : Question) (want : Answer Ran) (before left : List ℕ) → want ≡ refused (number q) → left ≡ before → Called (Err q) (ran_call want before) left
unfolding ran_call ran_said when_accepted output_after
refuses q want before left e f = called (refused (number q)) want before (Err q) left e (record { says = refl; leaves = f })

pub measured-full : (r : Option RanSo) (v : Ran) (room : ℕ) (before left : List ℕ) → RunPasses r v room before left → r ≡ None → room < length v.events
unfolding RunPasses
measured-full r v room before left h e = subst (λ (x : Option RanSo). RunPasses x v room before left) e h

pub full-called : (v : Ran) (before left : List ℕ) → length before < length v.events → left ≡ before → Called (Err EventRoom) (ran_call (events_fit (length before) v) before) left
unfolding number
full-called v before left l e = refuses EventRoom (events_fit (length before) v) before left (fitted before v false (lt-leb (length v.events) (length before) l)) e

-- the numbers of a pass that ended
ending-is : (v : Ran) (e room : ℕ) (u : Stand) (before left : List ℕ) (g : Finishing v e room start u before left) →
    (v.ending ≡ e) × (v.steps ≡ u.steps) × (v.used ≡ u.used) × (v.events ≡ g.leads.events) × (length v.events ≡ u.written)
unfolding ended
ending-is v e room u before left g =
    let i = g.leads.is in let w = g.leads.written in
    let ev : v.events ≡ g.leads.events = ap (λ (x : Ran). x.events) i ∙ append-nil g.leads.events in
    let l = ap length ev in (
      ap (λ (x : Ran). x.ending) i,
      ap (λ (x : Ran). x.steps) i ∙ (let z : u.steps - 0 + 0 ≡ u.steps = omega arith in z),
      ap (λ (x : Ran). x.used) i ∙ (let z : u.used - 0 + 0 ≡ u.used = omega arith in z),
      ev,
      omega arith,
    )

pub measured-fits : (r : Option RanSo) (v : Ran) (room : ℕ) (before left : List ℕ) (u : RanSo) → RunPasses r v room before left → r ≡ Some u → length v.events ≤ room
unfolding RunPasses
measured-fits r v room before left u h k =
    let g : Finishing v (run_ending_number u.ending) room start (stood u) before left = subst (λ (x : Option RanSo). RunPasses x v room before left) k h in
    let w = (ending-is v (run_ending_number u.ending) room (stood u) before left g).4 in let f = g.fits in omega arith

pub ended-called : (r : Option RanSo) (v : Ran) (before mid left : List ℕ) (u : RanSo) → mid ≡ before → RunPasses r v (length before) mid left → r ≡ Some u
    → Called (Ok u) (ran_call (events_fit (length before) v) before) left
unfolding RunPasses ran_call ran_said when_accepted ran_counts output_after
ended-called r v before mid left u m h k =
    let e = run_ending_number u.ending in
    let g : Finishing v e (length before) start (stood u) before left = subst (λ (x : List ℕ). Finishing v e (length before) start (stood u) x left) m (subst (λ (x : Option RanSo). RunPasses x v (length before) mid left) k h) in
    let n = ending-is v e (length before) (stood u) before left g in
    let f = g.fits in let w = n.4 in let l = ap length n.3 in
    called (accepted v) (events_fit (length before) v) before (Ok u) left (fitted before v true (le-leb (length v.events) (length before) (omega arith)))
    (record {
      says = (let e1 = sym n.0 in let e2 = sym n.1 in let e3 = sym n.2 in let e4 = sym n.4 in λ z. accepted (record { ending = e1 z; steps = e2 z; used = e3 z; bytes = e4 z }));
      leaves = copied-written before left g.leads.events g.leads.copied (omega arith) ∙ ap (λ (xs : List ℕ). written xs before) (sym n.3);
    })

-- the run of both passes, the first of which ended
pub twice : (r₁ r : Option RanSo) (u : RanSo) (v : Ran) (before start left₁ mid left : List ℕ) → r₁ ≡ Some u → RunPasses r₁ v (length before) start left₁ → mid ≡ before → RunPasses r v (length before) mid left
    → Called (ok_or r EventRoom) (ran_call (events_fit (length before) v) before) left
twice r₁ None u v before start left₁ mid left e h m k = let f = measured-fits r₁ v (length before) start left₁ u h e in let g = measured-full None v (length before) mid left k refl in absurd (omega arith)
twice r₁ (Some w) u v before start left₁ mid left e h m k = ended-called (Some w) v before mid left w m k refl

-- ---- the code as a part of the module

-- a part's elements are bytes
small-part : (t : List ℕ) (p s : ℕ) → Small t → Small (take s (drop p t))
small-part t p s small i = go (leb s i) refl
  where
    go : (b : Bool) → leb s i ≡ b → get_or (take s (drop p t)) i 0 < 256
    go true e = let l = leb-true s i e in let m = length-take s (drop p t) in
        subst (λ (x : ℕ). x < 256) (sym (get_or-eq_default (take s (drop p t)) 0 (let z : length (take s (drop p t)) ≤ i = omega arith in z))) (omega arith)
    go false e = subst (λ (x : ℕ). x < 256) (sym (get_or-take s (drop p t) i 0 (leb-false s i e) ∙ get_or-drop p t i 0)) (small (p + i))

-- n instructions that are read from p on, in s bytes
module _ (t : List ℕ) (p s n : ℕ) (is : List Instr) (r : Got (counted [] ◌∷◌ instruction n) t p is (p + s)) (part : List ℕ) (e : part ≡ take s (drop p t)) where
  part_length : length part ≡ s
  part_length = let b = r.to in let l = length-drop p t in ap length e ∙ length-take-le s (drop p t) (omega arith)

  part-reads : counted [] ◌∷◌ instruction n part ≡ got is []
  part-reads =
      let b = r.to in
      let w = subst (λ (x : Parsed (List Instr)). Rest (counted [] ◌∷◌ instruction n) (drop p t) x) r.is ((takes-counted [] ◌∷◌ instruction takes-instruction n).rest (drop p t)) in
      let l = length-drop p t in
      let x = ap length w.2 in let y = length-drop w.0 (drop p t) in let u = length-drop (p + s) t in let z = w.1 in
      let k : w.0 ≡ s = omega arith in
      ap (counted [] ◌∷◌ instruction n) (e ∙ ap (λ (j : ℕ). take j (drop p t)) (sym k) ∙ sym (append-nil (take w.0 (drop p t)))) ∙ w.3 []

  pub part-instructions : instructions_of part ≡ is
  part-instructions = code-is n part is part-reads

  -- that stand
  pub part-stands : length is ≡ n → ends_in_return is ≡ true → jumps_land n 0 is ≡ true → n < 65536 → length t ≤ 524288 → Small t → Coded part
  part-stands count ends land few short small =
      let many : n ≡ length (instructions_of part) = sym (ap length part-instructions ∙ count) in
      let reads : counted [] ◌∷◌ instruction n part ≡ got (instructions_of part) [] = part-reads ∙ ap (λ (is : List Instr). got is []) (sym part-instructions) in
      record {
        bytes = bytes-are n part (instructions_of part) (subst (λ (bs : List ℕ). Small bs) (sym e) (small-part t p s small)) reads;
        reads = reads-code n part (instructions_of part) reads;
        ends = ap ends_in_return part-instructions ∙ ends;
        land = ap₂ (λ (k : ℕ) (is : List Instr). jumps_land k 0 is) (sym many) part-instructions ∙ land;
        few = subst (λ (k : ℕ). k < 65536) many few;
        short = let a = part_length in let b = r.to in omega arith;
      }

module _ (t : List ℕ) (f p s n : ℕ) (c : CodeAt t f p s n) (part : List ℕ) (e : part ≡ take s (drop p t)) where
  pub part-code : instructions_of part ≡ c.function.code
  part-code = part-instructions t p s n c.function.code c.read part e

  pub part_count : n ≡ length (instructions_of part)
  part_count = sym (ap length part-code ∙ c.count)

  pub part-coded : Small t → Coded part
  part-coded small = part-stands t p s n c.function.code c.read part e c.count c.ends c.land c.few (module-short t c.tables c.module-is) small

-- ---- the call

pub function-known : {t : List ℕ} {f p s n : ℕ} (c : CodeAt t f p s n) → function_in_module t f ≡ accepted c.function
unfolding function_in_module
function-known {t} c = when-accepted (read_module t) _ c.tables c.module-is ∙ c.function-is

module _ (t : List ℕ) (f : ℕ) (answers : List ℕ) (budget : ℕ) (before : List ℕ) where
  by-function : run_answer t f answers budget (length before) ≡ when_accepted (function_in_module t f) (run_function answers budget (length before))
  unfolding run_answer function_in_module when_accepted
  by-function = go (read_module t)
    where
      go : (r : Answer Tables) → when_accepted r (λ x. when_accepted (function_of x f) (run_function answers budget (length before))) ≡ when_accepted (when_accepted r (λ x. function_of x f)) (run_function answers budget (length before))
      go (accepted x) = refl
      go (refused q) = refl

  as-run : (r : Result RanSo Question) (left : List ℕ) → Called r (ran_call (run_answer t f answers budget (length before)) before) left → Called r (run_call t f answers budget before) left
  unfolding run_call
  as-run r left c = c

  pub call-refused : (q : Question) → function_in_module t f ≡ refused (number q) → Called (Err q) (run_call t f answers budget before) before
  call-refused q e = as-run (Err q) before (refuses q (run_answer t f answers budget (length before)) before before (by-function ∙ when-refused (function_in_module t f) _ (number q) e) refl)

  module _ (p s n : ℕ) (c : CodeAt t f p s n) where
    asked : (b : Bool) → are_answers answers ≡ b → run_answer t f answers budget (length before) ≡ (elim b as (λ z. Answer Ran) [ false ↦ refused 23 | true ↦ events_fit (length before) (run budget c.function.code 0 answers) ])
    unfolding run_function
    asked b e = by-function ∙ when-accepted (function_in_module t f) _ c.function (function-known c)
        ∙ ap (λ (x : Bool). (elim x as (λ z. Answer Ran) [ false ↦ refused 23 | true ↦ events_fit (length before) (run budget c.function.code 0 answers) ])) e

    pub call-answers : are_answers answers ≡ false → Called (Err Answers) (run_call t f answers budget before) before
    unfolding number
    call-answers e = as-run (Err Answers) before (refuses Answers (run_answer t f answers budget (length before)) before before (asked false e) refl)

    pub call-runs : (part : List ℕ) → part ≡ take s (drop p t) → are_answers answers ≡ true → (r : Result RanSo Question) (left : List ℕ)
        → Called r (ran_call (events_fit (length before) (run budget (instructions_of part) 0 answers)) before) left → Called r (run_call t f answers budget before) left
    call-runs part e a r left k = as-run r left (called (events_fit (length before) (run budget (instructions_of part) 0 answers)) (run_answer t f answers budget (length before)) before r left
        (asked true a ∙ ap (λ (is : List Instr). events_fit (length before) (run budget is 0 answers)) (sym (part-code t f p s n c part e))) k)

-- an empty part that came back
pub nil-front : (zs xs : List ℕ) → length zs ≡ 0 → zs ++ xs ≡ xs
nil-front [] xs e = refl
nil-front (z ∷ zs) xs e = absurd (omega arith)
