-- The questions of the call, and what it answers and leaves. Assumes nothing.
use Prim.Native.Nat.{ℕ, ◌+◌, ◌≤◌, ◌<◌}
use mathlib.Core.Path.{◌≡◌, refl, sym, ap, ◌∙◌, subst}
use mathlib.Core.Bool.{Bool, true, false}
use mathlib.Core.Option.{none}
use mathlib.Core.List.{List}
use native.Mathlib.Omega.{arith}
use lib.Dec.{leb, ltb}
use lib.ListN.{length, take, drop, replicate}
use borrow.Author.Tests.{le-leb, lt-leb, lt-ltb, le-ltb}
use Rattle.definitions.specs.Bytes.{Answer, refused, accepted, when_accepted}
use Rattle.definitions.specs.Instruction.{Instr}
use Rattle.definitions.specs.Tables.{Tables}
use Rattle.definitions.specs.Reader.{instruction, read_module}
use Rattle.definitions.specs.Calls.{function_of, zeros}
use Rattle.definitions.specs.Sheet.{is_question, tally}
use Rattle.definitions.specs.Reach.{wide_area, room_asked, place_asked, sought, Finds, found_answer, buffer_after, area_left, reach_call}
use Rattle.std.proofs.Common.{Result, Err}
use Rattle.std.proofs.Common.{Option as Opt}
use Rattle.questions.specs.declared.Question.{Question}
use Rattle.questions.specs.declared.Question.TheVariants.{WorkAreas, Place, AnswerRoom}
use Rattle.questions.specs.Numbers.{number}
use Rattle.reader.specs.View.{function_in_module, CodeAt, instructions_of}
use Rattle.reader.proofs.Encoding.{Small}
use Rattle.run.proofs.Calling.{part-code, part_count, part-coded, function-known}
use Rattle.tally.specs.Walk.{Values}
use Rattle.tally.specs.Counts.{Tallies}
use Rattle.tally.specs.declared.Tallied.{Tallied}
use Rattle.tally.proofs.Walking.{reads-list, reads-are}
use Rattle.reach.specs.Reaching.{reach_said, Says, Gives, Seekable}
use Rattle.reader.proofs.Finding.{when-refused, when-accepted}

-- a refusal leaves the buffer
refuses : {s : Answer (List Instr)} {q : Question} {place : ℕ} {out : List ℕ} → s ≡ refused (number q) → Says (Err q) s place out out
unfolding Finds reach_said found_answer buffer_after when_accepted
refuses {s} {q} {place} {out} e = subst (λ (a : Answer (List Instr)). Says (Err q) a place out out) (sym e) (record { found = none; finds = tt; answer = refl; leaves = refl })

-- ---- 17 to 22, 34 and 35

module _ (area place f : ℕ) (t out : List ℕ) (long : 131072 ≤ area) where
  by-function : sought area t f place (length out) ≡ when_accepted (function_in_module t f) (place_asked place (length out))
  unfolding sought wide_area function_in_module when_accepted
  by-function =
      ap (λ (b : Bool). elim b as (λ z. Answer (List Instr)) [ false ↦ refused 1 | true ↦ when_accepted (read_module t) (λ x. when_accepted (function_of x f) (place_asked place (length out))) ])
      (le-leb 131072 area long) ∙ go (read_module t)
    where
      go : (r : Answer Tables) → when_accepted r (λ x. when_accepted (function_of x f) (place_asked place (length out))) ≡ when_accepted (when_accepted r (λ x. function_of x f)) (place_asked place (length out))
      go (accepted x) = refl
      go (refused q) = refl

  -- no such function, or no module
  pub says-refused : {q : Question} → function_in_module t f ≡ refused (number q) → Says (Err q) (sought area t f place (length out)) place out out
  says-refused {q} e = refuses (by-function ∙ when-refused (function_in_module t f) _ (number q) e)

  module _ {p s n : ℕ} (c : CodeAt t f p s n) where
    asked : (b : Bool) → ltb place (length c.function.code) ≡ b
        → sought area t f place (length out) ≡ (elim b as (λ z. Answer (List Instr)) [ false ↦ refused 34 | true ↦ room_asked (length out) c.function.code ])
    unfolding place_asked
    asked b x = by-function ∙ when-accepted (function_in_module t f) _ c.function (function-known c)
        ∙ ap (λ (u : Bool). elim u as (λ z. Answer (List Instr)) [ false ↦ refused 34 | true ↦ room_asked (length out) c.function.code ]) x

    -- the place is not in the function
    pub says-34 : n ≤ place → Says (Err Place) (sought area t f place (length out)) place out out
    unfolding number
    says-34 h = let k = c.count in refuses (asked false (le-ltb place (length c.function.code) (omega arith)))

    module _ {questions : ℕ} (q : questions ≡ tally is_question c.function.code) (h : place < n) where
      roomed : (b : Bool) → leb (tally is_question c.function.code) (length out) ≡ b
          → sought area t f place (length out) ≡ (elim b as (λ z. Answer (List Instr)) [ false ↦ refused 35 | true ↦ accepted c.function.code ])
      unfolding room_asked
      roomed b x =
          let k = c.count in
          asked true (lt-ltb place (length c.function.code) (omega arith))
          ∙ ap (λ (u : Bool). elim u as (λ z. Answer (List Instr)) [ false ↦ refused 35 | true ↦ accepted c.function.code ]) x

      -- the buffer is too short
      pub says-35 : length out < questions → Says (Err AnswerRoom) (sought area t f place (length out)) place out out
      unfolding number
      says-35 l = refuses (roomed false (lt-leb (tally is_question c.function.code) (length out) (omega arith)))

      -- no question is answered no
      pub says : questions ≤ length out → {part : List ℕ} → part ≡ take s (drop p t) → {r : Result (Opt ℕ) Question} {left : List ℕ}
          → Says r (accepted (instructions_of part)) place out left → Says r (sought area t f place (length out)) place out left
      says l {part} e {r} {left} w =
          let a = roomed true (le-leb (tally is_question c.function.code) (length out) (omega arith)) ∙ ap accepted (sym (part-code t f p s n c part e)) in
          subst (λ (x : Answer (List Instr)). Says r x place out left) (sym a) w

-- ---- the code of the function

module _ {t : List ℕ} {f p s n : ℕ} (c : CodeAt t f p s n) where
  -- its instructions stand one after the other
  pub code-values : Values instruction n t p
  code-values = let r = c.read in let a = r.from in let b = r.to in reads-are instruction t n p c.function.code (p + s) (omega arith) r

  pub questions-are : {r : Tallied} → Tallies r n t p → r.questions ≡ tally is_question c.function.code
  questions-are T = T.questions ∙ ap (tally is_question) (reads-list instruction t n p c.function.code (p + s) c.read)

  pub seekable : {part area out : List ℕ} {place questions : ℕ} → part ≡ take s (drop p t) → Small t → place < n → 131072 ≤ length area
      → questions ≡ tally is_question c.function.code → questions ≤ length out → Seekable part area n place out
  seekable {part} e small h long q l = record {
    coded = part-coded t f p s n c part e small;
    count = part_count t f p s n c part e;
    long = long;
    inside = h;
    fits = let k = ap (tally is_question) (part-code t f p s n c part e) in omega arith;
  }

-- ---- the call

module _ (t : List ℕ) (f place : ℕ) (area out : List ℕ) where
  pub call-short : length area < 131072 → Gives (Err WorkAreas) t f place area area out out
  unfolding number sought wide_area area_left reach_call Finds reach_said found_answer buffer_after when_accepted
  call-short h =
      let w = lt-leb 131072 (length area) h in
      let s : sought (length area) t f place (length out) ≡ refused 1 =
      ap (λ (b : Bool). elim b as (λ z. Answer (List Instr)) [ false ↦ refused 1 | true ↦ when_accepted (read_module t) (λ x. when_accepted (function_of x f) (place_asked place (length out))) ]) w in
      let a : area_left area ≡ area = ap (λ (b : Bool). elim b as (λ z. List ℕ) [ false ↦ area | true ↦ zeros area ]) w in
      record {
        found = none;
        finds = subst (λ (x : Answer (List Instr)). Finds x place none) (sym s) tt;
        is = λ i. record { answer = found_answer (sym s i) none; area = sym a i; buffer = buffer_after (sym s i) none out };
      }

  pub call_long : 131072 ≤ length area → {r : Result (Opt ℕ) Question} {area' out' : List ℕ} (mid : List ℕ) → length mid ≡ length area → area' ≡ zeros mid
      → Says r (sought (length area) t f place (length out)) place out out' → Gives r t f place area area' out out'
  unfolding wide_area area_left zeros reach_call
  call_long h {r} {area'} {out'} mid l e s =
      let a : area' ≡ area_left area =
      e ∙ ap (λ (n : ℕ). replicate {A = ℕ} n 0) l ∙ sym (ap (λ (b : Bool). elim b as (λ z. List ℕ) [ false ↦ area | true ↦ zeros area ]) (le-leb 131072 (length area) h)) in
      let x = s.answer in let y = s.leaves in
      record { found = s.found; finds = s.finds; is = λ i. record { answer = x i; area = a i; buffer = y i } }
