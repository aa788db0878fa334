-- What each way out of the lowering shows.
use Prim.Native.Nat.{ℕ, ◌≤◌, ◌<◌}
use mathlib.Core.Path.{◌≡◌, refl, sym, ap, ◌∙◌, subst}
use mathlib.Core.Bool.{false}
use mathlib.Core.List.{List}
use native.Mathlib.Omega.{arith}
use lib.ListN.{length}
use Rattle.std.specs.Prelude.{Result, Ok, Err}
use Rattle.definitions.specs.Bytes.{Answer, refused, accepted, when_accepted}
use Rattle.definitions.specs.Tables.{Tables}
use Rattle.definitions.specs.Module.{Limits as DefinedLimits, module_bytes, lower_tables}
use Rattle.definitions.specs.Calls.{written, output_after, count_answer, zeros, areas_fit, fits_room, lower_answer, Lowering, lower_call}
use Rattle.questions.specs.declared.Question.{Question}
use Rattle.questions.specs.declared.Question.TheVariants.{WorkAreas, ModuleRoom}
use Rattle.questions.specs.Numbers.{number}
use Rattle.state.specs.State.{limits_of}
use Rattle.state.specs.declared.Limits.{Limits}
use Rattle.writing.specs.Wrote.{Wrote}
use Rattle.lower_emit.specs.declared.emitter.Emitter.{Emitter}
use Rattle.lower_emit.specs.Emitting.{limits_in}
use Rattle.areas.proofs.Lent.{areas-fit, first_short, second_short, area-left, area-cleared}
use Rattle.limits.specs.Sets.{limits_for}
use Rattle.limits.specs.declared.Limits.{Limits as Set}
use Rattle.settle.specs.Settles.{told, tables_shown, Settles}
use Rattle.lowering.specs.Lowered.{lowering_said, Answers, Lowers}
use Rattle.lowering.proofs.Outcome.{answer-areas, answer-refused, answer-fits, room-over, room-enough}

-- ---- the answer and the output

pub refuses : (a : Answer (List ℕ)) (q : Question) (out : List ℕ) → a ≡ refused (number q) → Answers (Err q) a out out
unfolding lowering_said count_answer output_after when_accepted
refuses a q out e = rw e (record { answer = refl; output = refl })

writes : (a : Answer (List ℕ)) (bs : List ℕ) (n : ℕ) (out out' : List ℕ) → a ≡ accepted bs → n ≡ length bs → out' ≡ written bs out → Answers (Ok n) a out out'
unfolding lowering_said count_answer output_after when_accepted
writes a bs n out out' e c w = rw e (record { answer = ap accepted c; output = w })

-- ---- questions 2 to 16, question 1 being answered yes

module _ (l : Limits) (m n room : ℕ) (tree out : List ℕ) (first : 16384 ≤ m) (second : 16384 ≤ n) where
  abbrev answer : Answer (List ℕ)
  answer = lower_answer (limits_of l) m n room tree

  module _ {s : Result (Unit {0}) Question} {a b : Emitter} (same : limits_in a ≡ l) (S : Settles s tree a b) where
    -- what was settled, by these limits
    settled-is : lower_tables (limits_of l) tree ≡ told s (tables_shown tree b)
    settled-is = ap (λ (k : Limits). lower_tables (limits_of k) tree) (sym same) ∙ S.answer

    -- 2 to 15
    pub answers-refused : {r : Result ℕ Question} {q : Question} → r ≡ Err q → s ≡ Err q → Answers r answer out out
    unfolding told
    answers-refused {r} {q} e h =
        rw e (refuses answer q out (answer-refused (limits_of l) m n room tree (areas-fit m n first second) (number q) (settled-is ∙ ap (λ (z : Result (Unit {0}) Question). told z (tables_shown tree b)) h)))

    -- 16
    pub answers-fits : {u : Unit {0}} {r : Result ℕ Question} {out' : List ℕ} → s ≡ Ok u → Answers r (fits_room room (module_bytes (tables_shown tree b))) out out' → Answers r answer out out'
    unfolding told
    answers-fits {u} {r} {out'} h A =
        subst (λ (z : Answer (List ℕ)). Answers r z out out')
        (sym (answer-fits (limits_of l) m n room tree (areas-fit m n first second) (tables_shown tree b) (settled-is ∙ ap (λ (z : Result (Unit {0}) Question). told z (tables_shown tree b)) h))) A

-- ---- question 16

module _ {t want : Tables} (out : List ℕ) (room : ℕ) {size : ℕ} (e : t ≡ want) (sized : size ≡ length (module_bytes t)) where
  abbrev bytes : List ℕ
  bytes = module_bytes want

  same-bytes : module_bytes t ≡ bytes
  same-bytes = ap module_bytes e

  pub room-refuses : room < size → Answers (Err ModuleRoom) (fits_room room bytes) out out
  unfolding number
  room-refuses h = refuses (fits_room room bytes) ModuleRoom out (room-over room bytes (omega (arith, sized, ap length same-bytes)))

  pub room-writes : size ≤ room → {w : ℕ} {out' : List ℕ} → Wrote w (module_bytes t) out out' → Answers (Ok w) (fits_room room bytes) out out'
  room-writes h {w} {out'} W =
      writes (fits_room room bytes) bytes w out out' (room-enough room bytes (omega (arith, sized, ap length same-bytes)))
      (W.count ∙ ap length same-bytes) (W.out ∙ ap (λ (x : List ℕ). written x out) same-bytes)

-- ---- the whole call

module _ (s : Set) (tree area₁ area₂ out : List ℕ) where
  abbrev whole : Lowering
  whole = lower_call (limits_for s) tree area₁ area₂ out

  areas-no : (areas_fit (length area₁) (length area₂) ≡ false) → Lowers (Err WorkAreas) area₁ area₂ out whole
  unfolding lower_call number
  areas-no e =
      let a = refuses (lower_answer (limits_for s) (length area₁) (length area₂) (length out) tree) WorkAreas out (answer-areas (limits_for s) (length area₁) (length area₂) (length out) tree e) in
      record { answer = a.answer; first = area-left _ _ area₁ e; second = area-left _ _ area₂ e; output = a.output }

  pub lowers-first : length area₁ < 16384 → Lowers (Err WorkAreas) area₁ area₂ out whole
  lowers-first h = areas-no (first_short (length area₁) (length area₂) h)

  pub lowers-second : 16384 ≤ length area₁ → length area₂ < 16384 → Lowers (Err WorkAreas) area₁ area₂ out whole
  lowers-second g h = areas-no (second_short (length area₁) (length area₂) g h)

  pub lowers-all : {l : DefinedLimits} → l ≡ limits_for s → 16384 ≤ length area₁ → 16384 ≤ length area₂ → {r : Result ℕ Question} {out' end₁ end₂ : List ℕ} (mid₁ mid₂ : List ℕ)
      → Answers r (lower_answer l (length area₁) (length area₂) (length out) tree) out out'
      → length mid₁ ≡ length area₁ → length mid₂ ≡ length area₂ → end₁ ≡ zeros mid₁ → end₂ ≡ zeros mid₂
      → Lowers r end₁ end₂ out' whole
  unfolding lower_call
  lowers-all {l} z g h {r} {out'} mid₁ mid₂ B p q x y =
      let e = areas-fit (length area₁) (length area₂) g h in
      let A = subst (λ (k : DefinedLimits). Answers r (lower_answer k (length area₁) (length area₂) (length out) tree) out out') z B in
      record {
        answer = A.answer;
        first = area-cleared _ _ area₁ mid₁ e p x;
        second = area-cleared _ _ area₂ mid₂ e q y;
        output = A.output;
      }
