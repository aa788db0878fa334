-- A call that writes a text about a module: what it opens, and its answers.
use mathlib.Core.Path.{◌≡◌, refl, sym, ap, ◌∙◌}
use mathlib.Core.List.{List}
use Prim.Native.Nat.{ℕ, ◌+◌, ◌≤◌, ◌<◌}
use native.Mathlib.Omega.{arith}
use borrow.Author.Tests.{le-leb, lt-leb}
use lib.ListN.{length}
use Rattle.definitions.specs.Bytes.{Answer, accepted, refused, when_accepted}
use Rattle.definitions.specs.Calls.{written, output_after, count_answer, text_fits, text_answer, text_call}
use Rattle.definitions.specs.Reader.{function_record, read_module}
use Rattle.definitions.specs.Tables.{Tables}
use Rattle.definitions.proofs.ReadFits.{module-short}
use Rattle.reader.specs.View.{module_tables, Opens, number_at}
use Rattle.std.specs.Prelude.{Ok, Err}
use Rattle.questions.specs.declared.Question.{Question}
use Rattle.questions.specs.Numbers.{number}
use Rattle.reader.specs.declared.Sections.{Sections}
use Rattle.reader.proofs.Deciding.{opened-ready}
use Rattle.reader.specs.declared.Part.{Part}
use Rattle.reader.proofs.Encoding.{Small, number_small}
use Rattle.tally.specs.Walk.{Values, functions_from, FunctionsAt}
use Rattle.tally.specs.Listed.{listed_said, Printed}
use Rattle.tally.proofs.Walking.{functions-read}

-- ---- a module that was opened, or not

pub closed : (t : List ℕ) (q : Question) → Opens (Err q) t → read_module t ≡ refused (number q)
unfolding Opens
closed t q h = h

pub opened : (t : List ℕ) (s : Sections) → Opens (Ok s) t → FunctionsAt t s.functions
opened t s h =
    let r = opened-ready t s h in let l = r.sections.laid in
    record { module-is = r.module-is; here = l.strings_at.to; ends = s.classes.start; read = l.functions_at; count = r.sections.functions.1 }

module _ (t : List ℕ) (p : Part) (F : FunctionsAt t p) where
  count-here : p.count ≡ number_at 2 t p.start
  count-here = F.count ∙ sym (functions-read t p.start (module_tables t).functions F.ends (number_at 2 t p.start) F.here F.read refl).3

  -- the functions
  pub functions-begin : (p.start + 2 ≤ length t) × Values function_record p.count t (p.start + 2) × (functions_from p.count t (p.start + 2) ≡ (module_tables t).functions)
  functions-begin = let r = functions-read t p.start (module_tables t).functions F.ends p.count F.here F.read count-here in (r.0, r.1, r.2)

  pub few_bytes : length t ≤ 524288
  few_bytes = module-short t (module_tables t) F.module-is

  pub few-functions : Small t → p.count < 65536
  few-functions small = let w = number_small t small 2 p.start in let e = count-here in omega arith

-- ---- the answers

module _ (room : Question) (f : Tables → List ℕ) (t out : List ℕ) where
  pub lists-closed : (q : Question) → read_module t ≡ refused (number q) → Printed (Err q) (text_call (number room) f t out) out
  unfolding text_call text_answer when_accepted count_answer output_after listed_said
  lists-closed q e = record {
    answer = sym (ap (λ (x : Answer Tables). count_answer (when_accepted x (λ y. text_fits (number room) (length out) (f y)))) e);
    output = sym (ap (λ (x : Answer Tables). output_after (when_accepted x (λ y. text_fits (number room) (length out) (f y))) out) e);
  }

  module _ (x : Tables) (m : read_module t ≡ accepted x) where
    asked : text_answer (number room) f t (length out) ≡ text_fits (number room) (length out) (f x)
    unfolding text_answer when_accepted
    asked = ap (λ (x : Answer Tables). when_accepted x (λ y. text_fits (number room) (length out) (f y))) m

    pub lists-full : length out < length (f x) → Printed (Err room) (text_call (number room) f t out) out
    unfolding text_call count_answer when_accepted output_after listed_said text_fits
    lists-full h =
        let w : text_answer (number room) f t (length out) ≡ refused (number room) = asked ∙ rw (lt-leb (length (f x)) (length out) h, text_fits) in
        record { answer = sym (ap count_answer w); output = sym (ap (λ (x : Answer (List ℕ)). output_after x out) w) }

    pub lists-written : (after : List ℕ) (put : ℕ) → length (f x) ≤ length out → put ≡ length (f x) → after ≡ written (f x) out → Printed (Ok put) (text_call (number room) f t out) after
    unfolding text_call count_answer when_accepted output_after listed_said text_fits
    lists-written after put h n e =
        let v : text_answer (number room) f t (length out) ≡ accepted (f x) = asked ∙ rw (le-leb (length (f x)) (length out) h, text_fits) in
        record {
          answer = ap accepted n ∙ sym (ap count_answer v);
          output = e ∙ sym (ap (λ (x : Answer (List ℕ)). output_after x out) v);
        }
