-- What each call answers and what it leaves in the slices lent to it: questions 1 and 16, 22 to 24, 31 and 32, and the program `lower`.
use Rattle.std.specs.Prelude.{ℕ, Bool, true, false, ◌&&◌, List, [], ◌∷◌, ◌++◌, length, take, drop, replicate, leb}
use Rattle.std.proofs.Math.Option.{Option, none, some}
use Rattle.std.proofs.Math.ListN.{get_elem?}
use Rattle.definitions.specs.Bytes.{Answer, refused, accepted, when_accepted, all, ascii, decimal}
use Rattle.definitions.specs.Parse.{read_tree}
use Rattle.definitions.specs.Instruction.{encodes}
use Rattle.definitions.specs.Tables.{Function, Tables}
use Rattle.definitions.specs.Module.{Limits, office, code_start, lower_bytes}
use Rattle.definitions.specs.Reader.{read_module}
use Rattle.definitions.specs.Listing.{listing}
use Rattle.definitions.specs.Sheet.{sheet}
use Rattle.definitions.specs.Run.{Ran, run}
use Rattle.definitions.specs.Walk.{Walked, walk}

-- ---- what a call leaves

-- bytes written from the start of a buffer; the rest is as it was
unfoldable pub written : List ℕ → List ℕ → List ℕ
written bs out = bs ++ drop (length bs) out

-- an output after a call that answers these bytes; a refusal leaves it
unfoldable pub output_after : Answer (List ℕ) → List ℕ → List ℕ
output_after (refused q) out = out
output_after (accepted bs) out = written bs out

-- a refusal, or the count of bytes written
unfoldable pub count_answer : Answer (List ℕ) → Answer ℕ
count_answer a = when_accepted a (λ bs. accepted (length bs))

-- as many zeros
unfoldable pub zeros : List ℕ → List ℕ
zeros xs = replicate (length xs) 0

-- ---- lowering

-- 1: each work area, of these lengths, is at least 16,384 long
unfoldable pub areas_fit : ℕ → ℕ → Bool
areas_fit m n = leb 16384 m && leb 16384 n

-- 16: the module fits the output
unfoldable pub fits_room : ℕ → List ℕ → Answer (List ℕ)
fits_room room bs = elim (leb (length bs) room) [ true ↦ accepted bs | false ↦ refused 16 ]

-- the module's bytes: questions 1 to 16, by the lengths of the areas and of the output
unfoldable pub lower_answer : Limits → ℕ → ℕ → ℕ → List ℕ → Answer (List ℕ)
lower_answer l m n room tree = elim (areas_fit m n) [ false ↦ refused 1 | true ↦ when_accepted (lower_bytes l tree) (fits_room room) ]

-- an area after the call: zero but after refusal 1, which leaves it
unfoldable pub area_after : ℕ → ℕ → List ℕ → List ℕ
area_after m n area = elim (areas_fit m n) [ false ↦ area | true ↦ zeros area ]

-- the call `lower`: its answer, and the two areas and the output after it
pub record Lowering : Type 0 where
  pub answer : Answer ℕ
  pub area₁ : List ℕ
  pub area₂ : List ℕ
  pub output : List ℕ

unfoldable pub lower_call : Limits → List ℕ → List ℕ → List ℕ → List ℕ → Lowering
lower_call l tree area₁ area₂ output =
    let a = lower_answer l (length area₁) (length area₂) (length output) tree in
    record {
      answer = count_answer a;
      area₁ = area_after (length area₁) (length area₂) area₁;
      area₂ = area_after (length area₁) (length area₂) area₂;
      output = output_after a output;
    }

-- The program `lower`: of its input the first 32,769 bytes, a module buffer of 65,536; the module's bytes, or `refused N` and a line feed
unfoldable pub lower_program : List ℕ → List ℕ
lower_program input =
    elim (lower_answer office 16384 16384 65536 (take 32769 input)) [
      | accepted bs ↦ bs
      | refused q ↦ ascii "refused " ++ (decimal q ++ 10 ∷ [])
    ]

-- ---- reading

-- the call that reads a module: questions 17 to 21
unfoldable pub read_call : List ℕ → Answer (Unit {0})
read_call bs = when_accepted (read_module bs) (λ t. accepted tt)

-- ---- handing back code

-- a part of bytes
pub record Part : Type 0 where
  pub start : ℕ
  pub size : ℕ

unfoldable pub part_of : Part → List ℕ → List ℕ
part_of p bs = take p.size (drop p.start bs)

-- 22: the function exists
unfoldable pub function_of : Tables → ℕ → Answer Function
function_of t f = elim (get_elem? t.functions f) [ some g ↦ accepted g | none ↦ refused 22 ]

-- the part of the module's bytes that is the code of function f
unfoldable pub code_part : Tables → ℕ → Answer Part
code_part t f = when_accepted (function_of t f) (λ (g : Function). accepted (record { start = code_start t f; size = length (encodes g.code) }))

-- the call that hands back code: questions 17 to 22
unfoldable pub code_call : List ℕ → ℕ → Answer Part
code_call bs f = when_accepted (read_module bs) (λ t. code_part t f)

-- the bytes that it hands back: none on a refusal
unfoldable pub handed_back : Answer Part → List ℕ → List ℕ
handed_back (refused q) bs = []
handed_back (accepted p) bs = part_of p bs

-- ---- texts about a module

-- question q: the text fits the output
unfoldable pub text_fits : ℕ → ℕ → List ℕ → Answer (List ℕ)
text_fits q room s = elim (leb (length s) room) [ true ↦ accepted s | false ↦ refused q ]

-- the text that f gives for a module's tables: the reader's questions, then q, by the length of the output
unfoldable pub text_answer : ℕ → (Tables → List ℕ) → List ℕ → ℕ → Answer (List ℕ)
text_answer q f bs room = when_accepted (read_module bs) (λ t. text_fits q room (f t))

-- a call that writes a text: its answer, and the output after it
pub record Writing : Type 0 where
  pub answer : Answer ℕ
  pub output : List ℕ

unfoldable pub text_call : ℕ → (Tables → List ℕ) → List ℕ → List ℕ → Writing
text_call q f bs output =
    let a = text_answer q f bs (length output) in
    record { answer = count_answer a; output = output_after a output }

-- the code listing: questions 17 to 21 and 31
unfoldable pub list_call : List ℕ → List ℕ → Writing
list_call bs output = text_call 31 listing bs output

-- the count sheet: questions 17 to 21 and 32
unfoldable pub sheet_call : List ℕ → List ℕ → Writing
sheet_call bs output = text_call 32 sheet bs output

-- ---- the run

-- 23: each answer is 0 or 1
unfoldable pub are_answers : List ℕ → Bool
are_answers xs = all (λ (x : ℕ). leb x 1) xs

-- 24: the events fit the buffer
unfoldable pub events_fit : ℕ → Ran → Answer Ran
events_fit room r = elim (leb (length r.events) room) [ true ↦ accepted r | false ↦ refused 24 ]

-- questions 23 and 24 of a function's code
unfoldable pub run_function : List ℕ → ℕ → ℕ → Function → Answer Ran
run_function answers budget room g = elim (are_answers answers) [ false ↦ refused 23 | true ↦ events_fit room (run budget g.code 0 answers) ]

-- the run of function f of a module's bytes: questions 17 to 24, by the length of the event buffer
unfoldable pub run_answer : List ℕ → ℕ → List ℕ → ℕ → ℕ → Answer Ran
run_answer bs f answers budget room = when_accepted (read_module bs) (λ t. when_accepted (function_of t f) (run_function answers budget room))

-- a run's numbers: ending, steps, answers used, event bytes
pub record Counts : Type 0 where
  pub ending : ℕ
  pub steps : ℕ
  pub used : ℕ
  pub bytes : ℕ

unfoldable pub ran_counts : Ran → Answer Counts
ran_counts r = accepted (record { ending = r.ending; steps = r.steps; used = r.used; bytes = length r.events })

-- the call `run`: its answer, and the event buffer after it
pub record Running : Type 0 where
  pub answer : Answer Counts
  pub events : List ℕ

-- by what the run gives
unfoldable pub ran_call : Answer Ran → List ℕ → Running
ran_call a events = record { answer = when_accepted a ran_counts; events = output_after (when_accepted a (λ (r : Ran). accepted r.events)) events }

unfoldable pub run_call : List ℕ → ℕ → List ℕ → ℕ → List ℕ → Running
run_call bs f answers budget events = ran_call (run_answer bs f answers budget (length events)) events

-- ---- the walk of a tree's bytes

-- the walk of function f of a tree on answers; none where the bytes are no tree or it has no such function
unfoldable pub walk_tree : List ℕ → ℕ → List ℕ → Option Walked
walk_tree tree f answers = elim (read_tree tree) [ refused q ↦ none | accepted b ↦ walk b f answers ]
