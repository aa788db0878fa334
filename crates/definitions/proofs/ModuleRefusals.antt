-- The reader, the hand-back of code, the run, the texts about a module, R-8's tool and the check of heights refuse by the first question answered no, and accept
-- where none is.
use mathlib.Core.Path.{◌≡◌, refl, sym, ap, ◌∙◌}
use mathlib.Core.Bool.{Bool, true, false, ◌&&◌}
use mathlib.Core.Option.{Option, none, some}
use mathlib.Core.List.{List, [], ◌∷◌}
use Prim.Native.Nat.{ℕ, zero, suc}
use lib.ListN.{length, get_or, get_elem?}
use lib.Dec.{eqb, eqb-suc-zero, leb, ltb, leb-zero, leb-suc-zero, leb-suc-suc}
use Rattle.definitions.specs.Bytes.{Answer, refused, accepted, when_accepted, Parsed, got, failed, all}
use Rattle.definitions.specs.Instruction.{Instr, encodes}
use Rattle.definitions.specs.Tables.{Function, Tables}
use Rattle.definitions.specs.Module.{module_version, code_start}
use Rattle.definitions.specs.Reader.{module_record, numbers_exist, code_stands, whole_module, read_module}
use Rattle.definitions.specs.Run.{Ran, run}
use Rattle.definitions.specs.Calls.{read_call, function_of, code_part, code_call, are_answers, events_fit, run_function, run_answer, text_fits, text_answer}
use Rattle.definitions.specs.Sheet.{tally, is_question}
use Rattle.definitions.specs.Reach.{wide_area, room_asked, place_asked, sought}
use Rattle.definitions.specs.Heights.{function_holds, heights_asked, heights_answer}
use Rattle.definitions.specs.Statements.{head_counts, record_read, laid_out, tables_read, tables_in, code_in, read_questions, code_questions, run_in, run_questions, text_questions, reach_questions, heights_questions}
use Rattle.definitions.specs.Statements.{ReadRefusals, CodeRefusals, RunRefusals, TextRefusals, ReachRefusals, HeightsRefusals}
use Rattle.definitions.proofs.Refusals.{ask, ask-is, ask-accepted, when-ask, head-asked, questioned, first-is}

-- ---- 17 to 21: the reader

-- two tests that one question asks
two-asked : {A : Type 0} (c d : Bool) (q : ℕ) (a : Answer A) → (elim c as (λ z. Answer A) [ true ↦ ask d q a | false ↦ refused q ]) ≡ ask (c && d) q a
unfolding ask
two-asked true d q a = refl
two-asked false d q a = refl

layout-asked : (r : Parsed Tables)
    → whole_module r ≡ ask (laid_out r) 19 (ask (numbers_exist (tables_read r)) 20 (ask (all code_stands (tables_read r).functions) 21 (accepted (tables_read r))))
unfolding whole_module laid_out tables_read ask
layout-asked (got t []) = ask-is (numbers_exist t) 20 _ ∙ ap (ask (numbers_exist t) 20) (ask-is (all code_stands t.functions) 21 (accepted t))
layout-asked (got t (x ∷ xs)) = rw (eqb-suc-zero (length xs), ask)
layout-asked (failed q) = refl

-- the questions of the reader, then what follows them
unfoldable read_then : {A : Type 0} → List ℕ → Answer A → Answer A
read_then m a = questioned (read_questions m) a

module-asked : (m : List ℕ) → read_module m ≡ read_then m (accepted (tables_in m))
unfolding read_module read_then read_questions questioned tables_in record_read
module-asked m =
    ap (λ (z : Answer Tables). elim (leb (length m) 524288) as (λ c. Answer Tables) [ true ↦ z | false ↦ refused 17 ])
    (head-asked module_version 17 18 (λ rest. whole_module (module_record rest)) m)
    ∙ two-asked (leb (length m) 524288) (head_counts m) 17 _
    ∙ ap (λ (z : Answer Tables). ask (leb (length m) 524288 && head_counts m) 17 (ask (leb 5 (length m) && eqb (get_or m 4 0) module_version) 18 z)) (layout-asked (record_read m))

-- a module that is read has passed question 21
pub read-stands : (m : List ℕ) (t : Tables) → read_module m ≡ accepted t → all code_stands t.functions ≡ true
unfolding read_then read_questions questioned
read-stands m t e =
    let q17 = ask-accepted _ 17 _ t (sym (module-asked m) ∙ e) in
    let q18 = ask-accepted _ 18 _ t q17.1 in
    let q19 = ask-accepted _ 19 _ t q18.1 in
    let q20 = ask-accepted _ 20 _ t q19.1 in
    let q21 = ask-accepted _ 21 _ t q20.1 in
    let z : tables_in m ≡ t = cc q21.1 in
    rw z at q21.0

-- what goes on from the tables comes after the questions
read-then : {A : Type 0} (m : List ℕ) (f : Tables → Answer A) → when_accepted (read_module m) f ≡ read_then m (f (tables_in m))
unfolding read_then read_questions questioned when_accepted
read-then m f = rw module-asked (simp when-ask)

pub read_refusals : ReadRefusals
unfolding read_call read_then
read_refusals m = (rw first-is (module-asked m), rw first-is (read-then m (λ t. accepted tt)))

-- ---- 22: the function

-- what goes on from a function comes after the question whether it exists
function-asked : {A : Type 0} (fs : List Function) (k : ℕ) (a : List Instr → Answer A)
    → (elim (get_elem? fs k) as (λ z. Answer A) [ some g ↦ a g.code | none ↦ refused 22 ])
    ≡ ask (ltb k (length fs)) 22 (a (elim (get_elem? fs k) as (λ z. List Instr) [ some g ↦ g.code | none ↦ [] ]))
unfolding ask
function-asked [] k a = rw (leb-suc-zero k, ask)
function-asked (g ∷ fs) zero a = rw (leb-suc-suc zero (length fs), leb-zero (length fs), ask)
function-asked (g ∷ fs) (suc k) a = rw (leb-suc-suc (suc k) (length fs)) (function-asked fs k a)

when-function : {A : Type 0} (t : Tables) (k : ℕ) (a : List Instr → Answer A)
    → when_accepted (function_of t k) (λ (g : Function). a g.code) ≡ ask (ltb k (length t.functions)) 22 (a (code_in t k))
unfolding function_of when_accepted code_in
when-function {A} t k a = go (get_elem? t.functions k) ∙ function-asked t.functions k a
  where
    go : (o : Option Function)
        → when_accepted {A = Function} (elim o as (λ z. Answer Function) [ some g ↦ accepted g | none ↦ refused 22 ]) (λ (g : Function). a g.code)
        ≡ elim o as (λ z. Answer A) [ some g ↦ a g.code | none ↦ refused 22 ]
    go (some g) = refl
    go none = refl

pub code_refusals : CodeRefusals
unfolding code_call code_part code_questions questioned read_then read_questions
code_refusals m f =
    rw first-is (read-then m (λ t. code_part t f)
    ∙ ap (read_then m) (when-function (tables_in m) f (λ is. accepted (record { start = code_start (tables_in m) f; size = length (encodes is) }))))

-- ---- 23 and 24: the run

run-asked : (answers : List ℕ) (budget room : ℕ) (g : Function)
    → run_function answers budget room g
    ≡ ask (are_answers answers) 23 (ask (leb (length (run budget g.code 0 answers).events) room) 24 (accepted (run budget g.code 0 answers)))
unfolding run_function events_fit
run-asked answers budget room g =
    let r = run budget g.code 0 answers in
    ask-is (are_answers answers) 23 _ ∙ ap (ask (are_answers answers) 23) (ask-is (leb (length r.events) room) 24 (accepted r))

pub run_refusals : RunRefusals
unfolding run_answer run_questions code_questions run_in questioned read_then read_questions
run_refusals m f answers budget room =
    let after : List Instr → Answer Ran =
    λ is. ask (are_answers answers) 23 (ask (leb (length (run budget is 0 answers).events) room) 24 (accepted (run budget is 0 answers))) in
    rw first-is (read-then m (λ t. when_accepted (function_of t f) (run_function answers budget room))
    ∙ ap (read_then m) (ap (when_accepted (function_of (tables_in m) f)) (λ i g. run-asked answers budget room g i) ∙ when-function (tables_in m) f after))

-- ---- 31 and 32: a text about the module

pub text_refusals : TextRefusals
unfolding text_answer text_fits text_questions questioned read_then read_questions
text_refusals q f m room =
    let s = f (tables_in m) in
    rw first-is (read-then m (λ t. text_fits q room (f t)) ∙ ap (read_then m) (ask-is (leb (length s) room) q (accepted s)))

-- ---- 1, 34 and 35: a place is sought

place-asked : (place room : ℕ) (g : Function)
    → place_asked place room g ≡ ask (ltb place (length g.code)) 34 (ask (leb (tally is_question g.code) room) 35 (accepted g.code))
unfolding place_asked room_asked
place-asked place room g =
    ask-is (ltb place (length g.code)) 34 _ ∙ ap (ask (ltb place (length g.code)) 34) (ask-is (leb (tally is_question g.code) room) 35 (accepted g.code))

pub reach_refusals : ReachRefusals
unfolding sought reach_questions code_questions questioned read_then read_questions
reach_refusals n m f place room =
    let after : List Instr → Answer (List Instr) =
    λ is. ask (ltb place (length is)) 34 (ask (leb (tally is_question is) room) 35 (accepted is)) in
    rw first-is (ask-is (wide_area n) 1 _
    ∙ ap (ask (wide_area n) 1) (read-then m (λ t. when_accepted (function_of t f) (place_asked place room))
    ∙ ap (read_then m) (ap (when_accepted (function_of (tables_in m) f)) (λ i g. place-asked place room g i) ∙ when-function (tables_in m) f after)))

-- ---- 1 and 37: the check of heights

heights-asked : (t : Tables) → heights_asked t ≡ ask (all function_holds t.functions) 37 (accepted tt)
unfolding heights_asked
heights-asked t = ask-is (all function_holds t.functions) 37 (accepted tt)

pub heights_refusals : HeightsRefusals
unfolding heights_answer heights_questions questioned read_then read_questions
heights_refusals n m =
    rw first-is (ask-is (wide_area n) 1 (when_accepted (read_module m) heights_asked)
    ∙ ap (ask (wide_area n) 1) (read-then m heights_asked ∙ ap (read_then m) (heights-asked (tables_in m))))
