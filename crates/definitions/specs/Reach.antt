-- R-8: which answers bring a run to a place of a function. Questions 1, 17 to 22, 34 and 35.
use Rattle.std.specs.Prelude.{ℕ, zero, suc, ◌≤◌, ◌≡◌, Bool, true, false, List, [], ◌∷◌, length, get_or, eqb, leb, ltb}
use Rattle.std.proofs.Math.Option.{Option, none, some}
use Rattle.definitions.specs.Bytes.{Answer, refused, accepted, when_accepted}
use Rattle.definitions.specs.Instruction.{Instr, Return, Flow, straight, jump, returns, question, flow}
use Rattle.definitions.specs.Tables.{Function}
use Rattle.definitions.specs.Reader.{landing, read_module}
use Rattle.definitions.specs.Run.{way}
use Rattle.definitions.specs.Calls.{function_of, are_answers, zeros, written}
use Rattle.definitions.specs.Sheet.{tally, is_question}

-- ---- a place is met when the run counts it as a step

-- One instruction i at place p, by the clauses of obey: its place, if it counts as a step, and the places that go gives after it. A question without an
-- answer is no step
unfoldable pub passing : Flow → Instr → ℕ → List ℕ → (ℕ → List ℕ → List ℕ) → List ℕ
passing straight i p answers go = p ∷ go (suc p) answers
passing jump i p answers go = p ∷ go (landing p i.a) answers
passing returns i p answers go = p ∷ []
passing (question b) i p [] go = []
passing (question b) i p (x ∷ xs) go = p ∷ go (way b (eqb x 1) p i.a) xs

-- by the clauses of run: the places that a run of code from place p on counts as steps, in their order
unfoldable pub places_met : ℕ → List Instr → ℕ → List ℕ → List ℕ
places_met zero code p answers = []
places_met (suc n) code p answers =
    let i = get_or code p Return in
    passing (flow i.op) i p answers (λ q rest. places_met n code q rest)

-- a place is one of these
unfoldable pub is_among : List ℕ → ℕ → Bool
is_among [] place = false
is_among (p ∷ ps) place = elim (eqb p place) [ true ↦ true | false ↦ is_among ps place ]

-- the run of a function's code on these answers meets the place
unfoldable pub meets : ℕ → List Instr → List ℕ → ℕ → Bool
meets budget code answers place = is_among (places_met budget code 0 answers) place

-- some finite list meets the place under some budget
pub record Reachable (code : List Instr) (place : ℕ) : Type 0 where
  pub answers : List ℕ
  pub budget : ℕ
  pub met : meets budget code answers place ≡ true

-- ---- what the tool gives

-- A list that it may give: each answer is 0 or 1, there are no more of them than conditional jumps in the function, and with them the run meets the place
-- under every budget of as many steps as the function has instructions, or more
pub record Brings (code : List Instr) (place : ℕ) (answers : List ℕ) : Type 0 where
  pub are : are_answers answers ≡ true
  pub short : length answers ≤ tally is_question code
  pub met : (budget : ℕ) → length code ≤ budget → meets budget code answers place ≡ true

-- none, where no finite list meets the place under any budget
abbrev pub Nowhere : List Instr → ℕ → Type 0
Nowhere code place = Reachable code place → ⊥

-- ---- the questions

-- 1: the work area, of this length, is at least 131,072 long
unfoldable pub wide_area : ℕ → Bool
wide_area n = leb 131072 n

-- 35: the buffer, of this length, has room for an answer to each conditional jump of the code
unfoldable pub room_asked : ℕ → List Instr → Answer (List Instr)
room_asked room code = elim (leb (tally is_question code) room) [ false ↦ refused 35 | true ↦ accepted code ]

-- 34: the place is in the function
unfoldable pub place_asked : ℕ → ℕ → Function → Answer (List Instr)
place_asked place room g = elim (ltb place (length g.code)) [ false ↦ refused 34 | true ↦ room_asked room g.code ]

-- the code in which the place is sought: questions 1, 17 to 22, 34 and 35, by the lengths of the area and of the buffer
unfoldable pub sought : ℕ → List ℕ → ℕ → ℕ → ℕ → Answer (List Instr)
sought n bs f place room =
    elim (wide_area n) [
      | false ↦ refused 1
      | true ↦ when_accepted (read_module bs) (λ t. when_accepted (function_of t f) (place_asked place room))
    ]

-- ---- the call

-- The free part: what is found in the code, answers or none. Which answers is left open; this holds of them
unfoldable pub Finds : Answer (List Instr) → ℕ → Option (List ℕ) → Type 0
Finds (refused q) place found = Unit {0}
Finds (accepted code) place (some answers) = Brings code place answers
Finds (accepted code) place none = Nowhere code place

-- the answer of the call: the count of the answers that are found, or none
unfoldable pub count_found : Option (List ℕ) → Option ℕ
count_found none = none
count_found (some answers) = some (length answers)

unfoldable pub found_answer : Answer (List Instr) → Option (List ℕ) → Answer (Option ℕ)
found_answer s found = when_accepted s (λ code. accepted (count_found found))

-- the buffer after the call: the answers at its start; a refusal and none leave it
unfoldable pub buffer_after : Answer (List Instr) → Option (List ℕ) → List ℕ → List ℕ
buffer_after (refused q) found buffer = buffer
buffer_after (accepted code) none buffer = buffer
buffer_after (accepted code) (some answers) buffer = written answers buffer

-- the area after the call: zero but after refusal 1, which leaves it
unfoldable pub area_left : List ℕ → List ℕ
area_left area = elim (wide_area (length area)) [ false ↦ area | true ↦ zeros area ]

-- the call `reach`: its answer, and the area and the buffer after it
pub record Reaching : Type 0 where
  pub answer : Answer (Option ℕ)
  pub area : List ℕ
  pub buffer : List ℕ

-- by what is found
unfoldable pub reach_call : Option (List ℕ) → List ℕ → ℕ → ℕ → List ℕ → List ℕ → Reaching
reach_call found bs f place area buffer =
    let s = sought (length area) bs f place (length buffer) in
    record { answer = found_answer s found; area = area_left area; buffer = buffer_after s found buffer }

-- what the call may give: something is found of which Finds holds, and all else is settled by it
pub record ReachCall (bs : List ℕ) (f place : ℕ) (area buffer : List ℕ) (given : Reaching) : Type 0 where
  pub found : Option (List ℕ)
  pub finds : Finds (sought (length area) bs f place (length buffer)) place found
  pub is : given ≡ reach_call found bs f place area buffer
