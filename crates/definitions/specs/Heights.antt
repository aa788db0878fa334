-- R-10, stack heights: what heights a run meets; the check of a module, questions 1, 17 to 21 and 37.
use Rattle.std.specs.Prelude.{ℕ, zero, suc, ◌+◌, ◌-◌, ◌≤◌, ◌≡◌, Bool, true, false, ◌&&◌, List, [], ◌∷◌, length, get_or, set, replicate, eqb, leb, ltb}
use Rattle.std.proofs.Math.Option.{some}
use Rattle.std.proofs.Math.ListN.{get_elem?}
use Rattle.std.proofs.Common.{arith}
use Rattle.definitions.specs.Bytes.{Answer, refused, accepted, when_accepted, all}
use Rattle.definitions.specs.Instruction.{Instr, Return, Flow, straight, jump, returns, question, flow}
use Rattle.definitions.specs.Stack.{pops, height_after}
use Rattle.definitions.specs.Tables.{Function, Tables}
use Rattle.definitions.specs.Reader.{landing, read_module}
use Rattle.definitions.specs.Run.{way}
use Rattle.definitions.specs.Reach.{wide_area, area_left}
use Rattle.definitions.specs.Search.{Table, Marks, expand, Rule}

-- ---- the heights that a run meets

-- a place, and the height before its instruction
pub record Spot : Type 0 where
  pub place : ℕ
  pub height : ℕ

abbrev pub spot : ℕ → ℕ → Spot
spot p h = record { place = p; height = h }

-- One instruction i at place p and height h, by the clauses of obey: its spot, if it counts as a step, and the spots that go gives after it
unfoldable pub standing : Flow → Instr → ℕ → ℕ → List ℕ → (ℕ → ℕ → List ℕ → List Spot) → List Spot
standing straight i p h answers go = spot p h ∷ go (suc p) (height_after i h) answers
standing jump i p h answers go = spot p h ∷ go (landing p i.a) (height_after i h) answers
standing returns i p h answers go = spot p h ∷ []
standing (question b) i p h [] go = []
standing (question b) i p h (x ∷ xs) go = spot p h ∷ go (way b (eqb x 1) p i.a) (height_after i h) xs

-- by the clauses of run: the spots of a run of code from place p and height h, one a step
unfoldable pub spots_met : ℕ → List Instr → ℕ → ℕ → List ℕ → List Spot
spots_met zero code p h answers = []
spots_met (suc n) code p h answers =
    let i = get_or code p Return in
    standing (flow i.op) i p h answers (λ q k rest. spots_met n code q k rest)

-- place p is met at height h by a run from place s and height 0: with some answers, under some budget, in some step
pub record Met (code : List Instr) (s p h : ℕ) : Type 0 where
  pub budget : ℕ
  pub answers : List ℕ
  pub step : ℕ
  pub found : get_elem? (spots_met budget code s 0 answers) step ≡ some (spot p h)

-- an instruction met at height h pops no more than is there, and leaves no more than the number
pub record Within (number : ℕ) (i : Instr) (h : ℕ) : Type 0 where
  pub enough : pops i ≤ h
  pub most : height_after i h ≤ number

-- a function's heights hold: each place is always met at one height, whichever answers are given, never pops from too few and never passes the number
pub record HeightsHold (number : ℕ) (code : List Instr) : Type 0 where
  pub single : (p h k : ℕ) → Met code 0 p h → Met code 0 p k → h ≡ k
  pub within : (p h : ℕ) → Met code 0 p h → Within number (get_or code p Return) h

-- ---- question 37 of a function: by the search of R-8, with marks that are one more than heights

-- the mark of each place after p, by p's own mark m
unfoldable pub mark_after : List Instr → ℕ → ℕ → ℕ
mark_after code m p = suc (height_after (get_or code p Return) (m - 1))

abbrev pub marks_after : List Instr → ℕ → ℕ → Marks
marks_after code m p = record { on = mark_after code m p; no₀ = mark_after code m p; yes₁ = mark_after code m p }

-- the rule of these marks: place 0 is met at height 0
pub mark_some : (code : List Instr) (m p v : ℕ) → v ≡ mark_after code m p → v ≡ 0 → ⊥
unfolding mark_after
mark_some code m p v h e = omega arith

abbrev pub by_height : List Instr → Rule
by_height code = record { root = 1; link = λ m p k v. v ≡ mark_after code m p; some₀ = λ e. omega arith; some = λ m p k v h e. mark_some code m p v h e }

-- the places of the queue from `head` on, each with those after it; the first argument bounds the rounds, since no place is in the queue twice
unfoldable pub climb : ℕ → List Instr → ℕ → Table → Table
climb zero code head s = s
climb (suc n) code head s =
    elim (ltb head s.tail) [
      | false ↦ s
      | true ↦
          let p = get_or s.queue head 0 in
          climb n code (head + 1) (expand code (marks_after code (get_or s.marks p 0) p) p s)
    ]

-- the marks of the places that some answers reach
unfoldable pub height_marks : List Instr → List ℕ
height_marks code =
    let none = replicate {A = ℕ} (length code) 0 in
    (climb (length code) code 0 (record { queue = set none 0 0; marks = set none 0 1; tail = 1 })).marks

-- the places after an instruction i at place p have the mark v
unfoldable pub is_next : Flow → Instr → ℕ → ℕ → List ℕ → Bool
is_next straight i p v marks = eqb (get_or marks (suc p) 0) v
is_next jump i p v marks = eqb (get_or marks (landing p i.a) 0) v
is_next returns i p v marks = true
is_next (question b) i p v marks = eqb (get_or marks (suc p) 0) v && eqb (get_or marks (landing p i.a) 0) v

-- an instruction at place p, by its mark: where it is met, it pops no more than is there, leaves no more than the number, and each place after it has the
-- height that it leaves
unfoldable pub is_level : ℕ → List ℕ → ℕ → Instr → ℕ → Bool
is_level number marks p i zero = true
is_level number marks p i (suc h) = leb (pops i) h && leb (height_after i h) number && is_next (flow i.op) i p (suc (height_after i h)) marks

-- the instructions from place p on
unfoldable pub are_level : ℕ → List ℕ → ℕ → List Instr → Bool
are_level number marks p [] = true
are_level number marks p (i ∷ is) = is_level number marks p i (get_or marks p 0) && are_level number marks (suc p) is

unfoldable pub heights_hold : ℕ → List Instr → Bool
heights_hold number code = are_level number (height_marks code) 0 code

-- ---- the check of a module

-- 37: the heights of every function hold, with the number of its record
unfoldable pub function_holds : Function → Bool
function_holds f = heights_hold f.height f.code

unfoldable pub heights_asked : Tables → Answer (Unit {0})
heights_asked t = elim (all function_holds t.functions) [ true ↦ accepted tt | false ↦ refused 37 ]

-- questions 1, 17 to 21 and 37 of a module's bytes, by the length of the area
unfoldable pub heights_answer : ℕ → List ℕ → Answer (Unit {0})
heights_answer n bs = elim (wide_area n) [ false ↦ refused 1 | true ↦ when_accepted (read_module bs) heights_asked ]

-- the call `heights`: its answer, and the area after it
pub record Checking : Type 0 where
  pub answer : Answer (Unit {0})
  pub area : List ℕ

unfoldable pub heights_call : List ℕ → List ℕ → Checking
heights_call bs area = record { answer = heights_answer (length area) bs; area = area_left area }
