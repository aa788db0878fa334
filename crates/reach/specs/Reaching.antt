-- What the call of R-8 answers and leaves. Assumes nothing: these are definitions.
use Rattle.std.specs.Prelude.{ℕ, ◌≤◌, ◌<◌, ◌≡◌, List, length, Result, Ok, Err, Some, None}
use Rattle.std.specs.Prelude.{Option as Opt}
use Rattle.questions.specs.declared.Question.{Question}
use Rattle.questions.specs.Numbers.{number}
use Rattle.std.proofs.Math.Option.{Option, none, some}
use Rattle.definitions.specs.Bytes.{Answer, refused, accepted}
use Rattle.definitions.specs.Instruction.{Instr}
use Rattle.definitions.specs.Sheet.{tally, is_question}
use Rattle.definitions.specs.Reach.{Finds, found_answer, buffer_after, ReachCall}
use Rattle.definitions.specs.Search.{Way, by_link}
use Rattle.reader.specs.View.{instructions_of}
use Rattle.run.specs.Tables.{Coded, PlacesFilled}
use Rattle.search.specs.View.{marks_of}

-- the paper's answer for each case of the code's: the count of answers, none, or the number of the first question answered no
unfoldable pub reach_said : Result (Opt ℕ) Question → Answer (Option ℕ)
reach_said (Ok (Some n)) = accepted (some n)
reach_said (Ok None) = accepted none
reach_said (Err q) = refused (number q)

-- what is answered and left in the buffer, by the questions' answer s; `found` is the free part
pub record Says (r : Result (Opt ℕ) Question) (s : Answer (List Instr)) (place : ℕ) (out out' : List ℕ) : Type 0 where
  pub found : Option (List ℕ)
  pub finds : Finds s place found
  pub answer : reach_said r ≡ found_answer s found
  pub leaves : out' ≡ buffer_after s found out

-- the call
abbrev pub Gives : Result (Opt ℕ) Question → List ℕ → ℕ → ℕ → List ℕ → List ℕ → List ℕ → List ℕ → Type 0
Gives r bytes function place area area' out out' = ReachCall bytes function place area out (record { answer = reach_said r; area = area'; buffer = out' })

-- ---- what is asked of the code

-- a place is in the code, there is an area to seek it, and room for the answers
pub record Seekable (code area : List ℕ) (n place : ℕ) (out : List ℕ) : Type 0 where
  pub coded : Coded code
  pub count : n ≡ length (instructions_of code)
  pub long : 131072 ≤ length area
  pub inside : place < n
  pub fits : tally is_question (instructions_of code) ≤ length out

-- a place that a search marked, and room for its answers
pub record Tracked (code places : List ℕ) (place : ℕ) (area out : List ℕ) : Type 0 where
  pub coded : Coded code
  pub starts : PlacesFilled code places
  pub long : 131072 ≤ length area
  pub way : Way by_link (instructions_of code) (marks_of (length (instructions_of code)) area) place
  pub fits : tally is_question (instructions_of code) ≤ length out
