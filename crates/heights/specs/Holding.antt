-- What the check of heights asks of the code that it looks at, and what it answers and leaves. Assumes nothing: these are definitions.
use Rattle.std.specs.Prelude.{ℕ, ◌+◌, ◌<◌, ◌≤◌, ◌≡◌, Bool, true, List, length, drop, get_or, Result}
use Rattle.questions.specs.declared.Question.{Question}
use Rattle.definitions.specs.Bytes.{all}
use Rattle.definitions.specs.Instruction.{Return}
use Rattle.definitions.specs.Reader.{instruction, function_record, ends_in_return, jumps_land, code_stands}
use Rattle.definitions.specs.Heights.{is_level, heights_call}
use Rattle.reader.specs.View.{instructions_of, said}
use Rattle.reader.specs.declared.Part.{Part}
use Rattle.run.specs.Tables.{Coded, PlacesFilled}
use Rattle.tally.specs.Walk.{Values, values_end, code_from, functions_from}

-- ---- a function's code

-- a place of code that stands, and where its instructions begin
pub record Standing (code places : List ℕ) (p : ℕ) : Type 0 where
  pub coded : Coded code
  pub starts : PlacesFilled code places
  pub inside : p < length (instructions_of code)

-- the test of place p, by the marks in the area
abbrev pub level_at : List ℕ → List ℕ → ℕ → ℕ → Bool
level_at code area number p = is_level number (drop 65536 area) p (get_or (instructions_of code) p Return) (get_or (drop 65536 area) p 0)

-- ---- a module's functions

-- a part whose instructions stand
pub record Parted (t : List ℕ) (p : Part) : Type 0 where
  pub code : Values instruction p.count t p.start
  pub to : p.start + p.size ≡ values_end instruction p.count t p.start
  pub ends : ends_in_return (code_from p.count t p.start) ≡ true
  pub land : jumps_land (length (code_from p.count t p.start)) 0 (code_from p.count t p.start) ≡ true
  pub few : p.count < 65536
  pub short : length t ≤ 524288

-- k functions from `at` on that stand
pub record Stood (t : List ℕ) (k at : ℕ) : Type 0 where
  pub functions : Values function_record k t at
  pub stand : all code_stands (functions_from k t at) ≡ true
  pub short : length t ≤ 524288

-- the call: its answer, and the area after it
pub record ChecksHeights (r : Result (Unit {0}) Question) (t area area' : List ℕ) : Type 0 where
  pub answer : said r ≡ (heights_call t area).answer
  pub leaves : area' ≡ (heights_call t area).area
