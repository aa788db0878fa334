-- What a checker answers and leaves, by the judges of Judge.
use Rattle.std.specs.Prelude.{ℕ, ◌+◌, ◌<◌, ◌≡◌, ◌≤◌, Bool, true, false, List, length, get_or, ◌⊎◌, Result, Ok, Err}
use Rattle.std.proofs.Math.Option.{some}
use Rattle.std.proofs.Math.ListN.{get_elem?}
use Rattle.definitions.specs.Wellformed.{if_asked, block_questions}
use Rattle.questions.specs.declared.Question.{Question}
use Rattle.questions.specs.declared.Question.TheVariants.{TreeLayout}
use Rattle.questions.specs.Numbers.{number}
use Rattle.tree_view.specs.Judge.{Passed, Next, Refused, Number, Is, Unread, least, judged_number_at}
use Rattle.parts.specs.Asked.{number_asked, stand}
use Rattle.parts.specs.declared.checker.Checker.{Checker}
use Rattle.parts.specs.declared.asked.BlockQuestion.{BlockQuestion}

-- a checker from position p of t on, with no question answered no
pub record Starts (t : List ℕ) (p : ℕ) (c : Checker) : Type 0 where
  pub tree : c.tree.now ≡ t
  pub at : c.at ≡ p
  pub first : stand c.first ≡ 9

-- an answer, and where the checker stands, as the judges give them
unfoldable pub passed_by : Result (Unit {0}) Question → Checker → Passed
passed_by (Ok u) c = Next c.at (stand c.first)
passed_by (Err q) c = Refused (number q)

-- answer r, and the checker from c to c', are what the judge J says of the tree from c's place on
pub record Judged (r : Result (Unit {0}) Question) (c c' : Checker) (J : List ℕ → ℕ → ℕ → Passed) : Type 0 where
  pub tree : c'.tree.now ≡ c.tree.now
  pub answer : passed_by r c' ≡ J c.tree.now c.at (stand c.first)

-- the same, of a count of two bytes
unfoldable pub counted_by : Result ℕ Question → Checker → Number
counted_by (Ok n) c = Is n c.at
counted_by (Err q) c = Unread (number q)

pub record ReadsCount (r : Result ℕ Question) (c c' : Checker) : Type 0 where
  pub tree : c'.tree.now ≡ c.tree.now
  pub first : c'.first ≡ c.first
  pub answer : counted_by r c' ≡ judged_number_at c.tree.now c.at

-- the next n bytes are there, and c' stands after them; or they are not there
pub record CheckerWent (n : ℕ) (c c' : Checker) : Type 0 where
  pub tree : c'.tree.now ≡ c.tree.now
  pub first : c'.first ≡ c.first
  pub room : c.at + n ≤ length c.tree.now
  pub at : c'.at ≡ c.at + n

pub record CheckerShort (n : ℕ) (c c' : Checker) (q : Question) : Type 0 where
  pub tree : c'.tree.now ≡ c.tree.now
  pub first : c'.first ≡ c.first
  pub short : length c.tree.now < c.at + n
  pub layout : q ≡ TreeLayout

-- the next byte
unfoldable pub ReadsByte : Result ℕ Question → Checker → Checker → Type 0
ReadsByte (Ok b) c c' = CheckerWent 1 c c' × (b ≡ get_or c.tree.now c.at 0)
ReadsByte (Err q) c c' = CheckerShort 1 c c' q

-- the next byte is b, and c' stands after it; or it is another or there is none, and nothing changes
unfoldable pub SkipsByte : ℕ → Bool → Checker → Checker → Type 0
SkipsByte b true c c' = ReadsByte (Ok b) c c'
SkipsByte b false c c' = CheckerWent 0 c c' × ((c.at < length c.tree.now) → get_or c.tree.now c.at 0 ≡ b → ⊥)

-- k bytes below a limit, at most so many
pub record SkipsBelow (limit most k : ℕ) (c c' : Checker) : Type 0 where
  pub went : CheckerWent k c c'
  pub few : k ≤ most
  pub each : (i : ℕ) → i < k → get_or c.tree.now (c.at + i) 0 < limit

-- only how many questions stand is other than before
pub record StandChanged (c c' : Checker) (f : ℕ → ℕ) : Type 0 where
  pub tree : c'.tree.now ≡ c.tree.now
  pub at : c'.at ≡ c.at
  pub stand : stand c'.first ≡ f (stand c.first)

-- question q is answered
abbrev pub answered : BlockQuestion → Bool → ℕ → ℕ
answered q ok w = least w (λ k. if_asked (number_asked q) k ok)

-- the first question answered no, if there is one
unfoldable pub Rules : Result (Unit {0}) Question → Checker → Type 0
Rules (Ok u) c = stand c.first ≡ 9
Rules (Err q) c = (stand c.first < 9) × (get_elem? block_questions (stand c.first) ≡ some (number q))

-- the answer once all has been read: something is over; or that
unfoldable pub SettlesAtEnd : Result (Unit {0}) Question → Checker → Type 0
SettlesAtEnd (Ok u) c = (length c.tree.now ≤ c.at) × Rules (Ok u) c
SettlesAtEnd (Err q) c = ((c.at < length c.tree.now) × (q ≡ TreeLayout)) ⊎ ((length c.tree.now ≤ c.at) × Rules (Err q) c)
