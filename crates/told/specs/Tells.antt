-- The answers of the calls as numbers.
use Rattle.std.specs.Prelude.{ℕ, ◌+◌, ◌^◌, ◌<◌, ◌≡◌, true, false, List, length, set, leb, Result, Ok, Err, Some, None}
use Rattle.std.specs.Prelude.{Option as Opt}
use Rattle.std.specs.declared.cmp.Ordering.{Ordering}
use Rattle.std.specs.declared.cmp.Ordering.TheVariants.{Less, Equal, Greater}
use Rattle.questions.specs.declared.Question.{Question}
use Rattle.questions.specs.Numbers.{number}
use Rattle.run.specs.Pass.{run_ending_number}
use Rattle.run.specs.declared.Ran.{Ran}

-- 0, or the number of the first question that is answered no
unfoldable pub asked_as_number : {A : Type 0} → Result A Question → ℕ
asked_as_number (Ok x) = 0
asked_as_number (Err q) = number q

-- 2 ^ 32 plus a count, or the number of the question
unfoldable pub counted_as_number : Result ℕ Question → ℕ
counted_as_number (Ok n) = 2 ^ 32 + n
counted_as_number (Err q) = number q

-- there is room for 2 ^ 32 before it
abbrev pub RoomToTell : Result ℕ Question → Type 0
RoomToTell r = (n : ℕ) → r ≡ Ok n → n < 2 ^ 63

-- 2 ^ 32 plus a count, 2 ^ 33 for none, or the number of the question
unfoldable pub found : Result (Opt ℕ) Question → ℕ
found (Ok (Some n)) = 2 ^ 32 + n
found (Ok None) = 2 ^ 33
found (Err q) = number q

-- there is room for 2 ^ 32 before it
abbrev pub FewFound : Result (Opt ℕ) Question → Type 0
FewFound r = (n : ℕ) → r ≡ Ok (Some n) → n < 2 ^ 63

-- 2 ^ 32 for before, 1 more for with, 2 more for after; or the number of the question
unfoldable pub placed : Result Ordering Question → ℕ
placed (Ok Less) = 2 ^ 32
placed (Ok Equal) = 2 ^ 32 + 1
placed (Ok Greater) = 2 ^ 32 + 2
placed (Err q) = number q

-- four numbers from the start on, where there is room for all; else as it was
unfoldable pub four_in : ℕ → ℕ → ℕ → ℕ → List ℕ → List ℕ
four_in a b c d xs = elim (leb 4 (length xs)) [ true ↦ set (set (set (set xs 0 a) 1 b) 2 c) 3 d | false ↦ xs ]

-- a run's counts, zeros on a refusal
unfoldable pub counts_in : Result Ran Question → List ℕ → List ℕ
counts_in (Ok r) xs = four_in (run_ending_number r.ending) r.steps r.used r.written xs
counts_in (Err q) xs = four_in 0 0 0 0 xs
