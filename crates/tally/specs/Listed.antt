-- What a call that writes a text about a module answers and leaves.
use Rattle.std.specs.Prelude.{ℕ, ◌≡◌, List, Result, Ok, Err}
use Rattle.definitions.specs.Bytes.{Answer, accepted, refused}
use Rattle.definitions.specs.Calls.{Writing}
use Rattle.questions.specs.declared.Question.{Question}
use Rattle.questions.specs.Numbers.{number}

-- the paper's answer for each case of the code's: the count of bytes written, or the number of the first question answered no
unfoldable pub listed_said : Result ℕ Question → Answer ℕ
listed_said (Ok n) = accepted n
listed_said (Err q) = refused (number q)

-- the answer, and the output after it
pub record Printed (r : Result ℕ Question) (want : Writing) (left : List ℕ) : Type 0 where
  pub answer : listed_said r ≡ want.answer
  pub output : left ≡ want.output
