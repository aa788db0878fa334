-- What the call `lower` answers and leaves.
use Rattle.std.specs.Prelude.{ℕ, ◌≡◌, List, Result, Ok, Err}
use Rattle.definitions.specs.Bytes.{Answer, refused, accepted}
use Rattle.definitions.specs.Calls.{count_answer, output_after, Lowering}
use Rattle.questions.specs.declared.Question.{Question}
use Rattle.questions.specs.Numbers.{number}

-- the paper's answer for each case of the code's: the count of bytes written, or the number of the first question answered no
unfoldable pub lowering_said : Result ℕ Question → Answer ℕ
lowering_said (Ok n) = accepted n
lowering_said (Err q) = refused (number q)

-- the answer, and the output after it
pub record Answers (r : Result ℕ Question) (a : Answer (List ℕ)) (out out' : List ℕ) : Type 0 where
  pub answer : lowering_said r ≡ count_answer a
  pub output : out' ≡ output_after a out

-- the answer, and the two areas and the output after it
pub record Lowers (r : Result ℕ Question) (area₁ area₂ out : List ℕ) (w : Lowering) : Type 0 where
  pub answer : lowering_said r ≡ w.answer
  pub first : area₁ ≡ w.area₁
  pub second : area₂ ≡ w.area₂
  pub output : out ≡ w.output
