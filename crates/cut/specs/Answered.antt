-- What the call `cut` answers and leaves.
use Rattle.std.specs.Prelude.{ℕ, ◌≡◌, List, Option, Some, None, Result, Ok, Err}
use Rattle.definitions.specs.Bytes.{Answer, refused, accepted, when_accepted}
use Rattle.definitions.specs.Cut.{Cut, not_refused, cut_to, count_cut, output_cut, Cutting}
use Rattle.questions.specs.declared.Question.{Question}
use Rattle.questions.specs.Numbers.{number}

-- the paper's answer for each case of the code's: that the tree is not refused, the count of bytes written, or the number of the first question
-- answered no
unfoldable pub cut_said : Result (Option ℕ) Question → Answer (Cut ℕ)
cut_said (Ok None) = accepted not_refused
cut_said (Ok (Some n)) = accepted (cut_to n)
cut_said (Err q) = refused (number q)

-- by the cut tree's bytes
pub record CutsIn (r : Result (Option ℕ) Question) (before after : List ℕ) (want : Answer (Cut (List ℕ))) : Type 0 where
  pub answer : cut_said r ≡ when_accepted want (λ c. accepted (count_cut c))
  pub output : after ≡ output_cut want before

-- the call's answer, and the areas and the output after it
pub record CutsDown (r : Result (Option ℕ) Question) (area₁ area₂ out : List ℕ) (want : Cutting) : Type 0 where
  pub answer : cut_said r ≡ want.answer
  pub first : area₁ ≡ want.area₁
  pub second : area₂ ≡ want.area₂
  pub output : out ≡ want.output
