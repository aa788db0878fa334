-- What the call `order` answers and leaves.
use Rattle.std.specs.Prelude.{ℕ, ◌≡◌, List, Result, Ok, Err}
use Rattle.std.specs.declared.cmp.Ordering.{Ordering as Place}
use Rattle.std.specs.declared.cmp.Ordering.TheVariants.{Less, Equal, Greater}
use Rattle.definitions.specs.Bytes.{Answer, refused, accepted}
use Rattle.definitions.specs.Order.{Ordering, less, equal, greater, Sorting}
use Rattle.questions.specs.declared.Question.{Question}
use Rattle.questions.specs.Numbers.{number}

-- where the first tree comes, for each case of the code's
unfoldable pub place : Place → Ordering
place Less = less
place Equal = equal
place Greater = greater

-- the paper's answer: that, or the number of the first question answered no
unfoldable pub order_said : Result Place Question → Answer Ordering
order_said (Ok p) = accepted (place p)
order_said (Err q) = refused (number q)

-- the answer, and the two areas after it
pub record Sorts (r : Result Place Question) (area₁ area₂ : List ℕ) (w : Sorting) : Type 0 where
  pub answer : order_said r ≡ w.answer
  pub first : area₁ ≡ w.area₁
  pub second : area₂ ≡ w.area₂
