-- What the call that lowers at the console and at the office answers and leaves; and how the two answers stand to each other.
use Rattle.std.specs.Prelude.{ℕ, ◌≡◌, List, length, take, Result, Ok, Err}
use Rattle.definitions.specs.Bytes.{Answer, refused, accepted}
use Rattle.definitions.specs.Module.{office, console}
use Rattle.definitions.specs.Calls.{lower_call}
use Rattle.definitions.specs.Statements.{Narrowed}
use Rattle.lowering.specs.Lowered.{Lowers}
use Rattle.questions.specs.declared.Question.{Question}
use Rattle.questions.specs.Numbers.{number}
use Rattle.follows.specs.declared.Both.{Both}

-- what a lowering answers, with the bytes that it wrote
unfoldable pub said_bytes : Result ℕ Question → List ℕ → Answer (List ℕ)
said_bytes (Ok n) out = accepted (take n out)
said_bytes (Err q) out = refused (number q)

-- Each answer, both areas and both outputs are those of `lower_call`. And where the outputs are of one length, the console's answer and bytes are the
-- office's; or it says 15, where the office accepts or says 16
pub record LowersAtBoth (r : Both) (area₁' area₂' there' here' tree area₁ area₂ there here : List ℕ) : Type 0 where
  pub console : Lowers r.console area₁' area₂' there' (lower_call console tree area₁ area₂ there)
  pub office : Lowers r.office area₁' area₂' here' (lower_call office tree area₁ area₂ here)
  pub narrowed : length there ≡ length here → Narrowed (said_bytes r.console there') (said_bytes r.office here')
