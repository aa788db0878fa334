-- What a writer leaves.
use Rattle.std.specs.Prelude.{ℕ, ◌≡◌, List, length}
use Rattle.definitions.specs.Calls.{written}

-- the bytes stand at the output's start, the rest of it is as it was, and the answer is their count
pub record Wrote (r : ℕ) (bytes before after : List ℕ) : Type 0 where
  pub count : r ≡ length bytes
  pub out : after ≡ written bytes before
