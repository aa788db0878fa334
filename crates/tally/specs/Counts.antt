-- What is counted of instructions that stand one after the other.
use Rattle.std.specs.Prelude.{ℕ, ◌≡◌, List}
use Rattle.definitions.specs.Reader.{instruction}
use Rattle.definitions.specs.Sheet.{tally, is_question, is_call}
use Rattle.tally.specs.Walk.{values_end, code_from}
use Rattle.tally.specs.declared.Tallied.{Tallied}

-- of n instructions from `at` on
pub record Tallies (r : Tallied) (n : ℕ) (t : List ℕ) (at : ℕ) : Type 0 where
  pub ends : r.at ≡ values_end instruction n t at
  pub questions : r.questions ≡ tally is_question (code_from n t at)
  pub calls : r.calls ≡ tally is_call (code_from n t at)
