-- The counts of a line.
use Rattle.std.specs.Prelude.{ℕ, ◌<◌, List, [], ◌∷◌, ◌++◌}
use Rattle.definitions.specs.Bytes.{decimal}
use Rattle.definitions.specs.Columns.{right_in}

-- from the sixth column on
unfoldable pub counts_text : ℕ → ℕ → ℕ → List ℕ
counts_text n q c = right_in 7 (decimal n) ++ (right_in 7 (decimal q) ++ (right_in 7 (decimal c) ++ (right_in 14 [] ++ 10 ∷ [])))

-- each has at most six digits
pub record Few (n q c : ℕ) : Type 0 where
  pub all : n < 1000000
  pub questions : q < 1000000
  pub calls : c < 1000000
