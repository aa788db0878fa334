-- What is said of a part's size.
use Rattle.std.specs.Prelude.{ℕ, ◌≤◌, ◌<◌, ◌≡◌, Option, Some, None}

-- A part of n instructions, in which so many functions and classes begin: its size; or it is over the limits
pub record Fits (r : Option ℕ) (heads n limit : ℕ) : Type 0 where
  pub is : (m : ℕ) → r ≡ Some m → m ≡ n
  pub few : (m : ℕ) → r ≡ Some m → m ≤ limit
  pub over : r ≡ None → heads ≤ 320 → limit < n
