-- What a measure says.
use Rattle.std.specs.Prelude.{ℕ, ◌+◌, ◌*◌, ◌≤◌, ◌≡◌, true, false, ltb}
use Rattle.definitions.specs.Tree.{View, as_var, as_attr, as_index, as_tuple, as_other}
use Rattle.definitions.specs.Measured.{SoFar, direct}
use Rattle.measure.specs.declared.Measure.{Measure}

-- what the instruction of a call adds to its callee and its arguments
unfoldable pub call_more : SoFar → View → ℕ
call_more k (as_var x) = elim (direct k x) [ true ↦ 0 | false ↦ 1 ]
call_more k (as_attr o x) = 0
call_more k (as_index o i) = 1
call_more k (as_tuple es) = 1
call_more k as_other = 1

-- what a binary operator adds to its operands
unfoldable pub binary_more : ℕ → ℕ
binary_more op = elim (ltb op 12) [ true ↦ 1 | false ↦ 3 ]

-- the part from p to `end` has n instructions; they are few, `more` apart
pub record Sized (r : Measure) (p end more n : ℕ) : Type 0 where
  pub next_is : r.next ≡ end
  pub size_is : r.size ≡ n
  pub most : r.size + 256 * p ≤ more + 256 * end
