-- What is taken out of a part of a tree.
use Rattle.std.specs.Prelude.{ℕ, ◌+◌, ◌-◌, ◌≤◌, ◌≡◌, List, take, drop}
use Rattle.rests.specs.declared.Taken.{Taken}

-- where the part from `at` on ends, and how many of its bytes are taken out, no more than it has
pub record Takes (r : Taken) (at end count : ℕ) : Type 0 where
  pub next : r.next ≡ end
  pub bytes : r.bytes ≡ count
  pub small : at + r.bytes ≤ r.next

-- the bytes from p up to e
unfoldable pub span : List ℕ → ℕ → ℕ → List ℕ
span t p e = take (e - p) (drop p t)
