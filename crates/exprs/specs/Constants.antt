-- Constants in a list of expressions: None, False and True, whose kind bytes are 0, 1 and 2.
use Rattle.std.specs.Prelude.{ℕ, ◌+◌, ◌-◌, ◌≤◌, ◌≡◌, List, length}
use Rattle.tree_view.specs.Judge.{judge_many}
use Rattle.parts.specs.declared.checker.Checker.{Checker}
use Rattle.tree_view.specs.declared.roles.Role.{Role}

-- k of the n expressions from p on can be passed over: the n are judged as the n - k that follow them
pub record PassesOver (r : Role) (d : ℕ) (t : List ℕ) (n p k : ℕ) : Type 0 where
  pub few : k ≤ n
  pub inside : p + k ≤ length t
  pub same : (w : ℕ) → judge_many r d t n p w ≡ judge_many r d t (n - k) (p + k) w

-- the checker goes from c to c' over k of n expressions
pub record Skipped (r : Role) (d n k : ℕ) (c c' : Checker) : Type 0 where
  pub passes : PassesOver r d c.tree.now n c.at k
  pub tree : c'.tree.now ≡ c.tree.now
  pub at : c'.at ≡ c.at + k
  pub first : c'.first ≡ c.first
