-- How many defs, methods and classes begin in a part.
use Rattle.std.specs.Prelude.{ℕ, ◌+◌}
use Rattle.definitions.specs.Tree.{Stmt, break, continue, pass, expr, return, assign, if, while, for, def, class}
use Rattle.definitions.specs.Tree.{Block, []ᵇ, ◌∷ᵇ◌, Branches, done, else, when, Methods, []ᵐ, method}

unfoldable mutual
  pub heads_stmt : Stmt → ℕ
  heads_stmt break = 0
  heads_stmt continue = 0
  heads_stmt pass = 0
  heads_stmt (expr e) = 0
  heads_stmt (return e) = 0
  heads_stmt (assign t v) = 0
  heads_stmt (if bs) = heads_branches bs
  heads_stmt (while c b) = heads_block b
  heads_stmt (for x e b) = heads_block b
  heads_stmt (def x ps b) = 1 + heads_block b
  heads_stmt (class x ms vs) = 1 + heads_methods ms

  pub heads_block : Block → ℕ
  heads_block []ᵇ = 0
  heads_block (s ∷ᵇ b) = heads_stmt s + heads_block b

  pub heads_branches : Branches → ℕ
  heads_branches done = 0
  heads_branches (else b) = heads_block b
  heads_branches (when c b r) = heads_block b + heads_branches r

  pub heads_methods : Methods → ℕ
  heads_methods []ᵐ = 0
  heads_methods (method x ps b ms) = 1 + heads_block b + heads_methods ms
