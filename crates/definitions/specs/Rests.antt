-- R-11: the rest of a tree, without its Pass statements and class attributes.
use Rattle.std.specs.Prelude.{ℕ, ◌+◌, Bool, true, false, [], length}
use Rattle.definitions.specs.Bytes.{concat}
use Rattle.definitions.specs.Tree.{Stmt, break, continue, pass, expr, return, assign, if, while, for, def, class}
use Rattle.definitions.specs.Tree.{Block, []ᵇ, ◌∷ᵇ◌, Branches, done, else, when, Methods, []ᵐ, method}
use Rattle.definitions.specs.TreeBytes.{attribute_bytes}

unfoldable pub is_pass : Stmt → Bool
is_pass break = false
is_pass continue = false
is_pass pass = true
is_pass (expr e) = false
is_pass (return e) = false
is_pass (assign t v) = false
is_pass (if bs) = false
is_pass (while c b) = false
is_pass (for x e b) = false
is_pass (def x ps b) = false
is_pass (class x ms vs) = false

-- a statement before a block, unless it is a Pass
unfoldable pub joined : Stmt → Block → Block
joined s b = elim (is_pass s) [ true ↦ b | false ↦ s ∷ᵇ b ]

-- Pass statements are taken out of every block, attributes of every class; what is left keeps its order
unfoldable mutual
  pub rest_stmt : Stmt → Stmt
  rest_stmt break = break
  rest_stmt continue = continue
  rest_stmt pass = pass
  rest_stmt (expr e) = expr e
  rest_stmt (return e) = return e
  rest_stmt (assign t v) = assign t v
  rest_stmt (if bs) = if (rest_branches bs)
  rest_stmt (while c b) = while c (rest b)
  rest_stmt (for x e b) = for x e (rest b)
  rest_stmt (def x ps b) = def x ps (rest b)
  rest_stmt (class x ms vs) = class x (rest_methods ms) []

  pub rest : Block → Block
  rest []ᵇ = []ᵇ
  rest (s ∷ᵇ b) = joined (rest_stmt s) (rest b)

  -- an else block from which all is taken out is an empty one, which is not the same as none
  pub rest_branches : Branches → Branches
  rest_branches done = done
  rest_branches (else b) = else (rest b)
  rest_branches (when c b r) = when c (rest b) (rest_branches r)

  pub rest_methods : Methods → Methods
  rest_methods []ᵐ = []ᵐ
  rest_methods (method x ps b ms) = method x ps (rest b) (rest_methods ms)

-- how many bytes are taken out: one for a Pass, those of the attributes but for their count
unfoldable mutual
  pub taken_stmt : Stmt → ℕ
  taken_stmt break = 0
  taken_stmt continue = 0
  taken_stmt pass = 1
  taken_stmt (expr e) = 0
  taken_stmt (return e) = 0
  taken_stmt (assign t v) = 0
  taken_stmt (if bs) = taken_branches bs
  taken_stmt (while c b) = taken b
  taken_stmt (for x e b) = taken b
  taken_stmt (def x ps b) = taken b
  taken_stmt (class x ms vs) = taken_methods ms + length (concat attribute_bytes vs)

  pub taken : Block → ℕ
  taken []ᵇ = 0
  taken (s ∷ᵇ b) = taken_stmt s + taken b

  pub taken_branches : Branches → ℕ
  taken_branches done = 0
  taken_branches (else b) = taken b
  taken_branches (when c b r) = taken b + taken_branches r

  pub taken_methods : Methods → ℕ
  taken_methods []ᵐ = 0
  taken_methods (method x ps b ms) = taken b + taken_methods ms
