-- The bodies of a tree's functions in the order of their numbers, by the tree alone.
use Rattle.std.specs.Prelude.{List, [], ◌∷◌, ◌++◌}
use Rattle.definitions.specs.Tree.{Expr, lit, var, unary, binary, logical, call, attr, display, index, lambda, Exprs, []ᵉ, ◌∷ᵉ◌}
use Rattle.definitions.specs.Tree.{Stmt, break, continue, pass, expr, return, assign, if, while, for, def, class}
use Rattle.definitions.specs.Tree.{Block, []ᵇ, ◌∷ᵇ◌, Branches, done, else, when, Methods, []ᵐ, method}
use Rattle.definitions.specs.Instruction.{Return}
use Rattle.definitions.specs.Tables.{Body, block_body, expr_body}
use Rattle.definitions.specs.Lower.{method_end}

-- each lambda in an expression, before those inside it, from left to right
unfoldable mutual
  pub bodies_expr : Expr → List Body
  bodies_expr (lit l) = []
  bodies_expr (var x) = []
  bodies_expr (unary op e) = bodies_expr e
  bodies_expr (binary op l r) = bodies_expr l ++ bodies_expr r
  bodies_expr (logical op l r) = bodies_expr l ++ bodies_expr r
  bodies_expr (call f es) = bodies_expr f ++ bodies_exprs es
  bodies_expr (attr o x) = bodies_expr o
  bodies_expr (display k es) = bodies_exprs es
  bodies_expr (index o i) = bodies_expr o ++ bodies_expr i
  bodies_expr (lambda ps b) = expr_body b ∷ bodies_expr b

  pub bodies_exprs : Exprs → List Body
  bodies_exprs []ᵉ = []
  bodies_exprs (e ∷ᵉ es) = bodies_expr e ++ bodies_exprs es

-- each def, method and lambda in a statement, before those inside it, in source order; a class attribute has none
unfoldable mutual
  pub bodies_stmt : Stmt → List Body
  bodies_stmt break = []
  bodies_stmt continue = []
  bodies_stmt pass = []
  bodies_stmt (expr e) = bodies_expr e
  bodies_stmt (return e) = bodies_expr e
  bodies_stmt (assign t v) = bodies_expr t ++ bodies_expr v
  bodies_stmt (if bs) = bodies_branches bs
  bodies_stmt (while c b) = bodies_expr c ++ bodies_block b
  bodies_stmt (for x e b) = bodies_expr e ++ bodies_block b
  bodies_stmt (def x ps b) = block_body b (Return ∷ []) ∷ bodies_block b
  bodies_stmt (class x ms vs) = bodies_methods ms

  pub bodies_block : Block → List Body
  bodies_block []ᵇ = []
  bodies_block (s ∷ᵇ b) = bodies_stmt s ++ bodies_block b

  pub bodies_branches : Branches → List Body
  bodies_branches done = []
  bodies_branches (else b) = bodies_block b
  bodies_branches (when c b r) = bodies_expr c ++ (bodies_block b ++ bodies_branches r)

  pub bodies_methods : Methods → List Body
  bodies_methods []ᵐ = []
  bodies_methods (method x ps b ms) = block_body b (method_end x) ∷ (bodies_block b ++ bodies_methods ms)

-- main, function 0, then the rest
unfoldable pub bodies : Block → List Body
bodies b = block_body b (Return ∷ []) ∷ bodies_block b
