-- Every name that stands in a tree, in source order.
use Rattle.std.specs.Prelude.{List, [], ◌∷◌, ◌++◌}
use Rattle.definitions.specs.Bytes.{Name}
use Rattle.definitions.specs.Tree.{Expr, lit, var, unary, binary, logical, call, attr, display, index, lambda, Exprs, []ᵉ, ◌∷ᵉ◌, Attribute}
use Rattle.definitions.specs.Tree.{Stmt, break, continue, pass, expr, return, assign, if, while, for, def, class}
use Rattle.definitions.specs.Tree.{Block, []ᵇ, ◌∷ᵇ◌, Branches, done, else, when, Methods, []ᵐ, method}

-- variables, attributes, lambdas' parameters
unfoldable mutual
  pub names_expr : Expr → List Name
  names_expr (lit l) = []
  names_expr (var x) = x ∷ []
  names_expr (unary op e) = names_expr e
  names_expr (binary op l r) = names_expr l ++ names_expr r
  names_expr (logical op l r) = names_expr l ++ names_expr r
  names_expr (call f es) = names_expr f ++ names_exprs es
  names_expr (attr o x) = names_expr o ++ x ∷ []
  names_expr (display k es) = names_exprs es
  names_expr (index o i) = names_expr o ++ names_expr i
  names_expr (lambda ps b) = ps ++ names_expr b

  pub names_exprs : Exprs → List Name
  names_exprs []ᵉ = []
  names_exprs (e ∷ᵉ es) = names_expr e ++ names_exprs es

-- class attributes and what stands in their values
unfoldable pub names_attributes : List Attribute → List Name
names_attributes [] = []
names_attributes (v ∷ vs) = v.name ∷ (names_expr v.value ++ names_attributes vs)

-- loop variables; defs, classes and methods; parameters
unfoldable mutual
  pub names_stmt : Stmt → List Name
  names_stmt break = []
  names_stmt continue = []
  names_stmt pass = []
  names_stmt (expr e) = names_expr e
  names_stmt (return e) = names_expr e
  names_stmt (assign t v) = names_expr t ++ names_expr v
  names_stmt (if bs) = names_branches bs
  names_stmt (while c b) = names_expr c ++ names_block b
  names_stmt (for x e b) = x ∷ (names_expr e ++ names_block b)
  names_stmt (def x ps b) = x ∷ (ps ++ names_block b)
  names_stmt (class x ms vs) = x ∷ (names_methods ms ++ names_attributes vs)

  pub names_block : Block → List Name
  names_block []ᵇ = []
  names_block (s ∷ᵇ b) = names_stmt s ++ names_block b

  pub names_branches : Branches → List Name
  names_branches done = []
  names_branches (else b) = names_block b
  names_branches (when c b r) = names_expr c ++ (names_block b ++ names_branches r)

  pub names_methods : Methods → List Name
  names_methods []ᵐ = []
  names_methods (method x ps b ms) = x ∷ (ps ++ (names_block b ++ names_methods ms))
