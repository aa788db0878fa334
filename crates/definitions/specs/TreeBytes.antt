-- The bytes of a tree: the writer of tree records, for parts of trees that were read (questions 2 to 6).
use Rattle.std.specs.Prelude.{ℕ, suc, cond, List, [], ◌∷◌, ◌++◌}
use Rattle.definitions.specs.Bytes.{Name, be, list_bytes, housed}
use Rattle.definitions.specs.Tree.{Literal, none_l, bool_l, int_l, float_l, string_l, UnaryOp, not_op, negate_op, pos_op, LogicalOp, and_op, or_op}
use Rattle.definitions.specs.Tree.{binary_number, Display, list_d, tuple_d, dict_d, set_d, tree_set_d}
use Rattle.definitions.specs.Tree.{Expr, lit, var, unary, binary, logical, call, attr, display, index, lambda, Exprs, []ᵉ, ◌∷ᵉ◌, count, Attribute}
use Rattle.definitions.specs.Tree.{Stmt, break, continue, pass, expr, return, assign, if, while, for, def, class}
use Rattle.definitions.specs.Tree.{Block, []ᵇ, ◌∷ᵇ◌, Branches, done, else, when, Methods, []ᵐ, method}
use Rattle.definitions.specs.Parse.{tree_version}
use Rattle.definitions.specs.Module.{name_bytes, text_bytes}
use Rattle.definitions.specs.Lower.{display_size}

-- ---- how many

-- the statements of a block
unfoldable pub size : Block → ℕ
size []ᵇ = 0
size (s ∷ᵇ b) = suc (size b)

-- the elifs of a chain
unfoldable pub elifs : Branches → ℕ
elifs done = 0
elifs (else b) = 0
elifs (when c b r) = suc (elifs r)

-- the methods of a class
unfoldable pub method_count : Methods → ℕ
method_count []ᵐ = 0
method_count (method x ps b ms) = suc (method_count ms)

-- ---- expressions

-- `UnaryOp`, numbered from 0; `And` and `Or` in `BinaryOp`
unfoldable pub unary_number : UnaryOp → ℕ
unary_number not_op = 0
unary_number negate_op = 1
unary_number pos_op = 2

unfoldable pub logical_number : LogicalOp → ℕ
logical_number and_op = 12
logical_number or_op = 13

-- the kind of a display
unfoldable pub display_kind : Display → ℕ
display_kind list_d = 11
display_kind tuple_d = 13
display_kind dict_d = 12
display_kind set_d = 14
display_kind tree_set_d = 15

unfoldable pub literal_bytes : Literal → List ℕ
literal_bytes none_l = 0 ∷ []
literal_bytes (bool_l b) = cond b 2 1 ∷ []
literal_bytes (int_l n) = 3 ∷ be 8 n
literal_bytes (float_l n) = 4 ∷ be 8 n
literal_bytes (string_l s) = 5 ∷ text_bytes s

unfoldable pub params_bytes : List Name → List ℕ
params_bytes ps = list_bytes 2 name_bytes ps

unfoldable mutual
  pub expr_bytes : Expr → List ℕ
  expr_bytes (lit l) = literal_bytes l
  expr_bytes (var x) = 6 ∷ name_bytes x
  expr_bytes (unary op e) = 7 ∷ unary_number op ∷ expr_bytes e
  expr_bytes (binary op l r) = 8 ∷ binary_number op ∷ expr_bytes l ++ expr_bytes r
  expr_bytes (logical op l r) = 8 ∷ logical_number op ∷ expr_bytes l ++ expr_bytes r
  expr_bytes (call f es) = 9 ∷ expr_bytes f ++ (be 2 (count es) ++ exprs_bytes es)
  expr_bytes (attr o x) = 10 ∷ expr_bytes o ++ name_bytes x
  expr_bytes (display k es) = display_kind k ∷ be 2 (display_size k es) ++ exprs_bytes es
  expr_bytes (index o i) = 16 ∷ expr_bytes o ++ expr_bytes i
  expr_bytes (lambda ps b) = 17 ∷ params_bytes ps ++ expr_bytes b

  pub exprs_bytes : Exprs → List ℕ
  exprs_bytes []ᵉ = []
  exprs_bytes (e ∷ᵉ es) = expr_bytes e ++ exprs_bytes es

-- ---- statements

unfoldable pub attribute_bytes : Attribute → List ℕ
attribute_bytes v = name_bytes v.name ++ expr_bytes v.value

unfoldable mutual
  pub stmt_bytes : Stmt → List ℕ
  stmt_bytes break = 0 ∷ []
  stmt_bytes continue = 1 ∷ []
  stmt_bytes pass = 2 ∷ []
  stmt_bytes (expr e) = 3 ∷ expr_bytes e
  stmt_bytes (return e) = 4 ∷ expr_bytes e
  stmt_bytes (assign t v) = 5 ∷ expr_bytes t ++ expr_bytes v
  stmt_bytes (if bs) = 6 ∷ if_bytes bs
  stmt_bytes (while c b) = 7 ∷ expr_bytes c ++ block_bytes b
  stmt_bytes (for x e b) = 8 ∷ name_bytes x ++ (expr_bytes e ++ block_bytes b)
  stmt_bytes (def x ps b) = 9 ∷ name_bytes x ++ (params_bytes ps ++ block_bytes b)
  stmt_bytes (class x ms vs) = 10 ∷ name_bytes x ++ (be 2 (method_count ms) ++ (methods_bytes ms ++ list_bytes 2 attribute_bytes vs))

  -- a block: its count, then its statements
  pub block_bytes : Block → List ℕ
  block_bytes []ᵇ = be 2 0
  block_bytes (s ∷ᵇ b) = be 2 (suc (size b)) ++ (stmt_bytes s ++ stmts_bytes b)

  pub stmts_bytes : Block → List ℕ
  stmts_bytes []ᵇ = []
  stmts_bytes (s ∷ᵇ b) = stmt_bytes s ++ stmts_bytes b

  -- an If after its kind byte: condition and block, the count of elifs, the elifs, the else block or none. No If that was read begins otherwise
  pub if_bytes : Branches → List ℕ
  if_bytes done = 0 ∷ []
  if_bytes (else b) = 1 ∷ block_bytes b
  if_bytes (when c b r) = expr_bytes c ++ (block_bytes b ++ (be 2 (elifs r) ++ branches_bytes r))

  pub branches_bytes : Branches → List ℕ
  branches_bytes done = 0 ∷ []
  branches_bytes (else b) = 1 ∷ block_bytes b
  branches_bytes (when c b r) = expr_bytes c ++ (block_bytes b ++ branches_bytes r)

  pub methods_bytes : Methods → List ℕ
  methods_bytes []ᵐ = []
  methods_bytes (method x ps b ms) = name_bytes x ++ (params_bytes ps ++ (block_bytes b ++ methods_bytes ms))

-- the tree record of a block
unfoldable pub tree_bytes : Block → List ℕ
tree_bytes b = housed tree_version (block_bytes b)
