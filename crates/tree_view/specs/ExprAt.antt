-- The expression that stands at a position, for each kind: what an accepted one holds, by position, and the node made of it. In all of these d is
-- the number of levels left for the expressions held, and p the position after the kind byte.
use Rattle.std.specs.Prelude.{ℕ, ◌+◌, ◌*◌, ◌-◌, ◌<◌, List, [], ◌∷◌, length, get_or}
use Rattle.definitions.specs.Tree.{none_l, int_l, float_l, string_l, UnaryOp, not_op, negate_op, pos_op, Display, dict_d}
use Rattle.definitions.specs.Tree.{BinaryOp, add_op, subtract_op, multiply_op, divide_op, floor_divide_op, modulo_op, equal_op, not_equal_op, less_op, less_equal_op, greater_op, greater_equal_op}
use Rattle.definitions.specs.Tree.{Expr, lit, var, unary, binary, call, attr, display, index, lambda, Exprs, []ᵉ, ◌∷ᵉ◌}
use Rattle.definitions.specs.Parse.{exprs_of, unary_kinds, binary_kinds, parse_expr}
use Rattle.tree_view.specs.Places.{Node, node, node_at, Reads, count_at, CountThere, eight_at, name_from, name_end, There, ParamsAt, params_at, text_node_at}

-- the expression at p with d levels left, and n expressions from p on
abbrev pub expr_at : ℕ → List ℕ → ℕ → Node Expr
expr_at d t p = node_at (lit none_l) (parse_expr d) t p

abbrev pub exprs_at : ℕ → ℕ → List ℕ → ℕ → Node Exprs
exprs_at d n t p = node_at []ᵉ (exprs_of (parse_expr d) n) t p

-- that they read
abbrev pub ExprReads : ℕ → List ℕ → ℕ → Type 0
ExprReads d t p = Reads (parse_expr d) t p

abbrev pub ExprsRead : ℕ → ℕ → List ℕ → ℕ → Type 0
ExprsRead d n t p = Reads (exprs_of (parse_expr d) n) t p

-- ---- literals and variables

unfoldable pub int_at : List ℕ → ℕ → Node Expr
int_at t p = node (lit (int_l (eight_at t p))) (p + 8)

unfoldable pub float_at : List ℕ → ℕ → Node Expr
float_at t p = node (lit (float_l (eight_at t p))) (p + 8)

unfoldable pub string_at : List ℕ → ℕ → Node Expr
string_at t p = node (lit (string_l (text_node_at t p).value)) (text_node_at t p).end

unfoldable pub var_at : List ℕ → ℕ → Node Expr
var_at t p = node (var (name_from t p)) (name_end t p)

-- ---- operators

-- the operators by their bytes
unfoldable pub unary_ops : List UnaryOp
unary_ops = not_op ∷ negate_op ∷ pos_op ∷ []

unfoldable pub binary_ops : List BinaryOp
binary_ops = add_op ∷ subtract_op ∷ multiply_op ∷ divide_op ∷ floor_divide_op ∷ modulo_op ∷ equal_op ∷ not_equal_op ∷ less_op ∷ less_equal_op ∷ greater_op ∷ greater_equal_op ∷ []

-- what a byte makes of its operands: of one below 3, of two below 14, of which 12 and 13 are `and` and `or`
unfoldable pub unary_of : ℕ → Expr → Expr
unary_of k = get_or unary_kinds k (unary not_op)

unfoldable pub binary_of : ℕ → Expr → Expr → Expr
binary_of k = get_or binary_kinds k (binary add_op)

pub record UnaryAt (d : ℕ) (t : List ℕ) (p : ℕ) : Type 0 where
  pub inside : p < length t
  pub operator : get_or t p 0 < 3
  pub operand : ExprReads d t (p + 1)

unfoldable pub unary_at : ℕ → List ℕ → ℕ → Node Expr
unary_at d t p = node (unary_of (get_or t p 0) (expr_at d t (p + 1)).value) (expr_at d t (p + 1)).end

-- two expressions, the second where the first ends
pub record TwoAt (d : ℕ) (t : List ℕ) (p : ℕ) : Type 0 where
  pub first : ExprReads d t p
  pub second : ExprReads d t (expr_at d t p).end

abbrev pub second_at : ℕ → List ℕ → ℕ → Node Expr
second_at d t p = expr_at d t (expr_at d t p).end

pub record BinaryAt (d : ℕ) (t : List ℕ) (p : ℕ) : Type 0 where
  pub inside : p < length t
  pub operator : get_or t p 0 < 14
  pub operands : TwoAt d t (p + 1)

unfoldable pub binary_at : ℕ → List ℕ → ℕ → Node Expr
binary_at d t p = node (binary_of (get_or t p 0) (expr_at d t (p + 1)).value (second_at d t (p + 1)).value) (second_at d t (p + 1)).end

-- ---- calls, attributes, displays, indexes, lambdas

-- a count, and so many expressions
pub record ListAt (d : ℕ) (t : List ℕ) (p : ℕ) : Type 0 where
  pub count : CountThere t p
  pub elements : ExprsRead d (count_at t p) t (p + 2)

abbrev pub list_at : ℕ → List ℕ → ℕ → Node Exprs
list_at d t p = exprs_at d (count_at t p) t (p + 2)

pub record CallAt (d : ℕ) (t : List ℕ) (p : ℕ) : Type 0 where
  pub callee : ExprReads d t p
  pub args : ListAt d t (expr_at d t p).end

unfoldable pub call_at : ℕ → List ℕ → ℕ → Node Expr
call_at d t p = node (call (expr_at d t p).value (list_at d t (expr_at d t p).end).value) (list_at d t (expr_at d t p).end).end

pub record AttributeAt (d : ℕ) (t : List ℕ) (p : ℕ) : Type 0 where
  pub object : ExprReads d t p
  pub name : There t (expr_at d t p).end

unfoldable pub attribute_at : ℕ → List ℕ → ℕ → Node Expr
attribute_at d t p = node (attr (expr_at d t p).value (name_from t (expr_at d t p).end)) (name_end t (expr_at d t p).end)

-- a list, tuple, set or tree set holds what ListAt says
unfoldable pub display_at : Display → ℕ → List ℕ → ℕ → Node Expr
display_at k d t p = node (display k (list_at d t p).value) (list_at d t p).end

-- a dict: a count, and twice as many expressions
pub record DictAt (d : ℕ) (t : List ℕ) (p : ℕ) : Type 0 where
  pub count : CountThere t p
  pub elements : ExprsRead d (2 * count_at t p) t (p + 2)

abbrev pub pairs_at : ℕ → List ℕ → ℕ → Node Exprs
pairs_at d t p = exprs_at d (2 * count_at t p) t (p + 2)

unfoldable pub dict_at : ℕ → List ℕ → ℕ → Node Expr
dict_at d t p = node (display dict_d (pairs_at d t p).value) (pairs_at d t p).end

-- an index holds what TwoAt says: the object and the index
unfoldable pub index_at : ℕ → List ℕ → ℕ → Node Expr
index_at d t p = node (index (expr_at d t p).value (second_at d t p).value) (second_at d t p).end

pub record LambdaAt (d : ℕ) (t : List ℕ) (p : ℕ) : Type 0 where
  pub params : ParamsAt t p
  pub body : ExprReads d t (params_at t p).end

unfoldable pub lambda_at : ℕ → List ℕ → ℕ → Node Expr
lambda_at d t p = node (lambda (params_at t p).value (expr_at d t (params_at t p).end).value) (expr_at d t (params_at t p).end).end

-- ---- n expressions, of which there is a first: it, and the n - 1 after it

pub record ExprsMore (d n : ℕ) (t : List ℕ) (p : ℕ) : Type 0 where
  pub head : ExprReads d t p
  pub rest : ExprsRead d (n - 1) t (expr_at d t p).end

unfoldable pub cons_exprs_at : ℕ → ℕ → List ℕ → ℕ → Node Exprs
cons_exprs_at d n t p = node ((expr_at d t p).value ∷ᵉ (exprs_at d (n - 1) t (expr_at d t p).end).value) (exprs_at d (n - 1) t (expr_at d t p).end).end
