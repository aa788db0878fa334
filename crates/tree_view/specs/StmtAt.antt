-- The statement that stands at a position, for each kind: what an accepted one holds, by position, and the node made of it. In all of these d is
-- the number of levels left for the expressions and statements held, and p the position after the kind byte.
use Rattle.std.specs.Prelude.{ℕ, ◌+◌, ◌-◌, ◌<◌, ◌≤◌, ◌≡◌, true, false, List, [], ◌∷◌, length, get_or}
use Rattle.definitions.specs.Bytes.{accepted, counted, list_of}
use Rattle.definitions.specs.Tree.{Attribute, Stmt, pass, expr, return, assign, if, while, for, def, class}
use Rattle.definitions.specs.Tree.{Block, []ᵇ, ◌∷ᵇ◌, Branches, done, else, when, Methods, []ᵐ, method}
use Rattle.definitions.specs.Parse.{parse_expr, parse_stmt, block_of, branches, methods, attribute}
use Rattle.definitions.specs.Wellformed.{ask_block, block_questions, check_tree}
use Rattle.tree_view.specs.Places.{Node, node, node_at, Reads, count_at, CountThere, name_from, name_end, There, ParamsAt, params_at}
use Rattle.tree_view.specs.ExprAt.{expr_at, ExprReads, second_at}

-- the statement at p with d levels left, the block at p, n statements from p on
abbrev pub stmt_at : ℕ → List ℕ → ℕ → Node Stmt
stmt_at d t p = node_at pass (parse_stmt d) t p

abbrev pub block_at : ℕ → List ℕ → ℕ → Node Block
block_at d t p = node_at []ᵇ (block_of (parse_stmt d)) t p

abbrev pub stmts_at : ℕ → ℕ → List ℕ → ℕ → Node Block
stmts_at d n t p = node_at []ᵇ (counted []ᵇ ◌∷ᵇ◌ (parse_stmt d) n) t p

-- n elifs and an else block or none, n methods, the attributes of a class
abbrev pub branches_at : ℕ → ℕ → List ℕ → ℕ → Node Branches
branches_at d n t p = node_at done (branches (parse_expr d) (parse_stmt d) n) t p

abbrev pub methods_at : ℕ → ℕ → List ℕ → ℕ → Node Methods
methods_at d n t p = node_at []ᵐ (methods (parse_stmt d) n) t p

abbrev pub attributes_at : ℕ → List ℕ → ℕ → Node (List Attribute)
attributes_at d t p = node_at [] (list_of 2 (attribute (parse_expr d))) t p

-- that they read
abbrev pub StmtReads : ℕ → List ℕ → ℕ → Type 0
StmtReads d t p = Reads (parse_stmt d) t p

abbrev pub BlockReads : ℕ → List ℕ → ℕ → Type 0
BlockReads d t p = Reads (block_of (parse_stmt d)) t p

abbrev pub StmtsRead : ℕ → ℕ → List ℕ → ℕ → Type 0
StmtsRead d n t p = Reads (counted []ᵇ ◌∷ᵇ◌ (parse_stmt d) n) t p

abbrev pub BranchesRead : ℕ → ℕ → List ℕ → ℕ → Type 0
BranchesRead d n t p = Reads (branches (parse_expr d) (parse_stmt d) n) t p

abbrev pub MethodsRead : ℕ → ℕ → List ℕ → ℕ → Type 0
MethodsRead d n t p = Reads (methods (parse_stmt d) n) t p

abbrev pub AttributesRead : ℕ → List ℕ → ℕ → Type 0
AttributesRead d t p = Reads (list_of 2 (attribute (parse_expr d))) t p

-- ---- expressions, returns, assignments

unfoldable pub expr_stmt_at : ℕ → List ℕ → ℕ → Node Stmt
expr_stmt_at d t p = node (expr (expr_at d t p).value) (expr_at d t p).end

unfoldable pub return_at : ℕ → List ℕ → ℕ → Node Stmt
return_at d t p = node (return (expr_at d t p).value) (expr_at d t p).end

-- an assignment holds what TwoAt says: the target and the value
unfoldable pub assign_at : ℕ → List ℕ → ℕ → Node Stmt
assign_at d t p = node (assign (expr_at d t p).value (second_at d t p).value) (second_at d t p).end

-- ---- branches and loops

-- a condition and a block: an If's first, an elif's, a While's
pub record BranchAt (d : ℕ) (t : List ℕ) (p : ℕ) : Type 0 where
  pub condition : ExprReads d t p
  pub block : BlockReads d t (expr_at d t p).end

abbrev pub body_at : ℕ → List ℕ → ℕ → Node Block
body_at d t p = block_at d t (expr_at d t p).end

-- a first branch, a count of elifs, these and the else block
pub record IfAt (d : ℕ) (t : List ℕ) (p : ℕ) : Type 0 where
  pub first : BranchAt d t p
  pub count : CountThere t (body_at d t p).end
  pub rest : BranchesRead d (count_at t (body_at d t p).end) t ((body_at d t p).end + 2)

abbrev pub elifs_at : ℕ → List ℕ → ℕ → Node Branches
elifs_at d t p = branches_at d (count_at t (body_at d t p).end) t ((body_at d t p).end + 2)

unfoldable pub if_at : ℕ → List ℕ → ℕ → Node Stmt
if_at d t p = node (if (when (expr_at d t p).value (body_at d t p).value (elifs_at d t p).value)) (elifs_at d t p).end

-- a While holds what BranchAt says
unfoldable pub while_at : ℕ → List ℕ → ℕ → Node Stmt
while_at d t p = node (while (expr_at d t p).value (body_at d t p).value) (body_at d t p).end

pub record ForAt (d : ℕ) (t : List ℕ) (p : ℕ) : Type 0 where
  pub name : There t p
  pub loop : BranchAt d t (name_end t p)

unfoldable pub for_at : ℕ → List ℕ → ℕ → Node Stmt
for_at d t p = node (for (name_from t p) (expr_at d t (name_end t p)).value (body_at d t (name_end t p)).value) (body_at d t (name_end t p)).end

-- n elifs, of which there is a first: it, and the n - 1 after it
pub record BranchesMore (d n : ℕ) (t : List ℕ) (p : ℕ) : Type 0 where
  pub first : BranchAt d t p
  pub rest : BranchesRead d (n - 1) t (body_at d t p).end

unfoldable pub when_at : ℕ → ℕ → List ℕ → ℕ → Node Branches
when_at d n t p =
    node (when (expr_at d t p).value (body_at d t p).value (branches_at d (n - 1) t (body_at d t p).end).value) (branches_at d (n - 1) t (body_at d t p).end).end

-- after the byte 1, an else block
unfoldable pub else_at : ℕ → List ℕ → ℕ → Node Branches
else_at d t p = node (else (block_at d t p).value) (block_at d t p).end

-- ---- defs and classes

-- a name, parameters and a block: a def after its kind byte, a method
pub record DefAt (d : ℕ) (t : List ℕ) (p : ℕ) : Type 0 where
  pub name : There t p
  pub params : ParamsAt t (name_end t p)
  pub block : BlockReads d t (params_at t (name_end t p)).end

abbrev pub def_block_at : ℕ → List ℕ → ℕ → Node Block
def_block_at d t p = block_at d t (params_at t (name_end t p)).end

unfoldable pub def_at : ℕ → List ℕ → ℕ → Node Stmt
def_at d t p = node (def (name_from t p) (params_at t (name_end t p)).value (def_block_at d t p).value) (def_block_at d t p).end

-- n methods, of which there is a first: it, and the n - 1 after it
pub record MethodsMore (d n : ℕ) (t : List ℕ) (p : ℕ) : Type 0 where
  pub first : DefAt d t p
  pub rest : MethodsRead d (n - 1) t (def_block_at d t p).end

unfoldable pub method_at : ℕ → ℕ → List ℕ → ℕ → Node Methods
method_at d n t p =
    node (method (name_from t p) (params_at t (name_end t p)).value (def_block_at d t p).value (methods_at d (n - 1) t (def_block_at d t p).end).value)
    (methods_at d (n - 1) t (def_block_at d t p).end).end

-- a name, a count of methods, these, the attributes
pub record ClassAt (d : ℕ) (t : List ℕ) (p : ℕ) : Type 0 where
  pub name : There t p
  pub count : CountThere t (name_end t p)
  pub methods : MethodsRead d (count_at t (name_end t p)) t (name_end t p + 2)
  pub attributes : AttributesRead d t (methods_at d (count_at t (name_end t p)) t (name_end t p + 2)).end

abbrev pub class_methods_at : ℕ → List ℕ → ℕ → Node Methods
class_methods_at d t p = methods_at d (count_at t (name_end t p)) t (name_end t p + 2)

unfoldable pub class_at : ℕ → List ℕ → ℕ → Node Stmt
class_at d t p =
    node (class (name_from t p) (class_methods_at d t p).value (attributes_at d t (class_methods_at d t p).end).value) (attributes_at d t (class_methods_at d t p).end).end

-- a count, and so many attributes
abbrev pub values_at : ℕ → ℕ → List ℕ → ℕ → Node (List Attribute)
values_at d n t p = node_at [] (counted [] ◌∷◌ (attribute (parse_expr d)) n) t p

abbrev pub ValuesRead : ℕ → ℕ → List ℕ → ℕ → Type 0
ValuesRead d n t p = Reads (counted [] ◌∷◌ (attribute (parse_expr d)) n) t p

pub record AttributesAt (d : ℕ) (t : List ℕ) (p : ℕ) : Type 0 where
  pub count : CountThere t p
  pub values : ValuesRead d (count_at t p) t (p + 2)

-- n attributes, of which there is a first: its name and value, and the n - 1 after it
pub record ValuesMore (d n : ℕ) (t : List ℕ) (p : ℕ) : Type 0 where
  pub name : There t p
  pub value : ExprReads d t (name_end t p)
  pub rest : ValuesRead d (n - 1) t (expr_at d t (name_end t p)).end

unfoldable pub value_at : ℕ → ℕ → List ℕ → ℕ → Node (List Attribute)
value_at d n t p =
    let v = expr_at d t (name_end t p) in
    node (record { name = name_from t p; value = v.value } ∷ (values_at d (n - 1) t v.end).value) (values_at d (n - 1) t v.end).end

-- ---- blocks

-- a count, and so many statements
pub record BlockAt (d : ℕ) (t : List ℕ) (p : ℕ) : Type 0 where
  pub count : CountThere t p
  pub statements : StmtsRead d (count_at t p) t (p + 2)

-- n statements, of which there is a first: it, and the n - 1 after it
pub record StmtsMore (d n : ℕ) (t : List ℕ) (p : ℕ) : Type 0 where
  pub head : StmtReads d t p
  pub rest : StmtsRead d (n - 1) t (stmt_at d t p).end

unfoldable pub cons_at : ℕ → ℕ → List ℕ → ℕ → Node Block
cons_at d n t p = node ((stmt_at d t p).value ∷ᵇ (stmts_at d (n - 1) t (stmt_at d t p).end).value) (stmts_at d (n - 1) t (stmt_at d t p).end).end

-- ---- trees

-- an accepted tree: its block stands at byte 5 and ends with the bytes; each question of a block is answered yes
pub record TreeAt (t : List ℕ) : Type 0 where
  pub small : length t ≤ 32768
  pub block : BlockReads 32 t 5
  pub whole : (block_at 32 t 5).end ≡ length t
  pub answer : check_tree t ≡ accepted (block_at 32 t 5).value
  pub yes : (k : ℕ) → k < length block_questions → ask_block (get_or block_questions k 0) false (block_at 32 t 5).value ≡ true
