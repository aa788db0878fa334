-- What the lowering of an assignment asks of the tree: that the target at p and the value after it read, and that the questions pass them.
use Rattle.std.specs.Prelude.{ℕ, ◌+◌, ◌-◌, ◌<◌, ◌≡◌, true, List}
use Rattle.definitions.specs.Bytes.{Name}
use Rattle.definitions.specs.Tree.{view}
use Rattle.definitions.specs.Tables.{Emit}
use Rattle.definitions.specs.Wellformed.{ask_expr}
use Rattle.definitions.specs.Lower.{assign_by}
use Rattle.tree_view.specs.Places.{There, name_end}
use Rattle.tree_view.specs.ExprAt.{expr_at, ExprReads, ListAt, second_at}
use Rattle.lower_forms.specs.Lowerable.{Relied, Lowerable, expr_code}

pub record AssignLowerable (d : ℕ) (t : List ℕ) (p : ℕ) : Type 0 where
  pub target : ExprReads d t p
  pub asks : (q : ℕ) → Relied q → ask_expr q (expr_at d t p).value ≡ true
  pub value : Lowerable d t (expr_at d t p).end

-- the assignment's code, by its target's form
abbrev pub assign_code : ℕ → List ℕ → List Name → ℕ → Emit
assign_code d t names p = assign_by (view (expr_at d t p).value) names (expr_code d t names (expr_at d t p).end)

-- to the variable whose name is at p
pub record VariableAssigned (d : ℕ) (t : List ℕ) (p : ℕ) : Type 0 where
  pub name : There t p
  pub value : Lowerable d t (name_end t p)

-- to the attribute whose object is at p, a level deeper
pub record AttributeAssigned (d : ℕ) (t : List ℕ) (p : ℕ) : Type 0 where
  pub deep : 0 < d
  pub object : Lowerable (d - 1) t p
  pub name : There t (expr_at (d - 1) t p).end
  pub value : Lowerable d t (name_end t (expr_at (d - 1) t p).end)

-- two expressions, the second where the first ends
pub record PairLowerable (d : ℕ) (t : List ℕ) (p : ℕ) : Type 0 where
  pub first : Lowerable d t p
  pub second : Lowerable d t (expr_at d t p).end

-- to the index whose object is at p
pub record IndexAssigned (d : ℕ) (t : List ℕ) (p : ℕ) : Type 0 where
  pub deep : 0 < d
  pub pair : PairLowerable (d - 1) t p
  pub value : Lowerable d t (second_at (d - 1) t p).end

-- to the tuple at p, whose elements are a level deeper
pub record TupleAssigned (d : ℕ) (t : List ℕ) (p : ℕ) : Type 0 where
  pub deep : 0 < d
  pub target : ExprReads d t p
  pub elements : ListAt (d - 1) t (p + 1)
  pub value : Lowerable d t (expr_at d t p).end
