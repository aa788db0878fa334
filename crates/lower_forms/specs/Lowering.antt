-- What the lowering of statements asks of the tree, and the code of what stands at a position. In all of these d is the number of levels left for what
-- is held, names are those of the slots, keep says where loops keep their iterators; `loop` is whether a loop is around, by which question 9 asks.
use Rattle.std.specs.Prelude.{ℕ, ◌+◌, ◌≤◌, ◌≡◌, Bool, true, false, List, [], ◌∷◌, length}
use Rattle.definitions.specs.Bytes.{Name}
use Rattle.definitions.specs.Tree.{Methods}
use Rattle.definitions.specs.Instruction.{Instr, LoadLocal, Return}
use Rattle.definitions.specs.Tables.{Emit, emits, ◌⨟◌, function, block_body}
use Rattle.definitions.specs.Wellformed.{ask_stmt, ask_block, ask_branches, ask_methods}
use Rattle.definitions.specs.Slots.{Keeping, Frame, with_loops}
use Rattle.definitions.specs.Lower.{emit_stmt, emit_block, begin_class, class_out, emit_methods}
use Rattle.tree_view.specs.Places.{count_at, CountThere, name_end, There, ParamsAt, params_at}
use Rattle.tree_view.specs.ExprAt.{expr_at}
use Rattle.tree_view.specs.StmtAt.{stmt_at, block_at, stmts_at, branches_at, methods_at, StmtReads, BlockReads, StmtsRead, BranchesRead, MethodsRead, body_at, def_block_at}
use Rattle.state.specs.Words.{name_at}
use Rattle.lower_forms.specs.Lowerable.{Relied, Lowerable}

-- ---- statements and blocks

pub record StmtLowerable (d : ℕ) (t : List ℕ) (p : ℕ) : Type 0 where
  pub reads : StmtReads d t p
  pub loop : Bool
  pub asks : (q : ℕ) → Relied q → ask_stmt q loop (stmt_at d t p).value ≡ true

pub record BlockLowerable (d : ℕ) (t : List ℕ) (p : ℕ) : Type 0 where
  pub reads : BlockReads d t p
  pub loop : Bool
  pub asks : (q : ℕ) → Relied q → ask_block q loop (block_at d t p).value ≡ true

-- n statements from p on
pub record StmtsLowerable (d n : ℕ) (t : List ℕ) (p : ℕ) : Type 0 where
  pub reads : StmtsRead d n t p
  pub loop : Bool
  pub asks : (q : ℕ) → Relied q → ask_block q loop (stmts_at d n t p).value ≡ true

abbrev pub stmt_code : ℕ → List ℕ → List Name → Keeping → ℕ → Emit
stmt_code d t names keep p = emit_stmt names keep (stmt_at d t p).value

abbrev pub block_code : ℕ → List ℕ → List Name → Keeping → ℕ → Emit
block_code d t names keep p = emit_block names keep (block_at d t p).value

abbrev pub stmts_code : ℕ → ℕ → List ℕ → List Name → Keeping → ℕ → Emit
stmts_code d n t names keep p = emit_block names keep (stmts_at d n t p).value

-- ---- branches and loops

-- a condition and a block
pub record BranchLowerable (d : ℕ) (t : List ℕ) (p : ℕ) : Type 0 where
  pub condition : Lowerable d t p
  pub block : BlockLowerable d t (expr_at d t p).end

-- n elifs and an else block or none
pub record BranchesLowerable (d n : ℕ) (t : List ℕ) (p : ℕ) : Type 0 where
  pub reads : BranchesRead d n t p
  pub loop : Bool
  pub asks : (q : ℕ) → Relied q → ask_branches q loop (branches_at d n t p).value ≡ true

pub record IfLowerable (d : ℕ) (t : List ℕ) (p : ℕ) : Type 0 where
  pub first : BranchLowerable d t p
  pub count : CountThere t (body_at d t p).end
  pub rest : BranchesLowerable d (count_at t (body_at d t p).end) t ((body_at d t p).end + 2)

pub record ForLowerable (d : ℕ) (t : List ℕ) (p : ℕ) : Type 0 where
  pub name : There t p
  pub loop : BranchLowerable d t (name_end t p)

-- ---- defs, methods and classes

-- the slots of a def or method whose name is at p
abbrev pub frame_at : ℕ → List ℕ → ℕ → Frame
frame_at d t p = with_loops (params_at t (name_end t p)).value (def_block_at d t p).value

pub record FunctionLowerable (d : ℕ) (t : List ℕ) (p : ℕ) : Type 0 where
  pub name : There t p
  pub params : ParamsAt t (name_end t p)
  pub few : count_at t (name_end t p) ≤ 255
  pub block : BlockLowerable d t (params_at t (name_end t p)).end
  -- no loop is around it
  pub outside : block.loop ≡ false

-- what a function's code ends in: that of a method `__init__` in its object
unfoldable pub end_of : Bool → List Instr
end_of true = LoadLocal 0 ∷ Return ∷ []
end_of false = Return ∷ []

-- the function whose name is at p
abbrev pub function_code : ℕ → List ℕ → ℕ → Bool → Emit
function_code d t p init =
    function (name_at t p) (length (params_at t (name_end t p)).value) (frame_at d t p) (block_body (def_block_at d t p).value (end_of init))
    (emit_block (frame_at d t p).names (frame_at d t p).keep (def_block_at d t p).value ⨟ emits (end_of init))

pub record MethodsLowerable (d n : ℕ) (t : List ℕ) (p : ℕ) : Type 0 where
  pub reads : MethodsRead d n t p
  pub asks : (q : ℕ) → Relied q → ask_methods q (methods_at d n t p).value ≡ true

pub record ClassLowerable (d : ℕ) (t : List ℕ) (p : ℕ) : Type 0 where
  pub name : There t p
  pub count : CountThere t (name_end t p)
  pub methods : MethodsLowerable d (count_at t (name_end t p)) t (name_end t p + 2)

-- the class with the name x and the methods ms
unfoldable pub class_code : Name → Methods → Emit
class_code x ms p t = class_out x (length t.classes) (emit_methods ms [] (begin_class x t)) p
