-- What the lowering of an expression asks of the tree, and the code of what stands at a position. In all of these d is the number of levels left for
-- the expressions held, names are those of the slots, and p is the position after the kind byte.
use Rattle.std.specs.Prelude.{ℕ, ◌+◌, ◌-◌, ◌<◌, ◌≤◌, ◌≡◌, true, List, [], ◌++◌, length, drop, get_or}
use Rattle.definitions.specs.Bytes.{Name, all, member}
use Rattle.definitions.specs.Tree.{lambda}
use Rattle.definitions.specs.Wellformed.{ask_expr, ask_exprs}
use Rattle.definitions.specs.Instruction.{Instr}
use Rattle.definitions.specs.Instruction
use Rattle.definitions.specs.Tables.{Emit, emits, one, ◌⨟◌, function, expr_body, intern}
use Rattle.definitions.specs.Slots.{captures, names_only}
use Rattle.definitions.specs.Lower.{Callee, builtin_callee, function_callee, value_callee, load, lambda_name, closure, emit_expr, emit_exprs}
use Rattle.tree_view.specs.Places.{count_at, CountThere, name_end, There, ParamsAt, params_at}
use Rattle.tree_view.specs.ExprAt.{expr_at, exprs_at, ExprReads, ExprsRead}
use Rattle.state.specs.Words.{name_at}
use Rattle.state.specs.State.{names_at}
use Rattle.lower_emit.specs.declared.emitter.Emitter.{Emitter}
use Rattle.lower_emit.specs.Emitting.{SoundIn}
use Rattle.opcodes.specs.Codes.{held_of}

-- what a step asks of the tree and the emitter alone: that the tree is short, and the slices sound
pub record SoleIn (tree : List ℕ) (e : Emitter) : Type 0 where
  pub tree-short : length tree ≤ 32768
  pub sound : SoundIn tree e

-- the questions of the tree on which the lowering relies
pub data Relied : ℕ → Type 0 where
  of_names : Relied 7
  of_breaks : Relied 9
  of_counts : Relied 13

-- ---- expressions

-- the expression at p reads, and these questions pass it
pub record Lowerable (d : ℕ) (t : List ℕ) (p : ℕ) : Type 0 where
  pub reads : ExprReads d t p
  pub asks : (q : ℕ) → Relied q → ask_expr q (expr_at d t p).value ≡ true

-- n expressions from p on
pub record LowerableMany (d n : ℕ) (t : List ℕ) (p : ℕ) : Type 0 where
  pub reads : ExprsRead d n t p
  pub asks : (q : ℕ) → Relied q → ask_exprs q (exprs_at d n t p).value ≡ true

-- their code
abbrev pub expr_code : ℕ → List ℕ → List Name → ℕ → Emit
expr_code d t names p = emit_expr names (expr_at d t p).value

abbrev pub exprs_code : ℕ → ℕ → List ℕ → List Name → ℕ → Emit
exprs_code d n t names p = emit_exprs names (exprs_at d n t p).value

-- ---- operators

pub record UnaryLowerable (d : ℕ) (t : List ℕ) (p : ℕ) : Type 0 where
  pub inside : p < length t
  pub operator : get_or t p 0 < 3
  pub operand : Lowerable d t (p + 1)

-- two expressions, the second where the first ends
pub record TwoLowerable (d : ℕ) (t : List ℕ) (p : ℕ) : Type 0 where
  pub first : Lowerable d t p
  pub second : Lowerable d t (expr_at d t p).end

pub record BinaryLowerable (d : ℕ) (t : List ℕ) (p : ℕ) : Type 0 where
  pub inside : p < length t
  pub operator : get_or t p 0 < 14
  pub operands : TwoLowerable d t (p + 1)

-- ---- calls

-- a count of at most 255, and so many arguments
pub record ArgsLowerable (d : ℕ) (t : List ℕ) (p : ℕ) : Type 0 where
  pub count : CountThere t p
  pub few : count_at t p ≤ 255
  pub elements : LowerableMany d (count_at t p) t (p + 2)

pub record CallLowerable (d : ℕ) (t : List ℕ) (p : ℕ) : Type 0 where
  pub callee : Lowerable d t p
  pub args : ArgsLowerable d t (expr_at d t p).end

-- a call by the name at p
pub record NamedLowerable (d : ℕ) (t : List ℕ) (p : ℕ) : Type 0 where
  pub name : There t p
  pub args : ArgsLowerable d t (name_end t p)

-- an object, a name
pub record AttributeLowerable (d : ℕ) (t : List ℕ) (p : ℕ) : Type 0 where
  pub object : Lowerable d t p
  pub name : There t (expr_at d t p).end

-- a call of an attribute, whose object stands a level deeper
pub record MethodLowerable (d : ℕ) (t : List ℕ) (p : ℕ) : Type 0 where
  pub deep : 0 < d
  pub callee : AttributeLowerable (d - 1) t p
  pub args : ArgsLowerable d t (name_end t (expr_at (d - 1) t p).end)

-- its code: the method's symbol comes after the arguments
abbrev pub method_code : ℕ → List ℕ → List Name → ℕ → Emit
method_code d t names p =
    let x = (expr_at (d - 1) t p).end in
    let n = count_at t (name_end t x) in
    expr_code (d - 1) t names p ⨟ exprs_code d n t names (name_end t x + 2) ⨟ intern (name_at t x) (λ k. one (Instruction.CallMethod k n))

-- a callee that is a value is loaded before the arguments
unfoldable pub load_callee : Callee → List Name → Name → Emit
load_callee (builtin_callee i) names x = emits []
load_callee (function_callee i) names x = emits []
load_callee value_callee names x = load names x

-- the instruction that calls
unfoldable pub call_instr : Callee → ℕ → Instr
call_instr (builtin_callee i) n = Instruction.CallBuiltin i n
call_instr (function_callee i) n = Instruction.Call i n
call_instr value_callee n = Instruction.CallValue n

-- a number of a built-in or a function that a word keeps
unfoldable pub Short : Callee → Type 0
Short (builtin_callee i) = i < 256
Short (function_callee i) = i < 256
Short value_callee = Unit {0}

-- ---- displays

pub record DisplayLowerable (k d : ℕ) (t : List ℕ) (p : ℕ) : Type 0 where
  pub above : 11 ≤ k
  pub below : k ≤ 15
  pub count : CountThere t p
  pub elements : LowerableMany d (held_of k (count_at t p)) t (p + 2)

-- ---- lambdas

-- the names of a lambda's slots: parameters, then captures
abbrev pub lambda_names : ℕ → List ℕ → List Name → ℕ → List Name
lambda_names d t names p = (params_at t p).value ++ captures names (params_at t p).value (expr_at d t (params_at t p).end).value

pub record LambdaLowerable (d : ℕ) (t : List ℕ) (p : ℕ) : Type 0 where
  pub params : ParamsAt t p
  pub few : count_at t p ≤ 255
  pub body : Lowerable d t (params_at t p).end

-- its code
abbrev pub lambda_code : ℕ → List ℕ → List Name → ℕ → Emit
lambda_code d t names p = emit_expr names (lambda (params_at t p).value (expr_at d t (params_at t p).end).value)

-- the code of a closure: arity parameters, then captures, in the slots inner; its body is the expression at p
abbrev pub closure_code : ℕ → List ℕ → List Name → ℕ → List ℕ → ℕ → Emit
closure_code d t names arity inner p = closure names arity (names_at t inner) (names_at t (drop arity inner)) (expr_body (expr_at d t p).value) (expr_code d t (names_at t inner) p)

-- the code of its function, with f functions before it
abbrev pub function_code : ℕ → List ℕ → ℕ → ℕ → List ℕ → ℕ → Emit
function_code d t f arity inner p = function (lambda_name f) arity (names_only (names_at t inner)) (expr_body (expr_at d t p).value) (expr_code d t (names_at t inner) p ⨟ one Instruction.Return)

pub record ClosureLowerable (d : ℕ) (t : List ℕ) (arity : ℕ) (inner : List ℕ) (p : ℕ) : Type 0 where
  pub few : length inner ≤ 255
  pub params : arity ≤ length inner
  pub body : Lowerable d t p

-- the captures have slots in the parent
abbrev pub CapturesHaveSlots : List Name → List Name → Type 0
CapturesHaveSlots names xs = all (λ x. member x names) xs ≡ true

pub record CapturesHeld (t : List ℕ) (names : List Name) (arity : ℕ) (inner : List ℕ) : Type 0 where
  pub held : CapturesHaveSlots names (names_at t (drop arity inner))
