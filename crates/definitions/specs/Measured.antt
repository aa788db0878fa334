-- The measured lowering: how many instructions each part of the tree will have, and the code with every jump final as it is written. It gives what `Lower`
-- gives; `Statements` says so.
use Rattle.std.specs.Prelude.{ℕ, zero, suc, ◌+◌, ◌-◌, Bool, true, false, ◌||◌, List, [], ◌∷◌, ◌++◌, length, eqb}
use Rattle.std.proofs.Math.Option.{Option, none, some}
use Rattle.definitions.specs.Bytes.{Name, Answer, refused, accepted, when_accepted, same, position}
use Rattle.definitions.specs.Tree.{Expr, lit, var, unary, binary, logical, call, attr, display, index, lambda, Exprs, []ᵉ, ◌∷ᵉ◌, count}
use Rattle.definitions.specs.Tree.{View, as_var, as_attr, as_index, as_tuple, as_other, view}
use Rattle.definitions.specs.Tree.{Stmt, break, continue, pass, expr, return, assign, if, while, for, def, class}
use Rattle.definitions.specs.Tree.{Block, []ᵇ, ◌∷ᵇ◌, Branches, done, else, when, Methods, []ᵐ, method}
use Rattle.definitions.specs.Wellformed.{is_tuple, check_tree}
use Rattle.definitions.specs.Builtins.{builtin}
use Rattle.definitions.specs.Slots.{captures, Keeping, in_globals, past, names_only, with_loops, loops_stmt, loops_block}
use Rattle.definitions.specs.Instruction
use Rattle.definitions.specs.Instruction.{Jump, JumpIfFalse, ConstBool, Return, minus}
use Rattle.definitions.specs.Tables.{Function, Method, Class, Tables, block_body, expr_body, Out, Emit, emits, one, ◌⨟◌, here, intern, function}
use Rattle.definitions.specs.Lower.{load, store, literal, decides, jump_on, display_size, call_by, closure, unpack, make_iter, store_iter, kept_iter, ask_iter, take_iter}
use Rattle.definitions.specs.Lower.{method_end, insert_method, Members, begin_class, class_out, main, no_tables}
use Rattle.definitions.specs.Module.{Limits, fits, module_bytes}
use Rattle.definitions.specs.Calls.{areas_fit, fits_room, count_answer, area_after, output_after, Lowering}

-- ---- what a measure must know

-- The functions and the classes so far, by name: whether a call by name loads a value depends on them, and no other number or name matters. Only defs,
-- methods and classes add to them: a lambda's name is none that a script can call
pub record SoFar : Type 0 where
  pub is_function : Name → Bool
  pub is_class : Name → Bool

-- whether a number was found
unfoldable pub is_there : Option ℕ → Bool
is_there none = false
is_there (some i) = true

-- those of the tables
unfoldable pub function_in : Tables → Name → Bool
function_in t x =
    elim (position (same x) t.symbols) [ none ↦ false | some k ↦ is_there (position (λ (f : Function). eqb k f.symbol) t.functions) ]

unfoldable pub class_in : Tables → Name → Bool
class_in t x = is_there (position (λ (c : Class). same x c.name) t.classes)

unfoldable pub so_far : Tables → SoFar
so_far t = record { is_function = function_in t; is_class = class_in t }

-- one more
unfoldable pub add_function : Name → SoFar → SoFar
add_function x k = record { is_function = λ y. k.is_function y || same y x; is_class = k.is_class }

unfoldable pub add_class : Name → SoFar → SoFar
add_class x k = record { is_function = k.is_function; is_class = λ y. k.is_class y || same y x }

-- those after a part: each def, method and class that begins in it is one more, nested ones too
unfoldable mutual
  pub after_stmt : Stmt → SoFar → SoFar
  after_stmt break k = k
  after_stmt continue k = k
  after_stmt pass k = k
  after_stmt (expr e) k = k
  after_stmt (return e) k = k
  after_stmt (assign t v) k = k
  after_stmt (if bs) k = after_branches bs k
  after_stmt (while c b) k = after_block b k
  after_stmt (for x e b) k = after_block b k
  after_stmt (def x ps b) k = after_block b (add_function x k)
  after_stmt (class x ms vs) k = after_methods ms (add_class x k)

  pub after_block : Block → SoFar → SoFar
  after_block []ᵇ k = k
  after_block (s ∷ᵇ b) k = after_block b (after_stmt s k)

  pub after_branches : Branches → SoFar → SoFar
  after_branches done k = k
  after_branches (else b) k = after_block b k
  after_branches (when c b r) k = after_branches r (after_block b k)

  pub after_methods : Methods → SoFar → SoFar
  after_methods []ᵐ k = k
  after_methods (method x ps b ms) k = after_methods ms (after_block b (add_function x k))

-- a call of x needs no loaded value: x is a built-in; or it is no class so far, but a function so far
unfoldable pub direct : SoFar → Name → Bool
direct k x = elim (builtin x) [ some i ↦ true | none ↦ elim (k.is_class x) [ true ↦ false | false ↦ k.is_function x ] ]

-- ---- how many instructions an expression has

-- a call by its callee's form, by the numbers of its callee, of the object where the callee is an attribute, and of its arguments
unfoldable pub measure_call : View → SoFar → ℕ → ℕ → ℕ → ℕ
measure_call (as_var x) k callee object args = elim (direct k x) [ true ↦ args + 1 | false ↦ 1 + (args + 1) ]
measure_call (as_attr o x) k callee object args = object + (args + 1)
measure_call (as_index o i) k callee object args = callee + (args + 1)
measure_call (as_tuple es) k callee object args = callee + (args + 1)
measure_call as_other k callee object args = callee + (args + 1)

-- an expression, by the slots of its function and what is so far; it begins no def or class, so that is the same all through it
unfoldable mutual
  pub measure_expr : List Name → SoFar → Expr → ℕ
  measure_expr slots k (lit l) = 1
  measure_expr slots k (var x) = 1
  measure_expr slots k (unary op e) = measure_expr slots k e + 1
  measure_expr slots k (binary op l r) = measure_expr slots k l + (measure_expr slots k r + 1)
  -- the right side, and around it a question, a jump and a constant
  measure_expr slots k (logical op l r) = measure_expr slots k l + (measure_expr slots k r + 3)
  measure_expr slots k (call f es) = measure_call (view f) k (measure_expr slots k f) (measure_object slots k f) (measure_exprs slots k es)
  measure_expr slots k (attr o x) = measure_expr slots k o + 1
  measure_expr slots k (display d es) = measure_exprs slots k es + 1
  measure_expr slots k (index o i) = measure_expr slots k o + (measure_expr slots k i + 1)
  -- each captured value, and the closure; the body is a function of its own
  measure_expr slots k (lambda ps b) = length (captures slots ps b) + 1

  pub measure_exprs : List Name → SoFar → Exprs → ℕ
  measure_exprs slots k []ᵉ = 0
  measure_exprs slots k (e ∷ᵉ es) = measure_expr slots k e + measure_exprs slots k es

  -- an attribute's object; no call asks for it of any other expression
  pub measure_object : List Name → SoFar → Expr → ℕ
  measure_object slots k (lit l) = 0
  measure_object slots k (var x) = 0
  measure_object slots k (unary op e) = 0
  measure_object slots k (binary op l r) = 0
  measure_object slots k (logical op l r) = 0
  measure_object slots k (call f es) = 0
  measure_object slots k (attr o x) = measure_expr slots k o
  measure_object slots k (display d es) = 0
  measure_object slots k (index o i) = 0
  measure_object slots k (lambda ps b) = 0

-- ---- how many an assignment has

-- the copy of the value, which the last element taken does without
unfoldable pub measure_copy : ℕ → ℕ
measure_copy zero = 0
measure_copy (suc i) = 1

-- the store in an element of a tuple target; the elements of a tuple from place i on, last to first, each with its copy, its index and its load
unfoldable mutual
  pub measure_target : Expr → ℕ
  measure_target (lit l) = 0
  measure_target (var x) = 1
  measure_target (unary op e) = 0
  measure_target (binary op l r) = 0
  measure_target (logical op l r) = 0
  measure_target (call f es) = 0
  measure_target (attr o x) = 0
  measure_target (display d es) = elim (is_tuple d) [ true ↦ measure_unpack es 0 | false ↦ 0 ]
  measure_target (index o i) = 0
  measure_target (lambda ps b) = 0

  pub measure_unpack : Exprs → ℕ → ℕ
  measure_unpack []ᵉ i = 0
  measure_unpack (e ∷ᵉ es) i = measure_unpack es (suc i) + (measure_copy i + (2 + measure_target e))

-- an assignment, by its target's form and the number of its value
unfoldable pub measure_assign : View → List Name → SoFar → ℕ → ℕ
measure_assign (as_var x) slots k v = v + 1
measure_assign (as_attr o x) slots k v = measure_expr slots k o + (v + 1)
measure_assign (as_index o i) slots k v = measure_expr slots k o + (measure_expr slots k i + (v + 1))
measure_assign (as_tuple es) slots k v = v + measure_unpack es 0
measure_assign as_other slots k v = 0

-- ---- how many a statement has

-- a loop, by the numbers of its head and of its inside: the question between them, and the jump back
unfoldable pub measure_loop : ℕ → ℕ → ℕ
measure_loop head inside = head + suc (inside + 1)

-- what a for asks in each round, and how it takes the next value
abbrev pub measure_ask : ℕ
measure_ask = 2

abbrev pub measure_take : ℕ
measure_take = 3

-- a for, by the numbers of its iterable and of its block: the iterator is made and stored, then the loop
unfoldable pub measure_for : ℕ → ℕ → ℕ
measure_for e n = e + (1 + (1 + measure_loop measure_ask (measure_take + n)))

unfoldable mutual
  pub measure_stmt : List Name → SoFar → Stmt → ℕ
  measure_stmt slots k break = 1
  measure_stmt slots k continue = 1
  measure_stmt slots k pass = 0
  measure_stmt slots k (expr e) = measure_expr slots k e + 1
  measure_stmt slots k (return e) = measure_expr slots k e + 1
  measure_stmt slots k (assign t v) = measure_assign (view t) slots k (measure_expr slots k v)
  measure_stmt slots k (if bs) = measure_branches slots k bs
  measure_stmt slots k (while c b) = measure_loop (measure_expr slots k c) (measure_block slots k b)
  measure_stmt slots k (for x e b) = measure_for (measure_expr slots k e) (measure_block slots k b)
  -- its code is a function of its own
  measure_stmt slots k (def x ps b) = 0
  -- the class's object and its store
  measure_stmt slots k (class x ms vs) = 2

  -- what begins in a statement is so far for those after it
  pub measure_block : List Name → SoFar → Block → ℕ
  measure_block slots k []ᵇ = 0
  measure_block slots k (s ∷ᵇ b) = measure_stmt slots k s + measure_block slots (after_stmt s k) b

  -- condition, question, block, end jump, and the branches after it
  pub measure_branches : List Name → SoFar → Branches → ℕ
  measure_branches slots k done = 0
  measure_branches slots k (else b) = measure_block slots k b
  measure_branches slots k (when c b r) = measure_expr slots k c + suc (measure_block slots k b + suc (measure_branches slots (after_block b k) r))

-- how far the end jump before these branches goes: past an else block, or to the end jump of an elif
unfoldable pub measure_hop : List Name → SoFar → Branches → ℕ
measure_hop slots k done = 0
measure_hop slots k (else b) = measure_block slots k b
measure_hop slots k (when c b r) = suc (measure_expr slots k c) + measure_block slots k b

-- ---- the code of an expression

-- a part that is written by what is so far where it begins
unfoldable pub knowing : (SoFar → Emit) → Emit
knowing f p t = f (so_far t) p t

-- `and`, `or` after the left side, by the number of instructions of the right one: on the short way over it to a constant
unfoldable pub write_short : Bool → ℕ → Emit → Emit
write_short b n r = one (jump_on b (suc n)) ⨟ r ⨟ emits (Jump 1 ∷ ConstBool b ∷ [])

-- the code that leaves an expression's value
unfoldable mutual
  pub write_expr : List Name → Expr → Emit
  write_expr slots (lit l) = literal l
  write_expr slots (var x) = load slots x
  write_expr slots (unary op e) = write_expr slots e ⨟ one (Instruction.Unary op)
  write_expr slots (binary op l r) = write_expr slots l ⨟ write_expr slots r ⨟ one (Instruction.Binary op)
  write_expr slots (logical op l r) = write_expr slots l ⨟ knowing (λ k. write_short (decides op) (measure_expr slots k r) (write_expr slots r))
  write_expr slots (call f es) = call_by (view f) slots (write_expr slots f) (write_object slots f) (write_exprs slots es) (count es)
  write_expr slots (attr o x) = write_expr slots o ⨟ intern x (λ k. one (Instruction.LoadAttr k))
  write_expr slots (display d es) = write_exprs slots es ⨟ one (Instruction.Build d (display_size d es))
  write_expr slots (index o i) = write_expr slots o ⨟ write_expr slots i ⨟ one Instruction.LoadIndex
  write_expr slots (lambda ps b) =
      let cs = captures slots ps b in
      closure slots (length ps) (ps ++ cs) cs (expr_body b) (write_expr (ps ++ cs) b)

  pub write_exprs : List Name → Exprs → Emit
  write_exprs slots []ᵉ = emits []
  write_exprs slots (e ∷ᵉ es) = write_expr slots e ⨟ write_exprs slots es

  -- an attribute's object
  pub write_object : List Name → Expr → Emit
  write_object slots (lit l) = emits []
  write_object slots (var x) = emits []
  write_object slots (unary op e) = emits []
  write_object slots (binary op l r) = emits []
  write_object slots (logical op l r) = emits []
  write_object slots (call f es) = emits []
  write_object slots (attr o x) = write_expr slots o
  write_object slots (display d es) = emits []
  write_object slots (index o i) = emits []
  write_object slots (lambda ps b) = emits []

-- an assignment by its target's form, with the value's code
unfoldable pub write_assign : View → List Name → Emit → Emit
write_assign (as_var x) slots v = v ⨟ store slots x
write_assign (as_attr o x) slots v = write_expr slots o ⨟ v ⨟ intern x (λ k. one (Instruction.StoreAttr k))
write_assign (as_index o i) slots v = write_expr slots o ⨟ write_expr slots i ⨟ v ⨟ one Instruction.StoreIndex
write_assign (as_tuple es) slots v = v ⨟ unpack slots es 0
write_assign as_other slots v = emits []

-- ---- the code of a statement

-- the innermost loop around a part: the place where it starts, and the place after it
pub record Loop : Type 0 where
  pub start : ℕ
  pub end : ℕ

-- outside all loops; no break or continue asks for it, by question 9
unfoldable pub no_loop : Loop
no_loop = record { start = 0; end = 0 }

-- a jump forward to a place, and one back: the target minus (own place + 1)
unfoldable pub ahead : ℕ → Emit
ahead target = here (λ p. one (Jump (target - suc p)))

unfoldable pub back : ℕ → Emit
back target = here (λ p. one (Jump (minus (suc p - target))))

-- a loop, by the numbers of its head and of its inside: head, question, inside, and back; the inside is told where the loop starts and ends
unfoldable pub write_loop : ℕ → ℕ → Emit → (Loop → Emit) → Emit
write_loop h n head inside = here (λ p. head ⨟ one (JumpIfFalse (suc n)) ⨟ inside (record { start = p; end = p + measure_loop h n }) ⨟ back p)

-- a for, with the code of its iterable, the number of its block's instructions and the writing of its block
unfoldable pub write_for : List Name → Keeping → Name → Emit → (SoFar → ℕ) → (Loop → Emit) → Emit
write_for slots keep x e n inside =
    e ⨟ make_iter
    ⨟ kept_iter keep (λ g. one (store_iter g)
    ⨟ knowing (λ k. write_loop measure_ask (measure_take + n k) (ask_iter g) (λ w. take_iter slots x g ⨟ inside w)))

-- a statement in the innermost loop v: break goes to the place after the loop, continue to its start
unfoldable mutual
  pub write_stmt : List Name → Keeping → Loop → Stmt → Emit
  write_stmt slots keep v break = ahead v.end
  write_stmt slots keep v continue = back v.start
  write_stmt slots keep v pass = emits []
  write_stmt slots keep v (expr e) = write_expr slots e ⨟ one Instruction.Pop
  write_stmt slots keep v (return e) = write_expr slots e ⨟ one Return
  write_stmt slots keep v (assign t e) = write_assign (view t) slots (write_expr slots e)
  write_stmt slots keep v (if bs) = write_branches slots keep v bs
  write_stmt slots keep v (while c b) =
      knowing (λ k. write_loop (measure_expr slots k c) (measure_block slots k b) (write_expr slots c) (λ w. write_block slots keep w b))
  write_stmt slots keep v (for x e b) = write_for slots keep x (write_expr slots e) (λ k. measure_block slots k b) (λ w. write_block slots (past 1 keep) w b)
  write_stmt slots keep v (def x ps b) =
      let inner = with_loops ps b in
      function x (length ps) inner (block_body b (Return ∷ [])) (write_block inner.names inner.keep no_loop b ⨟ one Return)
  write_stmt slots keep v (class x ms vs) = λ p t. class_out x (length t.classes) (write_methods ms [] (begin_class x t)) p

  pub write_block : List Name → Keeping → Loop → Block → Emit
  write_block slots keep v []ᵇ = emits []
  write_block slots keep v (s ∷ᵇ b) = write_stmt slots keep v s ⨟ write_block slots (past (loops_stmt s) keep) v b

  -- condition, question over the block and its end jump, block, end jump, and the branches after it
  pub write_branches : List Name → Keeping → Loop → Branches → Emit
  write_branches slots keep v done = emits []
  write_branches slots keep v (else b) = write_block slots keep v b
  write_branches slots keep v (when c b r) =
      knowing (λ k.
      write_expr slots c ⨟ one (JumpIfFalse (suc (measure_block slots k b)))
      ⨟ write_block slots keep v b ⨟ one (Jump (measure_hop slots (after_block b k) r))
      ⨟ write_branches slots (past (loops_block b) keep) v r)

  -- the methods, each a function; ms are those so far
  pub write_methods : Methods → List Method → Tables → Members
  write_methods []ᵐ ms t = record { methods = ms; tables = t; sources = [] }
  write_methods (method x ps b rest) ms t =
      let inner = with_loops ps b in
      let o = function x (length ps) inner (block_body b (method_end x)) (write_block inner.names inner.keep no_loop b ⨟ emits (method_end x)) 0 t in
      let m = write_methods rest (insert_method x (length t.functions) ms) o.tables in
      record { methods = m.methods; tables = m.tables; sources = o.sources ++ m.sources }

-- ---- the whole tree

-- function 0, `__main__`, is the tree's block, with no slots
unfoldable pub compile_measured : Block → Out
compile_measured b = function main 0 (names_only []) (block_body b (Return ∷ [])) (write_block [] in_globals no_loop b ⨟ one Return) 0 no_tables

-- ---- the call

-- questions 14 and 15 of a well-formed block
unfoldable pub measured_formed : Limits → Block → Answer Tables
measured_formed l b = fits l (compile_measured b).tables

-- the module's bytes of a tree's bytes: questions 2 to 15
unfoldable pub measured_bytes : Limits → List ℕ → Answer (List ℕ)
measured_bytes l bs = when_accepted (when_accepted (check_tree bs) (measured_formed l)) (λ t. accepted (module_bytes t))

-- the module's bytes: questions 1 to 16, by the lengths of the areas and of the output
unfoldable pub measured_answer : Limits → ℕ → ℕ → ℕ → List ℕ → Answer (List ℕ)
measured_answer l m n room tree = elim (areas_fit m n) [ false ↦ refused 1 | true ↦ when_accepted (measured_bytes l tree) (fits_room room) ]

-- the call `lower_measured`: its answer, and the two areas and the output after it
unfoldable pub measured_call : Limits → List ℕ → List ℕ → List ℕ → List ℕ → Lowering
measured_call l tree area₁ area₂ output =
    let a = measured_answer l (length area₁) (length area₂) (length output) tree in
    record {
      answer = count_answer a;
      area₁ = area_after (length area₁) (length area₂) area₁;
      area₂ = area_after (length area₁) (length area₂) area₂;
      output = output_after a output;
    }
