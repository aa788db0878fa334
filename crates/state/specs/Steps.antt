-- What the emission code does to the state beside emitting a part: a jump is set, a loop's inside patched, a function begun and ended; and the parts
-- that it goes through in order, branches and methods.
use Rattle.std.specs.Prelude.{ℕ, suc, ◌+◌, ◌-◌, Bool, true, false, List, [], ◌∷◌, ◌++◌, length, take, drop, set}
use Rattle.definitions.specs.Bytes.{Name}
use Rattle.definitions.specs.Tree.{Expr, Block, Branches, Methods, View, as_var, as_attr, as_index, as_tuple, as_other}
use Rattle.definitions.specs.Instruction.{Instr, Jump, JumpIfFalse}
use Rattle.definitions.specs.Tables.{Method, Emit, emits, ◌⨟◌, begin, block_body, function, set_code, with_functions}
use Rattle.definitions.specs.Slots.{Keeping, Frame, with_loops}
use Rattle.definitions.specs.Lower.{patch, method_end, emit_expr, emit_block, emit_branches, emit_methods}
use Rattle.state.specs.State.{State, with_tables}

-- ---- jumps

-- the instruction at place k of the stack is set
unfoldable pub set_at : ℕ → Instr → State → State
set_at k i s = record { stack = set s.stack k i; tables = s.tables }

-- the n instructions from place k on are the inside of a loop, with h instructions of the loop before them: pending ones become jumps
unfoldable pub patch_at : ℕ → ℕ → ℕ → State → State
patch_at h k n s = record { stack = take k s.stack ++ (patch h n 0 (take n (drop k s.stack)) ++ drop (k + n) s.stack); tables = s.tables }

-- ---- functions

-- a function has begun: its number is taken
unfoldable pub begun : ℕ → ℕ → Frame → State → State
begun k arity frame s = with_tables (begin k arity frame s.tables) s

-- function f has ended: its code is what stands on the stack from base on
unfoldable pub function_ended : ℕ → ℕ → State → State
function_ended base f s = record { stack = take base s.stack; tables = with_functions (set_code s.tables.functions f (drop base s.stack)) s.tables }

-- ---- branches

-- one branch of an if: its condition, the jump over its block, the block, and its end jump, which is not known yet
unfoldable pub branch : List Name → Keeping → Expr → Block → Emit
branch slots keep c b p t =
    let a = emit_expr slots c p t in
    let o = emit_block slots keep b (suc (p + length a.code)) a.tables in
    record {
      code = a.code ++ (JumpIfFalse (suc (length o.code)) ∷ o.code ++ Jump 0 ∷ []);
      tables = o.tables;
      sources = a.sources ++ o.sources;
    }

-- the branches after one whose end jump is at place k: they are emitted, and the jump is set
unfoldable pub chain_at : ℕ → List Name → Keeping → Branches → ℕ → State → State
chain_at base slots keep bs k s =
    let c = emit_branches slots keep bs (length s.stack - base) s.tables in
    record { stack = set s.stack k (Jump c.hop) ++ c.out.code; tables = c.out.tables }

-- ---- classes

-- a method's function
unfoldable pub method_function : Name → List Name → Block → Emit
method_function x ps b =
    let inner = with_loops ps b in
    function x (length ps) inner (block_body b (method_end x)) (emit_block inner.names inner.keep b ⨟ emits (method_end x))

-- the state after the methods, and the class's methods, with those so far
unfoldable pub emit_methods_at : Methods → List Method → State → State
emit_methods_at ms acc s = with_tables (emit_methods ms acc s.tables).tables s

unfoldable pub methods_of : Methods → List Method → State → List Method
methods_of ms acc s = (emit_methods ms acc s.tables).methods

-- ---- forms of calls and targets

-- a callee that is computed: no name, no attribute
unfoldable pub is_computed : View → Bool
is_computed (as_var x) = false
is_computed (as_attr o x) = false
is_computed (as_index o i) = true
is_computed (as_tuple es) = true
is_computed as_other = true

-- an element of a tuple target: a name or a tuple
unfoldable pub is_stored : View → Bool
is_stored (as_var x) = true
is_stored (as_attr o x) = false
is_stored (as_index o i) = false
is_stored (as_tuple es) = true
is_stored as_other = false
