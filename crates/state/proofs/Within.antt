-- A state that is within the limits at the end of a step was so before it. So where a part is over the limits, the whole is.
use Prim.Native.Nat.{ℕ, suc, ◌+◌, ◌-◌, ◌≤◌, ◌<◌}
use mathlib.Core.Path.{◌≡◌, refl, sym, ap, subst, ◌∙◌}
use mathlib.Core.List.{List, [], ◌++◌}
use native.Mathlib.Omega.{arith}
use lib.ListN.{length, drop, set, length-append, length-set}
use lib.Dec.{leb}
use lib.Seq.{drop-append_seam, take-append_seam}
use Rattle.definitions.specs.Bytes.{Name}
use Rattle.definitions.specs.Tree.{Expr, Block, Branches, else, when, Methods, method}
use Rattle.definitions.specs.Instruction.{Instr, Jump, JumpIfFalse, LoadConst, StoreGlobal, MakeClosure, Return, minus}
use Rattle.definitions.specs.Tables.{Method, Tables, Body, Emit, one, ◌⨟◌, with_classes, add_constant, begin, function}
use Rattle.definitions.specs.Module.{slots_fit}
use Rattle.definitions.specs.Slots.{Keeping, past, Frame, names_only, loops_block}
use Rattle.definitions.specs.Lower.{loop, loads, lambda_name, closure, emit_expr, emit_block, emit_branches, emit_methods, begin_class, class_object, end_class, class_out}
use Rattle.definitions.proofs.Truth.{right, at_most}
use Rattle.state.specs.State.{State, emit_at, WithinLimits, symbol_number, with_symbol, with_tables}
use Rattle.state.specs.Steps.{set_at, patch_at, begun, function_ended, branch, chain_at, method_function, emit_methods_at, methods_of}
use Rattle.state.specs.declared.Limits.{Limits}
use Rattle.state.proofs.Emission.{stack-grows, base_kept, at-seq}
use Rattle.state.proofs.Jumps.{set-length, patch-length, at-loop, at-branch, at-when, chain-when, chain-else}
use Rattle.state.proofs.Enclosing.{symbol-functions, at-function, at-closure, at-end_class, at-class_object, at-class, methods-more}
use Rattle.definitions.proofs.Growth.{Lengthened, Lengthens, lengthened-none, functions-longer, instructions-longer, slots-fewer, set_code-count}
use Rattle.definitions.proofs.Growth.{set_code-instructions, lengthens-one, lengthens-seq, branches-lengthened, methods-lengthened, lengthens-end_class, lengthens-loads}
use Rattle.definitions.proofs.SlotsFit.{all_snoc, all-set_code}

-- ---- parts

-- a state with a stack and tables that are no longer
pub within-less : {l : Limits} (s u : State) → Lengthened s.tables u.tables → length s.stack ≤ length u.stack → WithinLimits l u → WithinLimits l s
within-less s u L h w = record {
  functions = omega (arith, functions-longer L, w.functions);
  symbols = omega (arith, L.symbols, w.symbols);
  strings = omega (arith, L.strings, w.strings);
  classes = omega (arith, L.classes, w.classes);
  instructions = omega (arith, instructions-longer L, w.instructions);
  slots = slots-fewer L w.slots;
}

pub within-down : {l : Limits} {e : Emit} (base : ℕ) (s : State) → Lengthens e → WithinLimits l (emit_at base e s) → WithinLimits l s
unfolding emit_at
within-down {e} base s E w = within-less s (emit_at base e s) (E.at (length s.stack - base) s.tables) (stack-grows base e s) w

pub within-one : {l : Limits} (base : ℕ) (i : Instr) (s : State) → WithinLimits l (emit_at base (one i) s) → WithinLimits l s
within-one base i s w = within-down base s (lengthens-one i) w

-- the first of two parts
pub within_first : {l : Limits} {f : Emit} (base : ℕ) (e : Emit) (s : State) → base ≤ length s.stack → Lengthens f → WithinLimits l (emit_at base (e ⨟ f) s) → WithinLimits l (emit_at base e s)
within_first {f} base e s h F w = within-down base (emit_at base e s) F (rw (at-seq base e f s h) at w)

-- both
pub within-second : {l : Limits} (base : ℕ) (e f : Emit) (s : State) → base ≤ length s.stack → WithinLimits l (emit_at base (e ⨟ f) s) → WithinLimits l (emit_at base f (emit_at base e s))
within-second base e f s h w = rw (at-seq base e f s h) at w

-- the first two of three
pub within-two : {l : Limits} {g : Emit} (base : ℕ) (e f : Emit) (s : State) → base ≤ length s.stack → Lengthens g → WithinLimits l (emit_at base (e ⨟ f ⨟ g) s) → WithinLimits l (emit_at base f (emit_at base e s))
within-two {g} base e f s h G w = within_first base f (emit_at base e s) (base_kept base e s h) G (within-second base e (f ⨟ g) s h w)

-- ---- tables

pub within-tables : {l : Limits} (s : State) (u : Tables) → Lengthened s.tables u → WithinLimits l (with_tables u s) → WithinLimits l s
within-tables s u L w = within-less s (with_tables u s) L (omega arith) w

-- ---- jumps

pub within-set : {l : Limits} (k : ℕ) (i : Instr) (s : State) → WithinLimits l (set_at k i s) → WithinLimits l s
unfolding set_at
within-set k i s w = within-less s (set_at k i s) (lengthened-none s.tables) (omega (arith, set-length k i s)) w

pub within-patch : {l : Limits} (h k n : ℕ) (s : State) → k + n ≤ length s.stack → WithinLimits l (patch_at h k n s) → WithinLimits l s
unfolding patch_at
within-patch h k n s m w = within-less s (patch_at h k n s) (lengthened-none s.tables) (omega (arith, patch-length h k n s m)) w

-- i is the placeholder; s₁, s₂ and s₃ are the states after the head, the placeholder and the inside
pub within-loop : {l : Limits} (base : ℕ) (head inside : Emit) (i : Instr) (s : State) → base ≤ length s.stack → (s₁ s₂ s₃ : State)
    → s₁ ≡ emit_at base head s → s₂ ≡ emit_at base (one i) s₁ → s₃ ≡ emit_at base inside s₂
    → WithinLimits l (emit_at base (loop head inside) s) → WithinLimits l (emit_at base (one (Jump (minus (suc (length s₃.stack - length s.stack))))) s₃)
within-loop base head inside i s h s₁ s₂ s₃ e₁ e₂ e₃ w =
    let j = Jump (minus (suc (length s₃.stack - length s.stack))) in
    let g : length s₂.stack ≤ length s₃.stack = rw e₃ (stack-grows base inside s₂) in
    let m = stack-grows base (one j) s₃ in
    within-patch (length s₂.stack - length s.stack) (length s₂.stack) (length s₃.stack - length s₂.stack) (emit_at base (one j) s₃) (omega arith)
    (within-set (length s₁.stack) (JumpIfFalse (suc (length s₃.stack - length s₂.stack))) _ (rw (at-loop base head inside i s h s₁ s₂ s₃ e₁ e₂ e₃) at w))

-- ---- branches

pub within-branch : {l : Limits} (base : ℕ) (slots : List Name) (keep : Keeping) (c : Expr) (b : Block) (s : State) → base ≤ length s.stack → (i : Instr) (s₁ s₂ s₃ : State)
    → s₁ ≡ emit_at base (emit_expr slots c) s → s₂ ≡ emit_at base (one i) s₁ → s₃ ≡ emit_at base (emit_block slots keep b) s₂
    → WithinLimits l (emit_at base (branch slots keep c b) s) → WithinLimits l (emit_at base (one (Jump 0)) s₃)
within-branch base slots keep c b s h i s₁ s₂ s₃ e₁ e₂ e₃ w =
    within-set (length s₁.stack) (JumpIfFalse (suc (length s₃.stack - length s₂.stack))) _ (rw (at-branch base slots keep c b s h i s₁ s₂ s₃ e₁ e₂ e₃) at w)

pub within-chain : {l : Limits} (base : ℕ) (slots : List Name) (keep : Keeping) (bs : Branches) (k : ℕ) (s : State) → WithinLimits l (chain_at base slots keep bs k s) → WithinLimits l s
unfolding chain_at
within-chain base slots keep bs k s w =
    let c = emit_branches slots keep bs (length s.stack - base) s.tables in
    within-less s (chain_at base slots keep bs k s) (branches-lengthened slots keep bs (length s.stack - base) s.tables)
    (omega (arith, length-append (set s.stack k (Jump c.hop)) c.out.code, length-set s.stack k (Jump c.hop))) w

-- the first branch
pub within-when : {l : Limits} (base : ℕ) (slots : List Name) (keep : Keeping) (c : Expr) (b : Block) (r : Branches) (s : State) → base ≤ length s.stack
    → WithinLimits l (emit_at base (λ p t. (emit_branches slots keep (when c b r) p t).out) s) → WithinLimits l (emit_at base (branch slots keep c b) s)
within-when base slots keep c b r s h w = within-chain base slots (past (loops_block b) keep) r _ (emit_at base (branch slots keep c b) s) (rw (at-when base slots keep c b s h r (emit_at base (branch slots keep c b) s) refl) at w)

-- a later branch, or the else block
pub within-chain-when : {l : Limits} (base : ℕ) (slots : List Name) (keep : Keeping) (c : Expr) (b : Block) (r : Branches) (k : ℕ) (s : State) → base ≤ length s.stack → k < length s.stack
    → WithinLimits l (chain_at base slots keep (when c b r) k s) → WithinLimits l (emit_at base (branch slots keep c b) s)
within-chain-when base slots keep c b r k s h m w =
    within-set k _ (emit_at base (branch slots keep c b) s) (within-chain base slots (past (loops_block b) keep) r _ _ (rw (chain-when base slots keep c b s h r k (emit_at base (branch slots keep c b) s) m refl) at w))

pub within-chain-else : {l : Limits} (base : ℕ) (slots : List Name) (keep : Keeping) (b : Block) (k : ℕ) (s : State) → k < length s.stack
    → WithinLimits l (chain_at base slots keep (else b) k s) → WithinLimits l (emit_at base (emit_block slots keep b) s)
within-chain-else base slots keep b k s m w = within-set k _ (emit_at base (emit_block slots keep b) s) (rw (chain-else base slots keep b k s (emit_at base (emit_block slots keep b) s) m refl) at w)

-- ---- functions

-- a function that has begun has at most 255 slots
pub begun-slots : {l : Limits} (k arity : ℕ) (frame : Frame) (s : State) → WithinLimits l (begun k arity frame s) → frame.locals ≤ 255
unfolding begun begin slots_fit
begun-slots k arity frame s w = at_most frame.locals 255 (right (slots_fit s.tables) (leb frame.locals 255) (sym (all_snoc s.tables.functions _) ∙ w.slots))

-- the end of a function: as many instructions as before it
pub within-ended : {l : Limits} {e : Emit} (k arity : ℕ) (frame : Frame) (s : State) → Lengthens e
    → WithinLimits l (function_ended (length s.stack) (length s.tables.functions) (emit_at (length s.stack) e (begun k arity frame s))) → WithinLimits l (emit_at (length s.stack) e (begun k arity frame s))
unfolding function_ended begun emit_at slots_fit
within-ended {e} k arity frame s E w =
    let xs = s.stack in
    let u = begin k arity frame s.tables in
    let o = e (length xs - length xs) u in
    let L = E.at (length xs - length xs) u in
    let is = drop (length xs) (xs ++ o.code) in
    let a = set_code-count k arity frame s.tables o.tables L is in
    let b = set_code-instructions k arity frame s.tables o.tables L is in
    record {
      functions = omega (arith, a, w.functions);
      symbols = w.symbols;
      strings = w.strings;
      classes = w.classes;
      instructions = omega (arith, b, w.instructions, length-append xs o.code, ap length (drop-append_seam xs o.code), ap length (take-append_seam xs o.code));
      slots = sym (all-set_code o.tables.functions (length s.tables.functions) is) ∙ w.slots;
    }

-- a function's body; s' is the state with its symbol
pub within-function : {l : Limits} {e : Emit} (base : ℕ) (x : Name) (arity : ℕ) (frame : Frame) (body : Body) (s s' : State) → s' ≡ with_tables (with_symbol x s.tables) s → Lengthens e
    → WithinLimits l (emit_at base (function x arity frame body e) s) → WithinLimits l (emit_at (length s.stack) e (begun (symbol_number x s.tables) arity frame s'))
within-function {l} {e} base x arity frame body s s' h E w =
    let u : State = with_tables (with_symbol x s.tables) s in
    let k = symbol_number x s.tables in
    rw h (within-ended k arity frame u E
    (subst (λ (n : ℕ). WithinLimits l (function_ended (length s.stack) n (emit_at (length s.stack) e (begun k arity frame u)))) (ap length (sym (symbol-functions x s.tables)))
    (rw (at-function base x arity frame body e s u refl) at w)))

-- a function has at most 255 slots
pub function-slots : {l : Limits} {e : Emit} (base : ℕ) (x : Name) (arity : ℕ) (frame : Frame) (body : Body) (s : State) → Lengthens e
    → WithinLimits l (emit_at base (function x arity frame body e) s) → frame.locals ≤ 255
function-slots base x arity frame body s E w =
    begun-slots (symbol_number x s.tables) arity frame _ (within-down (length s.stack) _ E (within-function base x arity frame body s _ refl E w))

-- a closure's function, and its loads; f is the number of functions
pub within-closure : {l : Limits} (base : ℕ) (slots : List Name) (arity : ℕ) (inner cs : List Name) (body : Body) (e : Emit) (s : State) (f : ℕ) → base ≤ length s.stack → f ≡ length s.tables.functions
    → WithinLimits l (emit_at base (closure slots arity inner cs body e) s) → WithinLimits l (emit_at base (loads slots cs) (emit_at base (function (lambda_name f) arity (names_only inner) body (e ⨟ one Return)) s))
within-closure base slots arity inner cs body e s f h q w =
    within-one base (MakeClosure f (length cs)) _ (rw (at-closure base slots arity inner cs body e s f h q) at w)

pub within-closure-function : {l : Limits} (base : ℕ) (slots : List Name) (arity : ℕ) (inner cs : List Name) (body : Body) (e : Emit) (s : State) (f : ℕ) → base ≤ length s.stack → f ≡ length s.tables.functions
    → WithinLimits l (emit_at base (closure slots arity inner cs body e) s) → WithinLimits l (emit_at base (function (lambda_name f) arity (names_only inner) body (e ⨟ one Return)) s)
within-closure-function base slots arity inner cs body e s f h q w = within-down base _ (lengthens-loads slots cs) (within-closure base slots arity inner cs body e s f h q w)

pub closure-slots : {l : Limits} {e : Emit} (base : ℕ) (slots : List Name) (arity : ℕ) (inner cs : List Name) (body : Body) (s : State) → base ≤ length s.stack → Lengthens e
    → WithinLimits l (emit_at base (closure slots arity inner cs body e) s) → length inner ≤ 255
closure-slots {e} base slots arity inner cs body s h E w =
    function-slots base _ arity (names_only inner) body s (lengthens-seq E (lengthens-one Return)) (within-closure-function base slots arity inner cs body e s _ h refl w)

-- ---- classes

pub within-methods : {l : Limits} (ms : Methods) (acc : List Method) (s : State) → WithinLimits l (emit_methods_at ms acc s) → WithinLimits l s
unfolding emit_methods_at
within-methods ms acc s w = within-tables s (emit_methods ms acc s.tables).tables (methods-lengthened ms acc s.tables) w

-- the first method
pub within-method : {l : Limits} (base : ℕ) (x : Name) (ps : List Name) (b : Block) (rest : Methods) (acc : List Method) (s : State)
    → WithinLimits l (emit_methods_at (method x ps b rest) acc s) → WithinLimits l (emit_at base (method_function x ps b) s)
within-method base x ps b rest acc s w = within-methods rest _ (emit_at base (method_function x ps b) s) (rw (methods-more base x ps b rest acc s (emit_at base (method_function x ps b) s) refl) at w)

-- the class's symbol, after its methods
pub within-end_class : {l : Limits} (base : ℕ) (x : Name) (c : ℕ) (ms : List Method) (s s' : State) → s' ≡ with_tables (with_classes (set s.tables.classes c (record { name = x; methods = ms })) s.tables) s
    → WithinLimits l (emit_at base (end_class x c ms) s) → WithinLimits l (emit_at base (class_object c (symbol_number x s.tables)) (with_tables (with_symbol x s'.tables) s'))
within-end_class base x c ms s s' h w = rw (at-end_class base x c ms s s' h) at w

-- the first of the two instructions of its object
pub within-class_object : {l : Limits} (base c k : ℕ) (s : State) → WithinLimits l (emit_at base (class_object c k) s) → WithinLimits l (emit_at base (one (LoadConst (length s.tables.constants))) (with_tables (add_constant c s.tables) s))
within-class_object base c k s w = within-one base (StoreGlobal k) _ (rw (at-class_object base c k s) at w)

-- s₁ is the state with the class's number taken, s₂ that after its methods
pub within-class : {l : Limits} (base : ℕ) (x : Name) (ms : Methods) (s s₁ s₂ : State) → s₁ ≡ with_tables (begin_class x s.tables) s → s₂ ≡ emit_methods_at ms [] s₁
    → WithinLimits l (emit_at base (λ p t. class_out x (length t.classes) (emit_methods ms [] (begin_class x t)) p) s) → WithinLimits l s₂
within-class base x ms s s₁ s₂ e₁ e₂ w = within-down base s₂ (lengthens-end_class x (length s.tables.classes) (methods_of ms [] s₁)) (rw (at-class base x ms s s₁ s₂ e₁ e₂) at w)
