-- The state after functions, closures and classes.
use Prim.Native.Nat.{ℕ, ◌-◌, ◌≤◌}
use mathlib.Core.Path.{◌≡◌, refl, sym, ap, ◌∙◌}
use mathlib.Core.Option.{Option, none, some}
use mathlib.Core.List.{List, [], ◌∷◌, ◌++◌, append-nil, append_assoc}
use native.Mathlib.Omega.{arith}
use lib.ListN.{length, set}
use lib.Seq.{take-append_seam, drop-append_seam}
use Rattle.definitions.specs.Bytes.{Name, same, position}
use Rattle.definitions.specs.Tree.{Block, Methods, []ᵐ, method}
use Rattle.definitions.specs.Instruction.{Instr, Return, LoadConst, StoreGlobal, MakeClosure}
use Rattle.definitions.specs.Tables.{Function, Method, Tables, Body, Out, Emit, emits, one, ◌⨟◌, with_functions, with_classes, add_constant, add_symbol, block_body, begin, set_code, enclose, function}
use Rattle.definitions.specs.Lower.{load, loads, lambda_name, closure, insert_method, begin_class, class_object, end_class, class_out, method_end, emit_block, emit_methods, compile, main, no_tables}
use Rattle.definitions.specs.Slots.{in_globals, Frame, names_only, with_loops}
use Rattle.state.specs.State.{State, emit_at, symbol_number, with_symbol, with_tables}
use Rattle.state.specs.Steps.{begun, function_ended, method_function, emit_methods_at, methods_of}
use Rattle.state.proofs.Emission.{state-eq, at-seq, at-three, at-nothing, at-intern, intern-by}

-- ---- functions

-- The name's symbol is there; the function begins, with its number f; its body is emitted above the stack; the function ends
pub at-enclose : (base k arity : ℕ) (frame : Frame) (body : Body) (e : Emit) (s : State)
    → emit_at base (enclose k arity frame body e) s ≡ function_ended (length s.stack) (length s.tables.functions) (emit_at (length s.stack) e (begun k arity frame s))
unfolding emit_at enclose begun function_ended
at-enclose base k arity frame body e s =
    let xs = s.stack in
    let u = begin k arity frame s.tables in
    let z : 0 ≡ length xs - length xs = omega arith in
    ap (λ (n : ℕ). record { stack = xs ++ []; tables = with_functions (set_code (e n u).tables.functions (length s.tables.functions) (e n u).code) (e n u).tables }) z
    ∙ state-eq _ _ (append-nil xs ∙ sym (take-append_seam xs (e (length xs - length xs) u).code))
    (ap (λ (is : List Instr). with_functions (set_code (e (length xs - length xs) u).tables.functions (length s.tables.functions) is) (e (length xs - length xs) u).tables)
    (sym (drop-append_seam xs (e (length xs - length xs) u).code)))

-- a symbol is added: the other tables stay
pub symbol-functions : (x : Name) (t : Tables) → (with_symbol x t).functions ≡ t.functions
unfolding with_symbol
symbol-functions x t = go (position (same x) t.symbols)
  where
    go : (o : Option ℕ) → ◌≡◌ {A = List Function} (elim o as (λ z. Tables) [ some k ↦ t | none ↦ add_symbol x t ]).functions t.functions
    go none = refl
    go (some k) = refl

-- s' is the state with the symbol
pub at-function : (base : ℕ) (x : Name) (arity : ℕ) (frame : Frame) (body : Body) (e : Emit) (s s' : State) → s' ≡ with_tables (with_symbol x s.tables) s
    → emit_at base (function x arity frame body e) s
    ≡ function_ended (length s.stack) (length s.tables.functions) (emit_at (length s.stack) e (begun (symbol_number x s.tables) arity frame s'))
unfolding function
at-function base x arity frame body e s s' h =
    at-intern base x (λ k. enclose k arity frame body e) s
    ∙ at-enclose base (symbol_number x s.tables) arity frame body e (with_tables (with_symbol x s.tables) s)
    ∙ (λ j. function_ended (length s.stack) (length (symbol-functions x s.tables j)) (emit_at (length s.stack) e (begun (symbol_number x s.tables) arity frame (with_tables (with_symbol x s.tables) s))))
    ∙ ap (λ (u : State). function_ended (length s.stack) (length s.tables.functions) (emit_at (length s.stack) e (begun (symbol_number x s.tables) arity frame u))) (sym h)

-- ---- closures

pub at-loads-none : (base : ℕ) (slots : List Name) (s : State) → emit_at base (loads slots []) s ≡ s
unfolding loads
at-loads-none base slots s = at-nothing base s

pub at-loads-more : (base : ℕ) (slots : List Name) (x : Name) (xs : List Name) (s : State) → base ≤ length s.stack
    → emit_at base (loads slots (x ∷ xs)) s ≡ emit_at base (loads slots xs) (emit_at base (load slots x) s)
unfolding loads
at-loads-more base slots x xs s h = at-seq base (load slots x) (loads slots xs) s h

-- f is the number of functions
pub at-closure : (base : ℕ) (slots : List Name) (arity : ℕ) (inner cs : List Name) (body : Body) (e : Emit) (s : State) (f : ℕ) → base ≤ length s.stack → f ≡ length s.tables.functions
    → emit_at base (closure slots arity inner cs body e) s
    ≡ emit_at base (one (MakeClosure f (length cs))) (emit_at base (loads slots cs) (emit_at base (function (lambda_name f) arity (names_only inner) body (e ⨟ one Return)) s))
unfolding closure emit_at
at-closure base slots arity inner cs body e s f h q =
    rw q (at-three base (function (lambda_name (length s.tables.functions)) arity (names_only inner) body (e ⨟ one Return)) (loads slots cs) (one (MakeClosure (length s.tables.functions) (length cs))) s h)

-- ---- classes

pub methods-none : (acc : List Method) (s : State) → emit_methods_at []ᵐ acc s ≡ s
unfolding emit_methods_at emit_methods
methods-none acc s = refl

pub methods-none-of : (acc : List Method) (s : State) → methods_of []ᵐ acc s ≡ acc
unfolding methods_of emit_methods
methods-none-of acc s = refl

-- a function is the same at any place
function-place : (base : ℕ) (x : Name) (arity : ℕ) (frame : Frame) (body : Body) (e : Emit) (s : State) → with_tables (function x arity frame body e 0 s.tables).tables s ≡ emit_at base (function x arity frame body e) s
unfolding function enclose emit_at
function-place base x arity frame body e s =
    let f : ℕ → Emit = λ k. enclose k arity frame body e in
    let here' = intern-by x f 0 s.tables in
    let there = intern-by x f (length s.stack - base) s.tables in
    state-eq _ _ (sym (ap (λ (o : Out). s.stack ++ o.code) there ∙ append-nil s.stack)) (ap (λ (o : Out). o.tables) here' ∙ sym (ap (λ (o : Out). o.tables) there))

-- the first method, s' is the state after its function
module _ (base : ℕ) (x : Name) (ps : List Name) (b : Block) (rest : Methods) (acc : List Method) (s s' : State) (h : s' ≡ emit_at base (method_function x ps b) s) where
  pub methods-more : emit_methods_at (method x ps b rest) acc s ≡ emit_methods_at rest (insert_method x (length s.tables.functions) acc) s'
  unfolding emit_methods_at emit_methods method_function
  methods-more =
      let f = with_loops ps b in
      let q = function-place base x (length ps) f (block_body b (method_end x)) (emit_block f.names f.keep b ⨟ emits (method_end x)) s ∙ sym h in
      ap (λ (u : State). with_tables (emit_methods rest (insert_method x (length s.tables.functions) acc) u.tables).tables u) q

  pub methods-more-of : methods_of (method x ps b rest) acc s ≡ methods_of rest (insert_method x (length s.tables.functions) acc) s'
  unfolding methods_of emit_methods method_function
  methods-more-of =
      let f = with_loops ps b in
      let q = function-place base x (length ps) f (block_body b (method_end x)) (emit_block f.names f.keep b ⨟ emits (method_end x)) s ∙ sym h in
      ap (λ (u : State). (emit_methods rest (insert_method x (length s.tables.functions) acc) u.tables).methods) q

-- the class has its methods, s' is the state then, and c its number; then its symbol and its object
pub at-end_class : (base : ℕ) (x : Name) (c : ℕ) (ms : List Method) (s s' : State) → s' ≡ with_tables (with_classes (set s.tables.classes c (record { name = x; methods = ms })) s.tables) s
    → emit_at base (end_class x c ms) s ≡ emit_at base (class_object c (symbol_number x s.tables)) (with_tables (with_symbol x s'.tables) s')
unfolding end_class emit_at symbol_number
at-end_class base x c ms s s' h = rw h (at-intern base x (class_object c) (with_tables (with_classes (set s.tables.classes c (record { name = x; methods = ms })) s.tables) s))

pub at-class_object : (base c k : ℕ) (s : State)
    → emit_at base (class_object c k) s ≡ emit_at base (one (StoreGlobal k)) (emit_at base (one (LoadConst (length s.tables.constants))) (with_tables (add_constant c s.tables) s))
unfolding class_object emit_at emits
at-class_object base c k s = state-eq _ _ (sym (append_assoc s.stack _ _)) refl

-- a whole class: s₁ is the state with its number taken, s₂ that after its methods
pub at-class : (base : ℕ) (x : Name) (ms : Methods) (s s₁ s₂ : State) → s₁ ≡ with_tables (begin_class x s.tables) s → s₂ ≡ emit_methods_at ms [] s₁
    → emit_at base (λ p t. class_out x (length t.classes) (emit_methods ms [] (begin_class x t)) p) s ≡ emit_at base (end_class x (length s.tables.classes) (methods_of ms [] s₁)) s₂
unfolding class_out emit_methods_at methods_of emit_at
at-class base x ms s s₁ s₂ e₁ e₂ = rw (e₂, e₁)

-- ---- the whole tree

-- nothing is emitted yet
pub at-compile : (b : Block) → (compile b).tables ≡ (emit_at 0 (function main 0 (names_only []) (block_body b (Return ∷ [])) (emit_block [] in_globals b ⨟ one Return)) (record { stack = []; tables = no_tables })).tables
unfolding compile emit_at
at-compile b = refl
