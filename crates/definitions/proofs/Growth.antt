-- Lowering only lengthens the tables, for any tree: functions are added at the end, and no table gets shorter.
use Prim.Native.Nat.{ℕ, zero, suc, ◌+◌, ◌≤◌}
use mathlib.Core.Path.{◌≡◌, refl, sym, ap, ◌∙◌}
use mathlib.Core.Bool.{Bool, true, false}
use mathlib.Core.Option.{Option, none, some}
use mathlib.Core.List.{List, [], ◌∷◌, ◌++◌, append_assoc, append-nil}
use native.Mathlib.Omega.{arith}
use lib.ListN.{length, set, length-append, length-set}
use lib.Seq.{append_snoc}
use lib.Dec.{leb}
use Rattle.definitions.specs.Bytes.{Name, Text, same, position, all}
use Rattle.definitions.specs.Tree.{Literal, none_l, bool_l, int_l, float_l, string_l, Expr, lit, var, unary, binary, logical, call, attr, display, index, lambda, Exprs, []ᵉ, ◌∷ᵉ◌}
use Rattle.definitions.specs.Tree.{count, View, as_var, as_attr, as_index, as_tuple, as_other, view, Stmt, break, continue, pass, expr, return, assign, if, while, for, def, class}
use Rattle.definitions.specs.Tree.{Block, []ᵇ, ◌∷ᵇ◌, Branches, done, else, when, Methods, []ᵐ, method}
use Rattle.definitions.specs.Wellformed.{is_tuple}
use Rattle.definitions.specs.Instruction
use Rattle.definitions.specs.Instruction.{Instr, Return}
use Rattle.definitions.specs.Tables.{Function, Method, Tables, Body, block_body, expr_body, Out, Emit, emits, one, ◌⨟◌, here, add_symbol, add_string, with_classes, intern, coded}
use Rattle.definitions.specs.Tables.{get_or_add_string, begin, set_code, enclose, function}
use Rattle.definitions.specs.Slots.{captures, Keeping, in_globals, in_slots, past, Frame, names_only, with_loops, loops_stmt, loops_block}
use Rattle.definitions.specs.Module.{instructions, slots_fit}
use Rattle.definitions.specs.Lower.{load, store, literal, shortcut, Callee, builtin_callee, function_callee, value_callee, resolve, call_named, call_by, lambda_name, loads, closure}
use Rattle.definitions.specs.Lower.{emit_expr, emit_exprs, emit_object, decides, display_size, copy, emit_target, unpack, assign_by, loop, iter_name, Keeper, global, local, make_iter, named_iter, kept_iter, store_iter, load_iter, ask_iter}
use Rattle.definitions.specs.Lower.{take_iter, method_end, insert_method, begin_class, class_object, end_class, class_out, emit_stmt, emit_block, emit_branches, emit_methods}
use Rattle.definitions.proofs.Functions.{set_code-seam}
use Rattle.definitions.proofs.Truth.{left, right}

-- functions are added at the end, and no table is shorter
pub record Lengthened (t u : Tables) : Type 0 where
  pub new : List Function
  pub functions : u.functions ≡ t.functions ++ new
  pub symbols : length t.symbols ≤ length u.symbols
  pub strings : length t.strings ≤ length u.strings
  pub classes : length t.classes ≤ length u.classes

pub record Lengthens (e : Emit) : Type 0 where
  pub at : (p : ℕ) (t : Tables) → Lengthened t (e p t).tables

pub lengthened-none : (t : Tables) → Lengthened t t
lengthened-none t = record { new = []; functions = sym (append-nil t.functions); symbols = omega arith; strings = omega arith; classes = omega arith }

pub lengthened-more : {t u v : Tables} → Lengthened t u → Lengthened u v → Lengthened t v
lengthened-more {t} A B = record {
  new = A.new ++ B.new;
  functions = B.functions ∙ ap (λ (z : List Function). z ++ B.new) A.functions ∙ append_assoc t.functions A.new B.new;
  symbols = omega arith;
  strings = omega arith;
  classes = omega arith;
}

-- only other tables than that of functions change
pub lengthened-same : {t u : Tables} → u.functions ≡ t.functions → length t.symbols ≤ length u.symbols → length t.strings ≤ length u.strings → length t.classes ≤ length u.classes → Lengthened t u
lengthened-same {t} e a b c = record { new = []; functions = e ∙ sym (append-nil t.functions); symbols = a; strings = b; classes = c }

-- how many functions and instructions
pub functions-longer : {t u : Tables} → Lengthened t u → length t.functions ≤ length u.functions
functions-longer {t} L = omega (arith, ap length L.functions, length-append t.functions L.new)

pub instructions-append : (fs gs : List Function) → instructions (fs ++ gs) ≡ instructions fs + instructions gs
unfolding instructions
instructions-append [] gs = omega arith
instructions-append (f ∷ fs) gs = omega (arith, instructions-append fs gs)

pub instructions-longer : {t u : Tables} → Lengthened t u → instructions t.functions ≤ instructions u.functions
instructions-longer {t} L = omega (arith, ap instructions L.functions, instructions-append t.functions L.new)

-- each function of the first list has at most 255 slots if each of both lists has
few-first : (fs gs : List Function) → all (λ (f : Function). leb f.locals 255) (fs ++ gs) ≡ true → all (λ (f : Function). leb f.locals 255) fs ≡ true
unfolding all
few-first [] gs h = refl
few-first (f ∷ fs) gs h = rw (left (leb f.locals 255) _ h) (few-first fs gs (right (leb f.locals 255) _ h))

pub slots-fewer : {t u : Tables} → Lengthened t u → slots_fit u ≡ true → slots_fit t ≡ true
unfolding slots_fit
slots-fewer {t} L h = few-first t.functions L.new (rw L.functions at h)

-- ---- combinators

pub lengthens-emits : (is : List Instr) → Lengthens (emits is)
unfolding emits
lengthens-emits is = record { at = λ p t. lengthened-none t }

pub lengthens-one : (i : Instr) → Lengthens (one i)
lengthens-one i = lengthens-emits (i ∷ [])

pub lengthens-seq : {e f : Emit} → Lengthens e → Lengthens f → Lengthens (e ⨟ f)
unfolding ◌⨟◌
lengthens-seq {e} A B = record { at = λ p t. lengthened-more (A.at p t) (B.at (p + length (e p t).code) (e p t).tables) }

pub lengthens-here : {f : ℕ → Emit} → ((q : ℕ) → Lengthens (f q)) → Lengthens (here f)
unfolding here
lengthens-here F = record { at = λ p t. (F p).at p t }

pub lengthens-by : (g : Tables → Emit) → ((t : Tables) → Lengthens (g t)) → Lengthens (λ p t. g t p t)
lengthens-by g G = record { at = λ p t. (G t).at p t }

snoc-longer : {A : Type 0} (xs : List A) (a : A) → length xs ≤ length (xs ++ a ∷ [])
snoc-longer xs a = omega (arith, length-append xs (a ∷ []))

pub symbol-lengthened : (x : Name) (t : Tables) → Lengthened t (add_symbol x t)
symbol-lengthened x t = lengthened-same refl (snoc-longer t.symbols x) (omega arith) (omega arith)

pub string-lengthened : (x : Text) (t : Tables) → Lengthened t (add_string x t)
string-lengthened x t = lengthened-same refl (omega arith) (snoc-longer t.strings x) (omega arith)

-- a number that is found, or made in new tables
found : {f : ℕ → Emit} → ((k : ℕ) → Lengthens (f k)) → (new : Tables → Tables) → ((t : Tables) → Lengthened t (new t)) → (o : Option ℕ) (n p : ℕ) (t : Tables)
    → Lengthened t (elim o as (λ z. Out) [ some k ↦ f k p t | none ↦ f n p (new t) ]).tables
found F new N (some k) n p t = (F k).at p t
found F new N none n p t = lengthened-more (N t) ((F n).at p (new t))

pub lengthens-intern : {f : ℕ → Emit} (x : Name) → ((k : ℕ) → Lengthens (f k)) → Lengthens (intern x f)
unfolding intern
lengthens-intern x F = record { at = λ p t. found F (add_symbol x) (symbol-lengthened x) (position (same x) t.symbols) (length t.symbols) p t }

pub lengthens-string : {f : ℕ → Emit} (x : Text) → ((k : ℕ) → Lengthens (f k)) → Lengthens (get_or_add_string x f)
unfolding get_or_add_string
lengthens-string x F = record { at = λ p t. found F (add_string x) (string-lengthened x) (position (same x) t.strings) (length t.strings) p t }

pub begin-lengthened : (k arity : ℕ) (frame : Frame) (t : Tables) → Lengthened t (begin k arity frame t)
unfolding begin
begin-lengthened k arity frame t = record { new = coded k arity frame.locals [] ∷ []; functions = refl; symbols = omega arith; strings = omega arith; classes = omega arith }

-- a function's code is set, in tables u that its body left
module _ (k arity : ℕ) (frame : Frame) (t u : Tables) (L : Lengthened (begin k arity frame t) u) (is : List Instr) where
  before : u.functions ≡ t.functions ++ (coded k arity frame.locals [] ∷ L.new)
  unfolding begin
  before = L.functions ∙ append_snoc t.functions _ L.new

  pub set_code-after : set_code u.functions (length t.functions) is ≡ t.functions ++ (coded k arity frame.locals is ∷ L.new)
  set_code-after = ap (λ (fs : List Function). set_code fs (length t.functions) is) before ∙ set_code-seam t.functions L.new _ is

  pub set_code-instructions : instructions (set_code u.functions (length t.functions) is) ≡ instructions u.functions + length is
  unfolding instructions
  set_code-instructions =
      omega (arith, ap instructions set_code-after, ap instructions before, instructions-append t.functions (coded k arity frame.locals is ∷ L.new), instructions-append t.functions (coded k arity frame.locals [] ∷ L.new))

  pub set_code-count : length (set_code u.functions (length t.functions) is) ≡ length u.functions
  set_code-count =
      omega (arith, ap length set_code-after, ap length before, length-append t.functions (coded k arity frame.locals is ∷ L.new), length-append t.functions (coded k arity frame.locals [] ∷ L.new))

pub lengthens-enclose : {e : Emit} (k arity : ℕ) (frame : Frame) (body : Body) → Lengthens e → Lengthens (enclose k arity frame body e)
unfolding enclose
lengthens-enclose {e} k arity frame body E = record {
  at = λ p t.
      let u = begin k arity frame t in
      let o = e 0 u in
      let L = E.at 0 u in
      let B = begin-lengthened k arity frame t in
      record {
        new = coded k arity frame.locals o.code ∷ L.new;
        functions = set_code-after k arity frame t o.tables L o.code;
        symbols = omega (arith, L.symbols, B.symbols);
        strings = omega (arith, L.strings, B.strings);
        classes = omega (arith, L.classes, B.classes);
      };
}

pub lengthens-function : {e : Emit} (x : Name) (arity : ℕ) (frame : Frame) (body : Body) → Lengthens e → Lengthens (function x arity frame body e)
unfolding function
lengthens-function x arity frame body E = lengthens-intern x (λ k. lengthens-enclose k arity frame body E)

pub lengthens-shortcut : {r : Emit} (b : Bool) → Lengthens r → Lengthens (shortcut b r)
unfolding shortcut
lengthens-shortcut b R = record { at = λ p t. R.at (suc p) t }

pub lengthens-loop : {e f : Emit} → Lengthens e → Lengthens f → Lengthens (loop e f)
unfolding loop
lengthens-loop {e} A B = record { at = λ p t. lengthened-more (A.at p t) (B.at (suc (p + length (e p t).code)) (e p t).tables) }

-- ---- names and literals

load-by : (x : Name) (o : Option ℕ) → Lengthens (elim o as (λ z. Emit) [ some i ↦ one (Instruction.LoadLocal i) | none ↦ intern x (λ k. one (Instruction.LoadGlobal k)) ])
load-by x none = lengthens-intern x (λ k. lengthens-one (Instruction.LoadGlobal k))
load-by x (some i) = lengthens-one (Instruction.LoadLocal i)

pub lengthens-load : (slots : List Name) (x : Name) → Lengthens (load slots x)
unfolding load
lengthens-load slots x = load-by x (position (same x) slots)

store_by : (x : Name) (o : Option ℕ) → Lengthens (elim o as (λ z. Emit) [ some i ↦ one (Instruction.StoreLocal i) | none ↦ intern x (λ k. one (Instruction.StoreGlobal k)) ])
store_by x none = lengthens-intern x (λ k. lengthens-one (Instruction.StoreGlobal k))
store_by x (some i) = lengthens-one (Instruction.StoreLocal i)

pub lengthens-store : (slots : List Name) (x : Name) → Lengthens (store slots x)
unfolding store
lengthens-store slots x = store_by x (position (same x) slots)

-- an instruction with the number of a symbol
pub lengthens-symbol : (x : Name) (f : ℕ → Instr) → Lengthens (intern x (λ k. one (f k)))
lengthens-symbol x f = lengthens-intern x (λ k. lengthens-one (f k))

pub lengthens-literal : (l : Literal) → Lengthens (literal l)
unfolding literal
lengthens-literal none_l = lengthens-one Instruction.ConstNone
lengthens-literal (bool_l b) = lengthens-one (Instruction.ConstBool b)
lengthens-literal (int_l n) = lengthens-one (Instruction.ConstI64 n)
lengthens-literal (float_l n) = lengthens-one (Instruction.ConstF64 n)
lengthens-literal (string_l s) = lengthens-string s (λ k. lengthens-one (Instruction.ConstStr k))

pub lengthens-loads : (slots xs : List Name) → Lengthens (loads slots xs)
unfolding loads
lengthens-loads slots [] = lengthens-emits []
lengthens-loads slots (x ∷ xs) = lengthens-seq (lengthens-load slots x) (lengthens-loads slots xs)

-- ---- expressions

pub lengthens-call_named : {args : Emit} (c : Callee) (slots : List Name) (x : Name) (n : ℕ) → Lengthens args → Lengthens (call_named c slots x args n)
unfolding call_named
lengthens-call_named (builtin_callee i) slots x n A = lengthens-seq A (lengthens-one (Instruction.CallBuiltin i n))
lengthens-call_named (function_callee i) slots x n A = lengthens-seq A (lengthens-one (Instruction.Call i n))
lengthens-call_named value_callee slots x n A = lengthens-seq (lengthens-load slots x) (lengthens-seq A (lengthens-one (Instruction.CallValue n)))

pub lengthens-call_by : {callee object args : Emit} (v : View) (slots : List Name) (n : ℕ) → Lengthens callee → Lengthens object → Lengthens args → Lengthens (call_by v slots callee object args n)
unfolding call_by
lengthens-call_by {args} (as_var x) slots n F O A = lengthens-by (λ t. call_named (resolve x t) slots x args n) (λ t. lengthens-call_named (resolve x t) slots x n A)
lengthens-call_by (as_attr o x) slots n F O A = lengthens-seq O (lengthens-seq A (lengthens-symbol x (λ k. Instruction.CallMethod k n)))
lengthens-call_by (as_index o i) slots n F O A = lengthens-seq F (lengthens-seq A (lengthens-one (Instruction.CallValue n)))
lengthens-call_by (as_tuple es) slots n F O A = lengthens-seq F (lengthens-seq A (lengthens-one (Instruction.CallValue n)))
lengthens-call_by as_other slots n F O A = lengthens-seq F (lengthens-seq A (lengthens-one (Instruction.CallValue n)))

pub lengthens-closure : {e : Emit} (slots : List Name) (arity : ℕ) (inner cs : List Name) (body : Body) → Lengthens e → Lengthens (closure slots arity inner cs body e)
unfolding closure
lengthens-closure {e} slots arity inner cs body E =
    lengthens-by (λ t. function (lambda_name (length t.functions)) arity (names_only inner) body (e ⨟ one Return) ⨟ loads slots cs ⨟ one (Instruction.MakeClosure (length t.functions) (length cs)))
    (λ t. lengthens-seq (lengthens-function (lambda_name (length t.functions)) arity (names_only inner) body (lengthens-seq E (lengthens-one Return)))
    (lengthens-seq (lengthens-loads slots cs) (lengthens-one (Instruction.MakeClosure (length t.functions) (length cs)))))

mutual
  unfolding emit_expr

  pub lengthens-expr : (slots : List Name) (e : Expr) → Lengthens (emit_expr slots e)
  lengthens-expr slots (lit l) = lengthens-literal l
  lengthens-expr slots (var x) = lengthens-load slots x
  lengthens-expr slots (unary op e) = lengthens-seq (lengthens-expr slots e) (lengthens-one (Instruction.Unary op))
  lengthens-expr slots (binary op l r) = lengthens-seq (lengthens-expr slots l) (lengthens-seq (lengthens-expr slots r) (lengthens-one (Instruction.Binary op)))
  lengthens-expr slots (logical op l r) = lengthens-seq (lengthens-expr slots l) (lengthens-shortcut (decides op) (lengthens-expr slots r))
  lengthens-expr slots (call f es) = lengthens-call_by (view f) slots (count es) (lengthens-expr slots f) (lengthens-object slots f) (lengthens-exprs slots es)
  lengthens-expr slots (attr o x) = lengthens-seq (lengthens-expr slots o) (lengthens-symbol x (λ k. Instruction.LoadAttr k))
  lengthens-expr slots (display k es) = lengthens-seq (lengthens-exprs slots es) (lengthens-one (Instruction.Build k (display_size k es)))
  lengthens-expr slots (index o i) = lengthens-seq (lengthens-expr slots o) (lengthens-seq (lengthens-expr slots i) (lengthens-one Instruction.LoadIndex))
  lengthens-expr slots (lambda ps b) = lengthens-closure slots (length ps) (ps ++ captures slots ps b) (captures slots ps b) (expr_body b) (lengthens-expr (ps ++ captures slots ps b) b)

  pub lengthens-exprs : (slots : List Name) (es : Exprs) → Lengthens (emit_exprs slots es)
  lengthens-exprs slots []ᵉ = lengthens-emits []
  lengthens-exprs slots (e ∷ᵉ es) = lengthens-seq (lengthens-expr slots e) (lengthens-exprs slots es)

  pub lengthens-object : (slots : List Name) (e : Expr) → Lengthens (emit_object slots e)
  lengthens-object slots (lit l) = lengthens-emits []
  lengthens-object slots (var x) = lengthens-emits []
  lengthens-object slots (unary op e) = lengthens-emits []
  lengthens-object slots (binary op l r) = lengthens-emits []
  lengthens-object slots (logical op l r) = lengthens-emits []
  lengthens-object slots (call f es) = lengthens-emits []
  lengthens-object slots (attr o x) = lengthens-expr slots o
  lengthens-object slots (display k es) = lengthens-emits []
  lengthens-object slots (index o i) = lengthens-emits []
  lengthens-object slots (lambda ps b) = lengthens-emits []

-- ---- targets

pub lengthens-copy : (i : ℕ) → Lengthens (copy i)
unfolding copy
lengthens-copy zero = lengthens-emits []
lengthens-copy (suc i) = lengthens-one Instruction.Dup

tuple-by : {e : Emit} (b : Bool) → Lengthens e → Lengthens (elim b as (λ z. Emit) [ true ↦ e | false ↦ emits [] ])
tuple-by true E = E
tuple-by false E = lengthens-emits []

mutual
  unfolding emit_target

  pub lengthens-target : (slots : List Name) (e : Expr) → Lengthens (emit_target slots e)
  lengthens-target slots (lit l) = lengthens-emits []
  lengthens-target slots (var x) = lengthens-store slots x
  lengthens-target slots (unary op e) = lengthens-emits []
  lengthens-target slots (binary op l r) = lengthens-emits []
  lengthens-target slots (logical op l r) = lengthens-emits []
  lengthens-target slots (call f es) = lengthens-emits []
  lengthens-target slots (attr o x) = lengthens-emits []
  lengthens-target slots (display k es) = tuple-by (is_tuple k) (lengthens-unpack slots es 0)
  lengthens-target slots (index o i) = lengthens-emits []
  lengthens-target slots (lambda ps b) = lengthens-emits []

  pub lengthens-unpack : (slots : List Name) (es : Exprs) (i : ℕ) → Lengthens (unpack slots es i)
  lengthens-unpack slots []ᵉ i = lengthens-emits []
  lengthens-unpack slots (e ∷ᵉ es) i =
      lengthens-seq (lengthens-unpack slots es (suc i)) (lengthens-seq (lengthens-copy i) (lengthens-seq (lengthens-emits (Instruction.ConstI64 i ∷ Instruction.LoadIndex ∷ [])) (lengthens-target slots e)))

pub lengthens-assign_by : {v : Emit} (w : View) (slots : List Name) → Lengthens v → Lengthens (assign_by w slots v)
unfolding assign_by
lengthens-assign_by (as_var x) slots E = lengthens-seq E (lengthens-store slots x)
lengthens-assign_by (as_attr o x) slots E = lengthens-seq (lengthens-expr slots o) (lengthens-seq E (lengthens-symbol x (λ k. Instruction.StoreAttr k)))
lengthens-assign_by (as_index o i) slots E = lengthens-seq (lengthens-expr slots o) (lengthens-seq (lengthens-expr slots i) (lengthens-seq E (lengthens-one Instruction.StoreIndex)))
lengthens-assign_by (as_tuple es) slots E = lengthens-seq E (lengthens-unpack slots es 0)
lengthens-assign_by as_other slots E = lengthens-emits []

-- ---- loops

pub lengthens-make_iter : Lengthens make_iter
unfolding make_iter
lengthens-make_iter = lengthens-symbol _ (λ k. Instruction.CallMethod k 0)

pub lengthens-ask_iter : (g : Keeper) → Lengthens (ask_iter g)
unfolding ask_iter
lengthens-ask_iter g = lengthens-seq (lengthens-one (load_iter g)) (lengthens-symbol _ (λ k. Instruction.CallMethod k 0))

pub lengthens-take_iter : (slots : List Name) (x : Name) (g : Keeper) → Lengthens (take_iter slots x g)
unfolding take_iter
lengthens-take_iter slots x g = lengthens-seq (lengthens-one (load_iter g)) (lengthens-seq (lengthens-symbol _ (λ k. Instruction.CallMethod k 0)) (lengthens-store slots x))

pub lengthens-kept_iter : {f : Keeper → Emit} (keep : Keeping) → ((g : Keeper) → Lengthens (f g)) → Lengthens (kept_iter keep f)
unfolding kept_iter named_iter
lengthens-kept_iter in_globals F = lengthens-here (λ p. lengthens-intern (iter_name p) (λ k. F (global k)))
lengthens-kept_iter (in_slots n) F = F (local n)

-- ---- classes

pub begin_class-lengthened : (x : Name) (t : Tables) → Lengthened t (begin_class x t)
unfolding begin_class
begin_class-lengthened x t = lengthened-same refl (omega arith) (omega arith) (snoc-longer t.classes (record { name = x; methods = [] }))

pub lengthens-class_object : (c k : ℕ) → Lengthens (class_object c k)
unfolding class_object
lengthens-class_object c k = record { at = λ p t. lengthened-same refl (omega arith) (omega arith) (omega arith) }

pub lengthens-end_class : (x : Name) (c : ℕ) (ms : List Method) → Lengthens (end_class x c ms)
unfolding end_class
lengthens-end_class x c ms = record {
  at = λ p t.
      let u = with_classes (set t.classes c (record { name = x; methods = ms })) t in
      lengthened-more (lengthened-same {t = t} {u = u} refl (omega arith) (omega arith) (omega (arith, length-set t.classes c (record { name = x; methods = ms }))))
      ((lengthens-intern x (lengthens-class_object c)).at p u);
}

-- ---- statements

class-by : (x : Name) (ms : Methods) → ((acc : List Method) (t : Tables) → Lengthened t (emit_methods ms acc t).tables) → Lengthens (λ p t. class_out x (length t.classes) (emit_methods ms [] (begin_class x t)) p)
unfolding class_out
class-by x ms M = record {
  at = λ p t.
      let m = emit_methods ms [] (begin_class x t) in
      lengthened-more (begin_class-lengthened x t) (lengthened-more (M [] (begin_class x t)) ((lengthens-end_class x (length t.classes) m.methods).at p m.tables));
}

when-by : (slots : List Name) (keep : Keeping) (c : Expr) (b : Block) (r : Branches) → Lengthens (emit_block slots keep b)
    → ((q : ℕ) (u : Tables) → Lengthened u (emit_branches slots (past (loops_block b) keep) r q u).out.tables)
    → (p : ℕ) (t : Tables) → Lengthened t (emit_branches slots keep (when c b r) p t).out.tables
unfolding emit_branches
when-by slots keep c b r B R p t =
    let a = emit_expr slots c p t in
    let q = suc (p + length a.code) in
    let o = emit_block slots keep b q a.tables in
    lengthened-more ((lengthens-expr slots c).at p t) (lengthened-more (B.at q a.tables) (R (q + suc (length o.code)) o.tables))

method-by : (x : Name) (ps : List Name) (b : Block) (rest : Methods) (acc : List Method) (t : Tables) → Lengthens (emit_block (with_loops ps b).names (with_loops ps b).keep b)
    → ((as' : List Method) (u : Tables) → Lengthened u (emit_methods rest as' u).tables) → Lengthened t (emit_methods (method x ps b rest) acc t).tables
unfolding emit_methods
method-by x ps b rest acc t B M =
    let F = (lengthens-function x (length ps) (with_loops ps b) (block_body b (method_end x)) (lengthens-seq B (lengthens-emits (method_end x)))).at 0 t in
    lengthened-more F (M (insert_method x (length t.functions) acc) _)

mutual
  unfolding emit_stmt

  pub lengthens-stmt : (slots : List Name) (keep : Keeping) (s : Stmt) → Lengthens (emit_stmt slots keep s)
  lengthens-stmt slots keep break = lengthens-one Instruction.Break
  lengthens-stmt slots keep continue = lengthens-one Instruction.Continue
  lengthens-stmt slots keep pass = lengthens-emits []
  lengthens-stmt slots keep (expr e) = lengthens-seq (lengthens-expr slots e) (lengthens-one Instruction.Pop)
  lengthens-stmt slots keep (return e) = lengthens-seq (lengthens-expr slots e) (lengthens-one Return)
  lengthens-stmt slots keep (assign t v) = lengthens-assign_by (view t) slots (lengthens-expr slots v)
  lengthens-stmt slots keep (if bs) = record { at = λ p t. branches-lengthened slots keep bs p t }
  lengthens-stmt slots keep (while c b) = lengthens-loop (lengthens-expr slots c) (lengthens-block slots keep b)
  lengthens-stmt slots keep (for x e b) =
      lengthens-seq (lengthens-expr slots e) (lengthens-seq lengthens-make_iter
      (lengthens-kept_iter keep (λ g. lengthens-seq (lengthens-one (store_iter g)) (lengthens-loop (lengthens-ask_iter g) (lengthens-seq (lengthens-take_iter slots x g) (lengthens-block slots (past 1 keep) b))))))
  lengthens-stmt slots keep (def x ps b) =
      let f = with_loops ps b in
      lengthens-function x (length ps) f (block_body b (Return ∷ [])) (lengthens-seq (lengthens-block f.names f.keep b) (lengthens-one Return))
  lengthens-stmt slots keep (class x ms vs) = class-by x ms (λ acc t. methods-lengthened ms acc t)

  pub lengthens-block : (slots : List Name) (keep : Keeping) (b : Block) → Lengthens (emit_block slots keep b)
  lengthens-block slots keep []ᵇ = lengthens-emits []
  lengthens-block slots keep (s ∷ᵇ b) = lengthens-seq (lengthens-stmt slots keep s) (lengthens-block slots (past (loops_stmt s) keep) b)

  pub branches-lengthened : (slots : List Name) (keep : Keeping) (bs : Branches) (p : ℕ) (t : Tables) → Lengthened t (emit_branches slots keep bs p t).out.tables
  branches-lengthened slots keep done p t = (lengthens-emits []).at p t
  branches-lengthened slots keep (else b) p t = (lengthens-block slots keep b).at p t
  branches-lengthened slots keep (when c b r) p t =
      when-by slots keep c b r (lengthens-block slots keep b) (λ q u. branches-lengthened slots (past (loops_block b) keep) r q u) p t

  pub methods-lengthened : (ms : Methods) (acc : List Method) (t : Tables) → Lengthened t (emit_methods ms acc t).tables
  methods-lengthened []ᵐ acc t = lengthened-none t
  methods-lengthened (method x ps b rest) acc t =
      let f = with_loops ps b in
      method-by x ps b rest acc t (lengthens-block f.names f.keep b) (λ as' u. methods-lengthened rest as' u)
