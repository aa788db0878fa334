-- Question 14 by a walk over the tree: each function of the module has at most 255 slots just where `fits_block` says so. An assignment whose target
-- question 10 refuses is not lowered, so the tree's targets are asked to be targets.
use Prim.Native.Nat.{ℕ, zero, suc, ◌+◌}
use mathlib.Core.Path.{◌≡◌, refl, sym, ap, ◌∙◌}
use mathlib.Core.Bool.{Bool, true, false, ◌&&◌}
use mathlib.Core.Option.{Option, none, some}
use mathlib.Core.List.{List, [], ◌∷◌, ◌++◌}
use native.Mathlib.Omega.{arith}
use lib.ListN.{length}
use lib.Dec.{leb}
use Rattle.definitions.specs.Bytes.{Name, Text, accepted, same, position, all}
use Rattle.definitions.specs.Tree.{Literal, none_l, bool_l, int_l, float_l, string_l, Display, list_d, tuple_d, dict_d, set_d, tree_set_d, Expr, lit, var, unary, binary, logical, call, attr}
use Rattle.definitions.specs.Tree.{display, index, lambda, Exprs, []ᵉ, ◌∷ᵉ◌, count, View, as_var, as_attr, as_index, as_tuple, as_other, view, view_display, Stmt, break, continue, pass}
use Rattle.definitions.specs.Tree.{expr, return, assign, if, while, for, def, class, Block, []ᵇ, ◌∷ᵇ◌, Branches, done, else, when, Methods, []ᵐ, method}
use Rattle.definitions.specs.Wellformed.{is_tuple, are_elements, is_target, if_asked, ask_name, ask_params, ask_method, ask_expr, ask_target, ask_attribute, ask_stmt, ask_block, ask_branches}
use Rattle.definitions.specs.Wellformed.{ask_methods, block_questions, first_no, refused_by, well_formed}
use Rattle.definitions.specs.Instruction
use Rattle.definitions.specs.Instruction.{Instr, Return}
use Rattle.definitions.specs.Tables.{Function, Method, Tables, Body, block_body, expr_body, Out, Emit, emits, one, ◌⨟◌, here, add_symbol, add_string, intern, get_or_add_string, begin}
use Rattle.definitions.specs.Tables.{set_code, enclose, function}
use Rattle.definitions.specs.Slots.{captures, Keeping, in_globals, in_slots, past, Frame, names_only, with_loops, loops_stmt, loops_block}
use Rattle.definitions.specs.Module.{slots_fit}
use Rattle.definitions.specs.Lower.{load, store, literal, shortcut, decides, display_size, Callee, builtin_callee, function_callee, value_callee, resolve, call_named, call_by}
use Rattle.definitions.specs.Lower.{lambda_name, loads, closure, emit_expr, emit_exprs, emit_object, copy, emit_target, unpack, assign_by, loop}
use Rattle.definitions.specs.Lower.{iter_name, Keeper, global, local, make_iter, named_iter, kept_iter, store_iter, load_iter, ask_iter}
use Rattle.definitions.specs.Lower.{take_iter, method_end, insert_method, begin_class, class_object, end_class, class_out, emit_stmt, emit_block, emit_branches, emit_methods, main, no_tables}
use Rattle.definitions.specs.Lower.{compile}
use Rattle.definitions.proofs.Truth.{left, right}
use Rattle.definitions.specs.Fits.{fits_expr, fits_exprs, fits_target, fits_stmt, fits_block, fits_branches, fits_methods}
use Rattle.std.proofs.Math.Bool.{and-true, and_assoc}

-- ---- Booleans

-- ---- the test of a part: what it adds to the test of the tables

record Tests (e : Emit) (b : Bool) : Type 0 where
  at : (p : ℕ) (t : Tables) → slots_fit (e p t).tables ≡ (slots_fit t && b)

tests-as : {e : Emit} {a b : Bool} → Tests e a → a ≡ b → Tests e b
tests-as E h = rw (← h) E

-- no function is added
silent : {e : Emit} → ((p : ℕ) (t : Tables) → (e p t).tables.functions ≡ t.functions) → Tests e true
unfolding slots_fit
silent E = record { at = λ p t. ap (λ (fs : List Function). all (λ f. leb f.locals 255) fs) (E p t) ∙ sym (and-true (slots_fit t)) }

tests-emits : (is : List Instr) → Tests (emits is) true
unfolding emits
tests-emits is = silent (λ p t. refl)

tests-one : (i : Instr) → Tests (one i) true
tests-one i = tests-emits (i ∷ [])

tests-seq : {e f : Emit} {a b : Bool} → Tests e a → Tests f b → Tests (e ⨟ f) (a && b)
unfolding ◌⨟◌
tests-seq {e} {f} {a} {b} A B = record {
  at = λ p t. B.at (p + length (e p t).code) (e p t).tables ∙ ap (λ (z : Bool). z && b) (A.at p t) ∙ and_assoc (slots_fit t) a b;
}

-- a part that adds nothing to the test, after another
tests_then : {e f : Emit} {a : Bool} → Tests e a → Tests f true → Tests (e ⨟ f) a
tests_then {e} {f} {a} A B = tests-as (tests-seq A B) (and-true a)

tests_by : {b : Bool} (g : Tables → Emit) → ((t : Tables) → Tests (g t) b) → Tests (λ p t. g t p t) b
tests_by g G = record { at = λ p t. (G t).at p t }

found : {b : Bool} {f : ℕ → Emit} → ((k : ℕ) → Tests (f k) b) → (new : Tables → Tables) → ((t : Tables) → slots_fit (new t) ≡ slots_fit t) → (o : Option ℕ) (n p : ℕ) (t : Tables)
    → slots_fit (elim o as (λ z. Out) [ some k ↦ f k p t | none ↦ f n p (new t) ]).tables ≡ (slots_fit t && b)
found F new N (some k) n p t = (F k).at p t
found {b} F new N none n p t = (F n).at p (new t) ∙ ap (λ (z : Bool). z && b) (N t)

tests-intern : {b : Bool} {f : ℕ → Emit} (x : Name) → ((k : ℕ) → Tests (f k) b) → Tests (intern x f) b
unfolding intern slots_fit
tests-intern x F = record { at = λ p t. found F (add_symbol x) (λ u. refl) (position (same x) t.symbols) (length t.symbols) p t }

tests-string : {b : Bool} {f : ℕ → Emit} (x : Text) → ((k : ℕ) → Tests (f k) b) → Tests (get_or_add_string x f) b
unfolding get_or_add_string slots_fit
tests-string x F = record { at = λ p t. found F (add_string x) (λ u. refl) (position (same x) t.strings) (length t.strings) p t }

tests-symbol : (x : Name) (f : ℕ → Instr) → Tests (intern x (λ k. one (f k))) true
tests-symbol x f = tests-intern x (λ k. tests-one (f k))

-- ---- functions

pub all_snoc : (fs : List Function) (f : Function) → all (λ (g : Function). leb g.locals 255) (fs ++ f ∷ []) ≡ (all (λ (g : Function). leb g.locals 255) fs && leb f.locals 255)
unfolding all
all_snoc [] f = and-true (leb f.locals 255)
all_snoc (g ∷ fs) f = ap (λ (z : Bool). leb g.locals 255 && z) (all_snoc fs f) ∙ sym (and_assoc (leb g.locals 255) _ _)

pub all-set_code : (fs : List Function) (n : ℕ) (is : List Instr) → all (λ (g : Function). leb g.locals 255) (set_code fs n is) ≡ all (λ (g : Function). leb g.locals 255) fs
unfolding all set_code
all-set_code [] n is = refl
all-set_code (f ∷ fs) zero is = refl
all-set_code (f ∷ fs) (suc n) is = ap (λ (z : Bool). leb f.locals 255 && z) (all-set_code fs n is)

tests-enclose : {e : Emit} {b : Bool} (k arity : ℕ) (frame : Frame) (body : Body) → Tests e b → Tests (enclose k arity frame body e) (leb frame.locals 255 && b)
unfolding enclose slots_fit begin
tests-enclose {e} {b} k arity frame body E = record {
  at = λ p t.
      let u = begin k arity frame t in
      let o = e 0 u in
      all-set_code o.tables.functions (length t.functions) o.code ∙ E.at 0 u ∙ ap (λ (z : Bool). z && b) (all_snoc t.functions _)
      ∙ and_assoc (slots_fit t) (leb frame.locals 255) b;
}

tests-function : {e : Emit} {b : Bool} (x : Name) (arity : ℕ) (frame : Frame) (body : Body) → Tests e b → Tests (function x arity frame body e) (leb frame.locals 255 && b)
unfolding function
tests-function x arity frame body E = tests-intern x (λ k. tests-enclose k arity frame body E)

tests-shortcut : {r : Emit} {b : Bool} (c : Bool) → Tests r b → Tests (shortcut c r) b
unfolding shortcut
tests-shortcut c R = record { at = λ p t. R.at (suc p) t }

tests-loop : {e f : Emit} {a b : Bool} → Tests e a → Tests f b → Tests (loop e f) (a && b)
unfolding loop
tests-loop {e} {f} {a} {b} A B = record {
  at = λ p t. B.at (suc (p + length (e p t).code)) (e p t).tables ∙ ap (λ (z : Bool). z && b) (A.at p t) ∙ and_assoc (slots_fit t) a b;
}

-- ---- names and literals

load-by : (x : Name) (o : Option ℕ) → Tests (elim o as (λ z. Emit) [ some i ↦ one (Instruction.LoadLocal i) | none ↦ intern x (λ k. one (Instruction.LoadGlobal k)) ]) true
load-by x none = tests-symbol x (λ k. Instruction.LoadGlobal k)
load-by x (some i) = tests-one (Instruction.LoadLocal i)

tests-load : (slots : List Name) (x : Name) → Tests (load slots x) true
unfolding load
tests-load slots x = load-by x (position (same x) slots)

store_by : (x : Name) (o : Option ℕ) → Tests (elim o as (λ z. Emit) [ some i ↦ one (Instruction.StoreLocal i) | none ↦ intern x (λ k. one (Instruction.StoreGlobal k)) ]) true
store_by x none = tests-symbol x (λ k. Instruction.StoreGlobal k)
store_by x (some i) = tests-one (Instruction.StoreLocal i)

tests-store : (slots : List Name) (x : Name) → Tests (store slots x) true
unfolding store
tests-store slots x = store_by x (position (same x) slots)

tests-literal : (l : Literal) → Tests (literal l) true
unfolding literal
tests-literal none_l = tests-one Instruction.ConstNone
tests-literal (bool_l b) = tests-one (Instruction.ConstBool b)
tests-literal (int_l n) = tests-one (Instruction.ConstI64 n)
tests-literal (float_l n) = tests-one (Instruction.ConstF64 n)
tests-literal (string_l s) = tests-string s (λ k. tests-one (Instruction.ConstStr k))

tests-loads : (slots xs : List Name) → Tests (loads slots xs) true
unfolding loads
tests-loads slots [] = tests-emits []
tests-loads slots (x ∷ xs) = tests-seq (tests-load slots x) (tests-loads slots xs)

-- ---- expressions

tests-named : {args : Emit} {b : Bool} (c : Callee) (slots : List Name) (x : Name) (n : ℕ) → Tests args b → Tests (call_named c slots x args n) b
unfolding call_named
tests-named (builtin_callee i) slots x n A = tests_then A (tests-one (Instruction.CallBuiltin i n))
tests-named (function_callee i) slots x n A = tests_then A (tests-one (Instruction.Call i n))
tests-named value_callee slots x n A = tests-seq (tests-load slots x) (tests_then A (tests-one (Instruction.CallValue n)))

-- the test of an attribute's object
object_fits : List Name → Expr → Bool
object_fits slots e = elim (view e) as (λ v. Bool) [ as_var x ↦ true | as_attr o x ↦ fits_expr slots o | as_index o i ↦ true | as_tuple es ↦ true | as_other ↦ true ]

value-call : {f args : Emit} {a b : Bool} (n : ℕ) → Tests f a → Tests args b → Tests (f ⨟ args ⨟ one (Instruction.CallValue n)) (a && b)
value-call n F A = tests-seq F (tests_then A (tests-one (Instruction.CallValue n)))

tests-call : {args : Emit} {b : Bool} (slots : List Name) (f : Expr) (n : ℕ) → Tests (emit_expr slots f) (fits_expr slots f) → Tests (emit_object slots f) (object_fits slots f) → Tests args b
    → Tests (call_by (view f) slots (emit_expr slots f) (emit_object slots f) args n) (fits_expr slots f && b)
unfolding call_by view view_display object_fits fits_expr
tests-call slots (lit l) n F O A = value-call n F A
tests-call {args} slots (var x) n F O A = tests_by (λ t. call_named (resolve x t) slots x args n) (λ t. tests-named (resolve x t) slots x n A)
tests-call slots (unary op e) n F O A = value-call n F A
tests-call slots (binary op l r) n F O A = value-call n F A
tests-call slots (logical op l r) n F O A = value-call n F A
tests-call slots (call f es) n F O A = value-call n F A
tests-call slots (attr o x) n F O A = tests-seq O (tests_then A (tests-symbol x (λ k. Instruction.CallMethod k n)))
tests-call slots (display list_d es) n F O A = value-call n F A
tests-call slots (display tuple_d es) n F O A = value-call n F A
tests-call slots (display dict_d es) n F O A = value-call n F A
tests-call slots (display set_d es) n F O A = value-call n F A
tests-call slots (display tree_set_d es) n F O A = value-call n F A
tests-call slots (index o i) n F O A = value-call n F A
tests-call slots (lambda ps b) n F O A = value-call n F A

tests-closure : {e : Emit} {b : Bool} (slots : List Name) (arity : ℕ) (inner cs : List Name) (body : Body) → Tests e b → Tests (closure slots arity inner cs body e) (leb (length inner) 255 && b)
unfolding closure
tests-closure {e} slots arity inner cs body E =
    tests_by (λ t. function (lambda_name (length t.functions)) arity (names_only inner) body (e ⨟ one Return) ⨟ loads slots cs ⨟ one (Instruction.MakeClosure (length t.functions) (length cs)))
    (λ t. tests_then (tests-function (lambda_name (length t.functions)) arity (names_only inner) body (tests_then E (tests-one Return)))
    (tests-seq (tests-loads slots cs) (tests-one (Instruction.MakeClosure (length t.functions) (length cs)))))

object-display : (k : Display) (slots : List Name) (es : Exprs) → object_fits slots (display k es) ≡ true
unfolding object_fits view view_display
object-display list_d slots es = refl
object-display tuple_d slots es = refl
object-display dict_d slots es = refl
object-display set_d slots es = refl
object-display tree_set_d slots es = refl

mutual
  unfolding emit_expr fits_expr object_fits view

  tests-expr : (slots : List Name) (e : Expr) → Tests (emit_expr slots e) (fits_expr slots e)
  tests-expr slots (lit l) = tests-literal l
  tests-expr slots (var x) = tests-load slots x
  tests-expr slots (unary op e) = tests_then (tests-expr slots e) (tests-one (Instruction.Unary op))
  tests-expr slots (binary op l r) = tests-seq (tests-expr slots l) (tests_then (tests-expr slots r) (tests-one (Instruction.Binary op)))
  tests-expr slots (logical op l r) = tests-seq (tests-expr slots l) (tests-shortcut (decides op) (tests-expr slots r))
  tests-expr slots (call f es) = tests-call slots f (count es) (tests-expr slots f) (tests-object slots f) (tests-exprs slots es)
  tests-expr slots (attr o x) = tests_then (tests-expr slots o) (tests-symbol x (λ k. Instruction.LoadAttr k))
  tests-expr slots (display k es) = tests_then (tests-exprs slots es) (tests-one (Instruction.Build k (display_size k es)))
  tests-expr slots (index o i) = tests-seq (tests-expr slots o) (tests_then (tests-expr slots i) (tests-one Instruction.LoadIndex))
  tests-expr slots (lambda ps b) = tests-closure slots (length ps) (ps ++ captures slots ps b) (captures slots ps b) (expr_body b) (tests-expr (ps ++ captures slots ps b) b)

  tests-exprs : (slots : List Name) (es : Exprs) → Tests (emit_exprs slots es) (fits_exprs slots es)
  tests-exprs slots []ᵉ = tests-emits []
  tests-exprs slots (e ∷ᵉ es) = tests-seq (tests-expr slots e) (tests-exprs slots es)

  tests-object : (slots : List Name) (e : Expr) → Tests (emit_object slots e) (object_fits slots e)
  tests-object slots (lit l) = tests-emits []
  tests-object slots (var x) = tests-emits []
  tests-object slots (unary op e) = tests-emits []
  tests-object slots (binary op l r) = tests-emits []
  tests-object slots (logical op l r) = tests-emits []
  tests-object slots (call f es) = tests-emits []
  tests-object slots (attr o x) = tests-expr slots o
  tests-object slots (display k es) = tests-as (tests-emits []) (sym (object-display k slots es))
  tests-object slots (index o i) = tests-emits []
  tests-object slots (lambda ps b) = tests-emits []

-- ---- targets

tests-copy : (i : ℕ) → Tests (copy i) true
unfolding copy
tests-copy zero = tests-emits []
tests-copy (suc i) = tests-one Instruction.Dup

tuple-by : {e : Emit} (b : Bool) → Tests e true → Tests (elim b as (λ z. Emit) [ true ↦ e | false ↦ emits [] ]) true
tuple-by true E = E
tuple-by false E = tests-emits []

mutual
  unfolding emit_target

  tests-target : (slots : List Name) (e : Expr) → Tests (emit_target slots e) true
  tests-target slots (lit l) = tests-emits []
  tests-target slots (var x) = tests-store slots x
  tests-target slots (unary op e) = tests-emits []
  tests-target slots (binary op l r) = tests-emits []
  tests-target slots (logical op l r) = tests-emits []
  tests-target slots (call f es) = tests-emits []
  tests-target slots (attr o x) = tests-emits []
  tests-target slots (display k es) = tuple-by (is_tuple k) (tests-unpack slots es 0)
  tests-target slots (index o i) = tests-emits []
  tests-target slots (lambda ps b) = tests-emits []

  tests-unpack : (slots : List Name) (es : Exprs) (i : ℕ) → Tests (unpack slots es i) true
  tests-unpack slots []ᵉ i = tests-emits []
  tests-unpack slots (e ∷ᵉ es) i =
      tests-seq (tests-unpack slots es (suc i)) (tests-seq (tests-copy i) (tests-seq (tests-emits (Instruction.ConstI64 i ∷ Instruction.LoadIndex ∷ [])) (tests-target slots e)))

-- the test of an assignment by its target's form; the last form is no target
assign_fits : List Name → View → Bool → Bool
assign_fits slots w b = (elim w as (λ z. Bool) [ as_var x ↦ true | as_attr o x ↦ fits_expr slots o | as_index o i ↦ fits_expr slots o && fits_expr slots i | as_tuple es ↦ true | as_other ↦ true ]) && b

target_form : View → Bool
target_form w = elim w as (λ z. Bool) [ as_var x ↦ true | as_attr o x ↦ true | as_index o i ↦ true | as_tuple es ↦ true | as_other ↦ false ]

tests-assign : {v : Emit} {b : Bool} (w : View) (slots : List Name) → target_form w ≡ true → Tests v b → Tests (assign_by w slots v) (assign_fits slots w b)
unfolding assign_by assign_fits target_form
tests-assign (as_var x) slots h E = tests_then E (tests-store slots x)
tests-assign (as_attr o x) slots h E = tests-seq (tests-expr slots o) (tests_then E (tests-symbol x (λ k. Instruction.StoreAttr k)))
tests-assign {v} {b} (as_index o i) slots h E =
    tests-as (tests-seq (tests-expr slots o) (tests-seq (tests-expr slots i) (tests_then E (tests-one Instruction.StoreIndex)))) (sym (and_assoc (fits_expr slots o) (fits_expr slots i) b))
tests-assign (as_tuple es) slots h E = tests_then E (tests-unpack slots es 0)
tests-assign as_other slots h E = let z : ◌≡◌ {A = ℕ} 0 1 = cc in absurd (omega arith)

target-form : (e : Expr) → is_target e ≡ true → target_form (view e) ≡ true
unfolding is_target target_form
target-form e = go (view e)
  where
    go : (w : View) → ◌≡◌ {A = Bool} (elim w as (λ z. Bool) [ as_var x ↦ true | as_attr o x ↦ true | as_index o i ↦ true | as_tuple es ↦ are_elements es | as_other ↦ false ]) true → target_form w ≡ true
    go (as_var x) h = refl
    go (as_attr o x) h = refl
    go (as_index o i) h = refl
    go (as_tuple es) h = refl
    go as_other h = h

-- ---- loops and classes

tests-make_iter : Tests make_iter true
unfolding make_iter
tests-make_iter = tests-symbol _ (λ k. Instruction.CallMethod k 0)

tests-ask_iter : (g : Keeper) → Tests (ask_iter g) true
unfolding ask_iter
tests-ask_iter g = tests-seq (tests-one (load_iter g)) (tests-symbol _ (λ k. Instruction.CallMethod k 0))

tests-take_iter : (slots : List Name) (x : Name) (g : Keeper) → Tests (take_iter slots x g) true
unfolding take_iter
tests-take_iter slots x g = tests-seq (tests-one (load_iter g)) (tests-seq (tests-symbol _ (λ k. Instruction.CallMethod k 0)) (tests-store slots x))

tests-kept_iter : {b : Bool} {f : Keeper → Emit} (keep : Keeping) → ((g : Keeper) → Tests (f g) b) → Tests (kept_iter keep f) b
unfolding kept_iter named_iter here
tests-kept_iter in_globals F = record { at = λ p t. (tests-intern (iter_name p) (λ k. F (global k))).at p t }
tests-kept_iter (in_slots n) F = F (local n)

tests-object-of : (c k : ℕ) → Tests (class_object c k) true
unfolding class_object
tests-object-of c k = silent (λ p t. refl)

tests-end_class : (x : Name) (c : ℕ) (ms : List Method) → Tests (end_class x c ms) true
unfolding end_class slots_fit
tests-end_class x c ms = record { at = λ p t. (tests-intern x (tests-object-of c)).at p _ }

tests-class : {b : Bool} (x : Name) (ms : Methods) → ((acc : List Method) (t : Tables) → slots_fit (emit_methods ms acc t).tables ≡ (slots_fit t && b))
    → Tests (λ p t. class_out x (length t.classes) (emit_methods ms [] (begin_class x t)) p) b
unfolding class_out begin_class slots_fit
tests-class {b} x ms M = record {
  at = λ p t.
      let m = emit_methods ms [] (begin_class x t) in
      (tests-end_class x (length t.classes) m.methods).at p m.tables ∙ and-true (slots_fit m.tables) ∙ M [] (begin_class x t);
}

-- ---- statements

when-by : (slots : List Name) (keep : Keeping) (c : Expr) (b : Block) (r : Branches) → Tests (emit_block slots keep b) (fits_block slots b)
    → ((q : ℕ) (u : Tables) → slots_fit (emit_branches slots (past (loops_block b) keep) r q u).out.tables ≡ (slots_fit u && fits_branches slots r))
    → (p : ℕ) (t : Tables) → slots_fit (emit_branches slots keep (when c b r) p t).out.tables ≡ (slots_fit t && (fits_expr slots c && fits_block slots b && fits_branches slots r))
unfolding emit_branches
when-by slots keep c b r B R p t =
    let a = emit_expr slots c p t in
    let q = suc (p + length a.code) in
    let o = emit_block slots keep b q a.tables in
    let x = fits_expr slots c in
    let y = fits_block slots b in
    let z = fits_branches slots r in
    R (q + suc (length o.code)) o.tables ∙ ap (λ (w : Bool). w && z) (B.at q a.tables ∙ ap (λ (w : Bool). w && y) ((tests-expr slots c).at p t) ∙ and_assoc (slots_fit t) x y)
    ∙ and_assoc (slots_fit t) (x && y) z

method-by : (x : Name) (ps : List Name) (b : Block) (rest : Methods) (acc : List Method) (t : Tables) → Tests (emit_block (with_loops ps b).names (with_loops ps b).keep b) (fits_block (with_loops ps b).names b)
    → ((as' : List Method) (u : Tables) → slots_fit (emit_methods rest as' u).tables ≡ (slots_fit u && fits_methods rest))
    → slots_fit (emit_methods (method x ps b rest) acc t).tables ≡ (slots_fit t && (leb (with_loops ps b).locals 255 && fits_block (with_loops ps b).names b && fits_methods rest))
unfolding emit_methods
method-by x ps b rest acc t B M =
    let inner = with_loops ps b in
    let F = (tests-function x (length ps) inner (block_body b (method_end x)) (tests_then B (tests-emits (method_end x)))).at 0 t in
    M (insert_method x (length t.functions) acc) _ ∙ ap (λ (w : Bool). w && fits_methods rest) F ∙ and_assoc (slots_fit t) (leb inner.locals 255 && fits_block inner.names b) (fits_methods rest)

mutual
  unfolding emit_stmt fits_stmt ask_stmt ask_target if_asked fits_target assign_fits

  tests-stmt : (slots : List Name) (keep : Keeping) (l : Bool) (s : Stmt) → ask_stmt 10 l s ≡ true → Tests (emit_stmt slots keep s) (fits_stmt slots s)
  tests-stmt slots keep l break h = tests-one Instruction.Break
  tests-stmt slots keep l continue h = tests-one Instruction.Continue
  tests-stmt slots keep l pass h = tests-emits []
  tests-stmt slots keep l (expr e) h = tests_then (tests-expr slots e) (tests-one Instruction.Pop)
  tests-stmt slots keep l (return e) h = tests_then (tests-expr slots e) (tests-one Return)
  tests-stmt slots keep l (assign t v) h = tests-assign (view t) slots (target-form t (left (is_target t) (ask_expr 10 t) (left (is_target t && ask_expr 10 t) (ask_expr 10 v) h))) (tests-expr slots v)
  tests-stmt slots keep l (if bs) h = record { at = λ p t. tests-branches slots keep l bs h p t }
  tests-stmt slots keep l (while c b) h = tests-loop (tests-expr slots c) (tests-block slots keep true b (right (ask_expr 10 c) _ h))
  tests-stmt slots keep l (for x e b) h =
      tests-seq (tests-expr slots e) (tests-seq tests-make_iter
      (tests-kept_iter keep (λ g. tests-seq (tests-one (store_iter g)) (tests-loop (tests-ask_iter g) (tests-seq (tests-take_iter slots x g) (tests-block slots (past 1 keep) true b (right (ask_name 10 x && ask_expr 10 e) _ h)))))))
  tests-stmt slots keep l (def x ps b) h =
      let f = with_loops ps b in
      tests-function x (length ps) f (block_body b (Return ∷ [])) (tests_then (tests-block f.names f.keep false b (right (ask_name 10 x && ask_params 10 ps) _ h)) (tests-one Return))
  tests-stmt slots keep l (class x ms vs) h =
      tests-class x ms (λ acc t. tests-methods ms (right (ask_name 10 x) _ (left (ask_name 10 x && ask_methods 10 ms) (all (ask_attribute 10) vs) h)) acc t)

  tests-block : (slots : List Name) (keep : Keeping) (l : Bool) (b : Block) → ask_block 10 l b ≡ true → Tests (emit_block slots keep b) (fits_block slots b)
  tests-block slots keep l []ᵇ h = tests-emits []
  tests-block slots keep l (s ∷ᵇ b) h = tests-seq (tests-stmt slots keep l s (left _ (ask_block 10 l b) h)) (tests-block slots (past (loops_stmt s) keep) l b (right (ask_stmt 10 l s) _ h))

  tests-branches : (slots : List Name) (keep : Keeping) (l : Bool) (bs : Branches) → ask_branches 10 l bs ≡ true → (p : ℕ) (t : Tables) → slots_fit (emit_branches slots keep bs p t).out.tables ≡ (slots_fit t && fits_branches slots bs)
  tests-branches slots keep l done h p t = (tests-emits []).at p t
  tests-branches slots keep l (else b) h p t = (tests-block slots keep l b h).at p t
  tests-branches slots keep l (when c b r) h p t =
      when-by slots keep c b r (tests-block slots keep l b (right (ask_expr 10 c) _ (left (ask_expr 10 c && ask_block 10 l b) (ask_branches 10 l r) h)))
      (λ q u. tests-branches slots (past (loops_block b) keep) l r (right (ask_expr 10 c && ask_block 10 l b) _ h) q u) p t

  tests-methods : (ms : Methods) → ask_methods 10 ms ≡ true → (acc : List Method) (t : Tables) → slots_fit (emit_methods ms acc t).tables ≡ (slots_fit t && fits_methods ms)
  tests-methods []ᵐ h acc t = sym (and-true (slots_fit t))
  tests-methods (method x ps b rest) h acc t =
      method-by x ps b rest acc t (tests-block (with_loops ps b).names (with_loops ps b).keep false b (right (ask_method 10 x ps) _ (left (ask_method 10 x ps && ask_block 10 false b) (ask_methods 10 rest) h)))
      (λ as' u. tests-methods rest (right (ask_method 10 x ps && ask_block 10 false b) _ h) as' u)

-- ---- the whole tree

-- question 10 is answered yes: each target is one
pub slots-fit : (b : Block) → ask_block 10 false b ≡ true → slots_fit (compile b).tables ≡ fits_block [] b
unfolding compile no_tables slots_fit all
slots-fit b h = (tests-function main 0 (names_only []) (block_body b (Return ∷ [])) (tests_then (tests-block [] in_globals false b h) (tests-one Return))).at 0 no_tables

-- of a well-formed tree each question is answered yes
answered : (asked : ℕ → Bool) (qs : List ℕ) → first_no asked qs ≡ none → all asked qs ≡ true
unfolding first_no all
answered asked [] e = refl
answered asked (q ∷ qs) e = go (answered asked qs) (asked q) e
  where
    go : (first_no asked qs ≡ none → all asked qs ≡ true) → (c : Bool) → ◌≡◌ {A = Option ℕ} (elim c as (λ z. Option ℕ) [ true ↦ first_no asked qs | false ↦ some q ]) none → (c && all asked qs) ≡ true
    go rest true h = rest h
    go rest false h = let z : ◌≡◌ {A = ℕ} 0 1 = cc in absurd (omega arith)

pub targets-asked : (b c : Block) → well_formed b ≡ accepted c → ask_block 10 false b ≡ true
unfolding well_formed refused_by block_questions all
targets-asked b c = go (first_no (λ q. ask_block q false b) block_questions) refl
  where
    ask : ℕ → Bool
    ask q = ask_block q false b

    go : (o : Option ℕ) → first_no ask block_questions ≡ o → refused_by o b ≡ accepted c → ask_block 10 false b ≡ true
    go none e h =
        let a = answered ask block_questions e in
        left (ask 10) _ (right (ask 9) _ (right (ask 8) _ (right (ask 33) _ (right (ask 7) _ a))))
    go (some q) e h = let z : ◌≡◌ {A = ℕ} 0 1 = cc in absurd (omega arith)
