-- The bodies in the sources of a lowered tree are those of the tree, in the order of function numbers, where question 10 is answered yes.
use mathlib.Core.Path.{◌≡◌, refl, sym, ap, ◌∙◌}
use mathlib.Core.Bool.{Bool, true, false, ◌&&◌}
use mathlib.Core.Option.{Option, none, some}
use mathlib.Core.List.{List, [], ◌∷◌, ◌++◌, map, append-nil, append_assoc}
use Prim.Native.Nat.{ℕ, zero, suc, ◌+◌}
use native.Mathlib.Omega.{arith}
use lib.ListN.{length}
use Rattle.definitions.specs.Bytes.{Name, Text, position, same, all}
use Rattle.definitions.specs.Tree.{Literal, none_l, bool_l, int_l, float_l, string_l, Display, list_d, tuple_d, dict_d, set_d, tree_set_d}
use Rattle.definitions.specs.Tree.{Expr, lit, var, unary, binary, logical, call, attr, display, index, lambda, Exprs, []ᵉ, ◌∷ᵉ◌, count}
use Rattle.definitions.specs.Tree.{View, as_var, as_attr, as_index, as_tuple, as_other, view_display, view, Attribute}
use Rattle.definitions.specs.Tree.{Stmt, break, continue, pass, expr, return, assign, if, while, for, def, class}
use Rattle.definitions.specs.Tree.{Block, []ᵇ, ◌∷ᵇ◌, Branches, done, else, when, Methods, []ᵐ, method}
use Rattle.definitions.specs.Wellformed.{if_asked, is_tuple, is_element, are_elements, is_target, ask_name, ask_params, ask_method, ask_target, ask_attribute, ask_expr, ask_stmt, ask_block, ask_branches, ask_methods}
use Rattle.definitions.specs.Slots.{captures, Keeping, in_globals, in_slots, past, Frame, names_only, with_loops, loops_stmt, loops_block}
use Rattle.definitions.specs.Instruction
use Rattle.definitions.specs.Instruction.{Instr, Return, LoadLocal}
use Rattle.definitions.specs.Tables.{Method, Tables, Body, block_body, expr_body, Source, Out, Emit, add_symbol, add_string, emits, one, ◌⨟◌, here, intern, get_or_add_string, function, enclose}
use Rattle.definitions.specs.Lower
use Rattle.definitions.specs.Lower.{Callee, builtin_callee, function_callee, value_callee, resolve, load, store, literal, decides, shortcut, call_named, call_by, loads, closure, emit_expr, emit_exprs, emit_object}
use Rattle.definitions.specs.Lower.{copy, emit_target, unpack, assign_by, loop, Keeper, global, local, make_iter, named_iter}
use Rattle.definitions.specs.Lower.{kept_iter, iter_name, ask_iter, take_iter, method_end, insert_method, begin_class, class_object}
use Rattle.definitions.specs.Lower.{end_class, class_out, emit_stmt, emit_block, emit_branches, emit_methods, compile}
use Rattle.definitions.specs.Bodies.{bodies_expr, bodies_exprs, bodies_stmt, bodies_block, bodies_branches, bodies_methods, bodies}
use Rattle.definitions.specs.Statements.{body_of, SourceBodies}
use Rattle.definitions.proofs.Truth.{left, right}

-- the functions that begin in a part have these bodies
record Has (e : Emit) (bs : List Body) : Type 0 where
  at : (p : ℕ) (t : Tables) → map body_of (e p t).sources ≡ bs

map-append : (xs ys : List Source) → map body_of (xs ++ ys) ≡ map body_of xs ++ map body_of ys
map-append [] ys = refl
map-append (x ∷ xs) ys = rw (map-append xs ys)

-- two lists of sources, one after the other
both-have : {us bs : List Body} (xs ys : List Source) → map body_of xs ≡ us → map body_of ys ≡ bs → map body_of (xs ++ ys) ≡ us ++ bs
both-have xs ys e f = rw (map-append xs ys, e, f)

has_same : {e : Emit} {us bs : List Body} → us ≡ bs → Has e us → Has e bs
has_same q A = record { at = λ p t. A.at p t ∙ q }

-- ---- parts put together

has-emits : (is : List Instr) → Has (emits is) []
unfolding emits
has-emits is = record { at = λ p t. refl }

has_one : (i : Instr) → Has (one i) []
has_one i = has-emits (i ∷ [])

has-seq : {e f : Emit} {us bs : List Body} → Has e us → Has f bs → Has (e ⨟ f) (us ++ bs)
unfolding ◌⨟◌
has-seq {e} {f} A B = record { at = λ p t. both-have (e p t).sources _ (A.at p t) (B.at (p + length (e p t).code) (e p t).tables) }

-- a part before or after which nothing begins
has-then : {e f : Emit} {us : List Body} → Has e us → Has f [] → Has (e ⨟ f) us
has-then {us} A B = has_same (append-nil us) (has-seq A B)

has-by : {g : Tables → Emit} {us : List Body} → ((t : Tables) → Has (g t) us) → Has (λ p t. g t p t) us
has-by G = record { at = λ p t. (G t).at p t }

has-symbol : {f : ℕ → Emit} {us : List Body} (x : Name) → ((k : ℕ) → Has (f k) us) → Has (intern x f) us
unfolding intern
has-symbol {f} {us} x F = record { at = λ p t. go p t (position (same x) t.symbols) }
  where
    go : (p : ℕ) (t : Tables) (o : Option ℕ) → map body_of (elim o as (λ z. Out) [ some k ↦ f k p t | none ↦ f (length t.symbols) p (add_symbol x t) ]).sources ≡ us
    go p t (some k) = (F k).at p t
    go p t none = (F (length t.symbols)).at p (add_symbol x t)

has-string : {f : ℕ → Emit} {us : List Body} (x : Text) → ((k : ℕ) → Has (f k) us) → Has (get_or_add_string x f) us
unfolding get_or_add_string
has-string {f} {us} x F = record { at = λ p t. go p t (position (same x) t.strings) }
  where
    go : (p : ℕ) (t : Tables) (o : Option ℕ) → map body_of (elim o as (λ z. Out) [ some k ↦ f k p t | none ↦ f (length t.strings) p (add_string x t) ]).sources ≡ us
    go p t (some k) = (F k).at p t
    go p t none = (F (length t.strings)).at p (add_string x t)

has-function : {e : Emit} {us : List Body} (x : Name) (arity : ℕ) (frame : Frame) (body : Body) → Has e us → Has (function x arity frame body e) (body ∷ us)
unfolding function enclose body_of
has-function x arity frame body E = has-symbol x (λ k. record { at = λ p t. ap (λ (z : List Body). body ∷ z) (E.at 0 _) })

has-shortcut : {e : Emit} {us : List Body} (b : Bool) → Has e us → Has (shortcut b e) us
unfolding shortcut
has-shortcut b E = record { at = λ p t. E.at (suc p) t }

has-loop : {e f : Emit} {us bs : List Body} → Has e us → Has f bs → Has (loop e f) (us ++ bs)
unfolding loop
has-loop {e} A B = record { at = λ p t. both-have (e p t).sources _ (A.at p t) (B.at _ _) }

-- ---- expressions

has-load : (slots : List Name) (x : Name) → Has (load slots x) []
unfolding load
has-load slots x = go (position (same x) slots)
  where
    go : (o : Option ℕ) → Has (elim o as (λ z. Emit) [ some i ↦ one (LoadLocal i) | none ↦ intern x (λ k. one (Instruction.LoadGlobal k)) ]) []
    go (some i) = has_one _
    go none = has-symbol x (λ k. has_one _)

has-store : (slots : List Name) (x : Name) → Has (store slots x) []
unfolding store
has-store slots x = go (position (same x) slots)
  where
    go : (o : Option ℕ) → Has (elim o as (λ z. Emit) [ some i ↦ one (Instruction.StoreLocal i) | none ↦ intern x (λ k. one (Instruction.StoreGlobal k)) ]) []
    go (some i) = has_one _
    go none = has-symbol x (λ k. has_one _)

has-loads : (slots xs : List Name) → Has (loads slots xs) []
unfolding loads
has-loads slots [] = has-emits []
has-loads slots (x ∷ xs) = has-seq (has-load slots x) (has-loads slots xs)

has-literal : (l : Literal) → Has (literal l) []
unfolding literal
has-literal none_l = has_one _
has-literal (bool_l b) = has_one _
has-literal (int_l n) = has_one _
has-literal (float_l n) = has_one _
has-literal (string_l s) = has-string s (λ k. has_one _)

has-closure : {e : Emit} {us : List Body} (slots : List Name) (n : ℕ) (inner cs : List Name) (body : Body) → Has e us → Has (closure slots n inner cs body e) (body ∷ us)
unfolding closure
has-closure {e} slots n inner cs body E =
    has-by {g = λ t. function (Lower.lambda_name (length t.functions)) n (names_only inner) body (e ⨟ one Return) ⨟ loads slots cs ⨟ one (Instruction.MakeClosure (length t.functions) (length cs))}
    (λ t. has-then (has-function _ n (names_only inner) body (has-then E (has_one Return))) (has-then (has-loads slots cs) (has_one _)))

has_named : {e : Emit} {us : List Body} (c : Callee) (slots : List Name) (x : Name) (n : ℕ) → Has e us → Has (call_named c slots x e n) us
unfolding call_named
has_named (builtin_callee i) slots x n A = has-then A (has_one _)
has_named (function_callee i) slots x n A = has-then A (has_one _)
has_named value_callee slots x n A = has-seq (has-load slots x) (has-then A (has_one _))

-- of a callee: a name has no bodies, an attribute those of its object
abbrev Callee-of : View → List Body → List Body → Type 0
Callee-of (as_var x) callee object = callee ≡ []
Callee-of (as_attr o x) callee object = object ≡ callee
Callee-of (as_index o i) callee object = Unit {0}
Callee-of (as_tuple es) callee object = Unit {0}
Callee-of as_other callee object = Unit {0}

has_value : {e a : Emit} {es us : List Body} (n : ℕ) → Has e es → Has a us → Has (e ⨟ a ⨟ one (Instruction.CallValue n)) (es ++ us)
has_value n E A = has-seq E (has-then A (has_one _))

has-call : (v : View) (slots : List Name) (n : ℕ) {e o a : Emit} {es os us : List Body} → Callee-of v es os → Has e es → Has o os → Has a us
    → Has (call_by v slots e o a n) (es ++ us)
unfolding call_by
has-call (as_var x) slots n {us} q E O A = rw q (record { at = λ p t. (has_named (resolve x t) slots x n A).at p t })
has-call (as_attr o x) slots n q E O A = rw (← q) (let P = has-seq O (has-then A (has-symbol x (λ k. has_one _))) in record { at = P.at })
has-call (as_index o i) slots n q E O A = let P = has_value n E A in record { at = P.at }
has-call (as_tuple es) slots n q E O A = let P = has_value n E A in record { at = P.at }
has-call as_other slots n q E O A = let P = has_value n E A in record { at = P.at }

-- the bodies of an attribute's object
unfoldable bodies_object : Expr → List Body
bodies_object (lit l) = []
bodies_object (var x) = []
bodies_object (unary op e) = []
bodies_object (binary op l r) = []
bodies_object (logical op l r) = []
bodies_object (call f es) = []
bodies_object (attr o x) = bodies_expr o
bodies_object (display k es) = []
bodies_object (index o i) = []
bodies_object (lambda ps b) = []

callee-display : (k : Display) (es : Exprs) (bs os : List Body) → Callee-of (view_display k es) bs os
unfolding view_display
callee-display list_d es bs os = tt
callee-display tuple_d es bs os = tt
callee-display dict_d es bs os = tt
callee-display set_d es bs os = tt
callee-display tree_set_d es bs os = tt

callee : (f : Expr) → Callee-of (view f) (bodies_expr f) (bodies_object f)
unfolding view bodies_expr bodies_object
callee (lit l) = tt
callee (var x) = refl
callee (unary op e) = tt
callee (binary op l r) = tt
callee (logical op l r) = tt
callee (call f es) = tt
callee (attr o x) = refl
callee (display k es) = callee-display k es _ _
callee (index o i) = tt
callee (lambda ps b) = tt

mutual
  unfolding emit_expr emit_exprs emit_object bodies_expr bodies_exprs bodies_object

  has-expr : (slots : List Name) (e : Expr) → Has (emit_expr slots e) (bodies_expr e)
  has-expr slots (lit l) = has-literal l
  has-expr slots (var x) = has-load slots x
  has-expr slots (unary op e) = has-then (has-expr slots e) (has_one _)
  has-expr slots (binary op l r) = has-seq (has-expr slots l) (has-then (has-expr slots r) (has_one _))
  has-expr slots (logical op l r) = has-seq (has-expr slots l) (has-shortcut (decides op) (has-expr slots r))
  has-expr slots (call f es) = has-call (view f) slots (count es) (callee f) (has-expr slots f) (has-object slots f) (has-exprs slots es)
  has-expr slots (attr o x) = has-then (has-expr slots o) (has-symbol x (λ k. has_one _))
  has-expr slots (display k es) = has-then (has-exprs slots es) (has_one _)
  has-expr slots (index o i) = has-seq (has-expr slots o) (has-then (has-expr slots i) (has_one _))
  has-expr slots (lambda ps b) = let cs = captures slots ps b in has-closure slots (length ps) (ps ++ cs) cs (expr_body b) (has-expr (ps ++ cs) b)

  has-exprs : (slots : List Name) (es : Exprs) → Has (emit_exprs slots es) (bodies_exprs es)
  has-exprs slots []ᵉ = has-emits []
  has-exprs slots (e ∷ᵉ es) = has-seq (has-expr slots e) (has-exprs slots es)

  has-object : (slots : List Name) (e : Expr) → Has (emit_object slots e) (bodies_object e)
  has-object slots (lit l) = has-emits []
  has-object slots (var x) = has-emits []
  has-object slots (unary op e) = has-emits []
  has-object slots (binary op l r) = has-emits []
  has-object slots (logical op l r) = has-emits []
  has-object slots (call f es) = has-emits []
  has-object slots (attr o x) = has-expr slots o
  has-object slots (display k es) = has-emits []
  has-object slots (index o i) = has-emits []
  has-object slots (lambda ps b) = has-emits []

-- ---- targets

has-copy : (i : ℕ) → Has (copy i) []
unfolding copy
has-copy zero = has-emits []
has-copy (suc i) = has_one _

has-tuple : (b : Bool) {e : Emit} → Has e [] → Has (elim b as (λ z. Emit) [ true ↦ e | false ↦ emits [] ]) []
has-tuple true E = E
has-tuple false E = has-emits []

mutual
  unfolding emit_target unpack

  has-target : (slots : List Name) (e : Expr) → Has (emit_target slots e) []
  has-target slots (lit l) = has-emits []
  has-target slots (var x) = has-store slots x
  has-target slots (unary op e) = has-emits []
  has-target slots (binary op l r) = has-emits []
  has-target slots (logical op l r) = has-emits []
  has-target slots (call f es) = has-emits []
  has-target slots (attr o x) = has-emits []
  has-target slots (display k es) = has-tuple (is_tuple k) (has-unpack slots es 0)
  has-target slots (index o i) = has-emits []
  has-target slots (lambda ps b) = has-emits []

  has-unpack : (slots : List Name) (es : Exprs) (i : ℕ) → Has (unpack slots es i) []
  has-unpack slots []ᵉ i = has-emits []
  has-unpack slots (e ∷ᵉ es) i = has-seq (has-unpack slots es (suc i)) (has-seq (has-copy i) (has-seq (has-emits _) (has-target slots e)))

-- what a tuple target may hold has no bodies
mutual
  unfolding is_element are_elements bodies_expr bodies_exprs

  element-none : (e : Expr) → is_element e ≡ true → bodies_expr e ≡ []
  element-none (lit l) q = refl
  element-none (var x) q = refl
  element-none (unary op e) q = let z : ◌≡◌ {A = ℕ} 0 1 = cc in absurd (omega arith)
  element-none (binary op l r) q = let z : ◌≡◌ {A = ℕ} 0 1 = cc in absurd (omega arith)
  element-none (logical op l r) q = let z : ◌≡◌ {A = ℕ} 0 1 = cc in absurd (omega arith)
  element-none (call f es) q = let z : ◌≡◌ {A = ℕ} 0 1 = cc in absurd (omega arith)
  element-none (attr o x) q = let z : ◌≡◌ {A = ℕ} 0 1 = cc in absurd (omega arith)
  element-none (display k es) q = elements-none es (right (is_tuple k) (are_elements es) q)
  element-none (index o i) q = let z : ◌≡◌ {A = ℕ} 0 1 = cc in absurd (omega arith)
  element-none (lambda ps b) q = let z : ◌≡◌ {A = ℕ} 0 1 = cc in absurd (omega arith)

  elements-none : (es : Exprs) → are_elements es ≡ true → bodies_exprs es ≡ []
  elements-none []ᵉ q = refl
  elements-none (e ∷ᵉ es) q = rw (element-none e (left (is_element e) (are_elements es) q), elements-none es (right (is_element e) (are_elements es) q))

-- of a target, by its form: what its bodies are
abbrev Target-of : View → List Body → Type 0
Target-of (as_var x) bs = bs ≡ []
Target-of (as_attr o x) bs = bs ≡ bodies_expr o
Target-of (as_index o i) bs = bs ≡ bodies_expr o ++ bodies_expr i
Target-of (as_tuple es) bs = bs ≡ []
Target-of as_other bs = ⊥

target : (t : Expr) → is_target t ≡ true → Target-of (view t) (bodies_expr t)
unfolding is_target view view_display bodies_expr
target (lit l) q = let z : ◌≡◌ {A = ℕ} 0 1 = cc in absurd (omega arith)
target (var x) q = refl
target (unary op e) q = let z : ◌≡◌ {A = ℕ} 0 1 = cc in absurd (omega arith)
target (binary op l r) q = let z : ◌≡◌ {A = ℕ} 0 1 = cc in absurd (omega arith)
target (logical op l r) q = let z : ◌≡◌ {A = ℕ} 0 1 = cc in absurd (omega arith)
target (call f es) q = let z : ◌≡◌ {A = ℕ} 0 1 = cc in absurd (omega arith)
target (attr o x) q = refl
target (display k es) q = go k q
  where
    go : (k : Display) → (elim (view_display k es) as (λ z. Bool) [ as_var x ↦ true | as_attr o x ↦ true | as_index o i ↦ true | as_tuple fs ↦ are_elements fs | as_other ↦ false ]) ≡ true → Target-of (view_display k es) (bodies_exprs es)
    go list_d e = let z : ◌≡◌ {A = ℕ} 0 1 = cc in absurd (omega arith)
    go tuple_d e = elements-none es e
    go dict_d e = let z : ◌≡◌ {A = ℕ} 0 1 = cc in absurd (omega arith)
    go set_d e = let z : ◌≡◌ {A = ℕ} 0 1 = cc in absurd (omega arith)
    go tree_set_d e = let z : ◌≡◌ {A = ℕ} 0 1 = cc in absurd (omega arith)
target (index o i) q = refl
target (lambda ps b) q = let z : ◌≡◌ {A = ℕ} 0 1 = cc in absurd (omega arith)

has-assign : (v : View) (slots : List Name) {e : Emit} (ts : List Body) {es : List Body} → Target-of v ts → Has e es → Has (assign_by v slots e) (ts ++ es)
unfolding assign_by
has-assign (as_var x) slots ts q E = rw q (has-then E (has-store slots x))
has-assign (as_attr o x) slots ts q E = rw q (has-seq (has-expr slots o) (has-then E (has-symbol x (λ k. has_one _))))
has-assign (as_index o i) slots ts {es} q E = rw q (has_same (sym (append_assoc (bodies_expr o) (bodies_expr i) es)) (has-seq (has-expr slots o) (has-seq (has-expr slots i) (has-then E (has_one _)))))
has-assign (as_tuple es) slots ts q E = rw q (has-then E (has-unpack slots es 0))
has-assign as_other slots ts q E = absurd q

-- ---- statements

has-make_iter : Has make_iter []
unfolding make_iter
has-make_iter = has-symbol _ (λ k. has_one _)

has-ask_iter : (g : Keeper) → Has (ask_iter g) []
unfolding ask_iter
has-ask_iter g = has-seq (has_one _) (has-symbol _ (λ k. has_one _))

has-take_iter : (slots : List Name) (x : Name) (g : Keeper) → Has (take_iter slots x g) []
unfolding take_iter
has-take_iter slots x g = has-seq (has_one _) (has-seq (has-symbol _ (λ k. has_one _)) (has-store slots x))

has-iter : {f : ℕ → Emit} {us : List Body} → ((g : ℕ) → Has (f g) us) → Has (named_iter f) us
unfolding named_iter here
has-iter F = record { at = λ p t. (has-symbol (iter_name p) F).at p t }

has_kept : {f : Keeper → Emit} {us : List Body} (keep : Keeping) → ((g : Keeper) → Has (f g) us) → Has (kept_iter keep f) us
unfolding kept_iter
has_kept in_globals F = has-iter (λ k. F (global k))
has_kept (in_slots n) F = F (local n)

has-end_class : (x : Name) (c : ℕ) (ms : List Method) → Has (end_class x c ms) []
unfolding end_class class_object
has-end_class x c ms = record { at = λ p t. (has-symbol x (λ k. record { at = λ q u. refl })).at p _ }

record HasBranches (slots : List Name) (keep : Keeping) (r : Branches) : Type 0 where
  at : (p : ℕ) (t : Tables) → map body_of (emit_branches slots keep r p t).out.sources ≡ bodies_branches r

record HasMethods (m : Methods) : Type 0 where
  at : (ms : List Method) (t : Tables) → map body_of (emit_methods m ms t).sources ≡ bodies_methods m

has-when : (slots : List Name) (keep : Keeping) (c : Expr) (b : Block) (r : Branches) → Has (emit_block slots keep b) (bodies_block b) → HasBranches slots (past (loops_block b) keep) r → HasBranches slots keep (when c b r)
unfolding emit_branches bodies_branches
has-when slots keep c b r B R = record { at = λ p t. both-have (emit_expr slots c p t).sources _ ((has-expr slots c).at p t) (both-have (emit_block slots keep b _ _).sources _ (B.at _ _) (R.at _ _)) }

has-class : (slots : List Name) (keep : Keeping) (x : Name) (m : Methods) (vs : List Attribute) → HasMethods m → Has (emit_stmt slots keep (class x m vs)) (bodies_methods m)
unfolding emit_stmt class_out
has-class slots keep x m vs M = record { at = λ p t. both-have (emit_methods m [] (begin_class x t)).sources _ (M.at [] (begin_class x t)) ((has-end_class x _ _).at p _) ∙ append-nil (bodies_methods m) }

has-method : (x : Name) (ps : List Name) (b : Block) (m : Methods) → Has (emit_block (with_loops ps b).names (with_loops ps b).keep b) (bodies_block b) → HasMethods m → HasMethods (method x ps b m)
unfolding emit_methods bodies_methods
has-method x ps b m B M = record {
  at = λ ms t.
      let F = has-function x (length ps) (with_loops ps b) (block_body b (method_end x)) (has-then B (has-emits (method_end x))) in
      let o = function x (length ps) (with_loops ps b) (block_body b (method_end x)) (emit_block (with_loops ps b).names (with_loops ps b).keep b ⨟ emits (method_end x)) 0 t in
      let ms' = insert_method x (length t.functions) ms in
      both-have o.sources (emit_methods m ms' o.tables).sources (F.at 0 t) (M.at ms' o.tables);
}

mutual
  unfolding emit_stmt emit_block emit_branches emit_methods bodies_stmt bodies_block bodies_branches bodies_methods ask_stmt ask_block ask_branches ask_methods ask_target if_asked

  has-stmt : (l : Bool) (slots : List Name) (keep : Keeping) (a : Stmt) → ask_stmt 10 l a ≡ true → Has (emit_stmt slots keep a) (bodies_stmt a)
  has-stmt l slots keep break q = has_one _
  has-stmt l slots keep continue q = has_one _
  has-stmt l slots keep pass q = has-emits []
  has-stmt l slots keep (expr e) q = has-then (has-expr slots e) (has_one _)
  has-stmt l slots keep (return e) q = has-then (has-expr slots e) (has_one _)
  has-stmt l slots keep (assign t v) q = has-assign (view t) slots (bodies_expr t) (target t (left (is_target t) (ask_expr 10 t) (left (ask_target 10 t) (ask_expr 10 v) q))) (has-expr slots v)
  has-stmt l slots keep (if bs) q = let R = has-branches l slots keep bs q in record { at = R.at }
  has-stmt l slots keep (while c b) q = has-loop (has-expr slots c) (has_block true slots keep b (right (ask_expr 10 c) (ask_block 10 true b) q))
  has-stmt l slots keep (for x e b) q =
      has-seq (has-expr slots e)
      (has-seq has-make_iter
      (has_kept keep (λ g.
      has-seq (has_one _) (has-loop (has-ask_iter g) (has-seq (has-take_iter slots x g) (has_block true slots (past 1 keep) b (right (ask_name 10 x && ask_expr 10 e) (ask_block 10 true b) q)))))))
  has-stmt l slots keep (def x ps b) q =
      has-function x (length ps) (with_loops ps b) (block_body b (Return ∷ []))
      (has-then (has_block false (with_loops ps b).names (with_loops ps b).keep b (right (ask_name 10 x && ask_params 10 ps) (ask_block 10 false b) q)) (has_one Return))
  has-stmt l slots keep (class x ms vs) q = has-class slots keep x ms vs (has-methods ms (right (ask_name 10 x) (ask_methods 10 ms) (left (ask_name 10 x && ask_methods 10 ms) (all (ask_attribute 10) vs) q)))

  has_block : (l : Bool) (slots : List Name) (keep : Keeping) (b : Block) → ask_block 10 l b ≡ true → Has (emit_block slots keep b) (bodies_block b)
  has_block l slots keep []ᵇ q = has-emits []
  has_block l slots keep (a ∷ᵇ b) q = has-seq (has-stmt l slots keep a (left (ask_stmt 10 l a) (ask_block 10 l b) q)) (has_block l slots (past (loops_stmt a) keep) b (right (ask_stmt 10 l a) (ask_block 10 l b) q))

  has-branches : (l : Bool) (slots : List Name) (keep : Keeping) (r : Branches) → ask_branches 10 l r ≡ true → HasBranches slots keep r
  has-branches l slots keep done q = record { at = λ p t. (has-emits []).at p t }
  has-branches l slots keep (else b) q = record { at = λ p t. (has_block l slots keep b q).at p t }
  has-branches l slots keep (when c b r) q =
      has-when slots keep c b r (has_block l slots keep b (right (ask_expr 10 c) (ask_block 10 l b) (left (ask_expr 10 c && ask_block 10 l b) (ask_branches 10 l r) q)))
      (has-branches l slots (past (loops_block b) keep) r (right (ask_expr 10 c && ask_block 10 l b) (ask_branches 10 l r) q))

  has-methods : (m : Methods) → ask_methods 10 m ≡ true → HasMethods m
  has-methods []ᵐ q = record { at = λ ms t. refl }
  has-methods (method x ps b m) q =
      has-method x ps b m (has_block false (with_loops ps b).names (with_loops ps b).keep b (right (ask_method 10 x ps) (ask_block 10 false b) (left (ask_method 10 x ps && ask_block 10 false b) (ask_methods 10 m) q)))
      (has-methods m (right (ask_method 10 x ps && ask_block 10 false b) (ask_methods 10 m) q))

pub source_bodies : SourceBodies
unfolding compile bodies
source_bodies b q = (has-function Lower.main 0 (names_only []) (block_body b (Return ∷ [])) (has-then (has_block false [] in_globals b q) (has_one Return))).at 0 Lower.no_tables
