-- An expression has as many instructions as its measure says.
use mathlib.Core.Path.{◌≡◌, refl, sym, ap, ◌∙◌, subst}
use mathlib.Core.Bool.{Bool, true, false, ◌&&◌}
use mathlib.Core.Option.{Option, none, some}
use mathlib.Core.List.{List, [], ◌∷◌, ◌++◌}
use Prim.Native.Nat.{ℕ, suc, ◌+◌}
use native.Mathlib.Omega.{arith}
use lib.ListN.{length, length-append}
use lib.Dec.{eqb}
use Rattle.definitions.specs.Bytes.{Name, position, same}
use Rattle.definitions.specs.Tree.{Literal, none_l, bool_l, int_l, float_l, string_l}
use Rattle.definitions.specs.Tree.{Expr, lit, var, unary, binary, logical, call, attr, display, index, lambda, Exprs, []ᵉ, ◌∷ᵉ◌, count}
use Rattle.definitions.specs.Tree.{Display, list_d, tuple_d, dict_d, set_d, tree_set_d, View, as_var, as_attr, as_index, as_tuple, as_other, view, view_display}
use Rattle.definitions.specs.Wellformed.{is_name, if_asked, ask_name, ask_params, ask_args, ask_expr, ask_exprs}
use Rattle.definitions.specs.Builtins.{builtin}
use Rattle.definitions.specs.Slots.{captures, Frame, names_only}
use Rattle.definitions.specs.Instruction
use Rattle.definitions.specs.Instruction.{Return, LoadLocal}
use Rattle.definitions.specs.Tables.{Function, Class, Tables, Body, expr_body, Emit, one, intern, function}
use Rattle.definitions.specs.Lower.{Callee, builtin_callee, function_callee, value_callee, resolve, resolve_function, load, store, literal, decides, shortcut}
use Rattle.definitions.specs.Lower.{call_named, call_by, lambda_name, loads, closure, emit_expr, emit_exprs, emit_object}
use Rattle.definitions.specs.Measured.{SoFar, is_there, function_in, class_in, direct, measure_call, measure_expr, measure_exprs, measure_object}
use Rattle.definitions.proofs.Truth.{left, right}
use Rattle.definitions.proofs.SoFarNames.{Knows, knows-less, lambda-unnamed}
use Rattle.definitions.proofs.Counted.{Gives, CountedSame, counted-emits, counted-one, counted-seq, counted-symbol, counted-string, counted-function, counted-as}

-- ---- names and literals

pub counted-load : (slots : List Name) (x : Name) → CountedSame (λ k. 1) (load slots x)
unfolding load
counted-load slots x = go (position (same x) slots)
  where
    go : (o : Option ℕ) → CountedSame (λ k. 1) (elim o as (λ z. Emit) [ some i ↦ one (LoadLocal i) | none ↦ intern x (λ k. one (Instruction.LoadGlobal k)) ])
    go (some i) = counted-one _
    go none = counted-symbol x (λ j. counted-one _)

pub counted-store : (slots : List Name) (x : Name) → CountedSame (λ k. 1) (store slots x)
unfolding store
counted-store slots x = go (position (same x) slots)
  where
    go : (o : Option ℕ) → CountedSame (λ k. 1) (elim o as (λ z. Emit) [ some i ↦ one (Instruction.StoreLocal i) | none ↦ intern x (λ k. one (Instruction.StoreGlobal k)) ])
    go (some i) = counted-one _
    go none = counted-symbol x (λ j. counted-one _)

pub counted-literal : (v : Literal) → CountedSame (λ k. 1) (literal v)
unfolding literal
counted-literal none_l = counted-one _
counted-literal (bool_l b) = counted-one _
counted-literal (int_l n) = counted-one _
counted-literal (float_l n) = counted-one _
counted-literal (string_l s) = counted-string s (λ j. counted-one _)

pub counted-loads : (slots xs : List Name) → CountedSame (λ k. length xs) (loads slots xs)
unfolding loads
counted-loads slots [] = counted-emits []
counted-loads slots (x ∷ xs) = counted-as (counted-seq (counted-load slots x) (counted-loads slots xs)) (λ k. omega arith)

-- ---- `and`, `or`

counted-shortcut : {n : SoFar → ℕ} (b : Bool) {e : Emit} → CountedSame n e → CountedSame (λ k. n k + 3) (shortcut b e)
unfolding shortcut
counted-shortcut b {e} E = record {
  at = λ k p t K.
      let c = E.at k (suc p) t K in
      record { count = ap suc (length-append (e (suc p) t).code _) ∙ omega (arith, c.count); knows = c.knows; more = c.more };
}

-- ---- calls

abbrev no_load : Callee → Bool
no_load (builtin_callee i) = true
no_load (function_callee i) = true
no_load value_callee = false

there-callee : (o : Option ℕ) → is_there o ≡ no_load (elim o as (λ z. Callee) [ none ↦ value_callee | some i ↦ function_callee i ])
unfolding is_there
there-callee none = refl
there-callee (some i) = refl

function-callee : (x : Name) (t : Tables) → function_in t x ≡ no_load (resolve_function x t)
unfolding function_in resolve_function
function-callee x t = go (position (same x) t.symbols) (λ j. position (λ (f : Function). eqb j f.symbol) t.functions)
  where
    go : (s : Option ℕ) (f : ℕ → Option ℕ) → ◌≡◌ {A = Bool} (elim s as (λ z. Bool) [ none ↦ false | some j ↦ is_there (f j) ])
        (no_load (elim s as (λ z. Callee) [ none ↦ value_callee | some j ↦ elim (f j) as (λ z. Callee) [ none ↦ value_callee | some i ↦ function_callee i ] ]))
    go none f = refl
    go (some j) f = there-callee (f j)

-- the measure tells the calls without a loaded value
direct-resolve : (k : SoFar) (x : Name) (t : Tables) → is_name x ≡ true → Knows k t → direct k x ≡ no_load (resolve x t)
unfolding direct resolve class_in is_there
direct-resolve k x t e K = go (builtin x) (position (λ (c : Class). same x c.name) t.classes) (k.is_class x) (K.classes x) (k.is_function x) (resolve_function x t) (sym (K.functions x e) ∙ function-callee x t)
  where
    go : (b c : Option ℕ) (d : Bool) → is_there c ≡ d → (g : Bool) (r : Callee) → g ≡ no_load r
        → ◌≡◌ {A = Bool} (elim b as (λ z. Bool) [ some i ↦ true | none ↦ elim d as (λ z. Bool) [ true ↦ false | false ↦ g ] ])
        (no_load (elim b as (λ z. Callee) [ some i ↦ builtin_callee i | none ↦ elim c as (λ z. Callee) [ some i ↦ value_callee | none ↦ r ] ]))
    go (some i) c d h g r q = refl
    go none none d h g r q = rw (← h) q
    go none (some i) d h g r q = rw (← h)

abbrev by_load : Bool → ℕ → ℕ
by_load b n = elim b [ true ↦ n + 1 | false ↦ 1 + (n + 1) ]

counted-named : {n : SoFar → ℕ} (c : Callee) (slots : List Name) (x : Name) {e : Emit} (m : ℕ) → CountedSame n e → CountedSame (λ k. by_load (no_load c) (n k)) (call_named c slots x e m)
unfolding call_named
counted-named (builtin_callee i) slots x m E = counted-seq E (counted-one _)
counted-named (function_callee i) slots x m E = counted-seq E (counted-one _)
counted-named value_callee slots x m E = counted-seq (counted-load slots x) (counted-seq E (counted-one _))

-- the name of a call by name is one
abbrev NamedView : View → Type 0
NamedView (as_var x) = is_name x ≡ true
NamedView (as_attr o x) = Unit {0}
NamedView (as_index o i) = Unit {0}
NamedView (as_tuple es) = Unit {0}
NamedView as_other = Unit {0}

named-display : (d : Display) (es : Exprs) → NamedView (view_display d es)
unfolding view_display
named-display list_d es = tt
named-display tuple_d es = tt
named-display dict_d es = tt
named-display set_d es = tt
named-display tree_set_d es = tt

named-view : (f : Expr) → ask_expr 7 f ≡ true → NamedView (view f)
unfolding view ask_expr ask_name if_asked
named-view (lit l) e = tt
named-view (var x) e = e
named-view (unary op f) e = tt
named-view (binary op l r) e = tt
named-view (logical op l r) e = tt
named-view (call f es) e = tt
named-view (attr o x) e = tt
named-view (display d es) e = named-display d es
named-view (index o i) e = tt
named-view (lambda ps b) e = tt

counted-call : {nf no na : SoFar → ℕ} (v : View) (slots : List Name) (m : ℕ) {f o a : Emit} → NamedView v → CountedSame nf f → CountedSame no o → CountedSame na a
    → CountedSame (λ k. measure_call v k (nf k) (no k) (na k)) (call_by v slots f o a m)
unfolding call_by measure_call
counted-call {na} (as_var x) slots m {a} h F O A = record {
  at = λ k p t K. subst (λ (b : Bool). Gives (by_load b (na k)) k t (call_named (resolve x t) slots x a m p t)) (sym (direct-resolve k x t h K)) ((counted-named (resolve x t) slots x m A).at k p t K);
}
counted-call (as_attr o x) slots m h F O A = let P = counted-seq O (counted-seq A (counted-symbol x (λ j. counted-one (Instruction.CallMethod j m)))) in record { at = P.at }
counted-call (as_index o i) slots m h F O A = let P = counted-seq F (counted-seq A (counted-one (Instruction.CallValue m))) in record { at = P.at }
counted-call (as_tuple es) slots m h F O A = let P = counted-seq F (counted-seq A (counted-one (Instruction.CallValue m))) in record { at = P.at }
counted-call as_other slots m h F O A = let P = counted-seq F (counted-seq A (counted-one (Instruction.CallValue m))) in record { at = P.at }

-- ---- lambdas

-- a lambda's function: no script can call it
counted-unnamed : {n : SoFar → ℕ} (j arity : ℕ) (frame : Frame) (body : Body) {e : Emit} → CountedSame n e → CountedSame (λ k. 0) (function (lambda_name j) arity frame body e)
counted-unnamed j arity frame body {e} E = record {
  at = λ k p t K.
      let c = (counted-function (lambda_name j) arity frame body E).at k p t K in
      record { count = c.count; knows = knows-less k (lambda_name j) _ (lambda-unnamed j) c.knows; more = c.more };
}

counted-closure : {n : SoFar → ℕ} (slots : List Name) (arity : ℕ) (inner cs : List Name) (body : Body) {e : Emit} → CountedSame n e → CountedSame (λ k. length cs + 1) (closure slots arity inner cs body e)
unfolding closure
counted-closure slots arity inner cs body {e} E = record {
  at = λ k p t K.
      (counted-as {n = λ j. length cs + 1} (counted-seq (counted-unnamed (length t.functions) arity (names_only inner) body (counted-seq E (counted-one Return)))
      (counted-seq (counted-loads slots cs) (counted-one (Instruction.MakeClosure (length t.functions) (length cs))))) (λ j. omega arith)).at k p t K;
}

-- ---- expressions

mutual
  unfolding emit_expr emit_exprs emit_object measure_expr measure_exprs measure_object ask_expr ask_exprs

  pub counted-expr : (slots : List Name) (e : Expr) → ask_expr 7 e ≡ true → CountedSame (λ k. measure_expr slots k e) (emit_expr slots e)
  counted-expr slots (lit v) h = counted-literal v
  counted-expr slots (var x) h = counted-load slots x
  counted-expr slots (unary op e) h = counted-seq (counted-expr slots e h) (counted-one _)
  counted-expr slots (binary op l r) h = counted-seq (counted-expr slots l (left (ask_expr 7 l) (ask_expr 7 r) h)) (counted-seq (counted-expr slots r (right (ask_expr 7 l) (ask_expr 7 r) h)) (counted-one _))
  counted-expr slots (logical op l r) h = counted-seq (counted-expr slots l (left (ask_expr 7 l) (ask_expr 7 r) h)) (counted-shortcut (decides op) (counted-expr slots r (right (ask_expr 7 l) (ask_expr 7 r) h)))
  counted-expr slots (call f es) h =
      let c = left (ask_expr 7 f && ask_args 7 es) (ask_exprs 7 es) h in
      let g = left (ask_expr 7 f) (ask_args 7 es) c in
      counted-call (view f) slots (count es) (named-view f g) (counted-expr slots f g) (counted-object slots f g) (counted-exprs slots es (right (ask_expr 7 f && ask_args 7 es) (ask_exprs 7 es) h))
  counted-expr slots (attr o x) h = counted-seq (counted-expr slots o (left (ask_expr 7 o) (ask_name 7 x) h)) (counted-symbol x (λ j. counted-one _))
  counted-expr slots (display d es) h = counted-seq (counted-exprs slots es h) (counted-one _)
  counted-expr slots (index o i) h = counted-seq (counted-expr slots o (left (ask_expr 7 o) (ask_expr 7 i) h)) (counted-seq (counted-expr slots i (right (ask_expr 7 o) (ask_expr 7 i) h)) (counted-one _))
  counted-expr slots (lambda ps b) h =
      let cs = captures slots ps b in
      counted-closure slots (length ps) (ps ++ cs) cs (expr_body b) (counted-expr (ps ++ cs) b (right (ask_params 7 ps) (ask_expr 7 b) h))

  pub counted-exprs : (slots : List Name) (es : Exprs) → ask_exprs 7 es ≡ true → CountedSame (λ k. measure_exprs slots k es) (emit_exprs slots es)
  counted-exprs slots []ᵉ h = counted-emits []
  counted-exprs slots (e ∷ᵉ es) h = counted-seq (counted-expr slots e (left (ask_expr 7 e) (ask_exprs 7 es) h)) (counted-exprs slots es (right (ask_expr 7 e) (ask_exprs 7 es) h))

  counted-object : (slots : List Name) (e : Expr) → ask_expr 7 e ≡ true → CountedSame (λ k. measure_object slots k e) (emit_object slots e)
  counted-object slots (lit v) h = counted-emits []
  counted-object slots (var x) h = counted-emits []
  counted-object slots (unary op e) h = counted-emits []
  counted-object slots (binary op l r) h = counted-emits []
  counted-object slots (logical op l r) h = counted-emits []
  counted-object slots (call f es) h = counted-emits []
  counted-object slots (attr o x) h = counted-expr slots o (left (ask_expr 7 o) (ask_name 7 x) h)
  counted-object slots (display d es) h = counted-emits []
  counted-object slots (index o i) h = counted-emits []
  counted-object slots (lambda ps b) h = counted-emits []
