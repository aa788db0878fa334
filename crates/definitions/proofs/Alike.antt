-- Parts that the measured lowering writes as the lowering emits them: expressions, functions.
use mathlib.Core.Path.{◌≡◌, refl, sym, ap, ◌∙◌}
use mathlib.Core.Bool.{Bool, true, ◌&&◌}
use mathlib.Core.Option.{Option, none, some}
use mathlib.Core.List.{List, [], ◌∷◌, ◌++◌, append-nil}
use Prim.Native.Nat.{ℕ, suc, ◌+◌, ◌<◌}
use native.Mathlib.Omega.{arith}
use native.Mathlib.Numerals.{add-one}
use lib.ListN.{length}
use Rattle.definitions.specs.Bytes.{Name, position, same}
use Rattle.definitions.specs.Tree.{Expr, lit, var, unary, binary, logical, call, attr, display, index, lambda, Exprs, []ᵉ, ◌∷ᵉ◌, count}
use Rattle.definitions.specs.Tree.{View, as_var, as_attr, as_index, as_tuple, as_other, view}
use Rattle.definitions.specs.Wellformed.{ask_name, ask_params, ask_args, ask_expr, ask_exprs}
use Rattle.definitions.specs.Slots.{captures, Frame, names_only}
use Rattle.definitions.specs.Instruction
use Rattle.definitions.specs.Instruction.{Instr, Jump, ConstBool, Return}
use Rattle.definitions.specs.Tables.{Tables, Body, expr_body, Source, Out, Emit, add_symbol, with_functions, emits, one, ◌⨟◌, here, intern, begin, set_code, enclose, function}
use Rattle.definitions.specs.Lower.{Callee, builtin_callee, function_callee, value_callee, resolve, decides, jump_on, shortcut, call_named, call_by, lambda_name, loads, closure, emit_expr, emit_exprs, emit_object}
use Rattle.definitions.specs.Measured.{SoFar, so_far, knowing, write_short, write_expr, write_exprs, write_object}
use Rattle.definitions.proofs.Truth.{left, right}
use Rattle.definitions.proofs.Every.{Every, no_every, every, every_append, every_map, length-snoc}
use Rattle.definitions.proofs.Resolve.{position-lt}
use Rattle.definitions.proofs.Part.{found}
use Rattle.definitions.proofs.SoFarNames.{Spelled, knows-itself}
use Rattle.definitions.proofs.Counted.{Counted, CountedSame, counted-emits, counted-one, counted-seq, counted-function}
use Rattle.definitions.proofs.CountedExpr.{counted-load, counted-literal, counted-loads, counted-expr}

-- each function's name is a symbol of the tables
pub record AllSpelled (t : Tables) : Type 0 where
  pub spelled : Every (Spelled (length t.symbols)) t.functions

-- w writes what e emits, wherever it stands
pub record Alike (w e : Emit) : Type 0 where
  pub same : (p : ℕ) (t : Tables) → AllSpelled t → w p t ≡ e p t
  pub keeps : (p : ℕ) (t : Tables) → AllSpelled t → AllSpelled (e p t).tables

pub spelled-after : {n : SoFar → ℕ} {f : SoFar → SoFar} {e : Emit} → Counted n f e → (p : ℕ) (t : Tables) → AllSpelled t → AllSpelled (e p t).tables
spelled-after E p t N = record { spelled = (E.at (so_far t) p t (knows-itself t N.spelled)).knows.spelled }

-- what is counted and written in one way
pub alike_same : {n : SoFar → ℕ} {f : SoFar → SoFar} {e : Emit} → Counted n f e → Alike e e
alike_same E = record { same = λ p t N. refl; keeps = spelled-after E }

pub alike-emits : (is : List Instr) → Alike (emits is) (emits is)
alike-emits is = alike_same (counted-emits is)

pub alike-one : (i : Instr) → Alike (one i) (one i)
alike-one i = alike-emits (i ∷ [])

-- one part after another
abbrev join : Out → Out → Out
join o r = record { code = o.code ++ r.code; tables = r.tables; sources = o.sources ++ r.sources }

pub seq-at : (w v : Emit) (p q : ℕ) (t : Tables) (o r : Out) → w p t ≡ o → q ≡ p + length o.code → v q o.tables ≡ r → (w ⨟ v) p t ≡ join o r
unfolding ◌⨟◌
seq-at w v p q t o r a b c = ap (λ (z : Out). join z (v (p + length z.code) z.tables)) a ∙ ap (join o) (ap (λ (m : ℕ). v m o.tables) (sym b) ∙ c)

pub alike-seq : {w v e d : Emit} → Alike w e → Alike v d → Alike (w ⨟ v) (e ⨟ d)
unfolding ◌⨟◌
alike-seq {w} {v} {e} {d} A B = record {
  same = λ p t N.
      let q = p + length (e p t).code in
      seq-at w v p q t (e p t) (d q (e p t).tables) (A.same p t N) refl (B.same q (e p t).tables (A.keeps p t N));
  keeps = λ p t N. B.keeps (p + length (e p t).code) (e p t).tables (A.keeps p t N);
}

pub spelled-symbol : (x : Name) (t : Tables) → AllSpelled t → AllSpelled (add_symbol x t)
spelled-symbol x t N = record { spelled = every_map (λ f s. record { symbol = omega (arith, s.symbol, length-snoc t.symbols x) }) N.spelled }

pub alike-symbol : {f g : ℕ → Emit} (x : Name) → ((j : ℕ) → Alike (f j) (g j)) → Alike (intern x f) (intern x g)
unfolding intern
alike-symbol {f} {g} x F = record { same = λ p t N. equal p t N (position (same x) t.symbols); keeps = λ p t N. kept p t N (position (same x) t.symbols) }
  where
    equal : (p : ℕ) (t : Tables) → AllSpelled t → (o : Option ℕ) → found (add_symbol x) f o (length t.symbols) p t ≡ found (add_symbol x) g o (length t.symbols) p t
    equal p t N (some j) = (F j).same p t N
    equal p t N none = (F (length t.symbols)).same p (add_symbol x t) (spelled-symbol x t N)

    kept : (p : ℕ) (t : Tables) → AllSpelled t → (o : Option ℕ) → AllSpelled (found (add_symbol x) g o (length t.symbols) p t).tables
    kept p t N (some j) = (F j).keeps p t N
    kept p t N none = (F (length t.symbols)).keeps p (add_symbol x t) (spelled-symbol x t N)

pub alike-here : {f g : ℕ → Emit} → ((q : ℕ) → Alike (f q) (g q)) → Alike (here f) (here g)
unfolding here
alike-here F = record { same = λ p t N. (F p).same p t N; keeps = λ p t N. (F p).keeps p t N }

-- ---- functions

pub spelled-begin : (j arity : ℕ) (frame : Frame) (t : Tables) → j < length t.symbols → AllSpelled t → AllSpelled (begin j arity frame t)
unfolding begin
spelled-begin j arity frame t l N = record { spelled = every_append N.spelled (every (record { symbol = l }) no_every) }

same-enclose : (j arity : ℕ) (frame : Frame) (body : Body) {w e : Emit} (p : ℕ) (t : Tables) → j < length t.symbols → Alike w e → AllSpelled t
    → enclose j arity frame body w p t ≡ enclose j arity frame body e p t
unfolding enclose
same-enclose j arity frame body {w} {e} p t l W N =
    let u = begin j arity frame t in
    ap (λ (o : Out). record {
      code = [];
      tables = with_functions (set_code o.tables.functions (length t.functions) o.code) o.tables;
      sources = record { frame = frame; body = body; start = u } ∷ o.sources;
    }) (W.same 0 u (spelled-begin j arity frame t l N))

same-function : (x : Name) (arity : ℕ) (frame : Frame) (body : Body) {w e : Emit} → Alike w e → (p : ℕ) (t : Tables) → AllSpelled t
    → function x arity frame body w p t ≡ function x arity frame body e p t
unfolding function intern
same-function x arity frame body {w} {e} W p t N = go (position (same x) t.symbols) (position-lt (same x) t.symbols)
  where
    go : (o : Option ℕ) → ((j : ℕ) → o ≡ some j → j < length t.symbols)
        → found (add_symbol x) (λ j. enclose j arity frame body w) o (length t.symbols) p t ≡ found (add_symbol x) (λ j. enclose j arity frame body e) o (length t.symbols) p t
    go (some j) l = same-enclose j arity frame body p t (l j refl) W N
    go none l = same-enclose (length t.symbols) arity frame body p (add_symbol x t) (omega (arith, length-snoc t.symbols x)) W (spelled-symbol x t N)

pub alike-function : {n : SoFar → ℕ} {f : SoFar → SoFar} (x : Name) (arity : ℕ) (frame : Frame) (body : Body) {w e : Emit} → Alike w e → Counted n f e
    → Alike (function x arity frame body w) (function x arity frame body e)
alike-function x arity frame body W E = record { same = same-function x arity frame body W; keeps = spelled-after (counted-function x arity frame body E) }

-- ---- `and`, `or`

abbrev short_out : Bool → ℕ → Out → List Source → Out
short_out b m o gs = record { code = jump_on b (suc m) ∷ (o.code ++ (Jump 1 ∷ ConstBool b ∷ [])); tables = o.tables; sources = gs }

alike-short : {n : SoFar → ℕ} (b : Bool) {w e : Emit} → Alike w e → CountedSame n e → Alike (knowing (λ k. write_short b (n k) w)) (shortcut b e)
unfolding knowing write_short shortcut ◌⨟◌ emits
alike-short {n} b {w} {e} W E = record {
  same = λ p t N.
      let o = e (suc p) t in
      ap (λ (z : Out). short_out b (n (so_far t)) z (z.sources ++ [])) (W.same (p + 1) t N ∙ ap (λ (q : ℕ). e q t) (add-one p))
      ∙ ap (λ (m : ℕ). short_out b m o (o.sources ++ [])) (sym (E.at (so_far t) (suc p) t (knows-itself t N.spelled)).count)
      ∙ ap (short_out b (length o.code) o) (append-nil o.sources);
  keeps = λ p t N. W.keeps (suc p) t N;
}

-- ---- calls

alike-named : (c : Callee) (slots : List Name) (x : Name) {w e : Emit} (m : ℕ) → Alike w e → Alike (call_named c slots x w m) (call_named c slots x e m)
unfolding call_named
alike-named (builtin_callee i) slots x m W = alike-seq W (alike-one _)
alike-named (function_callee i) slots x m W = alike-seq W (alike-one _)
alike-named value_callee slots x m W = alike-seq (alike_same (counted-load slots x)) (alike-seq W (alike-one _))

alike-call : (v : View) (slots : List Name) (m : ℕ) {f o a f' o' a' : Emit} → Alike f' f → Alike o' o → Alike a' a → Alike (call_by v slots f' o' a' m) (call_by v slots f o a m)
unfolding call_by
alike-call (as_var x) slots m F O A = record { same = λ p t N. (alike-named (resolve x t) slots x m A).same p t N; keeps = λ p t N. (alike-named (resolve x t) slots x m A).keeps p t N }
alike-call (as_attr o x) slots m F O A = let P = alike-seq O (alike-seq A (alike-symbol x (λ j. alike-one (Instruction.CallMethod j m)))) in record { same = P.same; keeps = P.keeps }
alike-call (as_index o i) slots m F O A = let P = alike-seq F (alike-seq A (alike-one (Instruction.CallValue m))) in record { same = P.same; keeps = P.keeps }
alike-call (as_tuple es) slots m F O A = let P = alike-seq F (alike-seq A (alike-one (Instruction.CallValue m))) in record { same = P.same; keeps = P.keeps }
alike-call as_other slots m F O A = let P = alike-seq F (alike-seq A (alike-one (Instruction.CallValue m))) in record { same = P.same; keeps = P.keeps }

-- ---- lambdas

alike-closure : {n : SoFar → ℕ} {f : SoFar → SoFar} (slots : List Name) (arity : ℕ) (inner cs : List Name) (body : Body) {w e : Emit} → Alike w e → Counted n f e
    → Alike (closure slots arity inner cs body w) (closure slots arity inner cs body e)
unfolding closure
alike-closure slots arity inner cs body {w} {e} W E = record { same = λ p t N. (go (length t.functions)).same p t N; keeps = λ p t N. (go (length t.functions)).keeps p t N }
  where
    made : ℕ → Emit → Emit
    made j d = function (lambda_name j) arity (names_only inner) body (d ⨟ one Return) ⨟ loads slots cs ⨟ one (Instruction.MakeClosure j (length cs))

    go : (j : ℕ) → Alike (made j w) (made j e)
    go j =
        alike-seq (alike-function (lambda_name j) arity (names_only inner) body (alike-seq W (alike-one Return)) (counted-seq E (counted-one Return)))
        (alike-seq (alike_same (counted-loads slots cs)) (alike-one _))

-- ---- expressions

mutual
  unfolding emit_expr emit_exprs emit_object write_expr write_exprs write_object ask_expr ask_exprs

  pub alike-expr : (slots : List Name) (e : Expr) → ask_expr 7 e ≡ true → Alike (write_expr slots e) (emit_expr slots e)
  alike-expr slots (lit v) h = alike_same (counted-literal v)
  alike-expr slots (var x) h = alike_same (counted-load slots x)
  alike-expr slots (unary op e) h = alike-seq (alike-expr slots e h) (alike-one _)
  alike-expr slots (binary op l r) h = alike-seq (alike-expr slots l (left (ask_expr 7 l) (ask_expr 7 r) h)) (alike-seq (alike-expr slots r (right (ask_expr 7 l) (ask_expr 7 r) h)) (alike-one _))
  alike-expr slots (logical op l r) h =
      let g = right (ask_expr 7 l) (ask_expr 7 r) h in
      alike-seq (alike-expr slots l (left (ask_expr 7 l) (ask_expr 7 r) h)) (alike-short (decides op) (alike-expr slots r g) (counted-expr slots r g))
  alike-expr slots (call f es) h =
      let g = left (ask_expr 7 f) (ask_args 7 es) (left (ask_expr 7 f && ask_args 7 es) (ask_exprs 7 es) h) in
      alike-call (view f) slots (count es) (alike-expr slots f g) (alike-object slots f g) (alike-exprs slots es (right (ask_expr 7 f && ask_args 7 es) (ask_exprs 7 es) h))
  alike-expr slots (attr o x) h = alike-seq (alike-expr slots o (left (ask_expr 7 o) (ask_name 7 x) h)) (alike-symbol x (λ j. alike-one _))
  alike-expr slots (display d es) h = alike-seq (alike-exprs slots es h) (alike-one _)
  alike-expr slots (index o i) h = alike-seq (alike-expr slots o (left (ask_expr 7 o) (ask_expr 7 i) h)) (alike-seq (alike-expr slots i (right (ask_expr 7 o) (ask_expr 7 i) h)) (alike-one _))
  alike-expr slots (lambda ps b) h =
      let cs = captures slots ps b in
      let g = right (ask_params 7 ps) (ask_expr 7 b) h in
      alike-closure slots (length ps) (ps ++ cs) cs (expr_body b) (alike-expr (ps ++ cs) b g) (counted-expr (ps ++ cs) b g)

  pub alike-exprs : (slots : List Name) (es : Exprs) → ask_exprs 7 es ≡ true → Alike (write_exprs slots es) (emit_exprs slots es)
  alike-exprs slots []ᵉ h = alike-emits []
  alike-exprs slots (e ∷ᵉ es) h = alike-seq (alike-expr slots e (left (ask_expr 7 e) (ask_exprs 7 es) h)) (alike-exprs slots es (right (ask_expr 7 e) (ask_exprs 7 es) h))

  alike-object : (slots : List Name) (e : Expr) → ask_expr 7 e ≡ true → Alike (write_object slots e) (emit_object slots e)
  alike-object slots (lit v) h = alike-emits []
  alike-object slots (var x) h = alike-emits []
  alike-object slots (unary op e) h = alike-emits []
  alike-object slots (binary op l r) h = alike-emits []
  alike-object slots (logical op l r) h = alike-emits []
  alike-object slots (call f es) h = alike-emits []
  alike-object slots (attr o x) h = alike-expr slots o (left (ask_expr 7 o) (ask_name 7 x) h)
  alike-object slots (display d es) h = alike-emits []
  alike-object slots (index o i) h = alike-emits []
  alike-object slots (lambda ps b) h = alike-emits []
