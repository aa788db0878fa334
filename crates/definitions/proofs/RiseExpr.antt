-- An expression's code leaves one value more, whatever the height.
use mathlib.Core.Path.{◌≡◌, refl}
use mathlib.Core.Bool.{Bool, true, false}
use mathlib.Core.Option.{Option, none as nothing, some}
use mathlib.Core.List.{List, [], ◌∷◌, ◌++◌}
use Prim.Native.Nat.{ℕ, suc, ◌+◌}
use native.Mathlib.Omega.{arith}
use lib.ListN.{length}
use Rattle.definitions.specs.Bytes.{Name, position, same}
use Rattle.definitions.specs.Tree.{UnaryOp, not_op, negate_op, pos_op, Display, list_d, tuple_d, dict_d, set_d, tree_set_d}
use Rattle.definitions.specs.Tree.{BinaryOp, add_op, subtract_op, multiply_op, divide_op, floor_divide_op, modulo_op, equal_op, not_equal_op, less_op, less_equal_op, greater_op, greater_equal_op, binary_number}
use Rattle.definitions.specs.Tree.{Literal, Expr, Exprs, count, View, as_var, as_attr, as_index, as_tuple, as_other, view, view_display}
use Rattle.definitions.specs.Slots.{captures, names_only}
use Rattle.definitions.specs.Instruction
use Rattle.definitions.specs.Instruction.{ConstBool, Return, LoadLocal, unary_code, operator_code, binary_code, build_code}
use Rattle.definitions.specs.Tables.{Body, expr_body, Emit, one, ◌⨟◌, intern, function}
use Rattle.definitions.specs.Lower
use Rattle.definitions.specs.Lower.{Callee, builtin_callee, function_callee, value_callee, resolve, load, store, literal, decides, display_size, call_named, call_by, loads, closure, emit_expr, emit_exprs, emit_object}
use Rattle.definitions.specs.Stack.{pops, pushes, height_after}
use Rattle.definitions.specs.Open.{heights}
use Rattle.definitions.proofs.Shape.{none, more}
use Rattle.definitions.proofs.Level.{Climbs, stay, move}
use Rattle.definitions.proofs.Part.{num}
use Rattle.definitions.proofs.PartExpr.{plain-bool, plain-build}
use Rattle.definitions.proofs.Fit.{FitL, FitE, FitEs}
use Rattle.definitions.proofs.Fit.{none_f, bool_f, int_f, float_f, string_f, lit_f, var_f, unary_f, binary_f, logical_f, call_f, attr_f, display_f, index_f, lambda_f, nil_e, cons_e}
use Rattle.definitions.proofs.Fine.{Fine, fine_expr}
use Rattle.definitions.proofs.Rise.{Rise, rise-emits, rise-none, rise_one, rise-seq, rise-logical, rise-by, rise-symbol, rise-string, rise-function, rise-return}

-- ---- leaves

pub rise-load : {l : Bool} (slots : List Name) (x : Name) (h : ℕ) → Rise l (load slots x) h (suc h)
unfolding load heights
rise-load {l} slots x h = go (position (same x) slots)
  where
    go : (o : Option ℕ) → Rise l (elim o as (λ z. Emit) [ some i ↦ one (LoadLocal i) | nothing ↦ intern x (λ k. one (Instruction.LoadGlobal k)) ]) h (suc h)
    go (some i) = rise_one (num refl refl refl) (omega arith) (omega arith)
    go nothing = rise-symbol x (λ k. rise_one (num refl refl refl) (omega arith) (omega arith))

pub rise-store : {l : Bool} (slots : List Name) (x : Name) (h : ℕ) → Rise l (store slots x) (suc h) h
unfolding store heights
rise-store {l} slots x h = go (position (same x) slots)
  where
    go : (o : Option ℕ) → Rise l (elim o as (λ z. Emit) [ some i ↦ one (Instruction.StoreLocal i) | nothing ↦ intern x (λ k. one (Instruction.StoreGlobal k)) ]) (suc h) h
    go (some i) = rise_one (num refl refl refl) (omega arith) (omega arith)
    go nothing = rise-symbol x (λ k. rise_one (num refl refl refl) (omega arith) (omega arith))

climbs-bool : (b : Bool) (h : ℕ) → Climbs (ConstBool b ∷ []) h (suc h)
unfolding heights
climbs-bool false h = move {i = ConstBool false} {h = h} {m = suc h} (omega arith) (omega arith) stay
climbs-bool true h = move {i = ConstBool true} {h = h} {m = suc h} (omega arith) (omega arith) stay

rise-literal : {l : Bool} {v : Literal} {n : ℕ} → FitL v n → (h : ℕ) → Rise l (literal v) h (suc h)
unfolding literal heights
rise-literal none_f h = rise_one (num refl refl refl) (omega arith) (omega arith)
rise-literal (bool_f {b}) h = rise-emits (more (plain-bool b) none) (climbs-bool b h)
rise-literal (int_f k) h = rise_one (num refl refl refl) (omega arith) (omega arith)
rise-literal (float_f k) h = rise_one (num refl refl refl) (omega arith) (omega arith)
rise-literal (string_f {s} k u) h = rise-string s (λ j. rise_one (num refl refl refl) (omega arith) (omega arith))

rise-unary : {l : Bool} (op : UnaryOp) (h : ℕ) → Rise l (one (Instruction.Unary op)) (suc h) (suc h)
unfolding unary_code heights
rise-unary not_op h = rise_one (num refl refl refl) (omega arith) (omega arith)
rise-unary negate_op h = rise_one (num refl refl refl) (omega arith) (omega arith)
rise-unary pos_op h = rise_one (num refl refl refl) (omega arith) (omega arith)

rise-binary : {l : Bool} (op : BinaryOp) (h : ℕ) → Rise l (one (Instruction.Binary op)) (suc (suc h)) (suc h)
unfolding binary_code operator_code binary_number heights
rise-binary add_op h = rise_one (num refl refl refl) (omega arith) (omega arith)
rise-binary subtract_op h = rise_one (num refl refl refl) (omega arith) (omega arith)
rise-binary multiply_op h = rise_one (num refl refl refl) (omega arith) (omega arith)
rise-binary divide_op h = rise_one (num refl refl refl) (omega arith) (omega arith)
rise-binary floor_divide_op h = rise_one (num refl refl refl) (omega arith) (omega arith)
rise-binary modulo_op h = rise_one (num refl refl refl) (omega arith) (omega arith)
rise-binary equal_op h = rise_one (num refl refl refl) (omega arith) (omega arith)
rise-binary not_equal_op h = rise_one (num refl refl refl) (omega arith) (omega arith)
rise-binary less_op h = rise_one (num refl refl refl) (omega arith) (omega arith)
rise-binary less_equal_op h = rise_one (num refl refl refl) (omega arith) (omega arith)
rise-binary greater_op h = rise_one (num refl refl refl) (omega arith) (omega arith)
rise-binary greater_equal_op h = rise_one (num refl refl refl) (omega arith) (omega arith)

-- every display pushes one value
build-pushes : (k : Display) (n : ℕ) → pushes (Instruction.Build k n) ≡ 1
unfolding build_code heights
build-pushes list_d n = refl
build-pushes tuple_d n = refl
build-pushes dict_d n = refl
build-pushes set_d n = refl
build-pushes tree_set_d n = refl

rise-build : {l : Bool} (k : Display) (n m h : ℕ) → pops (Instruction.Build k n) ≡ m → Rise l (one (Instruction.Build k n)) (m + h) (suc h)
unfolding height_after
rise-build k n m h e = rise_one (plain-build k n) (omega arith) (omega (arith, build-pushes k n))

rise-loads : {l : Bool} (slots xs : List Name) (h : ℕ) → Rise l (loads slots xs) h (length xs + h)
unfolding loads
rise-loads slots [] h = let z : 0 + h ≡ h = omega arith in rw z rise-none
rise-loads slots (x ∷ xs) h =
    let z : suc (length xs) + h ≡ length xs + suc h = omega arith in
    rw z (rise-seq (rise-load slots x h) (rise-loads slots xs (suc h)))

rise-closure : {l : Bool} (e : Emit) (slots : List Name) (n : ℕ) (inner cs : List Name) (body : Body) (h : ℕ) → Fine body → Rise false e 0 1 → Rise l (closure slots n inner cs body e) h (suc h)
unfolding closure heights
rise-closure e slots n inner cs body h F E =
    rise-by (λ t. function (Lower.lambda_name (length t.functions)) n (names_only inner) body (e ⨟ one Return) ⨟ loads slots cs ⨟ one (Instruction.MakeClosure (length t.functions) (length cs)))
    (λ t. rise-seq (rise-function _ n (names_only inner) body F (rise-seq E rise-return)) (rise-seq (rise-loads slots cs h) (rise_one (num refl refl refl) (omega arith) (omega arith))))

-- ---- calls

rise-value : {l : Bool} {e a : Emit} (n h : ℕ) → Rise l e h (suc h) → Rise l a (suc h) (n + suc h) → Rise l (e ⨟ a ⨟ one (Instruction.CallValue n)) h (suc h)
unfolding heights
rise-value n h E A = rise-seq E (rise-seq A (rise_one (num refl refl refl) (omega arith) (omega arith)))

rise-named : {l : Bool} (c : Callee) (slots : List Name) (x : Name) {a : Emit} (n h : ℕ) → ((g : ℕ) → Rise l a g (n + g)) → Rise l (call_named c slots x a n) h (suc h)
unfolding call_named heights
rise-named (builtin_callee i) slots x n h A = rise-seq (A h) (rise_one (num refl refl refl) (omega arith) (omega arith))
rise-named (function_callee i) slots x n h A = rise-seq (A h) (rise_one (num refl refl refl) (omega arith) (omega arith))
rise-named value_callee slots x n h A = rise-value n h (rise-load slots x h) (A (suc h))

-- only an attribute's object is asked for
abbrev OnAttr : View → Type 0 → Type 0
OnAttr (as_var x) A = Unit {0}
OnAttr (as_attr o x) A = A
OnAttr (as_index o i) A = Unit {0}
OnAttr (as_tuple es) A = Unit {0}
OnAttr as_other A = Unit {0}

on-display : (k : Display) (es : Exprs) (A : Type 0) → OnAttr (view_display k es) A
unfolding view_display
on-display list_d es A = tt
on-display tuple_d es A = tt
on-display dict_d es A = tt
on-display set_d es A = tt
on-display tree_set_d es A = tt

rise-call : {l : Bool} (v : View) (slots : List Name) (n h : ℕ) {e a : Emit} (o : Emit) → Rise l e h (suc h) → OnAttr v (Rise l o h (suc h)) → ((g : ℕ) → Rise l a g (n + g)) → Rise l (call_by v slots e o a n) h (suc h)
unfolding call_by heights
rise-call {l} (as_var x) slots n h {e} {a} o E O A = record { at = λ p t. (go (resolve x t)).at p t; sources = λ p t. (go (resolve x t)).sources p t }
  where
    go : (c : Callee) → Rise l (call_named c slots x a n) h (suc h)
    go c = rise-named c slots x n h A
rise-call (as_attr o x) slots n h b E O A =
    let P = rise-seq O (rise-seq (A (suc h)) (rise-symbol x (λ k. rise_one {i = Instruction.CallMethod k n} {k = suc h} (num refl refl refl) (omega arith) (omega arith)))) in
    record { at = P.at; sources = P.sources }
rise-call (as_index o i) slots n h b E O A = let P = rise-value n h E (A (suc h)) in record { at = P.at; sources = P.sources }
rise-call (as_tuple es) slots n h b E O A = let P = rise-value n h E (A (suc h)) in record { at = P.at; sources = P.sources }
rise-call as_other slots n h b E O A = let P = rise-value n h E (A (suc h)) in record { at = P.at; sources = P.sources }

-- ---- expressions

mutual
  unfolding emit_expr emit_exprs emit_object view count heights

  pub rise-expr : {l : Bool} {e : Expr} {n : ℕ} (slots : List Name) → FitE e n → (h : ℕ) → Rise l (emit_expr slots e) h (suc h)
  rise-expr slots (lit_f v) h = rise-literal v h
  rise-expr slots (var_f {x} k) h = rise-load slots x h
  rise-expr slots (unary_f {op} A k) h = rise-seq (rise-expr slots A h) (rise-unary op h)
  rise-expr slots (binary_f {op} A B k) h = rise-seq (rise-expr slots A h) (rise-seq (rise-expr slots B (suc h)) (rise-binary op h))
  rise-expr slots (logical_f {op} A B k) h = rise-logical (decides op) (rise-expr slots A h) (rise-expr slots B h) (plain-bool (decides op)) (climbs-bool (decides op) h)
  rise-expr {l} slots (call_f {f} {es} A m B k) h = rise-call (view f) slots (count es) h (emit_object slots f) (rise-expr slots A h) (rise-object l slots A h) (λ g. rise-exprs slots B g)
  rise-expr slots (attr_f {x} A m k) h = rise-seq (rise-expr slots A h) (rise-symbol x (λ j. rise_one (num refl refl refl) (omega arith) (omega arith)))
  rise-expr slots (display_f {k} {es} s w A z) h = rise-seq (rise-exprs slots A h) (rise-build k (display_size k es) (count es) h w)
  rise-expr slots (index_f A B k) h = rise-seq (rise-expr slots A h) (rise-seq (rise-expr slots B (suc h)) (rise_one (num refl refl refl) (omega arith) (omega arith)))
  rise-expr slots (lambda_f {ps} {b} m A k) h =
      let cs = captures slots ps b in
      rise-closure (emit_expr (ps ++ cs) b) slots (length ps) (ps ++ cs) cs (expr_body b) h (fine_expr A) (rise-expr (ps ++ cs) A 0)

  rise-exprs : {l : Bool} {es : Exprs} {n : ℕ} (slots : List Name) → FitEs es n → (h : ℕ) → Rise l (emit_exprs slots es) h (count es + h)
  rise-exprs slots nil_e h = let z : 0 + h ≡ h = omega arith in rw z rise-none
  rise-exprs slots (cons_e {es} A B k) h =
      let z : suc (count es) + h ≡ count es + suc h = omega arith in
      rw z (rise-seq (rise-expr slots A h) (rise-exprs slots B (suc h)))

  rise-object : (l : Bool) {e : Expr} {n : ℕ} (slots : List Name) → FitE e n → (h : ℕ) → OnAttr (view e) (Rise l (emit_object slots e) h (suc h))
  rise-object l slots (lit_f v) h = tt
  rise-object l slots (var_f k) h = tt
  rise-object l slots (unary_f A k) h = tt
  rise-object l slots (binary_f A B k) h = tt
  rise-object l slots (logical_f A B k) h = tt
  rise-object l slots (call_f A m B k) h = tt
  rise-object l slots (attr_f A m k) h = rise-expr slots A h
  rise-object l slots (display_f {k} {es} s w A z) h = on-display k es _
  rise-object l slots (index_f A B k) h = tt
  rise-object l slots (lambda_f m A k) h = tt
