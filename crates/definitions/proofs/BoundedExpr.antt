-- Expressions in bounds are lowered to what is in bounds.
use mathlib.Core.Path.{refl}
use mathlib.Core.List.{List, ◌++◌}
use Prim.Native.Nat.{ℕ, ◌<◌}
use native.Mathlib.Omega.{arith}
use lib.ListN.{length}
use Rattle.definitions.specs.Bytes.{Name}
use Rattle.definitions.specs.Tree.{Literal, UnaryOp, not_op, negate_op, pos_op, Display, list_d, tuple_d, dict_d, set_d, tree_set_d}
use Rattle.definitions.specs.Tree.{BinaryOp, add_op, subtract_op, multiply_op, divide_op, floor_divide_op, modulo_op, equal_op, not_equal_op, less_op, less_equal_op, greater_op, greater_equal_op, binary_number}
use Rattle.definitions.specs.Tree.{Expr, Exprs, count, view, view_display}
use Rattle.definitions.specs.Slots.{captures}
use Rattle.definitions.specs.Instruction
use Rattle.definitions.specs.Tables.{Tables, expr_body}
use Rattle.definitions.specs.Lower.{literal, decides, display_size, emit_expr, emit_exprs, emit_object}
use Rattle.definitions.specs.Open.{all_instruction}
use Rattle.definitions.proofs.Names.{name-short}
use Rattle.definitions.proofs.Fit.{FitL, FitE, FitEs}
use Rattle.definitions.proofs.Fit.{none_f, bool_f, int_f, float_f, string_f, lit_f, var_f, unary_f, binary_f, logical_f, call_f, attr_f, display_f, index_f, lambda_f, nil_e, cons_e}
use Rattle.definitions.proofs.Bounds.{Sound, bare, bool-sound, single}
use Rattle.definitions.proofs.BoundedPart.{Fits, fits-nothing, fits_one, fits-seq, fits-within}
use Rattle.definitions.proofs.BoundedJumps.{fits-shortcut}
use Rattle.definitions.proofs.BoundedNames.{fits-string, fits-symbol}
use Rattle.definitions.proofs.BoundedVariables.{fits-load, held-captures}
use Rattle.definitions.proofs.BoundedCalls.{Spelled, fits-call, fits-closure}

fits-literal : {b : Tables} {s : ℕ} {l : Literal} {n : ℕ} → FitL l n → Fits n s b (literal l)
unfolding literal all_instruction
fits-literal none_f = fits-within (fits_one (bare refl refl)) (omega arith)
fits-literal (bool_f {b}) = fits-within (fits_one (bool-sound b)) (omega arith)
fits-literal (int_f h) = fits-within (fits_one (single refl h)) (omega arith)
fits-literal (float_f h) = fits-within (fits_one (single refl h)) (omega arith)
fits-literal (string_f {s} u h) = fits-within (fits-string s (record { utf8 = u }) (λ k t l. fits_one (single refl l))) h

unary-sound : {b : Tables} {s : ℕ} (op : UnaryOp) → Sound b s (Instruction.Unary op)
unfolding all_instruction
unary-sound not_op = bare refl refl
unary-sound negate_op = bare refl refl
unary-sound pos_op = bare refl refl

binary-sound : {b : Tables} {s : ℕ} (op : BinaryOp) → Sound b s (Instruction.Binary op)
unfolding all_instruction binary_number
binary-sound add_op = bare refl refl
binary-sound subtract_op = bare refl refl
binary-sound multiply_op = bare refl refl
binary-sound divide_op = bare refl refl
binary-sound floor_divide_op = bare refl refl
binary-sound modulo_op = bare refl refl
binary-sound equal_op = bare refl refl
binary-sound not_equal_op = bare refl refl
binary-sound less_op = bare refl refl
binary-sound less_equal_op = bare refl refl
binary-sound greater_op = bare refl refl
binary-sound greater_equal_op = bare refl refl

build-sound : {b : Tables} {s : ℕ} (k : Display) (n : ℕ) → n < 65536 → Sound b s (Instruction.Build k n)
unfolding all_instruction
build-sound list_d n h = single refl h
build-sound tuple_d n h = single refl h
build-sound dict_d n h = single refl h
build-sound set_d n h = single refl h
build-sound tree_set_d n h = single refl h

display-spelled : (k : Display) (es : Exprs) → Spelled (view_display k es)
unfolding view_display
display-spelled list_d es = tt
display-spelled tuple_d es = tt
display-spelled dict_d es = tt
display-spelled set_d es = tt
display-spelled tree_set_d es = tt

spelled : {e : Expr} {n : ℕ} → FitE e n → Spelled (view e)
unfolding view
spelled (lit_f l) = tt
spelled (var_f h) = h
spelled (unary_f A h) = tt
spelled (binary_f A B h) = tt
spelled (logical_f A B h) = tt
spelled (call_f A k B h) = tt
spelled (attr_f A m h) = m
spelled (display_f {k} {es} s w A h) = display-spelled k es
spelled (index_f A B h) = tt
spelled (lambda_f k A h) = tt

mutual
  unfolding emit_expr emit_exprs emit_object all_instruction

  pub fits-expr : {b : Tables} {e : Expr} {n : ℕ} (slots : List Name) → FitE e n → Fits n (length slots) b (emit_expr slots e)
  fits-expr slots (lit_f l) = fits-literal l
  fits-expr slots (var_f {x} h) = fits-within (fits-load slots x (name-short x h)) (omega arith)
  fits-expr slots (unary_f {op} A h) = fits-within (fits-seq (fits-expr slots A) (fits_one (unary-sound op))) (omega arith)
  fits-expr slots (binary_f {op} A B h) = fits-within (fits-seq (fits-expr slots A) (fits-seq (fits-expr slots B) (fits_one (binary-sound op)))) (omega arith)
  fits-expr slots (logical_f {op} A B h) = fits-within (fits-seq (fits-expr slots A) (fits-shortcut (decides op) (fits-expr slots B))) h
  fits-expr slots (call_f {f} {es} A k B h) = fits-within (fits-call (view f) slots (count es) (spelled A) k (fits-expr slots A) (fits-object slots A) (fits-exprs slots B)) h
  fits-expr slots (attr_f {x} A m h) = fits-within (fits-seq (fits-expr slots A) (fits-symbol x (name-short x m) (λ j t u l. fits_one (single refl l)))) (omega arith)
  fits-expr slots (display_f {k} {es} s w A h) = fits-within (fits-seq (fits-exprs slots A) (fits_one (build-sound k (display_size k es) s))) (omega arith)
  fits-expr slots (index_f A B h) = fits-within (fits-seq (fits-expr slots A) (fits-seq (fits-expr slots B) (fits_one (bare refl refl)))) (omega arith)
  fits-expr slots (lambda_f {ps} {b = d} k A h) =
      let cs = captures slots ps d in
      fits-within (fits-closure (emit_expr (ps ++ cs) d) slots (length ps) ps cs (expr_body d) k (held-captures slots ps d) (fits-seq (fits-expr (ps ++ cs) A) (fits_one (bare refl refl)))) (omega arith)

  fits-exprs : {b : Tables} {es : Exprs} {n : ℕ} (slots : List Name) → FitEs es n → Fits n (length slots) b (emit_exprs slots es)
  fits-exprs slots nil_e = fits-nothing
  fits-exprs slots (cons_e A B h) = fits-within (fits-seq (fits-expr slots A) (fits-exprs slots B)) h

  -- an attribute's object; nothing is emitted of any other expression
  fits-object : {b : Tables} {e : Expr} {n : ℕ} (slots : List Name) → FitE e n → Fits n (length slots) b (emit_object slots e)
  fits-object slots (lit_f l) = fits-nothing
  fits-object slots (var_f h) = fits-nothing
  fits-object slots (unary_f A h) = fits-nothing
  fits-object slots (binary_f A B h) = fits-nothing
  fits-object slots (logical_f A B h) = fits-nothing
  fits-object slots (call_f A k B h) = fits-nothing
  fits-object slots (attr_f A m h) = fits-within (fits-expr slots A) h
  fits-object slots (display_f s w A h) = fits-nothing
  fits-object slots (index_f A B h) = fits-nothing
  fits-object slots (lambda_f k A h) = fits-nothing
