-- Assignments to targets in bounds are lowered to what is in bounds.
use mathlib.Core.Path.{refl}
use mathlib.Core.Bool.{true, false}
use mathlib.Core.List.{List, []}
use Prim.Native.Nat.{ℕ, zero, suc, ◌+◌, ◌≤◌, ◌<◌}
use native.Mathlib.Omega.{arith}
use lib.ListN.{length}
use Rattle.definitions.specs.Bytes.{Name}
use Rattle.definitions.specs.Tree.{Display, list_d, tuple_d, dict_d, set_d, tree_set_d, Expr, Exprs, count, view, view_display}
use Rattle.definitions.specs.Wellformed.{is_tuple}
use Rattle.definitions.specs.Instruction
use Rattle.definitions.specs.Tables.{Tables, Emit, emits}
use Rattle.definitions.specs.Lower.{display_size, copy, emit_target, unpack, assign_by}
use Rattle.definitions.specs.Open.{all_instruction}
use Rattle.definitions.proofs.Every.{no_every, every}
use Rattle.definitions.proofs.Names.{name-short}
use Rattle.definitions.proofs.Fit.{FitE, FitEs, lit_f, var_f, unary_f, binary_f, logical_f, call_f, attr_f, display_f, index_f, lambda_f, nil_e, cons_e}
use Rattle.definitions.proofs.Bounds.{Sound, bare, single}
use Rattle.definitions.proofs.BoundedPart.{Fits, fits-emits, fits-nothing, fits_one, fits-seq, fits-within}
use Rattle.definitions.proofs.BoundedNames.{fits-symbol}
use Rattle.definitions.proofs.BoundedVariables.{fits-store}
use Rattle.definitions.proofs.BoundedExpr.{fits-expr}

fits-copy : {b : Tables} {s : ℕ} (i : ℕ) → Fits 0 s b (copy i)
unfolding copy all_instruction
fits-copy zero = fits-nothing
fits-copy (suc i) = fits_one (bare refl refl)

int-sound : {b : Tables} {s : ℕ} (i : ℕ) → i < 65536 → Sound b s (Instruction.ConstI64 i)
unfolding all_instruction
int-sound i h = single refl (omega arith)

-- a display as an element: a tuple has at most 65,535 elements, any other stores nothing
fits-display : {b : Tables} {s : ℕ} (k : Display) (es : Exprs) (e : Emit) → display_size k es < 65536 → (count es ≤ 65536 → Fits 0 s b e)
    → Fits 0 s b (elim (is_tuple k) as (λ z. Emit) [ true ↦ e | false ↦ emits [] ])
unfolding is_tuple view_display display_size
fits-display list_d es e h E = fits-nothing
fits-display tuple_d es e h E = E (omega arith)
fits-display dict_d es e h E = fits-nothing
fits-display set_d es e h E = fits-nothing
fits-display tree_set_d es e h E = fits-nothing

mutual
  unfolding emit_target unpack count all_instruction

  fits-target : {b : Tables} {e : Expr} {n : ℕ} (slots : List Name) → FitE e n → Fits 0 (length slots) b (emit_target slots e)
  fits-target slots (lit_f l) = fits-nothing
  fits-target slots (var_f {x} h) = fits-store slots x (name-short x h)
  fits-target slots (unary_f A h) = fits-nothing
  fits-target slots (binary_f A B h) = fits-nothing
  fits-target slots (logical_f A B h) = fits-nothing
  fits-target slots (call_f A k B h) = fits-nothing
  fits-target slots (attr_f A m h) = fits-nothing
  fits-target slots (display_f {k} {es} s w A h) = fits-display k es (unpack slots es 0) s (λ l. fits-unpack slots 0 (omega arith) A)
  fits-target slots (index_f A B h) = fits-nothing
  fits-target slots (lambda_f k A h) = fits-nothing

  fits-unpack : {b : Tables} {es : Exprs} {n : ℕ} (slots : List Name) (i : ℕ) → i + count es ≤ 65536 → FitEs es n → Fits 0 (length slots) b (unpack slots es i)
  fits-unpack slots i h nil_e = fits-nothing
  fits-unpack slots i h (cons_e A B k) =
      fits-seq (fits-unpack slots (suc i) (omega arith) B)
      (fits-seq (fits-copy i) (fits-seq (fits-emits (every (int-sound i (omega arith)) (every (bare refl refl) no_every))) (fits-target slots A)))

fits-tuple : {b : Tables} {es : Exprs} {m n : ℕ} {v : Emit} (k : Display) (slots : List Name) → display_size k es < 65536 → FitEs es m → Fits n (length slots) b v
    → Fits n (length slots) b (assign_by (view_display k es) slots v)
unfolding assign_by view_display display_size
fits-tuple list_d slots s A E = fits-nothing
fits-tuple tuple_d slots s A E = fits-within (fits-seq E (fits-unpack slots 0 (omega arith) A)) (omega arith)
fits-tuple dict_d slots s A E = fits-nothing
fits-tuple set_d slots s A E = fits-nothing
fits-tuple tree_set_d slots s A E = fits-nothing

-- an assignment, of a value with the code v
pub fits-assign : {b : Tables} {e : Expr} {m n : ℕ} {v : Emit} (slots : List Name) → FitE e m → Fits n (length slots) b v → Fits (m + n) (length slots) b (assign_by (view e) slots v)
unfolding assign_by view all_instruction
fits-assign slots (lit_f l) E = fits-nothing
fits-assign slots (var_f {x} h) E = fits-within (fits-seq E (fits-store slots x (name-short x h))) (omega arith)
fits-assign slots (unary_f A h) E = fits-nothing
fits-assign slots (binary_f A B h) E = fits-nothing
fits-assign slots (logical_f A B h) E = fits-nothing
fits-assign slots (call_f A k B h) E = fits-nothing
fits-assign slots (attr_f {x} A m h) E = fits-within (fits-seq (fits-expr slots A) (fits-seq E (fits-symbol x (name-short x m) (λ j t u l. fits_one (single refl l))))) (omega arith)
fits-assign slots (display_f {k} s w A h) E = fits-within (fits-tuple k slots s A E) (omega arith)
fits-assign slots (index_f A B h) E = fits-within (fits-seq (fits-expr slots A) (fits-seq (fits-expr slots B) (fits-seq E (fits_one (bare refl refl))))) (omega arith)
fits-assign slots (lambda_f k A h) E = fits-nothing
