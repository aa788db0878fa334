-- The opcodes of operators and displays by their bytes.
use Prim.Native.Nat.{ℕ, zero, suc, ◌+◌, ◌*◌, ◌≤◌, ◌<◌}
use mathlib.Core.Path.{◌≡◌, refl, sym, ap, ◌∙◌}
use native.Mathlib.Omega.{arith}
use borrow.Author.Tests.{ne_eqb, le-leb, lt-leb}
use lib.ListN.{get_or}
use Rattle.definitions.specs.Tree.{add_op, binary_number}
use Rattle.definitions.specs.Instruction.{unary_code, operator_code, binary_code, build_code}
use Rattle.numerals.specs.Kinds.{expr_byte}
use Rattle.numerals.specs.declared.kinds.ExprKind.{ExprKind}
use Rattle.tree_view.specs.ExprAt.{unary_ops, binary_ops}
use Rattle.lower_emit.specs.Ops.{Plain}
use Rattle.lower_emit.proofs.Packing.{plain-below}
use Rattle.opcodes.specs.Codes.{unary_opcode, display_by_kind, held_of}

-- ---- operators

pub unary-is : (k op j : ℕ) → k ≡ j → op ≡ unary_opcode j → 2 ≤ op → op < 28 → (op ≡ unary_opcode k) × Plain op 0 0
unary-is k op j e f h i = (f ∙ ap unary_opcode (sym e), plain-below op 0 0 h i (omega arith) (omega arith))

pub unary-not : (k : ℕ) → k ≡ 0 → (27 ≡ unary_opcode k) × Plain 27 0 0
unfolding unary_opcode unary_ops unary_code
unary-not k e = unary-is k 27 0 e refl (omega arith) (omega arith)

pub unary-negate : (k : ℕ) → k ≡ 1 → (19 ≡ unary_opcode k) × Plain 19 0 0
unfolding unary_opcode unary_ops unary_code
unary-negate k e = unary-is k 19 1 e refl (omega arith) (omega arith)

pub unary-pos : (k : ℕ) → k < 3 → (k ≡ 0 → ⊥) → (k ≡ 1 → ⊥) → (20 ≡ unary_opcode k) × Plain 20 0 0
unfolding unary_opcode unary_ops unary_code
unary-pos k h a b = unary-is k 20 2 (omega arith) refl (omega arith) (omega arith)

-- the sum of an operator's byte is the opcode of the operator
pub operator-is : (k : ℕ) → k < 12 → binary_code (get_or binary_ops k add_op) ≡ operator_code k
unfolding binary_ops binary_code binary_number
operator-is zero h = refl
operator-is (suc zero) h = refl
operator-is (suc (suc zero)) h = refl
operator-is (suc (suc (suc zero))) h = refl
operator-is (suc (suc (suc (suc zero)))) h = refl
operator-is (suc (suc (suc (suc (suc zero))))) h = refl
operator-is (suc (suc (suc (suc (suc (suc zero)))))) h = refl
operator-is (suc (suc (suc (suc (suc (suc (suc zero))))))) h = refl
operator-is (suc (suc (suc (suc (suc (suc (suc (suc zero)))))))) h = refl
operator-is (suc (suc (suc (suc (suc (suc (suc (suc (suc zero))))))))) h = refl
operator-is (suc (suc (suc (suc (suc (suc (suc (suc (suc (suc zero)))))))))) h = refl
operator-is (suc (suc (suc (suc (suc (suc (suc (suc (suc (suc (suc zero))))))))))) h = refl
operator-is (suc (suc (suc (suc (suc (suc (suc (suc (suc (suc (suc (suc k)))))))))))) h = absurd (omega arith)

pub binary-is : (k op : ℕ) → op ≡ operator_code k → 2 ≤ op → op < 28 → (op ≡ operator_code k) × Plain op 0 0
binary-is k op f h i = (f, plain-below op 0 0 h i (omega arith) (omega arith))

pub binary-divide : (k : ℕ) → k ≡ 3 → 17 ≡ operator_code k
unfolding operator_code
binary-divide k e = ap operator_code (sym e)

pub binary-floor : (k : ℕ) → k ≡ 4 → 16 ≡ operator_code k
unfolding operator_code
binary-floor k e = ap operator_code (sym e)

pub binary-low : (k : ℕ) → k < 6 → (k ≡ 3 → ⊥) → (k ≡ 4 → ⊥) → 13 + k ≡ operator_code k
unfolding operator_code
binary-low k h a b = let e : 13 + k ≡ k + 13 = omega arith in rw (lt-leb 6 k h, ne_eqb k 3 a, ne_eqb k 4 b, operator_code) e

pub binary-high : (k : ℕ) → 6 ≤ k → 15 + k ≡ operator_code k
unfolding operator_code
binary-high k h = let e : 15 + k ≡ k + 15 = omega arith in rw (le-leb 6 k h, operator_code) e

-- ---- displays

-- the instruction of a display, by its kind
pub build-of : {k j : ExprKind} {b : ℕ} → expr_byte k ≡ b → k ≡ j → build_code (display_by_kind (expr_byte j)) ≡ build_code (display_by_kind b)
build-of e h = ap (λ (n : ℕ). build_code (display_by_kind n)) (ap expr_byte (sym h) ∙ e)

pub build-last : {b : ℕ} → b ≡ 15 → 42 ≡ build_code (display_by_kind b)
unfolding display_by_kind build_code
build-last e = ap (λ (n : ℕ). build_code (display_by_kind n)) (sym e)

pub held-dict : (k n : ℕ) → k ≡ 12 → 2 * n ≡ held_of k n
unfolding held_of
held-dict k n e = rw e

pub held-other : (k n : ℕ) → (k ≡ 12 → ⊥) → n ≡ held_of k n
unfolding held_of
held-other k n a = rw (ne_eqb k 12 a, held_of)
