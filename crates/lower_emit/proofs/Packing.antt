-- The instruction of a word that was packed.
use Prim.Native.Nat.{ℕ, zero, suc, ◌-◌, ◌<◌, ◌≤◌}
use mathlib.Core.Path.{◌≡◌, refl, ap, ◌∙◌}
use mathlib.Core.Bool.{Bool, true, false, ◌||◌}
use mathlib.Core.List.{List}
use native.Mathlib.Omega.{arith}
use lib.Dec.{eqb}
use borrow.Author.Tests.{lt-ltb, le-ltb, le-leb, lt-leb, ne_eqb}
use Rattle.definitions.specs.Instruction.{instr, ConstI64, Jump, minus}
use Rattle.definitions.specs.Reader.{is_jump}
use Rattle.definitions.proofs.Rows.{jump-is}
use Rattle.definitions.proofs.Listing.{is-jump}
use Rattle.state.specs.Words.{big_endian_at, word, op_of, first_of, second_of, widened, small_int, operand_read, instr_of}
use Rattle.lower_emit.specs.Ops.{special, Plain}

module _ (op a b : ℕ) (h : op < 256) (i : a < 65536) (j : b < 256) where
  pub op-word : op_of (word op a b) ≡ op
  op-word = omega arith

  pub first_word : first_of (word op a b) ≡ a
  first_word = omega arith

  pub second_word : second_of (word op a b) ≡ b
  second_word = omega arith

  pub instr-word : (t : List ℕ) → eqb op small_int ≡ false → instr_of t (word op a b) ≡ instr op (operand_read t op a) b
  unfolding instr_of
  instr-word t e = rw (op-word, instr_of, e, op-word, first_word, second_word)

-- a small integer
pub instr-small : (t : List ℕ) (a : ℕ) → a < 65536 → instr_of t (word small_int a 0) ≡ ConstI64 a
unfolding instr_of
instr-small t a h = rw (op-word 48 a 0 (omega arith) h (omega arith), instr_of, first_word 48 a 0 (omega arith) h (omega arith))

or-false : (a b : Bool) → a || b ≡ false → (a ≡ false) × (b ≡ false)
or-false true b e = let z : ◌≡◌ {A = ℕ} 0 1 = cc in absurd (omega arith)
or-false false b e = (refl, e)

plain-operand : (t : List ℕ) (op a : ℕ) → eqb op 0 || eqb op 1 ≡ false → is_jump op ≡ false → operand_read t op a ≡ a
unfolding operand_read
plain-operand t op a e f = rw (e, operand_read, f, operand_read)

pub instr-plain : (t : List ℕ) (op a b : ℕ) → Plain op a b → instr_of t (word op a b) ≡ instr op a b
unfolding special
instr-plain t op a b p =
    let x = or-false (eqb op 0 || eqb op 1 || is_jump op) (eqb op small_int) p.op-plain in
    let y = or-false (eqb op 0 || eqb op 1) (is_jump op) x.0 in
    instr-word op a b p.op-byte p.first_short p.second-byte t x.1 ∙ ap (λ (n : ℕ). instr op n b) (plain-operand t op a y.0 y.1)

-- the eight bytes at a place
pub instr-place : (t : List ℕ) (op a : ℕ) → op < 2 → a < 65536 → instr_of t (word op a 0) ≡ instr op (big_endian_at 8 t a) 0
unfolding operand_read
instr-place t zero a h i = instr-word 0 a 0 (omega arith) i (omega arith) t refl
instr-place t (suc zero) a h i = instr-word 1 a 0 (omega arith) i (omega arith) t refl
instr-place t (suc (suc n)) a h i = absurd (omega arith)

-- jumps
jump-operand : (t : List ℕ) (op a : ℕ) → 28 ≤ op → op ≤ 30 → operand_read t op a ≡ widened a
unfolding operand_read
jump-operand t op a h i = rw (ne_eqb op 0 (λ e. omega arith), operand_read, ne_eqb op 1 (λ e. omega arith), is-jump op h i)

pub instr-jump : (t : List ℕ) (op a : ℕ) → 28 ≤ op → op ≤ 30 → a < 32768 → instr_of t (word op a 0) ≡ instr op a 0
unfolding widened
instr-jump t op a h i j =
    instr-word op a 0 (omega arith) (omega arith) (omega arith) t (ne_eqb op 48 (λ e. omega arith))
    ∙ ap (λ (n : ℕ). instr op n 0) (jump-operand t op a h i ∙ rw (lt-ltb a 32768 j, widened))

pub instr-back : (t : List ℕ) (n : ℕ) → 1 ≤ n → n ≤ 32768 → instr_of t (word 28 (65536 - n) 0) ≡ Jump (minus n)
unfolding widened minus
instr-back t n h i =
    instr-word 28 (65536 - n) 0 (omega arith) (omega arith) (omega arith) t refl
    ∙ ap (λ (n : ℕ). instr 28 n 0) (jump-operand t 28 (65536 - n) (omega arith) (omega arith) ∙ rw (le-ltb (65536 - n) 32768 (omega arith), widened) (omega arith))

-- opcodes below and above the jumps
pub plain-below : (op a b : ℕ) → 2 ≤ op → op < 28 → a < 65536 → b < 256 → Plain op a b
unfolding special
plain-below op a b h k x y = record {
  op-byte = omega arith;
  op-plain = rw (ne_eqb op 0 (λ e. omega arith), ne_eqb op 1 (λ e. omega arith), jump-is op, lt-leb 28 op k, ne_eqb op 48 (λ e. omega arith));
  first_short = x;
  second-byte = y;
}

pub plain-above : (op a b : ℕ) → 30 < op → op < 48 → a < 65536 → b < 256 → Plain op a b
unfolding special
plain-above op a b h k x y = record {
  op-byte = omega arith;
  op-plain = rw (ne_eqb op 0 (λ e. omega arith), ne_eqb op 1 (λ e. omega arith), jump-is op, le-leb 28 op (omega arith), lt-leb op 30 h, ne_eqb op 48 (λ e. omega arith));
  first_short = x;
  second-byte = y;
}
