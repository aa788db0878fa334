-- The instruction of a word, by the tests of the code; its bytes; and the tables of widths.
use mathlib.Core.Path.{◌≡◌, refl, sym, ap, ◌∙◌, subst}
use mathlib.Core.Bool.{Bool, true, false, ◌&&◌}
use mathlib.Core.List.{List, [], ◌∷◌, ◌++◌, map, append-nil}
use Prim.Native.Nat.{ℕ, zero, suc, ◌/◌, ◌%◌, ◌^◌, ◌≤◌, ◌<◌}
use native.Mathlib.Omega.{arith}
use lib.Dec.{eqb, leb, ltb}
use mir.Syntax.{w16, w32}
use mir.Val.{of_z, to_z}
use lib.ListN.{length, get_or, set, get_or-map}
use borrow.Author.Tests.{eqb-true, eqb-false, eq-eqb, ne_eqb, le-leb, lt-leb}
use Rattle.definitions.specs.Bytes.{be}
use Rattle.definitions.specs.Instruction.{Instr, instr, ConstI64, Row, no_row, instruction_table, row_of, first_width, second_width, encode}
use Rattle.definitions.specs.Reader.{is_jump}
use Rattle.definitions.proofs.Rows.{jump-is}
use Rattle.definitions.proofs.Truth.{left, right, at_most}
use Rattle.state.specs.Words.{op_of, first_of, second_of, widened, operand_read, big_endian_at, instr_of}
use Rattle.widths.specs.Ops.{code_of}
use Rattle.widths.proofs.Laws.{column-zero, opcode-other, opcode-small}
use Rattle.writing.specs.Wrote.{Wrote}
use Rattle.writing.proofs.Begun.{joined, Begun, begun_first, wrote-byte}
use Rattle.definitions.proofs.Lengths.{length-encode}

-- ---- the tables

-- a column of the table of instructions, entry by entry
pub first-is : (op : ℕ) → get_or (map (λ (r : Row). r.first) instruction_table) op 0 ≡ first_width op
unfolding first_width row_of
first-is op = get_or-map (λ (r : Row). r.first) instruction_table op no_row

pub second_is : (op : ℕ) → get_or (map (λ (r : Row). r.second) instruction_table) op 0 ≡ second_width op
unfolding second_width row_of
second_is op = get_or-map (λ (r : Row). r.second) instruction_table op no_row

-- every entry is small
small_all : ℕ → List ℕ → Bool
small_all b [] = true
small_all b (x ∷ xs) = leb x b && small_all b xs

small_at : (b : ℕ) (xs : List ℕ) → small_all b xs ≡ true → (k : ℕ) → get_or xs k 0 ≤ b
unfolding small_all
small_at b [] e k = omega arith
small_at b (x ∷ xs) e zero = at_most x b (left (leb x b) (small_all b xs) e)
small_at b (x ∷ xs) e (suc k) = small_at b xs (right (leb x b) (small_all b xs) e) k

pub first_small : (op : ℕ) → get_or (map (λ (r : Row). r.first) instruction_table) op 0 ≤ 8
unfolding instruction_table small_all
first_small op = small_at 8 (map (λ (r : Row). r.first) instruction_table) refl op

pub second-small : (op : ℕ) → get_or (map (λ (r : Row). r.second) instruction_table) op 0 ≤ 1
unfolding instruction_table small_all
second-small op = small_at 1 (map (λ (r : Row). r.second) instruction_table) refl op

-- ---- a word's instruction

module _ (t : List ℕ) (w : ℕ) where
  -- a small integer
  pub of-small : w / 2 ^ 24 ≡ 48 → instr_of t w ≡ ConstI64 (first_of w)
  unfolding instr_of
  of-small e = rw (eq-eqb (w / 2 ^ 24) 48 e, instr_of)

  pub of_other : (w / 2 ^ 24 ≡ 48 → ⊥) → instr_of t w ≡ instr (op_of w) (operand_read t (op_of w) (first_of w)) (second_of w)
  unfolding instr_of
  of_other n = rw (ne_eqb (w / 2 ^ 24) 48 n, instr_of)

  -- its opcode, by the one that stands in the word
  pub word-op : code_of (w / 2 ^ 24) ≡ (instr_of t w).op
  word-op = go (eqb (w / 2 ^ 24) 48) refl
    where
      go : (b : Bool) → eqb (w / 2 ^ 24) 48 ≡ b → code_of (w / 2 ^ 24) ≡ (instr_of t w).op
      go true e = let z = eqb-true (w / 2 ^ 24) 48 e in opcode-small (w / 2 ^ 24) z ∙ sym (ap (λ (i : Instr). i.op) (of-small z))
      go false e = let z = eqb-false (w / 2 ^ 24) 48 e in opcode-other (w / 2 ^ 24) z ∙ sym (ap (λ (i : Instr). i.op) (of_other z))

module _ (t : List ℕ) (op a : ℕ) where
  operand-eight : op < 2 → operand_read t op a ≡ big_endian_at 8 t a
  unfolding operand_read
  operand-eight h = go op h
    where
      go : (o : ℕ) → o < 2 → operand_read t o a ≡ big_endian_at 8 t a
      go zero h = refl
      go (suc zero) h = refl
      go (suc (suc o)) h = absurd (omega arith)

  plain : 2 ≤ op → is_jump op ≡ false → operand_read t op a ≡ a
  unfolding operand_read
  plain h j = rw (ne_eqb op 0 (λ e. omega arith), operand_read) (rw (ne_eqb op 1 (λ e. omega arith)) (rw j))

  operand_low : 2 ≤ op → op < 28 → operand_read t op a ≡ a
  operand_low h k = plain h (rw (jump-is op, lt-leb 28 op k))

  pub operand-high : 30 < op → operand_read t op a ≡ a
  operand-high k = plain (omega arith) (rw (jump-is op, le-leb 28 op (omega arith)) (lt-leb op 30 k))

  operand-jump : 28 ≤ op → op ≤ 30 → operand_read t op a ≡ widened a
  unfolding operand_read
  operand-jump h k = rw (ne_eqb op 0 (λ e. omega arith), operand_read) (rw (ne_eqb op 1 (λ e. omega arith)) (rw (jump-is op) (rw (le-leb 28 op h, le-leb op 30 k))))

-- the first operand of a word that is no small integer
module _ (t : List ℕ) (w : ℕ) where
  first-of : (n : ℕ) → (w / 2 ^ 24 ≡ 48 → ⊥) → operand_read t (op_of w) (first_of w) ≡ n → (instr_of t w).a ≡ n
  first-of n h e = ap (λ (i : Instr). i.a) (of_other t w h) ∙ e

  pub first-low : 33554432 ≤ w → w / 16777216 < 28 → (instr_of t w).a ≡ w / 256 % 65536
  first-low h k = first-of (first_of w) (λ e. omega arith) (operand_low t (op_of w) (first_of w) (omega arith) k)

  -- of a small integer it is the same
  pub first-high : 30 < w / 16777216 → (instr_of t w).a ≡ w / 256 % 65536
  first-high k = go (eqb (w / 2 ^ 24) 48) refl
    where
      go : (b : Bool) → eqb (w / 2 ^ 24) 48 ≡ b → (instr_of t w).a ≡ w / 256 % 65536
      go true e = ap (λ (i : Instr). i.a) (of-small t w (eqb-true (w / 2 ^ 24) 48 e))
      go false e = first-of (first_of w) (eqb-false (w / 2 ^ 24) 48 e) (operand-high t (op_of w) (first_of w) k)

  pub first-jump : 28 ≤ w / 16777216 → w / 16777216 ≤ 30 → (instr_of t w).a ≡ widened (w / 256 % 65536)
  first-jump h k = first-of (widened (first_of w)) (λ e. omega arith) (operand-jump t (op_of w) (first_of w) h k)

-- the casts of the code
pub widened-is : (a : ℕ) → a < 65536 → of_z w32 (to_z w16 a) ≡ widened a
unfolding widened
widened-is a h = go (ltb a 32768) refl
  where
    go : (b : Bool) → ltb a 32768 ≡ b → of_z w32 (to_z w16 a) ≡ widened a
    go true e = rw (e, widened)
    go false e = rw (e, widened) (omega arith)

-- ---- an instruction's bytes

pub encode-pieces : (i : Instr) → encode i ≡ (i.op ∷ []) ++ joined (be (first_width i.op) i.a ∷ be (second_width i.op) i.b ∷ [])
unfolding encode joined
encode-pieces i = ap (λ (z : List ℕ). i.op ∷ z) (ap (λ (z : List ℕ). be (first_width i.op) i.a ++ z) (sym (append-nil (be (second_width i.op) i.b))))

-- the opcode is written, in the code's own numbers
pub begun-word : (t xs : List ℕ) (w : ℕ) {op f s a b : ℕ} → op ≡ (instr_of t w).op → f ≡ first_width op → s ≡ second_width op → a ≡ (instr_of t w).a → b ≡ (instr_of t w).b →
    length (encode (instr_of t w)) ≤ length xs → Begun (encode (instr_of t w)) xs 1 (set xs 0 op) (be f a ∷ be s b ∷ [])
begun-word t xs w {op} {f} {s} {a} {b} o e₁ e₂ e₃ e₄ h =
    let i = instr_of t w in
    let l = length-encode i in
    let n : encode i ≡ (op ∷ []) ++ joined (be f a ∷ be s b ∷ []) =
    encode-pieces i ∙ sym (λ j. (o j ∷ []) ++ joined (be ((e₁ ∙ ap first_width o) j) (e₃ j) ∷ be ((e₂ ∙ ap second_width o) j) (e₄ j) ∷ [])) in
    begun_first n h (wrote-byte op xs (omega arith))

-- an instruction without a first operand has no second: the second operand's width where the first's is 0, else 0
lone : Row → ℕ
lone r = elim (eqb r.first 0) [ true ↦ r.second | false ↦ 0 ]

lone-none : (op : ℕ) → 0 ≡ lone (row_of op)
unfolding lone instruction_table
lone-none op = column-zero lone (λ k. false) tt refl op refl

no-operands : (op : ℕ) → first_width op ≡ 0 → second_width op ≡ 0
unfolding lone first_width second_width
no-operands op e = sym (lone-none op ∙ rw (eq-eqb (row_of op).first 0 e, lone))

-- an instruction without operands is its opcode
pub wrote-alone : (t xs : List ℕ) (w : ℕ) {op f : ℕ} → op ≡ (instr_of t w).op → f ≡ first_width op → f ≡ 0 → length (encode (instr_of t w)) ≤ length xs →
    Wrote 1 (encode (instr_of t w)) xs (set xs 0 op)
unfolding encode be
wrote-alone t xs w {op} {f} o e z h =
    let i = instr_of t w in
    let l = length-encode i in
    let k : first_width i.op ≡ 0 = ap first_width (sym o) ∙ sym e ∙ z in
    let n : op ∷ [] ≡ encode i = λ j. o j ∷ (be (sym k j) i.a ++ be (sym (no-operands i.op k) j) i.b) in
    subst (λ (bs : List ℕ). Wrote 1 bs xs (set xs 0 op)) n (wrote-byte op xs (omega arith))

-- ConstI64 and ConstF64 have eight bytes of operand
place-bytes : (op a b : ℕ) → op < 2 → encode (instr op a b) ≡ (op ∷ []) ++ joined (be 8 a ∷ [])
unfolding encode first_width second_width row_of instruction_table be joined
place-bytes zero a b h = refl
place-bytes (suc zero) a b h = refl
place-bytes (suc (suc op)) a b h = absurd (omega arith)

-- the opcode of a word whose operand is a place in the tree is written
pub begun-place : (t xs : List ℕ) (w : ℕ) → w < 33554432 → length (encode (instr_of t w)) ≤ length xs →
    Begun (encode (instr_of t w)) xs 1 (set xs 0 (w / 16777216)) (be 8 (big_endian_at 8 t (w / 256 % 65536)) ∷ [])
begun-place t xs w s h =
    let l = length-encode (instr_of t w) in
    let o : w / 2 ^ 24 < 2 = omega arith in
    begun_first
    (ap encode (of_other t w (λ e. omega arith)) ∙ place-bytes (op_of w) (operand_read t (op_of w) (first_of w)) (second_of w) o
    ∙ ap (λ (n : ℕ). (op_of w ∷ []) ++ joined (be 8 n ∷ [])) (operand-eight t (op_of w) (first_of w) o))
    h (wrote-byte (w / 16777216) xs (omega arith))
