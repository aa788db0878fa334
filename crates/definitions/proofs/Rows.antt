-- The table of instructions by opcodes: what a test that computes on each row says of every opcode.
use mathlib.Core.Path.{◌≡◌, refl, sym, ap, ◌∙◌}
use mathlib.Core.Bool.{Bool, true, false, ◌&&◌, not}
use mathlib.Core.List.{List, [], ◌∷◌}
use Prim.Native.Nat.{ℕ, zero, suc, ◌+◌, ◌≤◌, ◌<◌}
use native.Mathlib.Omega.{arith}
use lib.ListN.{length, get_or}
use lib.Dec.{eqb, leb, ltb, lt→ltb}
use borrow.Author.Tests.{ne_eqb, eqb-true, lt-leb}
use Rattle.definitions.specs.Instruction.{Row, no_row, instruction_table, is_instruction, row_of, Flow, straight, jump, returns, question, flow}
use Rattle.definitions.specs.Reader.{jumps, is_jump}
use Rattle.definitions.proofs.Truth.{left, right, is_true}

abbrev agree : Bool → Bool → Bool
agree true b = b
agree false b = not b

agreed : (a b : Bool) → agree a b ≡ true → a ≡ b
agreed true b e = sym e
agreed false true e = e
agreed false false e = refl

-- the test holds of each element with its place, the first one at place k
unfoldable all_from : {A : Type 0} → (ℕ → A → Bool) → ℕ → List A → Bool
all_from p k [] = true
all_from p k (x ∷ xs) = p k x && all_from p (suc k) xs

from-get : {A : Type 0} (p : ℕ → A → Bool) (k : ℕ) (xs : List A) (d : A) → all_from p k xs ≡ true → ((j : ℕ) → k + length xs ≤ j → p j d ≡ true) → (j : ℕ) → p (k + j) (get_or xs j d) ≡ true
unfolding all_from
from-get p k [] d e h j = h (k + j) (omega arith)
from-get p k (x ∷ xs) d e h zero =
    let z : k + 0 ≡ k = omega arith in
    rw z (left (p k x) (all_from p (suc k) xs) e)
from-get p k (x ∷ xs) d e h (suc j) =
    let z : k + suc j ≡ suc k + j = omega arith in
    rw z (from-get p (suc k) xs d (right (p k x) (all_from p (suc k) xs) e) (λ i g. h i (omega arith)) j)

-- of the table: the test of a row, and of every opcode past the table
row_is : (p : ℕ → Row → Bool) → all_from p 0 instruction_table ≡ true → ((op : ℕ) → 46 ≤ op → p op no_row ≡ true) → (op : ℕ) → p op (row_of op) ≡ true
unfolding row_of instruction_table
row_is p e h op =
    let z : 0 + op ≡ op = omega arith in
    rw z at (from-get p 0 instruction_table no_row e (λ j g. h j (omega arith)) op)

pub is-instruction : (op : ℕ) → op < 46 → is_instruction op ≡ true
unfolding is_instruction instruction_table
is-instruction op h = is_true (ltb op 46) (lt→ltb op 46 h)

-- ---- how an instruction goes on, by its opcode

-- flows as numbers, and back
tag : Flow → ℕ
tag straight = 0
tag jump = 1
tag returns = 2
tag (question false) = 3
tag (question true) = 4

tagged : ℕ → Flow
tagged n = get_or (straight ∷ jump ∷ returns ∷ question false ∷ question true ∷ []) n straight

tagged-tag : (f : Flow) → tagged (tag f) ≡ f
unfolding tag tagged
tagged-tag straight = refl
tagged-tag jump = refl
tagged-tag returns = refl
tagged-tag (question false) = refl
tagged-tag (question true) = refl

-- Jump, JumpIfFalse, JumpIfTrue, Return, all others
unfoldable pub chosen : Bool → Bool → Bool → Bool → Flow
chosen true b c d = jump
chosen false true c d = question false
chosen false false true d = question true
chosen false false false true = returns
chosen false false false false = straight

by_opcode : ℕ → Flow
by_opcode op = chosen (eqb op 28) (eqb op 29) (eqb op 30) (eqb op 33)

pub flow-is : (op : ℕ) → flow op ≡ chosen (eqb op 28) (eqb op 29) (eqb op 30) (eqb op 33)
unfolding flow instruction_table all_from by_opcode chosen tag
flow-is op =
    let e : tag (flow op) ≡ tag (by_opcode op) = eqb-true _ _ (row_is (λ n r. eqb (tag r.flow) (tag (by_opcode n))) refl past op) in
    sym (tagged-tag (flow op)) ∙ ap tagged e ∙ tagged-tag (by_opcode op)
  where
    past : (n : ℕ) → 46 ≤ n → eqb (tag no_row.flow) (tag (by_opcode n)) ≡ true
    past n h = rw (ne_eqb n 28 (λ e. omega arith), ne_eqb n 29 (λ e. omega arith), ne_eqb n 30 (λ e. omega arith), ne_eqb n 33 (λ e. omega arith))

-- the three that jump
pub jump-is : (op : ℕ) → is_jump op ≡ (leb 28 op && leb op 30)
unfolding is_jump jumps flow instruction_table all_from
jump-is op = agreed _ _ (row_is (λ n r. agree (jumps r.flow) (leb 28 n && leb n 30)) refl past op)
  where
    past : (n : ℕ) → 46 ≤ n → agree (jumps no_row.flow) (leb 28 n && leb n 30) ≡ true
    past n h = rw (lt-leb n 30 (omega arith)) (none (leb 28 n))
      where
        none : (a : Bool) → agree false (a && false) ≡ true
        none true = refl
        none false = refl
