-- Widths of operands, by opcode. Assumes nothing.
use mathlib.Core.Path.{◌≡◌, refl, sym, ap, ◌∙◌, subst}
use mathlib.Core.Bool.{Bool, true, false, ◌||◌}
use mathlib.Core.List.{map}
use mathlib.Core.Logic.{⊎_elim}
use Prim.Native.Nat.{ℕ, ◌+◌, ◌≤◌, ◌<◌}
use native.Mathlib.Omega.{arith}
use lib.Dec.{eqb, leb, T}
use borrow.Author.Tests.{eqb-true, eq-eqb, ne_eqb, leb-true}
use Rattle.definitions.proofs.Truth.{is_true}
use lib.ListN.{get_or, get_or-map, get_or-eq_default}
use Rattle.definitions.specs.Instruction.{Row, no_row, instruction_table, row_of, first_width, second_width}
use Rattle.definitions.proofs.Begins.{le-or-gt}
use Rattle.widths.specs.Ops.{code_of}
use Rattle.widths.proofs.Table.{every, at}

-- ---- a column of the table

-- past the table no opcode has a row
pub row_past : (op : ℕ) → 46 ≤ op → row_of op ≡ no_row
unfolding row_of instruction_table
row_past op h = get_or-eq_default instruction_table no_row h

-- a rule of a column, tried at each opcode by computing
pub column-within : (g : Row → ℕ) (f : ℕ → ℕ → Bool) → T (every f 0 (map g instruction_table)) → g no_row ≡ 0 → (op : ℕ) → op < 46 → T (f op (g (row_of op)))
unfolding row_of instruction_table
column-within g f t d op h =
    subst (λ (x : ℕ). T (f op x)) (ap (λ (x : ℕ). get_or (map g instruction_table) op x) (sym d) ∙ get_or-map g instruction_table op no_row) (at f (map g instruction_table) t op h)

-- an entry that is no key is v
no_key : (v x : ℕ) (b : Bool) → T (eqb x v || b) → b ≡ false → v ≡ x
no_key v x b t e = go (eqb x v) refl t e
  where
    go : (c : Bool) → eqb x v ≡ c → T (c || b) → b ≡ false → v ≡ x
    go true h t e = sym (eqb-true x v h)
    go false h t e = absurd (subst T e t)

-- the entries of the opcodes that are no keys
pub column-none : (g : Row → ℕ) (has : ℕ → Bool) (v : ℕ) → T (every (λ k x. eqb x v || has k) 0 (map g instruction_table)) → g no_row ≡ 0 → (op : ℕ) → op < 46 → has op ≡ false → v ≡ g (row_of op)
column-none g has v t d op h e = no_key v (g (row_of op)) (has op) (column-within g (λ k x. eqb x v || has k) t d op h) e

-- where the others' entry is 0, past the table too
pub column-zero : (g : Row → ℕ) (has : ℕ → Bool) → T (every (λ k x. eqb x 0 || has k) 0 (map g instruction_table)) → g no_row ≡ 0 → (op : ℕ) → has op ≡ false → 0 ≡ g (row_of op)
column-zero g has t d op e = ⊎_elim
    (λ (h : 46 ≤ op). sym (ap g (row_past op h) ∙ d))
    (λ (h : op < 46). column-none g has 0 t d op h e)
    (le-or-gt 46 op)

-- ---- widths

-- the opcodes with a first operand
unfoldable pub has_first : ℕ → Bool
has_first k =
    eqb k 0 || (eqb k 1 || (eqb k 2 || (eqb k 6 || (eqb k 9 || (eqb k 10 || (eqb k 11 || (
    eqb k 12 || (eqb k 28 || (eqb k 29 || (eqb k 30 || (eqb k 31 || (eqb k 32 || (eqb k 34 || (eqb k 35 || (
    eqb k 36 || (eqb k 37 || (eqb k 38 || (eqb k 39 || (eqb k 40 || (eqb k 41 || (eqb k 42 || (eqb k 45))))))))))))))))))))))

pub first-none : (op : ℕ) → has_first op ≡ false → 0 ≡ first_width op
unfolding first_width has_first instruction_table
first-none op e = column-zero (λ r. r.first) has_first tt refl op e

-- the opcodes with a second operand
unfoldable pub has-second : ℕ → Bool
has-second k = eqb k 31 || (eqb k 32 || (eqb k 35 || (eqb k 45)))

pub second_none : (op : ℕ) → has-second op ≡ false → 0 ≡ second_width op
unfolding second_width has-second instruction_table
second_none op e = column-zero (λ r. r.second) has-second tt refl op e

-- both operands have at most eight bytes
pub both_widths : (op : ℕ) → first_width op + second_width op ≤ 8
unfolding first_width second_width instruction_table
both_widths op = ⊎_elim
    (λ (h : 46 ≤ op). let e = ap (λ (r : Row). r.first + r.second) (row_past op h) in omega arith)
    (λ (h : op < 46). leb-true _ 8 (is_true _ (column-within (λ r. r.first + r.second) (λ k x. leb x 8) tt refl op h)))
    (le-or-gt 46 op)

-- ---- opcodes in words

pub opcode-other : (op : ℕ) → (op ≡ 48 → ⊥) → code_of op ≡ op
unfolding code_of
opcode-other op d = rw (ne_eqb op 48 d, code_of)

pub opcode-small : (op : ℕ) → op ≡ 48 → code_of op ≡ 0
unfolding code_of
opcode-small op e = rw (eq-eqb op 48 e, code_of)
