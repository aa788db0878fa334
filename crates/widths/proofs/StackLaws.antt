-- What an instruction pops and pushes, by opcode. Assumes nothing.
use mathlib.Core.Path.{◌≡◌, refl, sym, ap, ap₂, ◌∙◌}
use mathlib.Core.Bool.{Bool, false, ◌||◌}
use Prim.Native.Nat.{ℕ, zero, suc, ◌+◌, ◌-◌, ◌*◌, ◌/◌, ◌%◌, ◌≤◌, ◌<◌}
use native.Mathlib.Omega.{arith}
use lib.Dec.{eqb, ltb, leb}
use borrow.Author.Tests.{lt-ltb, le-ltb, ne_eqb}
use Rattle.definitions.specs.Bytes.{all}
use Rattle.definitions.specs.Instruction.{Row, no_row, instr, instruction_table, row_of, flow}
use Rattle.definitions.specs.Stack.{pops, pushes, height_after}
use Rattle.widths.specs.Turns.{turn}
use Rattle.definitions.proofs.Every.{all_get_d}
use Rattle.definitions.proofs.Truth.{at_most}
use Rattle.widths.proofs.Laws.{row_past, column-zero}

-- the opcodes whose first operand counts
unfoldable pub has_each : ℕ → Bool
has_each k = eqb k 34 || (eqb k 38 || (eqb k 39 || (eqb k 40 || (eqb k 41 || (eqb k 42)))))

pub first-pops-none : (op : ℕ) → has_each op ≡ false → 0 ≡ (row_of op).pops.per_first
unfolding has_each instruction_table
first-pops-none op e = column-zero (λ r. r.pops.per_first) has_each tt refl op e

-- an instruction pushes at most two, pops at most three by itself, at most one for each that its second operand counts, and at most two for each that its
-- first counts
pub few : (op : ℕ) → ((row_of op).pushes ≤ 2) × ((row_of op).pops.own ≤ 3) × ((row_of op).pops.per_second ≤ 1) × ((row_of op).pops.per_first ≤ 2) × (turn (row_of op).flow ≤ 1)
unfolding row_of instruction_table all turn
few op = (
  at_most _ _ (all_get_d (λ (r : Row). leb r.pushes 2) instruction_table refl op no_row refl),
  at_most _ _ (all_get_d (λ (r : Row). leb r.pops.own 3) instruction_table refl op no_row refl),
  at_most _ _ (all_get_d (λ (r : Row). leb r.pops.per_second 1) instruction_table refl op no_row refl),
  at_most _ _ (all_get_d (λ (r : Row). leb r.pops.per_first 2) instruction_table refl op no_row refl),
  at_most _ _ (all_get_d (λ (r : Row). leb (turn r.flow) 1) instruction_table refl op no_row refl),
)

-- ---- a row's pushes and pops in one number

abbrev pub in_one : Row → ℕ
in_one r = r.pushes + 4 * r.pops.own + 16 * r.pops.per_second + 32 * r.pops.per_first + 128 * turn r.flow

pub in-one-past : (op : ℕ) → 46 ≤ op → 0 ≡ in_one (row_of op)
unfolding turn
in-one-past op h = sym (ap in_one (row_past op h))

-- its parts
module _ (op : ℕ) {e : ℕ} (so : e ≡ in_one (row_of op)) where
  pub pushes-in : e % 4 ≡ (row_of op).pushes
  pushes-in = omega (arith, few op)

  pub byte-in : e < 256
  byte-in = omega (arith, few op)

  pub turn-in : e / 128 ≡ turn (row_of op).flow
  turn-in = omega (arith, few op)

  pub pops-in : (a b : ℕ) → e / 4 % 4 + e / 32 % 4 * (a % 65536) + e / 16 % 2 * (b % 65536) ≡ pops (instr op (a % 65536) (b % 65536))
  unfolding pops
  pops-in a b =
      let small = few op in
      let own : e / 4 % 4 ≡ (row_of op).pops.own = omega arith in
      let first : e / 32 % 4 ≡ (row_of op).pops.per_first = omega arith in
      let second : e / 16 % 2 ≡ (row_of op).pops.per_second = omega arith in
      ap₂ (λ (x y : ℕ). x + y) (ap₂ (λ (x y : ℕ). x + y * (a % 65536)) own first) (ap (λ (x : ℕ). x * (b % 65536)) second)

  pub height-in : (a b h : ℕ) {r : ℕ} → r ≡ h - (e / 4 % 4 + e / 32 % 4 * (a % 65536) + e / 16 % 2 * (b % 65536)) + e % 4
      → (r ≡ height_after (instr op (a % 65536) (b % 65536)) h) × (r ≤ h + 2)
  unfolding height_after pushes
  height-in a b h k = (
    k ∙ ap₂ (λ (x y : ℕ). h - x + y) (pops-in a b) pushes-in,
    omega (arith, k, pushes-in, few op),
  )

  pub onward-in : ltb e 128 ≡ eqb (turn (flow op)) 0
  unfolding flow
  onward-in = go (turn (row_of op).flow) turn-in
    where
      go : (n : ℕ) → e / 128 ≡ n → ltb e 128 ≡ eqb n 0
      go zero d = lt-ltb e 128 (omega arith)
      go (suc n) d = le-ltb e 128 (omega arith) ∙ sym (ne_eqb (suc n) 0 (λ z. omega arith))
