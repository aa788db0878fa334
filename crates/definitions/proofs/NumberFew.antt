-- The number of a function's record fits its two bytes.
use mathlib.Core.Path.{refl}
use mathlib.Core.List.{List, [], ◌∷◌}
use Prim.Native.Nat.{ℕ, suc, ◌+◌, ◌≤◌, max}
use native.Mathlib.Omega.{arith}
use lib.ListN.{length}
use lib.Dec.{leb}
use Rattle.definitions.specs.Bytes.{all}
use Rattle.definitions.specs.Instruction.{Instr, Row, no_row, row_of, instruction_table, Flow, straight, jump, returns, question, flow}
use Rattle.definitions.specs.Stack.{pops, pushes, height_after, following, tallest, height_number}
use Rattle.definitions.proofs.Truth.{at_most}
use Rattle.definitions.proofs.Every.{all_get_d}

-- each instruction pushes at most one more than it pops
pushes-few : (op : ℕ) → (row_of op).pushes ≤ suc (row_of op).pops.own
unfolding row_of instruction_table all
pushes-few op = at_most _ _ (all_get_d (λ (r : Row). leb r.pushes (suc r.pops.own)) instruction_table refl op no_row refl)

-- it leaves at most one more than it met; where it pops from too few, at most what it pushes, and that is at most two
pub pushes-two : (op : ℕ) → (row_of op).pushes ≤ 2
unfolding row_of instruction_table all
pushes-two op = at_most _ _ (all_get_d (λ (r : Row). leb r.pushes 2) instruction_table refl op no_row refl)

height_after-few : (i : Instr) (h : ℕ) → height_after i h ≤ suc (max 1 h)
unfolding height_after pops pushes
height_after-few i h = omega (arith, pushes-few i.op, pushes-two i.op)

following-few : (f : Flow) (i : Instr) (h : ℕ) → following f i h ≤ suc (max 1 h)
unfolding following
following-few straight i h = height_after-few i h
following-few jump i h = omega arith
following-few returns i h = omega arith
following-few (question b) i h = height_after-few i h

tallest-few : (h : ℕ) (is : List Instr) → tallest h is ≤ max 1 h + length is
unfolding tallest
tallest-few h [] = omega arith
tallest-few h (i ∷ is) = omega (arith, height_after-few i h, following-few (flow i.op) i h, tallest-few (following (flow i.op) i h) is)

pub number-few : (code : List Instr) → height_number code ≤ suc (length code)
unfolding height_number
number-few code = omega (arith, tallest-few 0 code)
