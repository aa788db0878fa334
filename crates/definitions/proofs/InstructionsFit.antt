-- The instructions of a block that is accepted fit the module's layout: each operand its bytes, and no break or continue is pending.
use mathlib.Core.Path.{◌≡◌, refl}
use mathlib.Core.Bool.{Bool, true, false, ◌||◌}
use mathlib.Core.List.{List, ◌∷◌, []}
use Prim.Native.Nat.{ℕ, ◌^◌, ◌≤◌, ◌<◌}
use native.Mathlib.Nat.{pow-le-pow_right}
use native.Mathlib.Omega.{arith}
use lib.Arith.{le_of_le-suc-ne}
use lib.ListN.{length}
use lib.Dec.{T, eqb, eqb→eq, leb}
use Rattle.definitions.specs.Bytes.{all}
use Rattle.definitions.specs.Builtins.{Builtin, registry}
use Rattle.definitions.specs.Instruction.{Instr, Numbers, nothing, a_string, a_constant, a_slot, a_symbol, a_function, a_builtin}
use Rattle.definitions.specs.Instruction.{Row, no_row, instruction_table, is_instruction, first_width, numbers_of, encode}
use Rattle.definitions.specs.Tables.{Tables}
use Rattle.definitions.specs.Module.{office}
use Rattle.definitions.specs.Reader.{is_builtin, instruction}
use Rattle.definitions.specs.Open.{all_instruction}
use Rattle.definitions.proofs.Truth.{left, right, not_equal, at_most}
use Rattle.definitions.proofs.Rows.{is-instruction}
use Rattle.definitions.proofs.Shape.{Quiet, Settled, more}
use Rattle.definitions.proofs.Every.{Every, no_every, every, all_get_d}
use Rattle.definitions.proofs.Accepted.{Within}
use Rattle.definitions.proofs.Readback.{Back, no_back, back, InstrFits, reads-instr}
use Rattle.definitions.proofs.Bounds.{Operand, Sound}

-- bytes that suffice for a number of what is numbered
need : Numbers → ℕ
need nothing = 0
need a_string = 2
need a_constant = 2
need a_slot = 2
need a_symbol = 2
need a_function = 2
need a_builtin = 1

-- every operand that numbers something is wide enough
wide_enough : (op : ℕ) → need (numbers_of op) ≤ first_width op
unfolding all_instruction all need
wide_enough op = at_most _ _ (all_get_d (λ (r : Row). leb (need r.numbers) r.first) instruction_table refl op no_row refl)

-- every built-in's id is below 256
builtin-below : (bs : List Builtin) (n : ℕ) → all (λ (b : Builtin). leb b.id 255) bs ≡ true → T (is_builtin bs n) → n ≤ 255
unfolding is_builtin all
builtin-below [] n e h = absurd h
builtin-below (b ∷ bs) n e h = go (eqb b.id n) (eqb→eq b.id n) (builtin-below bs n (right (leb b.id 255) _ e)) h
  where
    go : (c : Bool) → (T c → b.id ≡ n) → (T (is_builtin bs n) → n ≤ 255) → T (c || is_builtin bs n) → n ≤ 255
    go true q r h = let z = q tt in omega (arith, at_most b.id 255 (left (leb b.id 255) _ e))
    go false q r h = r h

builtin-fits : (n : ℕ) → T (is_builtin registry n) → n ≤ 255
unfolding registry all
builtin-fits n = builtin-below registry n refl

-- an instruction that is no pending break or continue is one of the table
real-op : (op : ℕ) → leb op 47 ≡ true → eqb op 46 ≡ false → eqb op 47 ≡ false → is_instruction op ≡ true
real-op op e b c =
    let z : op ≤ 45 = le_of_le-suc-ne (le_of_le-suc-ne (at_most op 47 e) (not_equal op 47 c)) (not_equal op 46 b) in
    is-instruction op (omega arith)

module _ (t : Tables) (L : Within office t) (cs : length t.constants ≤ length t.classes) where
  in_field : (c : Numbers) (n a w : ℕ) → n ≤ 255 → need c ≤ w → Operand c t n w a → a < 256 ^ w
  unfolding need office
  in_field nothing n a w s h b = b
  in_field a_string n a w s h b = omega (arith, pow-le-pow_right {n = 256} (omega arith) h)
  in_field a_constant n a w s h b = omega (arith, pow-le-pow_right {n = 256} (omega arith) h)
  in_field a_slot n a w s h b = omega (arith, pow-le-pow_right {n = 256} (omega arith) h)
  in_field a_symbol n a w s h b = omega (arith, pow-le-pow_right {n = 256} (omega arith) h)
  in_field a_function n a w s h b = omega (arith, pow-le-pow_right {n = 256} (omega arith) h)
  in_field a_builtin n a w s h b = omega (arith, builtin-fits a b, pow-le-pow_right {n = 256} (omega arith) h)

  instr-fits : {n : ℕ} (i : Instr) → n ≤ 255 → Sound t n i → Quiet i → InstrFits i
  instr-fits {n} i s k q = record {
    op = real-op i.op k.op q.no_break q.no_continue;
    a = in_field (numbers_of i.op) n i.a (first_width i.op) s (wide_enough i.op) k.first;
    b = k.second;
  }

  pub back-code : {n : ℕ} {is : List Instr} → n ≤ 255 → Every (Sound t n) is → Settled is → Back instruction encode is
  back-code s no_every q = no_back
  back-code s (every {a = i} k ks) (more q qs) = back (reads-instr i (instr-fits i s k q)) (back-code s ks qs)
