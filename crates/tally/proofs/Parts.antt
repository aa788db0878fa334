-- A function's code as a part of the module: its instructions are those of the module, and each one's operands fit. Assumes nothing.
use mathlib.Core.Path.{◌≡◌, sym, ap, ◌∙◌, subst}
use mathlib.Core.List.{List, [], ◌∷◌, append-nil}
use Prim.Native.Nat.{ℕ, ◌+◌, ◌-◌, ◌^◌, ◌≤◌, ◌<◌}
use native.Mathlib.Omega.{arith}
use lib.ListN.{length, take, drop, length-drop}
use Rattle.definitions.specs.Bytes.{Parsed, got, Parser, counted}
use Rattle.definitions.specs.Instruction.{Instr, first_width, second_width}
use Rattle.definitions.specs.Reader.{instruction}
use Rattle.definitions.proofs.Begins.{Rest, Takes, takes-counted, takes-instruction}
use Rattle.std.specs.Prelude.{Ok}
use Rattle.reader.specs.View.{Got, instructions_of, Inside, part_at}
use Rattle.reader.specs.declared.Part.{Part}
use Rattle.reader.proofs.Checked.{Sat, counted-length}
use Rattle.reader.proofs.Encoding.{Small, number_small, instruction-view}
use Rattle.reader.proofs.Iterated.{code-is}
use Rattle.tally.specs.Walk.{Values, values_end, code_from}

-- ---- the part

-- n instructions from `at` to `end`
abbrev pub part_from : ℕ → ℕ → ℕ → Part
part_from at end n = record { start = at; size = end - at; count = n }

-- what is read from `at` to m is read from the part between them alone
got-alone : {A : Type 0} (p : Parser A) → Takes p → (t : List ℕ) (at : ℕ) (a : A) (m : ℕ) → at ≤ length t → Got p t at a m → p (take (m - at) (drop at t)) ≡ got a []
got-alone {A} p tp t at a m h g =
    let w = subst (λ (r : Parsed A). Rest p (drop at t) r) g.is (tp.rest (drop at t)) in
    let x = ap length w.2 in let y = length-drop w.0 (drop at t) in let z = length-drop at t in let u = length-drop m t in
    let v = w.1 in let f = g.from in let e = g.to in
    let k : m - at ≡ w.0 = omega arith in
    ap p (ap (λ (j : ℕ). take j (drop at t)) k ∙ sym (append-nil (take w.0 (drop at t)))) ∙ w.3 []

module _ {t : List ℕ} {n at : ℕ} (r : Values instruction n t at) where
  -- n instructions of the module are the instructions of their part
  pub part-code : {end : ℕ} → end ≡ values_end instruction n t at → instructions_of (part_at (Ok (part_from at end n)) t) ≡ code_from n t at
  unfolding part_at
  part-code {end} e =
      ap (λ (m : ℕ). instructions_of (take (m - at) (drop at t))) e
      ∙ code-is n (take (values_end instruction n t at - at) (drop at t)) (code_from n t at)
      (got-alone (counted [] ◌∷◌ instruction n) (takes-counted [] ◌∷◌ instruction takes-instruction n) t at (code_from n t at) (values_end instruction n t at) r.here r.read)

  pub part-inside : {end : ℕ} → end ≡ values_end instruction n t at → (at ≤ end) × Inside (Ok (part_from at end n)) t
  unfolding Inside
  part-inside {end} e = let f = r.read.from in let g = r.read.to in (omega arith, omega arith)

  pub code-count : length (code_from n t at) ≡ n
  code-count = subst (λ (x : Parsed (List Instr)). Sat (λ (is : List Instr). length is ≡ n) x) r.read.is (counted-length instruction n (drop at t))

-- ---- operands

-- operands that were read
pub operands-fit : (t : List ℕ) → Small t → (at : ℕ) (i : Instr) (m : ℕ) → at ≤ length t → Got instruction t at i m → (i.a < 256 ^ first_width i.op) × (i.b < 256 ^ second_width i.op)
operands-fit t small at i m h g =
    let v = instruction-view t at i m h g in
    let x = v.2 in
    let y = v.3 in
    (omega (arith, number_small t small (first_width i.op) (at + 1)), omega (arith, number_small t small (second_width i.op) (at + 1 + first_width i.op)))
