-- Jumps to the start and to the end of a loop, by the places of its words.
use Prim.Native.Nat.{ℕ, suc, ◌+◌, ◌-◌, ◌≤◌}
use mathlib.Core.Path.{◌≡◌, refl, ap, ◌∙◌}
use native.Mathlib.Omega.{arith}
use lib.ListN.{length}
use Rattle.std.specs.Prelude.{Option}
use Rattle.definitions.specs.Instruction.{Jump, minus}
use Rattle.definitions.specs.Tables.{one}
use Rattle.definitions.specs.Measured.{ahead, back}
use Rattle.state.specs.Words.{word}
use Rattle.state.specs.State.{emit_at}
use Rattle.state.proofs.Emission.{at_here}
use Rattle.lower_emit.specs.declared.emitter.Code.{Code}
use Rattle.lower_emit.specs.Emitting.{state_in, beside, Puts, Writes}
use Rattle.lower_emit.proofs.Packing.{instr-jump, instr-back}
use Rattle.lower_emit.proofs.Steps.{put-lifts, lowers-state}
use Rattle.lower_blocks.proofs.Between.{stack-long}

module _ {A : Type 0} {r : Option A} {a b : Code} (target m : ℕ) (is : m + a.base ≡ a.open) where
  pub ahead-put : {n : ℕ} → n ≡ target - (m + 1) → target ≤ 32767 → Puts r (word 28 n 0) a b → Writes r (ahead target) a b
  unfolding ahead
  ahead-put {n} e few h = record {
    lowers = λ t ts S.
        let s = state_in t (beside a ts) in
        let q : target - suc (length s.stack - a.base) ≡ n = omega (arith, is, e, stack-long S) in
        lowers-state (put-lifts S refl (instr-jump t 28 n (omega arith) (omega arith) (omega (arith, e))) h)
        (at_here a.base (λ p. one (Jump (target - suc p))) s ∙ ap (λ (k : ℕ). emit_at a.base (one (Jump k)) s) q);
    kept = h.kept;
  }

  pub back-put : {n : ℕ} → n ≡ (m + 1) - target → target ≤ m → a.open ≤ 8192 → Puts r (word 28 (65536 - n) 0) a b → Writes r (back target) a b
  unfolding back
  back-put {n} e low few h = record {
    lowers = λ t ts S.
        let s = state_in t (beside a ts) in
        let q : suc (length s.stack - a.base) - target ≡ n = omega (arith, is, e, stack-long S) in
        lowers-state (put-lifts S refl (instr-back t n (omega (arith, e)) (omega (arith, e, is))) h)
        (at_here a.base (λ p. one (Jump (minus (suc p - target)))) s ∙ ap (λ (k : ℕ). emit_at a.base (one (Jump (minus k))) s) q);
    kept = h.kept;
  }
