-- The copy before an element, by the laws of the state.
use Prim.Native.Nat.{ℕ}
use mathlib.Core.Path.{◌≡◌, sym, ap, ◌∙◌}
use Rattle.std.specs.Prelude.{Option}
use Rattle.definitions.specs.Instruction.{Dup}
use Rattle.definitions.specs.Tables.{Emit, one, ◌⨟◌}
use Rattle.definitions.specs.Lower.{copy}
use Rattle.state.specs.State.{emit_at}
use Rattle.state.proofs.Answers.{base-below}
use Rattle.state.proofs.Emission.{at-seq}
use Rattle.lower_forms.proofs.Unpacking.{copy-none, copy-one}
use Rattle.lower_emit.specs.declared.emitter.Code.{Code}
use Rattle.lower_emit.specs.Emitting.{counts_of, limits_in, state_in, beside, Writes}
use Rattle.lower_emit.proofs.Steps.{lowers-state}

module _ {A : Type 0} {r : Option A} {a b : Code} (i : ℕ) (f : Emit) where
  pub uncopied : i ≡ 0 → Writes r f a b → Writes r (copy i ⨟ f) a b
  uncopied z h = record {
    lowers = λ t ts S.
        let s = state_in t (beside a ts) in
        let g = base-below t ts.names.made.now a.words.now ts.entries.words.now (counts_of (beside a ts)) (limits_in (beside a ts)) S.sound in
        lowers-state (h.lowers t ts S) (at-seq a.base (copy i) f s g ∙ ap (emit_at a.base f) (copy-none i a.base s z));
    kept = h.kept;
  }

  pub copied : (i ≡ 0 → ⊥) → Writes r (one Dup ⨟ f) a b → Writes r (copy i ⨟ f) a b
  copied n h = record {
    lowers = λ t ts S.
        let s = state_in t (beside a ts) in
        let g = base-below t ts.names.made.now a.words.now ts.entries.words.now (counts_of (beside a ts)) (limits_in (beside a ts)) S.sound in
        lowers-state (h.lowers t ts S) (at-seq a.base (copy i) f s g ∙ ap (emit_at a.base f) (sym (copy-one i a.base s n)) ∙ sym (at-seq a.base (one Dup) f s g));
    kept = h.kept;
  }
