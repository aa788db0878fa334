-- The end of a function, by the laws of the state.
use mathlib.Core.Path.{◌≡◌, sym, ◌∙◌}
use mathlib.Core.Bool.{Bool, true, false}
use Rattle.std.specs.Prelude.{Option}
use Rattle.definitions.specs.Instruction.{instr}
use Rattle.definitions.specs.Tables.{one, emits, ◌⨟◌}
use Rattle.state.proofs.Answers.{base-below}
use Rattle.state.proofs.Emission.{at-seq}
use Rattle.lower_forms.specs.Lowering.{end_of}
use Rattle.lower_forms.proofs.Sequences.{end-plain, end-init}
use Rattle.lower_emit.specs.declared.emitter.Code.{Code}
use Rattle.lower_emit.specs.Emitting.{counts_of, limits_in, state_in, beside, Writes}
use Rattle.lower_emit.proofs.Steps.{lowers-by, lowers-state}

module _ {A : Type 0} {r : Option A} {a b : Code} (init : Bool) where
  pub end-bare : init ≡ false → Writes r (one (instr 33 0 0)) a b → Writes r (emits (end_of init)) a b
  end-bare e h = record { lowers = λ t ts S. lowers-by (h.lowers t ts S) (sym (end-plain init e)); kept = h.kept }

  pub end-object : init ≡ true → Writes r (one (instr 9 0 0) ⨟ one (instr 33 0 0)) a b → Writes r (emits (end_of init)) a b
  end-object e h = record {
    lowers = λ t ts S.
        let m = beside a ts in
        let s = state_in t m in
        lowers-state (h.lowers t ts S)
        (sym (end-init init a.base s e) ∙ sym (at-seq a.base (one (instr 9 0 0)) (one (instr 33 0 0)) s (base-below t ts.names.made.now a.words.now ts.entries.words.now (counts_of m) (limits_in m) S.sound)));
    kept = h.kept;
  }
