-- A jump over a part that is measured, before the part is written.
use Prim.Native.Nat.{ℕ, ◌+◌, ◌-◌, ◌≤◌, ◌<◌}
use mathlib.Core.Path.{◌≡◌, refl, sym, ◌∙◌}
use mathlib.Core.List.{List}
use native.Mathlib.Omega.{arith}
use lib.ListN.{length}
use Rattle.std.specs.Prelude.{Option, Some, None}
use Rattle.std.proofs.lemmas.Option.{none-some}
use Rattle.definitions.specs.Instruction.{instr}
use Rattle.definitions.specs.Tables.{Emit, one}
use Rattle.definitions.specs.Module.{instructions}
use Rattle.state.specs.State.{State, emit_at, WithinLimits}
use Rattle.state.specs.declared.Limits.{Limits}
use Rattle.state.proofs.Emission.{stack-after}
use Rattle.definitions.proofs.Growth.{Lengthens, instructions-longer}
use Rattle.state.proofs.Views.{stack-length, instruction-count}
use Rattle.lower_emit.specs.declared.emitter.Code.{Code}
use Rattle.lower_emit.specs.declared.emitter.Emitter.{Emitter}
use Rattle.lower_emit.specs.Emitting.{counts_of, limits_in, state_in, SoundIn, beside, LowersIn, EmitsTo, PutsOver}
use Rattle.lower_emit.proofs.Packing.{instr-jump}
use Rattle.lower_emit.proofs.Steps.{limits-code, areas-code, put-lifts}

-- within the limits are the words of a part and those before it
part-within : {l : Limits} {e : Emit} (base : ℕ) (s : State) → Lengthens e → WithinLimits l (emit_at base e s)
    → length s.stack + length (e (length s.stack - base) s.tables).code + instructions s.tables.functions ≤ l.instructions
unfolding emit_at
part-within {e = e} base s E w = omega (arith, w.instructions, stack-after base e s, instructions-longer (E.at (length s.stack - base) s.tables))

-- the code of a part where it is about to be written
abbrev pub code_in : List ℕ → Emitter → Emit → ℕ
code_in t a e = length (e (length (state_in t a).stack - a.code.base) (state_in t a).tables).code

module _ {A : Type 0} {u : Option A} {t : List ℕ} {a : Emitter} {c : Code} {op n : ℕ} (S : SoundIn t a) (g : PutsOver u op n a.code c) where
  -- the jump
  pub over-put : {x : A} → 29 ≤ op → op ≤ 30 → u ≡ Some x → LowersIn u (one (instr op (n + 1) 0)) t a (beside c a.tables)
  over-put {x} lo hi z =
      let few = g.few x z in
      put-lifts S refl (instr-jump t op (n + 1) (omega arith) hi (omega (arith, a.code.code_limit))) (g.puts x z)

  -- no room for the part
  pub over-none : {q : Option ℕ} {next : ℕ} {e : Emit} → Lengthens e → n < code_in t a e → u ≡ None → q ≡ None → EmitsTo q e next t a (beside c a.tables)
  over-none {q} {next} {e} E long z y = record {
    place = λ k p. absurd (none-some k (sym y ∙ p));
    lowers = record {
      reaches = record {
        done = λ k p. absurd (none-some k (sym y ∙ p));
        full = λ p w.
            let i = stack-length t a.tables.names.made.now a.code.words.now a.tables.entries.words.now (counts_of a) (limits_in a) S.sound in
            let d = instruction-count t a.tables.names.made.now a.code.words.now a.tables.entries.words.now (counts_of a) (limits_in a) S.sound in
            omega (arith, g.full z, part-within a.code.base (state_in t a) E w);
        limits = limits-code a.tables g.kept;
        areas = areas-code a.tables g.kept;
      };
    };
  }
