-- Jumps that are set beside jumps from measured lengths.
use Prim.Native.Nat.{ℕ}
use mathlib.Core.Path.{◌≡◌, sym, ap, subst, ◌∙◌}
use mathlib.Core.List.{List}
use Rattle.std.specs.Prelude.{Result}
use Rattle.questions.specs.declared.Question.{Question}
use Rattle.definitions.specs.Module.{Limits}
use Rattle.definitions.specs.Calls.{Lowering, lower_call}
use Rattle.definitions.proofs.Measured.{measured_agrees}
use Rattle.lowering.specs.Lowered.{Lowers}
use Rattle.follows.specs.Ways.{LowersBothWays}

module _ (r s : Result ℕ Question) (l : Limits) (tree area₁ area₂ out other₁ other₂ other area₁' area₂' out' other₁' other₂' other' : List ℕ)
    (L : Lowers r area₁' area₂' out' (lower_call l tree area₁ area₂ out)) (M : Lowers s other₁' other₂' other' (lower_call l tree other₁ other₂ other)) where
  pub both_ways : LowersBothWays (record { patched = r; measured = s }) area₁' area₂' out' other₁' other₂' other' l tree area₁ area₂ out other₁ other₂ other
  both_ways = record {
    patched = L;
    measured = subst (λ (w : Lowering). Lowers s other₁' other₂' other' w) (sym (measured_agrees l tree other₁ other₂ other)) M;
    agrees = λ e f g.
        let same : lower_call l tree other₁ other₂ other ≡ lower_call l tree area₁ area₂ out = λ i. lower_call l tree (e i) (f i) (g i) in
        record {
          answer = M.answer ∙ ap (λ (w : Lowering). w.answer) same ∙ sym L.answer;
          first = M.first ∙ ap (λ (w : Lowering). w.area₁) same ∙ sym L.first;
          second = M.second ∙ ap (λ (w : Lowering). w.area₂) same ∙ sym L.second;
          output = M.output ∙ ap (λ (w : Lowering). w.output) same ∙ sym L.output;
        };
  }
