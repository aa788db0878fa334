-- Parts of the tree one after the other: what is emitted, and where the last one ends.
use Prim.Native.Nat.{ℕ}
use mathlib.Core.Path.{◌≡◌, sym, ap, subst, ◌∙◌}
use mathlib.Core.List.{List}
use Rattle.std.specs.Prelude.{Option, Some, None}
use Rattle.std.proofs.lemmas.Option.{none-some}
use Rattle.definitions.specs.Tables.{Emit, ◌⨟◌}
use Rattle.state.specs.State.{emit_at}
use Rattle.definitions.proofs.Growth.{Lengthens}
use Rattle.lower_emit.specs.declared.emitter.Emitter.{Emitter}
use Rattle.lower_emit.specs.Emitting.{state_in, SoundIn, LowersIn, EmitsTo}
use Rattle.lower_emit.proofs.Steps.{lowers-some, lowers-none, lowers_then, lowers-stopped, lowers-by, lowers-state, some-is}

module _ {tree : List ℕ} {a b : Emitter} {e : Emit} where
  -- a part after a part, which begins where the first one ends
  pub emits_then : {r r₂ : Option ℕ} {n m : ℕ} {c : Emitter} (f : ℕ → Emit) (g : ℕ → ℕ) → r ≡ Some n → SoundIn tree a → EmitsTo r e m tree a b → EmitsTo r₂ (f n) (g n) tree b c → EmitsTo r₂ (e ⨟ f m) (g m) tree a c
  emits_then {r₂ = r₂} {n = n} {c = c} f g z S h x =
      let p = h.place n z in
      record { place = λ k q. x.place k q ∙ ap g p; lowers = lowers_then z S h.lowers (subst (λ (i : ℕ). LowersIn r₂ (f i) tree b c) p x.lowers) }

  -- a part is over the limits, and so are those after it
  pub emits-stopped : {r q : Option ℕ} {f : Emit} {m next : ℕ} → r ≡ None → q ≡ None → SoundIn tree a → Lengthens f → EmitsTo r e m tree a b → EmitsTo q (e ⨟ f) next tree a b
  emits-stopped z y S l h = record { place = λ k p. absurd (none-some k (sym y ∙ p)); lowers = lowers-stopped z y S l h.lowers }

  -- words after a part, whose end is answered
  pub emits-words : {A : Type 0} {r : Option ℕ} {u : Option A} {n m : ℕ} {y : A} {c : Emitter} {f : Emit} → r ≡ Some n → u ≡ Some y → SoundIn tree a → EmitsTo r e m tree a b → LowersIn u f tree b c → EmitsTo (Some n) (e ⨟ f) m tree a c
  emits-words {n = n} z y S h x = record { place = λ k q. sym (some-is q) ∙ h.place n z; lowers = lowers-some y (lowers_then z S h.lowers x) }

  pub emits-no-words : {A : Type 0} {r q : Option ℕ} {u : Option A} {n m next : ℕ} {c : Emitter} {f : Emit}
      → r ≡ Some n → u ≡ None → q ≡ None → SoundIn tree a → EmitsTo r e m tree a b → LowersIn u f tree b c → EmitsTo q (e ⨟ f) next tree a c
  emits-no-words z y w S h x = record { place = λ k p. absurd (none-some k (sym w ∙ p)); lowers = lowers-none y w (lowers_then z S h.lowers x) }

  -- a part after words
  pub words_then : {A : Type 0} {u : Option A} {r : Option ℕ} {y : A} {next : ℕ} {c : Emitter} {f : Emit} → u ≡ Some y → SoundIn tree a → LowersIn u e tree a b → EmitsTo r f next tree b c → EmitsTo r (e ⨟ f) next tree a c
  words_then y S h x = record { place = x.place; lowers = lowers_then y S h x.lowers }

  pub words-stopped : {A : Type 0} {u : Option A} {q : Option ℕ} {f : Emit} {next : ℕ} → u ≡ None → q ≡ None → SoundIn tree a → Lengthens f → LowersIn u e tree a b → EmitsTo q (e ⨟ f) next tree a b
  words-stopped z y S l h = record { place = λ k p. absurd (none-some k (sym y ∙ p)); lowers = lowers-stopped z y S l h }

  -- words alone, and a position that is answered
  pub words-end : {A : Type 0} {u : Option A} {y : A} {n next : ℕ} → u ≡ Some y → n ≡ next → LowersIn u e tree a b → EmitsTo (Some n) e next tree a b
  words-end z p h = record { place = λ k q. sym (some-is q) ∙ p; lowers = lowers-some z h }

  pub words-none : {A : Type 0} {u : Option A} {q : Option ℕ} {next : ℕ} → u ≡ None → q ≡ None → LowersIn u e tree a b → EmitsTo q e next tree a b
  words-none z y h = record { place = λ k p. absurd (none-some k (sym y ∙ p)); lowers = lowers-none z y h }

-- by other words
module _ {r : Option ℕ} {tree : List ℕ} {a b : Emitter} {e e' : Emit} {next next' : ℕ} where
  pub emits-by : EmitsTo r e next tree a b → e' ≡ e → next ≡ next' → EmitsTo r e' next' tree a b
  emits-by h p q = record { place = λ k z. h.place k z ∙ q; lowers = lowers-by h.lowers p }

  pub emits-state : EmitsTo r e next tree a b → emit_at a.code.base e' (state_in tree a) ≡ emit_at a.code.base e (state_in tree a) → next ≡ next' → EmitsTo r e' next' tree a b
  emits-state h p q = record { place = λ k z. h.place k z ∙ q; lowers = lowers-state h.lowers p }
