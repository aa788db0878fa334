-- A word after a part, an expression after a part, and parts at positions by other words.
use Prim.Native.Nat.{ℕ}
use mathlib.Core.Path.{◌≡◌, refl, sym, subst, ◌∙◌}
use mathlib.Core.List.{List, []}
use Rattle.std.specs.Prelude.{Option, Some, None}
use Rattle.definitions.specs.Instruction.{Instr}
use Rattle.definitions.specs.Tables.{Emit, emits, one, ◌⨟◌}
use Rattle.definitions.specs.Bytes.{Name}
use Rattle.tree_view.specs.ExprAt.{expr_at}
use Rattle.state.specs.Words.{instr_of}
use Rattle.lower_forms.specs.Lowerable.{SoleIn, expr_code}
use Rattle.lower_forms.proofs.Sole.{sole-at}
use Rattle.lower_emit.specs.declared.emitter.Code.{Code}
use Rattle.lower_emit.specs.declared.emitter.Emitter.{Emitter}
use Rattle.lower_emit.specs.Emitting.{SoundIn, beside, EmitsTo, Puts}
use Rattle.lower_emit.proofs.Steps.{put-lifts, sound-next, lowers-nothing, some-is}
use Rattle.lower_emit.proofs.Parts.{emits_then, emits-words, emits-no-words}

pub sound-after : {r : Option ℕ} {n m : ℕ} {t : List ℕ} {a b : Emitter} {e : Emit} → r ≡ Some n → EmitsTo r e m t a b → SoundIn t b
sound-after z h = sound-next z h.lowers.reaches

pub sole-after : {r : Option ℕ} {n m : ℕ} {t : List ℕ} {a b : Emitter} {e : Emit} → SoleIn t a → r ≡ Some n → EmitsTo r e m t a b → SoleIn t b
sole-after R z h = sole-at R (sound-after z h)

module _ {A : Type 0} {r : Option ℕ} {u : Option A} {n m w : ℕ} {t : List ℕ} {a b : Emitter} {e : Emit} {i : Instr} {c : Code}
    (z : r ≡ Some n) (S : SoundIn t a) (h : EmitsTo r e m t a b) (is : instr_of t w ≡ i) (g : Puts u w b.code c) where
  pub word-ends : {y : A} → u ≡ Some y → EmitsTo (Some n) (e ⨟ one i) m t a (beside c b.tables)
  word-ends y = emits-words z y S h (put-lifts (sound-after z h) refl is g)

  pub word-over : {q : Option ℕ} {next : ℕ} → u ≡ None → q ≡ None → EmitsTo q (e ⨟ one i) next t a (beside c b.tables)
  word-over y v = emits-no-words z y v S h (put-lifts (sound-after z h) refl is g)

pub emits_at : {r : Option ℕ} {t : List ℕ} {a b : Emitter} {p q : ℕ} (f : ℕ → Emit) (g : ℕ → ℕ) → p ≡ q → EmitsTo r (f p) (g p) t a b → EmitsTo r (f q) (g q) t a b
emits_at {r = r} {t = t} {a = a} {b = b} f g e h = subst (λ x. EmitsTo r (f x) (g x) t a b) e h

-- an expression and f after a part
pub expr_then : {r q : Option ℕ} {n m : ℕ} {t : List ℕ} {a b c : Emitter} {e : Emit} (d : ℕ) (names : List Name) (f : Emit) → r ≡ Some n → SoundIn t a → EmitsTo r e m t a b
    → EmitsTo q (expr_code d t names n ⨟ f) (expr_at d t n).end t b c → EmitsTo q (e ⨟ expr_code d t names m ⨟ f) (expr_at d t m).end t a c
expr_then {t = t} d names f z S h g = emits_then (λ x. expr_code d t names x ⨟ f) (λ x. (expr_at d t x).end) z S h g

-- nothing to emit
pub nothing-emits : {n next : ℕ} {t : List ℕ} {a : Emitter} → SoundIn t a → n ≡ next → EmitsTo (Some n) (emits []) next t a a
nothing-emits S e = record { place = λ k q. sym (some-is q) ∙ e; lowers = lowers-nothing S }
