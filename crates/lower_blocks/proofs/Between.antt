-- Steps of an emitter: how long its stack is, a jump that is set, and what is over the limits after a step.
use Prim.Native.Nat.{ℕ, ◌≤◌, ◌<◌}
use mathlib.Core.Path.{◌≡◌, refl, sym, subst, ◌∙◌}
use mathlib.Core.List.{List}
use native.Mathlib.Omega.{arith}
use lib.ListN.{length}
use Rattle.std.specs.Prelude.{Option, Some, None}
use Rattle.std.proofs.lemmas.Option.{none-some}
use Rattle.definitions.specs.Instruction.{instr}
use Rattle.definitions.specs.Tables.{Emit}
use Rattle.state.specs.Words.{word}
use Rattle.state.specs.State.{State, emit_at, WithinLimits, Sound}
use Rattle.state.specs.Steps.{set_at}
use Rattle.state.specs.declared.Limits.{Limits}
use Rattle.state.proofs.Views.{stack-length}
use Rattle.state.proofs.Answers.{base-below, left-none, left_as}
use Rattle.lower_emit.specs.declared.emitter.Code.{Code}
use Rattle.lower_emit.specs.declared.emitter.Emitter.{Emitter}
use Rattle.lower_emit.specs.Emitting.{counts_of, limits_in, state_in, SoundIn, beside, SameAreas, LeftIn, Reaches, NextIs, EmitsTo, SetsJump}
use Rattle.lower_emit.proofs.Answering.{open_after}
use Rattle.lower_emit.proofs.Patching.{jump-set}
use Rattle.lower_emit.proofs.Steps.{words-left, limits-code, areas-after, areas-code}

module _ {t : List ℕ} {a : Emitter} (S : SoundIn t a) where
  pub stack-long : length (state_in t a).stack ≡ a.code.open
  stack-long = stack-length t a.tables.names.made.now a.code.words.now a.tables.entries.words.now (counts_of a) (limits_in a) S.sound

  pub stack-low : a.code.base ≤ length (state_in t a).stack
  stack-low = base-below t a.tables.names.made.now a.code.words.now a.tables.entries.words.now (counts_of a) (limits_in a) S.sound

  pub left-itself : LeftIn t a a (state_in t a)
  left-itself = record { left = left-none t S.sound }

module _ {t : List ℕ} {a b : Emitter} {want : State} (h : LeftIn t a b want) where
  pub open-left : b.code.open ≡ length want.stack
  open-left = open_after t b.tables.names.made.now b.code.words.now b.tables.entries.words.now (counts_of a) (counts_of b) (limits_in a) want h.left

  -- in a state of its own
  pub left-own : LeftIn t a b (state_in t b)
  left-own = record { left = record { state = refl; base = h.left.base; paced = h.left.paced; sound = h.left.sound } }

  pub left-by : {w : State} → want ≡ w → LeftIn t a b w
  left-by e = record { left = left_as e h.left }

  pub left-sound : limits_in b ≡ limits_in a → SoundIn t b
  left-sound e = record { sound = subst (λ (l : Limits). Sound t b.tables.names.made.now b.code.words.now b.tables.entries.words.now (counts_of b) l) (sym e) h.left.sound }

-- an answer, and what is left
pub reached_by : {A : Type 0} {t : List ℕ} {a b : Emitter} {w : State} (x : A) → limits_in b ≡ limits_in a → SameAreas a b → LeftIn t a b w → Reaches (Some x) t a b w
reached_by x e k h = record { done = λ y q. h; full = λ q. absurd (none-some x (sym q)); limits = e; areas = k }

-- the jump at place j is set
pub jump-in : {t : List ℕ} {a : Emitter} {code : Code} {d : ℕ} (j : ℕ) → SoundIn t a → j < a.code.open → d < 32768 → SetsJump j 28 d a.code code
    → LeftIn t a (beside code a.tables) (set_at j (instr 28 d 0) (state_in t a))
jump-in {t} {a} {code} {d} j S h k e = record {
  left = words-left a.tables e.kept e.size e.words (jump-set t a.tables.names.made.now a.code.words.now a.tables.entries.words.now j 28 d (word 28 d 0) (counts_of a) (limits_in a) S.sound h (omega arith) (omega arith) k refl);
}

pub jump-limits : (a : Emitter) {code : Code} {j op d : ℕ} → SetsJump j op d a.code code → limits_in (beside code a.tables) ≡ limits_in a
jump-limits a e = limits-code a.tables e.kept

pub jump-areas : (a : Emitter) {code : Code} {j op d : ℕ} → SetsJump j op d a.code code → SameAreas a (beside code a.tables)
jump-areas a e = areas-code a.tables e.kept

-- ---- over the limits after a step

pub next-none : {q : Option ℕ} {next : ℕ} → q ≡ None → NextIs q next
next-none n = λ k p. absurd (none-some k (sym n ∙ p))

module _ {A : Type 0} {r : Option A} {t : List ℕ} {a b c : Emitter} {w' : State} (e : limits_in b ≡ limits_in a) (k : SameAreas a b) (z : r ≡ None) where
  pub reaches-full : {B : Type 0} {q : Option B} {w : State} → q ≡ None → Reaches r t b c w' → (WithinLimits (limits_in a) w → WithinLimits (limits_in a) w') → Reaches q t a c w
  reaches-full n h f = record {
    done = λ x p. absurd (none-some x (sym n ∙ p));
    full = λ p v. h.full z (subst (λ (l : Limits). WithinLimits l w') (sym e) (f v));
    limits = h.limits ∙ e;
    areas = areas-after k h.areas;
  }

  pub emits-full : {q : Option ℕ} {x : Emit} {next : ℕ} → q ≡ None → Reaches r t b c w' → (WithinLimits (limits_in a) (emit_at a.code.base x (state_in t a)) → WithinLimits (limits_in a) w') → EmitsTo q x next t a c
  emits-full n h f = record { place = next-none n; lowers = record { reaches = reaches-full n h f } }
