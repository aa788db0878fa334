-- What a step's answer says once it is matched on, and the answers of steps one after another.
use Prim.Native.Nat.{ℕ, ◌≤◌}
use mathlib.Core.Path.{◌≡◌, refl, ◌∙◌}
use mathlib.Core.List.{List}
use native.Mathlib.Omega.{arith}
use lib.ListN.{length}
use Rattle.state.specs.State.{State, state_of, WithinLimits, Sound, Paced, StepReady, Left, Emits, NumberGiven}
use Rattle.state.specs.declared.Counts.{Counts}
use Rattle.state.specs.declared.Limits.{Limits}
use Rattle.state.specs.Answered.{PartEmitted, Done, Full, Numbered, At, Over}
use Rattle.state.proofs.Views.{stack-length}

-- ---- one answer

module _ (tree made code tables : List ℕ) (c : Counts) (l : Limits) (next : ℕ) (want : State) where
  pub emits-done : (r : PartEmitted) (n : ℕ) (k : Counts) → r ≡ Done n k → Emits r tree made code tables c l next want → (n ≡ next) × Left k tree made code tables c l want
  unfolding Emits
  emits-done r n k e h = rw e at h

  pub emits-full : (r : PartEmitted) → r ≡ Full → Emits r tree made code tables c l next want → WithinLimits l want → ⊥
  unfolding Emits
  emits-full r e h = rw e at h

  pub done-emits : (n : ℕ) (k : Counts) → n ≡ next → Left k tree made code tables c l want → Emits (Done n k) tree made code tables c l next want
  unfolding Emits
  done-emits n k e h = (e, h)

  pub full-emits : (WithinLimits l want → ⊥) → Emits Full tree made code tables c l next want
  unfolding Emits
  full-emits h = h

  pub numbers-at : (r : Numbered) (i : ℕ) (k : Counts) → r ≡ At i k → NumberGiven r tree made code tables c l next want → (i ≡ next) × Left k tree made code tables c l want
  unfolding NumberGiven
  numbers-at r i k e h = rw e at h

  pub numbers-over : (r : Numbered) → r ≡ Over → NumberGiven r tree made code tables c l next want → WithinLimits l want → ⊥
  unfolding NumberGiven
  numbers-over r e h = rw e at h

  pub at-numbers : (i : ℕ) (k : Counts) → i ≡ next → Left k tree made code tables c l want → NumberGiven (At i k) tree made code tables c l next want
  unfolding NumberGiven
  at-numbers i k e h = (e, h)

  pub over-numbers : (WithinLimits l want → ⊥) → NumberGiven Over tree made code tables c l next want
  unfolding NumberGiven
  over-numbers h = h

-- the same answer, for an equal next position and state
pub emits-as : (r : PartEmitted) (tree made code tables : List ℕ) (c : Counts) (l : Limits) (next next' : ℕ) (want want' : State) → next ≡ next' → want ≡ want'
    → Emits r tree made code tables c l next want → Emits r tree made code tables c l next' want'
emits-as r tree made code tables c l next next' want want' p q h = rw (← p, ← q) h

-- ---- one answer after another

pub paced-none : (c : Counts) → Paced c c
paced-none c = record { methods = omega arith; constants = omega arith }

pub paced-more : {c k m : Counts} → Paced c k → Paced k m → Paced c m
paced-more A B = record { methods = omega arith; constants = omega arith }

-- k is left by a first step from c, m by a second one from k
pub left-after : {c k m : Counts} {l : Limits} {want₁ want : State} {tree made₁ code₁ tables₁ made code tables : List ℕ}
    → Left k tree made₁ code₁ tables₁ c l want₁ → Left m tree made code tables k l want → Left m tree made code tables c l want
left-after A B = record { state = B.state; base = B.base ∙ A.base; paced = paced-more A.paced B.paced; sound = B.sound }

pub emits-after : {c k : Counts} {l : Limits} {want₁ : State} {tree made₁ code₁ tables₁ : List ℕ} (r : PartEmitted) (made code tables : List ℕ) (next : ℕ) (want : State)
    → Left k tree made₁ code₁ tables₁ c l want₁ → Emits r tree made code tables k l next want → Emits r tree made code tables c l next want
unfolding Emits
emits-after (Done n m) made code tables next want A h = (h.0, left-after A h.1)
emits-after Full made code tables next want A h = h

-- nothing done
pub left-none : {c : Counts} {l : Limits} {made code tables : List ℕ} (tree : List ℕ) → Sound tree made code tables c l → Left c tree made code tables c l (state_of tree made code tables c)
left-none {c} tree s = record { state = refl; base = refl; paced = paced-none c; sound = s }

-- the wanted state by an equation
pub left_as : {k c : Counts} {l : Limits} {tree made code tables : List ℕ} {want want' : State} → want ≡ want' → Left k tree made code tables c l want → Left k tree made code tables c l want'
left_as e A = record { state = A.state ∙ e; base = A.base; paced = A.paced; sound = A.sound }

-- ready for the next step
pub ready-again : {k c : Counts} {l : Limits} {tree slots made₀ code₀ tables₀ made code tables : List ℕ} {want : State}
    → StepReady tree slots made₀ code₀ tables₀ c l → Left k tree made code tables c l want → StepReady tree slots made code tables k l
ready-again R A = record { tree-short = R.tree-short; slotted = R.slotted; sound = A.sound }

-- the innermost function begins within the stack
pub base-below : (tree made code tables : List ℕ) (c : Counts) (l : Limits) → Sound tree made code tables c l → c.base ≤ length (state_of tree made code tables c).stack
base-below tree made code tables c l s = omega (arith, s.base, stack-length tree made code tables c l s)
