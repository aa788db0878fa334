-- In the middle of a part: what is left of it leads to the wanted state.
use Prim.Native.Nat.{ℕ, ◌≤◌}
use mathlib.Core.Path.{◌≡◌, refl, sym, ap, subst, ◌∙◌}
use mathlib.Core.List.{List}
use native.Mathlib.Omega.{arith}
use lib.ListN.{length}
use Rattle.definitions.specs.Tables.{Emit}
use Rattle.state.specs.State.{State, state_of, emit_at, WithinLimits, Sound, Paced, Left}
use Rattle.state.specs.declared.Counts.{Counts}
use Rattle.state.specs.declared.Limits.{Limits}
use Rattle.state.proofs.Views.{stack-length}
use Rattle.definitions.proofs.Growth.{Lengthens}
use Rattle.state.proofs.Within.{within-down}
use Rattle.state.proofs.Answers.{paced-none, paced-more}

pub record Midway (k : Counts) (tree made code tables : List ℕ) (c : Counts) (l : Limits) (rest : Emit) (want : State) : Type 0 where
  pub state : emit_at c.base rest (state_of tree made code tables k) ≡ want
  pub base : k.base ≡ c.base
  pub paced : Paced c k
  pub sound : Sound tree made code tables k l

pub midway_start : (tree made code tables : List ℕ) (c : Counts) (l : Limits) (e : Emit) → Sound tree made code tables c l
    → Midway c tree made code tables c l e (emit_at c.base e (state_of tree made code tables c))
midway_start tree made code tables c l e s = record { state = refl; base = refl; paced = paced-none c; sound = s }

module _ (k : Counts) (tree made code tables : List ℕ) (c : Counts) (l : Limits) (rest : Emit) (want : State) (m : Midway k tree made code tables c l rest want) where
  pub midway-base : c.base ≤ length (state_of tree made code tables k).stack
  midway-base = omega (arith, stack-length tree made code tables k l m.sound, m.base, m.sound.base)

  -- a step e of the rest e and f
  pub midway-next : (d : Counts) (made' code' tables' : List ℕ) (e f : Emit) → Left d tree made' code' tables' k l (emit_at k.base e (state_of tree made code tables k))
      → emit_at c.base rest (state_of tree made code tables k) ≡ emit_at c.base f (emit_at c.base e (state_of tree made code tables k))
      → Midway d tree made' code' tables' c l f want
  midway-next d made' code' tables' e f h q = record {
    state = ap (emit_at c.base f) (h.state ∙ ap (λ (b : ℕ). emit_at b e (state_of tree made code tables k)) m.base) ∙ sym q ∙ m.state;
    base = h.base ∙ m.base;
    paced = paced-more m.paced h.paced;
    sound = h.sound;
  }

  -- nothing is left
  pub midway_end : emit_at c.base rest (state_of tree made code tables k) ≡ state_of tree made code tables k → Left k tree made code tables c l want
  midway_end e = record { state = sym e ∙ m.state; base = m.base; paced = m.paced; sound = m.sound }

  -- the step is over the limits, so the whole is
  pub midway-full : (e f : Emit) → Lengthens f → (WithinLimits l (emit_at k.base e (state_of tree made code tables k)) → ⊥)
      → emit_at c.base rest (state_of tree made code tables k) ≡ emit_at c.base f (emit_at c.base e (state_of tree made code tables k))
      → WithinLimits l want → ⊥
  midway-full e f g h q w =
      h (subst (λ (b : ℕ). WithinLimits l (emit_at b e (state_of tree made code tables k))) (sym m.base) (within-down c.base _ g (subst (λ (s : State). WithinLimits l s) (sym m.state ∙ q) w)))
