-- Jumps that are set after a step, and a loop's inside that is patched.
use Prim.Native.Nat.{ℕ, ◌+◌, ◌-◌, ◌≤◌}
use mathlib.Core.Path.{◌≡◌, ap, ◌∙◌}
use mathlib.Core.List.{List}
use native.Mathlib.Omega.{arith}
use Rattle.definitions.specs.Instruction.{Instr}
use Rattle.definitions.specs.Tables.{one}
use Rattle.state.specs.State.{State, state_of, emit_at, Sound, WithinLimits, Left}
use Rattle.state.specs.Steps.{set_at, patch_at}
use Rattle.state.specs.declared.Counts.{Counts}
use Rattle.state.specs.declared.Limits.{Limits}
use Rattle.state.proofs.Views.{stack-length}
use Rattle.state.proofs.Within.{within-set, within-patch}
use Rattle.state.proofs.Answers.{left-after, left_as}
use Rattle.lower_emit.proofs.Answering.{open_after, one-longer}

module _ (t made code code₁ tables : List ℕ) (c k : Counts) (l : Limits) (base : ℕ) (i : Instr) (s : Sound t made code tables c l)
    (got : Left k t made code₁ tables c l (emit_at base (one i) (state_of t made code tables c))) where
  abbrev mid : State
  mid = emit_at base (one i) (state_of t made code tables c)

  pub put-open : k.open ≡ c.open + 1
  put-open = open_after t made code₁ tables c k l mid got ∙ one-longer base i (state_of t made code tables c) ∙ ap (λ (n : ℕ). n + 1) (stack-length t made code tables c l s)

  -- a jump is set
  pub jump-left : (j : ℕ) (x : Instr) (code₂ : List ℕ) → Left k t made code₂ tables k l (set_at j x (state_of t made code₁ tables k)) → Left k t made code₂ tables c l (set_at j x mid)
  jump-left j x code₂ B = left_as (ap (set_at j x) got.state) (left-after got B)

  -- the inside is patched, and a jump is set
  pub patched-left : (a b n j : ℕ) (x : Instr) (code₂ code₃ : List ℕ) → Left k t made code₂ tables k l (patch_at a b n (state_of t made code₁ tables k))
      → Left k t made code₃ tables k l (set_at j x (state_of t made code₂ tables k)) → Left k t made code₃ tables c l (set_at j x (patch_at a b n mid))
  patched-left a b n j x code₂ code₃ P B = left_as (ap (set_at j x) (P.state ∙ ap (patch_at a b n) got.state)) (left-after got (left-after P B))

-- before the end of a loop
pub loop-within : (t made code tables : List ℕ) (c : Counts) (l : Limits) (base : ℕ) (i : Instr) (h from j : ℕ) (x : Instr) → Sound t made code tables c l → from ≤ c.open
    → WithinLimits l (set_at j x (patch_at h from (c.open - from) (emit_at base (one i) (state_of t made code tables c)))) → WithinLimits l (emit_at base (one i) (state_of t made code tables c))
loop-within t made code tables c l base i h from j x s g w =
    let a = one-longer base i (state_of t made code tables c) in
    let b = stack-length t made code tables c l s in
    within-patch h from (c.open - from) _ (omega arith) (within-set j x _ w)
