-- The parts of each form of expression and statement are within the limits if the whole is.
use Prim.Native.Nat.{ℕ, ◌≤◌}
use mathlib.Core.Path.{◌≡◌, refl}
use mathlib.Core.List.{List}
use lib.ListN.{length}
use Rattle.definitions.specs.Bytes.{Name}
use Rattle.definitions.specs.Tree.{Expr, if, for, Block, Branches, when}
use Rattle.definitions.specs.Instruction.{Instr}
use Rattle.definitions.specs.Tables.{Emit, one, ◌⨟◌}
use Rattle.definitions.specs.Slots.{Keeping, past}
use Rattle.definitions.specs.Lower.{emit_expr, loop, Keeper, make_iter, store_iter, ask_iter, take_iter, emit_stmt, emit_block}
use Rattle.state.specs.State.{State, emit_at, WithinLimits}
use Rattle.state.specs.Steps.{branch}
use Rattle.state.specs.Kept.{keeper_at, kept_at}
use Rattle.state.specs.declared.Limits.{Limits}
use Rattle.state.proofs.StmtEmission.{at-for}
use Rattle.definitions.proofs.Growth.{Lengthens, lengthens-one, lengthens-seq, lengthens-loop, lengthens-ask_iter, lengthens-take_iter, lengthens-kept_iter, lengthens-block}
use Rattle.state.proofs.Within.{within-down, within-one, within-two, within-loop, within-when}

-- ---- jumps: the parts before the last, with any placeholder i

pub within-loop-inside : {l : Limits} (base : ℕ) (head inside : Emit) (i : Instr) (s : State) → base ≤ length s.stack
    → WithinLimits l (emit_at base (loop head inside) s) → WithinLimits l (emit_at base inside (emit_at base (one i) (emit_at base head s)))
within-loop-inside base head inside i s h w = within-one base _ _ (within-loop base head inside i s h _ _ (emit_at base inside (emit_at base (one i) (emit_at base head s))) refl refl refl w)

pub within-loop-jump : {l : Limits} {inside : Emit} (base : ℕ) (head : Emit) (i : Instr) (s : State) → base ≤ length s.stack → Lengthens inside
    → WithinLimits l (emit_at base (loop head inside) s) → WithinLimits l (emit_at base (one i) (emit_at base head s))
within-loop-jump {inside} base head i s h E w = within-down base _ E (within-loop-inside base head inside i s h w)

-- ---- statements

-- the rounds of a for loop
rounds : (slots : List Name) (keep : Keeping) (x : Name) (b : Block) (g : Keeper) → Lengthens (loop (ask_iter g) (take_iter slots x g ⨟ emit_block slots (past 1 keep) b))
rounds slots keep x b g = lengthens-loop (lengthens-ask_iter g) (lengthens-seq (lengthens-take_iter slots x g) (lengthens-block slots (past 1 keep) b))

module _ {l : Limits} (base : ℕ) (slots : List Name) (keep : Keeping) (s : State) (h : base ≤ length s.stack) where
  pub within-if : (c : Expr) (b : Block) (r : Branches) → WithinLimits l (emit_at base (emit_stmt slots keep (if (when c b r))) s) → WithinLimits l (emit_at base (branch slots keep c b) s)
  unfolding emit_stmt
  within-if c b r w = within-when base slots keep c b r s h w

  -- the iterable, the call of `__iter__`; s₁ is the state after them, and g what keeps the iterator
  pub within-for-iter : (x : Name) (e : Expr) (b : Block) → WithinLimits l (emit_at base (emit_stmt slots keep (for x e b)) s) → WithinLimits l (emit_at base make_iter (emit_at base (emit_expr slots e) s))
  unfolding emit_stmt
  within-for-iter x e b w = within-two base (emit_expr slots e) make_iter s h (lengthens-kept_iter keep (λ g. lengthens-seq (lengthens-one (store_iter g)) (rounds slots keep x b g))) w

  pub within-for-store : (x : Name) (e : Expr) (b : Block) (s₁ : State) (g : Keeper) → s₁ ≡ emit_at base make_iter (emit_at base (emit_expr slots e) s) → g ≡ keeper_at base keep s₁
      → WithinLimits l (emit_at base (emit_stmt slots keep (for x e b)) s) → WithinLimits l (emit_at base (one (store_iter g)) (kept_at base keep s₁))
  within-for-store x e b s₁ g e₁ e₂ w = within-down base _ (rounds slots keep x b g) (rw (at-for base slots keep s h x e b s₁ g e₁ e₂) at w)
