-- Branches and loops: the parts one after the other, and the jumps set at their ends.
use Prim.Native.Nat.{ℕ, suc, ◌+◌, ◌-◌, ◌<◌, ◌≤◌}
use mathlib.Core.Path.{◌≡◌, refl, sym, ap, ◌∙◌, subst}
use mathlib.Core.List.{List, [], ◌∷◌, ◌++◌}
use native.Mathlib.Omega.{arith}
use lib.ListN.{length, length-append}
use Rattle.definitions.specs.Bytes.{Name}
use Rattle.definitions.specs.Tree.{Expr, Block, Branches, when, if, for}
use Rattle.definitions.specs.Instruction.{Instr, instr, Jump, JumpIfFalse, minus}
use Rattle.definitions.specs.Tables.{Emit, one, ◌⨟◌}
use Rattle.definitions.specs.Slots.{Keeping, past, loops_block}
use Rattle.definitions.specs.Lower.{loop, Keeper, make_iter, store_iter, ask_iter, take_iter, emit_expr, emit_stmt, emit_block}
use Rattle.state.specs.State.{State, emit_at, WithinLimits}
use Rattle.state.specs.Steps.{set_at, patch_at, branch, chain_at}
use Rattle.state.specs.Kept.{keeper_at, kept_at}
use Rattle.state.specs.declared.Limits.{Limits}
use Rattle.state.proofs.Emission.{at-seq, stack-grows, stack-after}
use Rattle.state.proofs.Jumps.{at-loop, at-branch}
use Rattle.state.proofs.StmtEmission.{at-if, at-for}
use Rattle.definitions.proofs.Growth.{Lengthens, lengthens-block}
use Rattle.state.proofs.Within.{within-down, within-one, within-branch}
use Rattle.state.proofs.WithinParts.{within-loop-inside, within-loop-jump, within-for-iter, within-for-store}
use Rattle.lower_emit.specs.declared.emitter.Emitter.{Emitter}
use Rattle.lower_emit.specs.Emitting.{state_in, SoundIn, LeftIn}
use Rattle.lower_emit.proofs.Answering.{one-longer}
use Rattle.lower_blocks.proofs.Between.{stack-long, stack-low, open-left}

-- ---- a head, the jump past what follows, and what follows

-- a₁ is left by the head and the jump
module _ {t : List ℕ} {a a₁ : Emitter} (S : SoundIn t a) (head : Emit) (i : Instr) (A : LeftIn t a a₁ (emit_at a.code.base (head ⨟ one i) (state_in t a))) where
  abbrev s : State
  s = state_in t a

  abbrev s₁ : State
  s₁ = emit_at a.code.base head s

  abbrev s₂ : State
  s₂ = emit_at a.code.base (one i) s₁

  first-state : state_in t a₁ ≡ s₂
  first-state = A.left.state ∙ at-seq a.code.base head (one i) s (stack-low S)

  first-open : a₁.code.open ≡ length s₂.stack
  first-open = open-left A ∙ ap (λ (u : State). length u.stack) (at-seq a.code.base head (one i) s (stack-low S))

  first-place : a₁.code.open - 1 ≡ length s₁.stack
  first-place = omega (arith, first-open, one-longer a.code.base i s₁)

  pub first-above : a.code.open < a₁.code.open
  first-above = omega (arith, first-open, one-longer a.code.base i s₁, stack-grows a.code.base head s, stack-long S)

  -- a₂ is left by what follows
  module _ {a₂ : Emitter} (inside : Emit) (B : LeftIn t a₁ a₂ (emit_at a₁.code.base inside (state_in t a₁))) where
    abbrev s₃ : State
    s₃ = emit_at a.code.base inside s₂

    last-is : emit_at a₁.code.base inside (state_in t a₁) ≡ s₃
    last-is = λ j. emit_at (A.left.base j) inside (first-state j)

    last-state : state_in t a₂ ≡ s₃
    last-state = B.left.state ∙ last-is

    last-base : a₂.code.base ≡ a.code.base
    last-base = B.left.base ∙ A.left.base

    last-open : a₂.code.open ≡ length s₃.stack
    last-open = open-left B ∙ ap (λ (u : State). length u.stack) last-is

    pub last-above : a₁.code.open ≤ a₂.code.open
    last-above = omega (arith, first-open, last-open, stack-grows a.code.base inside s₂)

    -- a loop
    pub loop-is : set_at (a₁.code.open - 1) (instr 29 (a₂.code.open - a₁.code.open + 1) 0)
        (patch_at (a₁.code.open - a.code.open) a₁.code.open (a₂.code.open - a₁.code.open) (emit_at a₂.code.base (one (Jump (minus (a₂.code.open - a.code.open + 1)))) (state_in t a₂)))
        ≡ emit_at a.code.base (loop head inside) s
    loop-is =
        let n = stack-long S in
        let u : a₁.code.open - a.code.open ≡ length s₂.stack - length s.stack = omega (arith, first-open, n) in
        let v : a₂.code.open - a₁.code.open ≡ length s₃.stack - length s₂.stack = omega (arith, first-open, last-open) in
        let d : a₂.code.open - a₁.code.open + 1 ≡ suc (length s₃.stack - length s₂.stack) = omega (arith, first-open, last-open) in
        let e : a₂.code.open - a.code.open + 1 ≡ suc (length s₃.stack - length s.stack) = omega (arith, last-open, n) in
        (λ j. set_at (first-place j) (instr 29 (d j) 0) (patch_at (u j) (first-open j) (v j) (emit_at (last-base j) (one (Jump (minus (e j)))) (last-state j))))
        ∙ sym (at-loop a.code.base head inside i s (stack-low S) s₁ s₂ s₃ refl refl refl)

    -- a branch, whose head is its condition
    pub branch-is : (names : List Name) (keep : Keeping) (x : Expr) (b : Block) → head ≡ emit_expr names x → inside ≡ emit_block names keep b
        → set_at (a₁.code.open - 1) (instr 29 (a₂.code.open - a₁.code.open + 1) 0) (emit_at a₂.code.base (one (Jump 0)) (state_in t a₂)) ≡ emit_at a.code.base (branch names keep x b) s
    branch-is names keep x b f g =
        let d : a₂.code.open - a₁.code.open + 1 ≡ suc (length s₃.stack - length s₂.stack) = omega (arith, first-open, last-open) in
        (λ j. set_at (first-place j) (instr 29 (d j) 0) (emit_at (last-base j) (one (Jump 0)) (last-state j)))
        ∙ sym (at-branch a.code.base names keep x b s (stack-low S) i s₁ s₂ s₃ (ap (λ (e : Emit). emit_at a.code.base e s) f) refl (ap (λ (e : Emit). emit_at a.code.base e s₂) g))

  -- what follows is over the limits
  pub inside-within : {l : Limits} (inside : Emit) → WithinLimits l (emit_at a.code.base (loop head inside) s) → WithinLimits l (emit_at a₁.code.base inside (state_in t a₁))
  inside-within {l} inside w = subst (WithinLimits l) (sym (λ j. emit_at (A.left.base j) inside (first-state j))) (within-loop-inside a.code.base head inside i s (stack-low S) w)

-- the head and its jump are over the limits
pub head-within : {l : Limits} {inside : Emit} (head : Emit) (i : Instr) (base : ℕ) (s : State) → base ≤ length s.stack → Lengthens inside
    → WithinLimits l (emit_at base (loop head inside) s) → WithinLimits l (emit_at base (head ⨟ one i) s)
head-within head i base s h E w = rw (at-seq base head (one i) s h) (within-loop-jump base head i s h E w)

-- ---- a branch

branch-inside : {l : Limits} (names : List Name) (keep : Keeping) (x : Expr) (b : Block) (i : Instr) (base : ℕ) (s : State) → base ≤ length s.stack → WithinLimits l (emit_at base (branch names keep x b) s)
    → WithinLimits l (emit_at base (emit_block names keep b) (emit_at base (one i) (emit_at base (emit_expr names x) s)))
branch-inside names keep x b i base s h w = within-one base (Jump 0) _ (within-branch base names keep x b s h i _ _ (emit_at base (emit_block names keep b) (emit_at base (one i) (emit_at base (emit_expr names x) s))) refl refl refl w)

pub question-within : {l : Limits} (names : List Name) (keep : Keeping) (x : Expr) (b : Block) (i : Instr) (base : ℕ) (s : State) → base ≤ length s.stack
    → WithinLimits l (emit_at base (branch names keep x b) s) → WithinLimits l (emit_at base (emit_expr names x ⨟ one i) s)
question-within names keep x b i base s h w = rw (at-seq base (emit_expr names x) (one i) s h) (within-down base _ (lengthens-block names keep b) (branch-inside names keep x b i base s h w))

pub block_within : {t : List ℕ} {a a₁ : Emitter} {l : Limits} → SoundIn t a → (names : List Name) (keep : Keeping) (x : Expr) (b : Block) (i : Instr)
    → LeftIn t a a₁ (emit_at a.code.base (emit_expr names x ⨟ one i) (state_in t a))
    → WithinLimits l (emit_at a.code.base (branch names keep x b) (state_in t a)) → WithinLimits l (emit_at a₁.code.base (emit_block names keep b) (state_in t a₁))
block_within {t} {a} {a₁} {l} S names keep x b i A w =
    let e = first-state S (emit_expr names x) i A in
    subst (WithinLimits l) (sym (λ j. emit_at (A.left.base j) (emit_block names keep b) (e j))) (branch-inside names keep x b i a.code.base (state_in t a) (stack-low S) w)

-- how long a branch is: it has an instruction
pub branch-long : (names : List Name) (keep : Keeping) (x : Expr) (b : Block) (base : ℕ) (s : State) → length s.stack < length (emit_at base (branch names keep x b) s).stack
unfolding branch
branch-long names keep x b base s =
    let p = length s.stack - base in
    let a = emit_expr names x p s.tables in
    let o = emit_block names keep b (suc (p + length a.code)) a.tables in
    omega (arith, stack-after base (branch names keep x b) s, length-append a.code (JumpIfFalse (suc (length o.code)) ∷ o.code ++ Jump 0 ∷ []))

-- ---- an if

module _ {t : List ℕ} {a a₁ : Emitter} (S : SoundIn t a) (names : List Name) (keep : Keeping) (x : Expr) (b : Block) (A : LeftIn t a a₁ (emit_at a.code.base (branch names keep x b) (state_in t a))) where
  pub if_some : 0 < a₁.code.open
  if_some = let e = open-left A in let h = branch-long names keep x b a.code.base (state_in t a) in omega arith

  pub if-is : (keep₁ : Keeping) (rest rest' : Branches) → keep₁ ≡ past (loops_block b) keep → rest ≡ rest'
      → chain_at a₁.code.base names keep₁ rest (a₁.code.open - 1) (state_in t a₁) ≡ emit_at a.code.base (emit_stmt names keep (if (when x b rest'))) (state_in t a)
  if-is keep₁ rest rest' u e =
      let n : a₁.code.open - 1 ≡ length (emit_at a.code.base (branch names keep x b) (state_in t a)).stack - 1 = ap (λ (m : ℕ). m - 1) (open-left A) in
      (λ j. chain_at (A.left.base j) names (u j) (e j) (n j) (A.left.state j)) ∙ sym (at-if a.code.base names keep (state_in t a) (stack-low S) x b rest' _ refl)

-- ---- a for

module _ {t : List ℕ} {a a₁ : Emitter} (S : SoundIn t a) (names : List Name) (keep : Keeping) (x : Name) (e : Expr) (b : Block) (A : LeftIn t a a₁ (emit_at a.code.base (emit_expr names e ⨟ make_iter) (state_in t a))) where
  abbrev f₁ : State
  f₁ = emit_at a.code.base make_iter (emit_at a.code.base (emit_expr names e) (state_in t a))

  f-state : state_in t a₁ ≡ f₁
  f-state = A.left.state ∙ at-seq a.code.base (emit_expr names e) make_iter (state_in t a) (stack-low S)

  -- what keeps the iterator, before its store
  abbrev keeper : Keeper
  keeper = keeper_at a₁.code.base keep (state_in t a₁)

  keeper-is : keeper ≡ keeper_at a.code.base keep f₁
  keeper-is = λ j. keeper_at (A.left.base j) keep (f-state j)

  abbrev stored : State
  stored = emit_at a₁.code.base (one (store_iter keeper)) (kept_at a₁.code.base keep (state_in t a₁))

  stored_is : stored ≡ emit_at a.code.base (one (store_iter keeper)) (kept_at a.code.base keep f₁)
  stored_is = λ j. emit_at (A.left.base j) (one (store_iter keeper)) (kept_at (A.left.base j) keep (f-state j))

  abbrev whole : State
  whole = emit_at a.code.base (emit_stmt names keep (for x e b)) (state_in t a)

  pub for-within : {l : Limits} → WithinLimits l whole → WithinLimits l stored
  for-within {l} w = subst (WithinLimits l) (sym stored_is) (within-for-store a.code.base names keep (state_in t a) (stack-low S) x e b f₁ keeper refl keeper-is w)

  pub for-is : {a₂ : Emitter} (g : Keeper) (b' : Block) (keep' : Keeping) → g ≡ keeper → LeftIn t a₁ a₂ stored → b' ≡ b → keep' ≡ past 1 keep
      → emit_at a₂.code.base (loop (ask_iter g) (take_iter names x g ⨟ emit_block names keep' b')) (state_in t a₂) ≡ whole
  for-is g b' keep' is B y u =
      (λ j. emit_at ((B.left.base ∙ A.left.base) j) (loop (ask_iter (is j)) (take_iter names x (is j) ⨟ emit_block names (u j) (y j))) ((B.left.state ∙ stored_is) j))
      ∙ sym (at-for a.code.base names keep (state_in t a) (stack-low S) x e b f₁ keeper refl keeper-is)

-- the iterable and its iterator
pub iterable-within : {l : Limits} (names : List Name) (keep : Keeping) (x : Name) (e : Expr) (b : Block) (base : ℕ) (s : State) → base ≤ length s.stack
    → WithinLimits l (emit_at base (emit_stmt names keep (for x e b)) s) → WithinLimits l (emit_at base (emit_expr names e ⨟ make_iter) s)
iterable-within names keep x e b base s h w = rw (at-seq base (emit_expr names e) make_iter s h) (within-for-iter base names keep s h x e b w)
