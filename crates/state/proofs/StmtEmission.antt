-- The state after targets, statements and blocks.
use Prim.Native.Nat.{ℕ, suc, ◌-◌, ◌≤◌}
use mathlib.Core.Path.{◌≡◌, refl, sym, ap, ◌∙◌}
use mathlib.Core.Bool.{false}
use mathlib.Core.List.{List, [], ◌∷◌}
use native.Mathlib.Omega.{arith}
use lib.ListN.{length}
use Rattle.definitions.specs.Bytes.{Name, ascii}
use Rattle.definitions.specs.Tree.{Expr, lit, var, unary, binary, logical, call, attr, display, index, lambda, Exprs, []ᵉ, ◌∷ᵉ◌, list_d, tuple_d, dict_d, set_d, tree_set_d, view}
use Rattle.definitions.specs.Tree.{view_display, if, for, Block, Branches, when}
use Rattle.definitions.specs.Wellformed.{is_tuple}
use Rattle.definitions.specs.Instruction
use Rattle.definitions.specs.Tables.{Emit, emits, one, ◌⨟◌, intern}
use Rattle.definitions.specs.Slots.{Keeping, in_globals, in_slots, past, loops_block}
use Rattle.definitions.specs.Lower.{store, copy, emit_target, unpack, loop, iter_name, Keeper, global, make_iter, named_iter, kept_iter, store_iter, load_iter, ask_iter, take_iter, emit_expr, emit_stmt, emit_block}
use Rattle.state.specs.State.{State, emit_at}
use Rattle.state.specs.Steps.{is_stored, branch, chain_at}
use Rattle.state.specs.Kept.{keeper_at, kept_at}
use Rattle.state.proofs.Emission.{base_kept, at-seq, at-three, at-four, at-nothing, at_more, at_here, at-intern}
use Rattle.state.proofs.Jumps as Jumps

-- ---- targets

-- the last element that is taken is not copied
pub at-copy-first : (base : ℕ) (s : State) → emit_at base (copy 0) s ≡ s
unfolding copy
at-copy-first base s = at-nothing base s

pub at_copy : (base i : ℕ) (s : State) → emit_at base (copy (suc i)) s ≡ emit_at base (one Instruction.Dup) s
unfolding copy
at_copy base i s = refl

-- what question 10 refuses stores nothing
pub at-target-other : (base : ℕ) (slots : List Name) (e : Expr) (s : State) → is_stored (view e) ≡ false → emit_at base (emit_target slots e) s ≡ s
unfolding emit_target view view_display is_stored is_tuple
at-target-other base slots (lit l) s h = at-nothing base s
at-target-other base slots (var x) s h = let z : ◌≡◌ {A = ℕ} 0 1 = cc in absurd (omega arith)
at-target-other base slots (unary op e) s h = at-nothing base s
at-target-other base slots (binary op l r) s h = at-nothing base s
at-target-other base slots (logical op l r) s h = at-nothing base s
at-target-other base slots (call f es) s h = at-nothing base s
at-target-other base slots (attr o x) s h = at-nothing base s
at-target-other base slots (display list_d es) s h = at-nothing base s
at-target-other base slots (display tuple_d es) s h = let z : ◌≡◌ {A = ℕ} 0 1 = cc in absurd (omega arith)
at-target-other base slots (display dict_d es) s h = at-nothing base s
at-target-other base slots (display set_d es) s h = at-nothing base s
at-target-other base slots (display tree_set_d es) s h = at-nothing base s
at-target-other base slots (index o i) s h = at-nothing base s
at-target-other base slots (lambda ps b) s h = at-nothing base s

pub at-unpack-none : (base : ℕ) (slots : List Name) (i : ℕ) (s : State) → emit_at base (unpack slots []ᵉ i) s ≡ s
unfolding emit_target
at-unpack-none base slots i s = at-nothing base s

-- the later elements first
pub at-unpack-more : (base : ℕ) (slots : List Name) (e : Expr) (es : Exprs) (i : ℕ) (s : State) → base ≤ length s.stack
    → emit_at base (unpack slots (e ∷ᵉ es) i) s
    ≡ emit_at base (emit_target slots e) (emit_at base (one Instruction.LoadIndex) (emit_at base (one (Instruction.ConstI64 i)) (emit_at base (copy i) (emit_at base (unpack slots es (suc i)) s))))
unfolding emit_target
at-unpack-more base slots e es i s h =
    at-four base (unpack slots es (suc i)) (copy i) (emits (Instruction.ConstI64 i ∷ Instruction.LoadIndex ∷ [])) (emit_target slots e) s h
    ∙ ap (emit_at base (emit_target slots e)) (at_more base (Instruction.ConstI64 i) (Instruction.LoadIndex ∷ []) (emit_at base (copy i) (emit_at base (unpack slots es (suc i)) s)))

-- ---- statements

-- what goes on with the next loop's keeper
pub at-kept : (base : ℕ) (keep : Keeping) (F : Keeper → Emit) (s : State) → emit_at base (kept_iter keep F) s ≡ emit_at base (F (keeper_at base keep s)) (kept_at base keep s)
unfolding kept_iter named_iter keeper_at kept_at
at-kept base in_globals F s =
    at_here base (λ p. intern (iter_name p) (λ k. F (global k))) s ∙ at-intern base (iter_name (length s.stack - base)) (λ k. F (global k)) s
at-kept base (in_slots n) F s = refl

pub kept-stack : (base : ℕ) (keep : Keeping) (s : State) → (kept_at base keep s).stack ≡ s.stack
unfolding kept_at
kept-stack base in_globals s = refl
kept-stack base (in_slots n) s = refl

module _ (base : ℕ) (slots : List Name) (keep : Keeping) (s : State) (h : base ≤ length s.stack) where
  -- the first branch, of which s' is the state
  pub at-if : (c : Expr) (b : Block) (r : Branches) (s' : State) → s' ≡ emit_at base (branch slots keep c b) s
      → emit_at base (emit_stmt slots keep (if (when c b r))) s ≡ chain_at base slots (past (loops_block b) keep) r (length s'.stack - 1) s'
  unfolding emit_stmt
  at-if c b r s' e = Jumps.at-when base slots keep c b s h r s' e

  -- s₁ is the state after the iterable and the call of `__iter__`, g what keeps the iterator
  pub at-for : (x : Name) (e : Expr) (b : Block) (s₁ : State) (g : Keeper) → s₁ ≡ emit_at base make_iter (emit_at base (emit_expr slots e) s) → g ≡ keeper_at base keep s₁
      → emit_at base (emit_stmt slots keep (for x e b)) s
      ≡ emit_at base (loop (ask_iter g) (take_iter slots x g ⨟ emit_block slots (past 1 keep) b)) (emit_at base (one (store_iter g)) (kept_at base keep s₁))
  unfolding emit_stmt
  at-for x e b s₁ g e₁ e₂ =
      let F : Keeper → Emit = λ k. one (store_iter k) ⨟ loop (ask_iter k) (take_iter slots x k ⨟ emit_block slots (past 1 keep) b) in
      let u = kept_at base keep s₁ in
      let k : base ≤ length s₁.stack = rw e₁ (base_kept base make_iter (emit_at base (emit_expr slots e) s) (base_kept base (emit_expr slots e) s h)) in
      at-three base (emit_expr slots e) make_iter (kept_iter keep F) s h
      ∙ ap (emit_at base (kept_iter keep F)) (sym e₁)
      ∙ at-kept base keep F s₁
      ∙ ap (λ (m : Keeper). emit_at base (F m) u) (sym e₂)
      ∙ at-seq base (one (store_iter g)) (loop (ask_iter g) (take_iter slots x g ⨟ emit_block slots (past 1 keep) b)) u (omega (arith, k, ap length (kept-stack base keep s₁)))

-- ---- the parts of a for loop

pub at-take_iter : (base : ℕ) (slots : List Name) (x : Name) (g : Keeper) (s : State) → base ≤ length s.stack
    → emit_at base (take_iter slots x g) s
    ≡ emit_at base (store slots x) (emit_at base (intern (ascii "__next__") (λ k. one (Instruction.CallMethod k 0))) (emit_at base (one (load_iter g)) s))
unfolding take_iter
at-take_iter base slots x g s h = at-three base (one (load_iter g)) (intern (ascii "__next__") (λ k. one (Instruction.CallMethod k 0))) (store slots x) s h
