-- A for: what it goes through, its iterator and where that is kept; then its rounds.
use Prim.Native.Nat.{ℕ, ◌+◌, ◌-◌, ◌≤◌}
use mathlib.Core.Path.{◌≡◌, refl, sym, ap, subst, ◌∙◌}
use mathlib.Core.Bool.{true}
use mathlib.Core.List.{List}
use native.Mathlib.Omega.{arith}
use lib.ListN.{length}
use Rattle.std.specs.Prelude.{Option, Some, None}
use Rattle.definitions.specs.Bytes.{Name}
use Rattle.definitions.specs.Tree.{Expr, Block}
use Rattle.definitions.specs.Wellformed.{ask_expr}
use Rattle.definitions.specs.Tables.{Emit, one, ◌⨟◌}
use Rattle.definitions.specs.Slots.{Keeping, past, loops_block}
use Rattle.definitions.specs.Lower.{Keeper, make_iter, kept_iter, store_iter, take_iter, emit_expr}
use Rattle.definitions.specs.Measured as Measured
use Rattle.definitions.specs.Measured.{measure_block, measure_ask, measure_take, after_block, write_expr, write_block, write_for}
use Rattle.definitions.proofs.Counted.{counted-seq}
use Rattle.definitions.proofs.CountedStmt.{counted-take_iter}
use Rattle.definitions.proofs.Alike.{AllSpelled, alike-expr}
use Rattle.state.specs.State.{State, emit_at, WithinLimits}
use Rattle.state.specs.Kept.{keeping_of, keeper_at, kept_at, after_loops, Spare}
use Rattle.state.proofs.Kept.{spare-first, keeping-past}
use Rattle.state.proofs.Emission.{at-seq, at-three, base_kept}
use Rattle.state.proofs.StmtEmission.{at-kept, kept-stack}
use Rattle.definitions.proofs.Growth.{Lengthens, lengthens-one, lengthens-seq, lengthens-ask_iter, lengthens-take_iter, lengthens-kept_iter}
use Rattle.state.proofs.Within.{within-down}
use Rattle.measure_stmts.specs.Heads.{heads_block}
use Rattle.lower_calls.proofs.Calls.{at_same}
use Rattle.lower_emit.specs.declared.emitter.Emitter.{Emitter}
use Rattle.lower_emit.specs.Emitting.{limits_in, state_in, SoundIn, LeftIn, EmitsTo}
use Rattle.lower_emit.proofs.Spelled.{spelled-in}
use Rattle.lower_emit.proofs.Steps.{areas-none, reaches_as, reaches-after}
use Rattle.lower_loops.specs.Iterators.{keeper_of, StoresIterator}
use Rattle.lower_blocks.proofs.Between.{stack-low, emits-full}
use Rattle.write_blocks.specs.Written.{rounds_written, for_written}
use Rattle.write_blocks.proofs.Growing.{grows-knowing, grows-loop, grows-block}
use Rattle.write_blocks.proofs.Counting.{Sizes, sizes-block}
use Rattle.write_blocks.proofs.Branches.{AskedBlock}
use Rattle.write_blocks.proofs.Jumping.{first_as}

pub grows-rounds : (names : List Name) (keep : Keeping) (x : Name) (g : Keeper) (b : Block) → Lengthens (rounds_written names keep x g b)
unfolding rounds_written
grows-rounds names keep x g b =
    grows-knowing (λ k. grows-loop measure_ask (measure_take + measure_block names k b) (lengthens-ask_iter g) (λ v. lengthens-seq (lengthens-take_iter names x g) (grows-block names keep v b)))

-- the inside of the rounds: the next value is taken, and the block
pub rounds-sizes : (names : List Name) (keep : Keeping) (x : Name) (g : Keeper) (b : Block) → AskedBlock b → (v : Measured.Loop)
    → Sizes (λ k. measure_take + measure_block names k b) (after_block b) (heads_block b) (take_iter names x g ⨟ write_block names keep v b)
unfolding ◌⨟◌
rounds-sizes names keep x g b k v =
    let B = sizes-block k.l names keep v b k.names k.breaks in
    record {
      counted = counted-seq (counted-take_iter names x g) B.counted;
      heading = record {
        at = λ p t N.
            let o = take_iter names x g p t in
            let c = (counted-take_iter names x g).at (Measured.so_far t) p t (Rattle.definitions.proofs.SoFarNames.knows-itself t N.spelled) in
            let e = (lengthens-take_iter names x g).at p t in
            let h = B.heading.at (p + length o.code) o.tables (record { spelled = c.knows.spelled }) in
            omega (arith, h, Rattle.definitions.proofs.Growth.functions-longer e, e.classes);
      };
    }

-- ---- the state

-- s₁ is the state after what it goes through and the call of `__iter__`, g what keeps the iterator
for-as : (names : List Name) (keep : Keeping) (x : Name) (e : Expr) (b : Block) → ask_expr 7 e ≡ true → (base : ℕ) (s : State) → base ≤ length s.stack → AllSpelled s.tables → (s₁ : State) (g : Keeper)
    → s₁ ≡ emit_at base make_iter (emit_at base (emit_expr names e) s) → g ≡ keeper_at base keep s₁
    → emit_at base (for_written names keep x e b) s ≡ emit_at base (rounds_written names (past 1 keep) x g b) (emit_at base (one (store_iter g)) (kept_at base keep s₁))
unfolding for_written write_for rounds_written
for-as names keep x e b q base s h N s₁ g e₁ e₂ =
    let F : Keeper → Emit = λ k. one (store_iter k) ⨟ rounds_written names (past 1 keep) x k b in
    let u = kept_at base keep s₁ in
    let k : base ≤ length s₁.stack = rw e₁ (base_kept base make_iter (emit_at base (emit_expr names e) s) (base_kept base (emit_expr names e) s h)) in
    at_same base (for_written names keep x e b) (emit_expr names e ⨟ make_iter ⨟ kept_iter keep F) s
    (first_as (write_expr names e) (emit_expr names e) (make_iter ⨟ kept_iter keep F) (length s.stack - base) s.tables ((alike-expr names e q).same _ s.tables N))
    ∙ at-three base (emit_expr names e) make_iter (kept_iter keep F) s h
    ∙ ap (emit_at base (kept_iter keep F)) (sym e₁)
    ∙ at-kept base keep F s₁
    ∙ ap (λ (m : Keeper). emit_at base (F m) u) (sym e₂)
    ∙ at-seq base (one (store_iter g)) (rounds_written names (past 1 keep) x g b) u (omega (arith, k, ap length (kept-stack base keep s₁)))

-- ---- by the emitter's steps

module _ {t : List ℕ} {a a₁ : Emitter} {p : Option ℕ} {n : ℕ} (names : List Name) (i : ℕ) (e : Expr) (x : Name) (b : Block) (q : ask_expr 7 e ≡ true)
    (S : SoundIn t a) (g : EmitsTo p (emit_expr names e ⨟ make_iter) n t a a₁) where
  abbrev keep : Keeping
  keep = keeping_of i

  abbrev base : ℕ
  base = a.code.base

  abbrev whole : State
  whole = emit_at base (for_written names keep x e b) (state_in t a)

  -- the state after what it goes through and its iterator, and what keeps that
  abbrev f₁ : State
  f₁ = emit_at base make_iter (emit_at base (emit_expr names e) (state_in t a))

  abbrev kept : Keeper
  kept = keeper_at base keep f₁

  abbrev stored : State
  stored = emit_at base (one (store_iter kept)) (kept_at base keep f₁)

  whole-is : whole ≡ emit_at base (rounds_written names (past 1 keep) x kept b) stored
  whole-is = for-as names keep x e b q base (state_in t a) (stack-low S) (spelled-in S) f₁ kept refl refl

  kept-grows : Lengthens (kept_iter keep (λ k. one (store_iter k) ⨟ rounds_written names (past 1 keep) x k b))
  kept-grows = lengthens-kept_iter keep (λ k. lengthens-seq (lengthens-one (store_iter k)) (grows-rounds names (past 1 keep) x k b))

  pub for-stopped : {o : Option ℕ} {next : ℕ} → p ≡ None → o ≡ None → EmitsTo o (for_written names keep x e b) next t a a₁
  for-stopped z y =
      let F : Keeper → Emit = λ k. one (store_iter k) ⨟ rounds_written names (past 1 keep) x k b in
      let is = sym (ap (λ (s : State). s) (whole-is ∙ sym (at-seq base (one (store_iter kept)) (rounds_written names (past 1 keep) x kept b) (kept_at base keep f₁)
      (omega (arith, base_kept base make_iter (emit_at base (emit_expr names e) (state_in t a)) (base_kept base (emit_expr names e) (state_in t a) (stack-low S)), ap length (kept-stack base keep f₁))))
      ∙ sym (at-kept base keep F f₁))) in
      emits-full refl areas-none z y g.lowers.reaches
      (λ w. rw (at-seq base (emit_expr names e) make_iter (state_in t a) (stack-low S)) (within-down base f₁ kept-grows (subst (WithinLimits (limits_in a)) (sym is) w)))

  module _ {k : ℕ} (y : p ≡ Some k) {a₂ : Emitter} {i₁ : ℕ} {r : Option ℕ} (h : StoresIterator r keep t a₁ a₂ × (i₁ ≡ after_loops i 1)) where
    A : LeftIn t a a₁ (emit_at base (emit_expr names e ⨟ make_iter) (state_in t a))
    A = g.lowers.reaches.done k y

    state-is : state_in t a₁ ≡ f₁
    state-is = A.left.state ∙ at-seq base (emit_expr names e) make_iter (state_in t a) (stack-low S)

    abbrev keeper : Keeper
    keeper = keeper_at a₁.code.base keep (state_in t a₁)

    keeper-is : keeper ≡ kept
    keeper-is = λ j. keeper_at (A.left.base j) keep (state-is j)

    stored-is : emit_at a₁.code.base (one (store_iter keeper)) (kept_at a₁.code.base keep (state_in t a₁)) ≡ stored
    stored-is = λ j. emit_at (A.left.base j) (one (store_iter (keeper-is j))) (kept_at (A.left.base j) keep (state-is j))

    pub for-over : {o : Option ℕ} {next : ℕ} → r ≡ None → o ≡ None → EmitsTo o (for_written names keep x e b) next t a a₂
    for-over z u = emits-full g.lowers.reaches.limits g.lowers.reaches.areas z u h.0.reaches.reaches
        (λ w. subst (WithinLimits (limits_in a)) (sym stored-is) (within-down base stored (grows-rounds names (past 1 keep) x kept b) (subst (WithinLimits (limits_in a)) whole-is w)))

    module _ {w : ℕ} (z : r ≡ Some w) (s : Spare i (1 + loops_block b)) where
      pub for-done : {a₃ : Emitter} {r₃ : Option ℕ} {m next : ℕ} {b' : Block} → b' ≡ b → m ≡ next
          → EmitsTo r₃ (rounds_written names (keeping_of i₁) x (keeper_of w) b') m t a₂ a₃ → EmitsTo r₃ (for_written names keep x e b) next t a a₃
      for-done {b' = b'} u v f =
          let B = h.0.reaches.reaches.done w z in
          let k₁ : keeping_of i₁ ≡ past 1 keep = ap keeping_of h.1 ∙ keeping-past i 1 (spare-first i 1 (loops_block b) s) in
          let is : keeper_of w ≡ kept = (h.0.loads w z).keeper ∙ keeper-is in
          record {
            place = λ j q. f.place j q ∙ v;
            lowers = record {
              reaches = reaches_as ((λ j. emit_at ((B.left.base ∙ A.left.base) j) (rounds_written names (k₁ j) x (is j) (u j)) ((B.left.state ∙ stored-is) j)) ∙ sym whole-is)
                  (reaches-after y g.lowers.reaches (reaches-after z h.0.reaches.reaches f.lowers.reaches));
            };
          }
