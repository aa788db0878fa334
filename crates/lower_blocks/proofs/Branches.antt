-- Branches and loops, by the laws of the state.
use Prim.Native.Nat.{ℕ, ◌+◌, ◌-◌, ◌≤◌, ◌<◌}
use mathlib.Core.Path.{◌≡◌, refl, sym, ap, subst, ◌∙◌}
use mathlib.Core.List.{List}
use native.Mathlib.Omega.{arith}
use lib.ListN.{length, get_or}
use Rattle.std.specs.Prelude.{Option, Some, None}
use Rattle.definitions.specs.Bytes.{Name}
use Rattle.definitions.specs.Tree.{Expr, Block, Branches, else, if, when, for}
use Rattle.definitions.specs.Instruction.{Instr, instr, Jump}
use Rattle.definitions.specs.Tables.{Emit, one, ◌⨟◌}
use Rattle.definitions.specs.Slots.{Keeping, past, loops_block, loops_branches}
use Rattle.definitions.specs.Lower.{loop, make_iter, ask_iter, take_iter, emit_expr, emit_stmt, emit_block}
use Rattle.tree_view.specs.ExprAt.{expr_at}
use Rattle.tree_view.specs.Places.{Node}
use Rattle.tree_view.specs.StmtAt.{body_at, block_at, branches_at}
use Rattle.tree_view.proofs.LoopsAt.{elifs-loops}
use Rattle.state.specs.State.{State, emit_at, WithinLimits}
use Rattle.state.specs.Steps.{set_at, branch, chain_at}
use Rattle.state.specs.Kept.{keeping_of, after_loops, Spare, Passes}
use Rattle.state.proofs.Kept.{after-sum, spare-first, spare-rest, keeping-past, passes_over}
use Rattle.definitions.proofs.Growth.{Lengthens}
use Rattle.state.proofs.Emission.{stack-grows}
use Rattle.state.proofs.Jumps.{chain-when, chain-else, chain-done}
use Rattle.state.proofs.Within.{within-chain-when, within-chain-else}
use Rattle.state.proofs.WithinParts.{within-if}
use Rattle.lower_forms.specs.Lowerable.{expr_code}
use Rattle.lower_forms.specs.Lowering.{BranchesLowerable, block_code}
use Rattle.lower_forms.proofs.StmtArms.{elifs-more, elifs-is, elifs-zero, else-parts, else-one, none_is}
use Rattle.lower_forms.proofs.Sequences.{elifs-at, elifs-end, else-value, else-ends}
use Rattle.lower_emit.specs.declared.emitter.Code.{Code}
use Rattle.lower_emit.specs.declared.emitter.Emitter.{Emitter}
use Rattle.lower_emit.specs.Emitting.{limits_in, state_in, SoundIn, beside, SameAreas, LeftIn, Reaches, LowersIn, NextIs, EmitsTo, SetsJump}
use Rattle.lower_emit.specs.Ends.{EndsBranch, EndsLoop}
use Rattle.lower_emit.proofs.Steps.{areas-none, areas-after, sound-next, left-next, reaches_as, reaches-after, some-is}
use Rattle.lower_emit.proofs.Parts.{emits-by}
use Rattle.lower_loops.specs.Iterators.{keeper_of, Loads, StoresIterator}
use Rattle.lower_loops.proofs.Storing.{loads-self}
use Rattle.lower_blocks.proofs.Between.{stack-long, stack-low, left-itself, open-left, left-own, left-by, left-sound, reached_by, jump-in, jump-limits, jump-areas, next-none, reaches-full, emits-full}
use Rattle.lower_blocks.proofs.Jumping.{first-above, last-above, loop-is, branch-is, inside-within, head-within, question-within, block_within, branch-long}
use Rattle.lower_blocks.proofs.Jumping.{if_some, if-is, for-within, for-is, iterable-within}

-- ---- a head, the jump past what follows, and what follows

module _ {A : Type 0} {t : List ℕ} {a a₁ : Emitter} {p : Option A} (head : Emit) (i : Instr) (S : SoundIn t a) (g : LowersIn p (head ⨟ one i) t a a₁) where
  pub loop-stopped : {q : Option ℕ} {inside : Emit} {next : ℕ} → Lengthens inside → p ≡ None → q ≡ None → EmitsTo q (loop head inside) next t a a₁
  loop-stopped E z n = emits-full refl areas-none z n g.reaches (head-within head i a.code.base (state_in t a) (stack-low S) E)

  module _ {x : A} (y : p ≡ Some x) {B : Type 0} {a₂ : Emitter} {r : Option B} {inside : Emit} (h : LowersIn r inside t a₁ a₂) where
    pub loop-over : {q : Option ℕ} {next : ℕ} → r ≡ None → q ≡ None → EmitsTo q (loop head inside) next t a a₂
    loop-over z n = emits-full g.reaches.limits g.reaches.areas z n h.reaches (inside-within S head i (g.reaches.done x y) inside)

    pub inside-above : a.code.open < a₁.code.open
    inside-above = first-above S head i (g.reaches.done x y)

    module _ {w : B} (z : r ≡ Some w) where
      pub end-above : a₁.code.open ≤ a₂.code.open
      end-above = last-above S head i (g.reaches.done x y) inside (h.reaches.done w z)

      pub loop-ends : {C : Type 0} {q : Option C} {code : Code} → EndsLoop q a.code.open a₁.code.open a₂.code code → LowersIn q (loop head inside) t a (beside code a₂.tables)
      loop-ends e = record {
        reaches = reaches_as (loop-is S head i (g.reaches.done x y) inside (h.reaches.done w z)) (reaches-after y g.reaches (reaches-after z h.reaches (e.ends t a₂.tables (sound-next z h.reaches))));
      }

-- ---- a branch

module _ {t : List ℕ} {a a₁ : Emitter} {p : Option ℕ} {n : ℕ} (names : List Name) (keep : Keeping) (x : Expr) (b : Block) (i : Instr) (S : SoundIn t a) (g : EmitsTo p (emit_expr names x ⨟ one i) n t a a₁) where
  pub branch-stopped : {q : Option ℕ} {next : ℕ} → p ≡ None → q ≡ None → EmitsTo q (branch names keep x b) next t a a₁
  branch-stopped z e = emits-full refl areas-none z e g.lowers.reaches (question-within names keep x b i a.code.base (state_in t a) (stack-low S))

  module _ {k : ℕ} (y : p ≡ Some k) {a₂ : Emitter} {r : Option ℕ} {m : ℕ} (h : EmitsTo r (emit_block names keep b) m t a₁ a₂) where
    pub branch-over : {q : Option ℕ} {next : ℕ} → r ≡ None → q ≡ None → EmitsTo q (branch names keep x b) next t a a₂
    branch-over z e = emits-full g.lowers.reaches.limits g.lowers.reaches.areas z e h.lowers.reaches (block_within S names keep x b i (g.lowers.reaches.done k y))

    pub branch-ends : {C : Type 0} {q : Option C} {code : Code} {u : ℕ} → r ≡ Some u → EndsBranch q a₁.code.open a₂.code code → LowersIn q (branch names keep x b) t a (beside code a₂.tables)
    branch-ends {u = u} z e = record {
      reaches = reaches_as (branch-is S (emit_expr names x) i (g.lowers.reaches.done k y) (emit_block names keep b) (h.lowers.reaches.done u z) names keep x b refl refl)
          (reaches-after y g.lowers.reaches (reaches-after z h.lowers.reaches (e.ends t a₂.tables (sound-next z h.lowers.reaches))));
    }

-- ---- an if

module _ {t : List ℕ} {a a₁ : Emitter} {p : Option ℕ} {n : ℕ} (names : List Name) (keep : Keeping) (x : Expr) (b : Block) (S : SoundIn t a) (g : EmitsTo p (branch names keep x b) n t a a₁) where
  pub if-stopped : {q : Option ℕ} {next : ℕ} (rest : Branches) → p ≡ None → q ≡ None → EmitsTo q (emit_stmt names keep (if (when x b rest))) next t a a₁
  if-stopped rest z e = emits-full refl areas-none z e g.lowers.reaches (within-if a.code.base names keep (state_in t a) (stack-low S) x b rest)

  module _ {k : ℕ} (y : p ≡ Some k) where
    pub if-open : 0 < a₁.code.open
    if-open = if_some S names keep x b (g.lowers.reaches.done k y)

    pub if-done : {a₂ : Emitter} {r : Option ℕ} {m next : ℕ} {keep₁ : Keeping} {rest rest' : Branches} → keep₁ ≡ past (loops_block b) keep → rest ≡ rest' → m ≡ next
        → NextIs r m → Reaches r t a₁ a₂ (chain_at a₁.code.base names keep₁ rest (a₁.code.open - 1) (state_in t a₁)) → EmitsTo r (emit_stmt names keep (if (when x b rest'))) next t a a₂
    if-done {keep₁ = keep₁} {rest = rest} {rest' = rest'} u e f place h = record {
      place = λ j q. place j q ∙ f;
      lowers = record { reaches = reaches_as (if-is S names keep x b (g.lowers.reaches.done k y) keep₁ rest rest' u e) (reaches-after y g.lowers.reaches h) };
    }

-- ---- elifs: those that are left lead to the wanted state

-- a is the emitter before them
pub record ChainRest (d : ℕ) (t : List ℕ) (names : List Name) (a : Emitter) (i₀ n₀ p₀ : ℕ) (b : Emitter) (i n p : ℕ) : Type 0 where
  pub branches : BranchesLowerable d n t p
  pub next : (branches_at d n t p).end ≡ (branches_at d n₀ t p₀).end
  pub limits : limits_in b ≡ limits_in a
  pub areas : SameAreas a b
  pub left : LeftIn t a b (state_in t b)
  pub some : 0 < b.code.open
  pub chain : chain_at a.code.base names (keeping_of i) (branches_at d n t p).value (b.code.open - 1) (state_in t b)
      ≡ chain_at a.code.base names (keeping_of i₀) (branches_at d n₀ t p₀).value (a.code.open - 1) (state_in t a)
  pub spare : Spare i (loops_branches (branches_at d n t p).value)
  pub loops : after_loops i (loops_branches (branches_at d n t p).value) ≡ after_loops i₀ (loops_branches (branches_at d n₀ t p₀).value)

-- none is done yet; the count by other words
pub chain-all : {d : ℕ} {t : List ℕ} {a : Emitter} {i n p : ℕ} (names : List Name) (m : ℕ) → n ≡ m → SoundIn t a → BranchesLowerable d n t p → 0 < a.code.open
    → Spare i (loops_branches (branches_at d n t p).value) → ChainRest d t names a i n p a i m p
chain-all {d} {t} {a} {i} {n} {p} names m e S r h s = subst (λ (k : ℕ). ChainRest d t names a i n p a i k p) e (record {
  branches = r;
  next = refl;
  limits = refl;
  areas = areas-none;
  left = left-itself S;
  some = h;
  chain = refl;
  spare = s;
  loops = refl;
})

module _ {d : ℕ} {t : List ℕ} {names : List Name} {a : Emitter} {i₀ n₀ p₀ : ℕ} {b : Emitter} {i n p : ℕ} (inv : ChainRest d t names a i₀ n₀ p₀ b i n p) where
  abbrev whole : State
  whole = chain_at a.code.base names (keeping_of i₀) (branches_at d n₀ t p₀).value (a.code.open - 1) (state_in t a)

  pub chain-sound : SoundIn t b
  chain-sound = left-sound inv.left inv.limits

  last-in : b.code.open - 1 < length (state_in t b).stack
  last-in = omega (arith, stack-long chain-sound, inv.some)

  low : a.code.base ≤ length (state_in t b).stack
  low = subst (λ (k : ℕ). k ≤ length (state_in t b).stack) inv.left.left.base (stack-low chain-sound)

  module _ (h : 0 < n) where
    abbrev x : Expr
    x = (expr_at d t p).value

    abbrev body : Block
    body = (body_at d t p).value

    abbrev m : ℕ
    m = loops_block body

    abbrev others : Branches
    others = (branches_at d (n - 1) t (body_at d t p).end).value

    more : loops_branches (branches_at d n t p).value ≡ m + loops_branches others
    more = elifs-loops d t h inv.branches.reads

    both : Spare i (m + loops_branches others)
    both = subst (Spare i) more inv.spare

    pub chain-spare : Spare i m
    chain-spare = spare-first i m (loops_branches others) both

    split : chain_at a.code.base names (keeping_of i) (when x body others) (b.code.open - 1) (state_in t b) ≡ whole
    split = ap (λ (y : Branches). chain_at a.code.base names (keeping_of i) y (b.code.open - 1) (state_in t b)) (sym (elifs-is d t n p h inv.branches).0) ∙ inv.chain

    -- the state with the branch
    abbrev v : State
    v = emit_at a.code.base (branch names (keeping_of i) x body) (state_in t b)

    based : emit_at b.code.base (branch names (keeping_of i) x body) (state_in t b) ≡ v
    based = ap (λ (k : ℕ). emit_at k (branch names (keeping_of i) x body) (state_in t b)) inv.left.left.base

    module _ {r : Option ℕ} {c : Emitter} (e : EmitsTo r (branch names (keeping_of i) x body) (body_at d t p).end t b c) where
      pub chain-over : {r' : Option ℕ} {next i' : ℕ} → r ≡ None → r' ≡ None → NextIs r' next × Reaches r' t a c whole × Passes r' i₀ i' (loops_branches (branches_at d n₀ t p₀).value)
      chain-over z y = (
        next-none y,
        reaches-full inv.limits inv.areas z y e.lowers.reaches
            (λ w. subst (WithinLimits (limits_in a)) (sym based) (within-chain-when a.code.base names (keeping_of i) x body others (b.code.open - 1) (state_in t b) low last-in (subst (WithinLimits (limits_in a)) (sym split) w))),
        passes_over y,
      )

      module _ {q : ℕ} (z : r ≡ Some q) where
        c-open : c.code.open ≡ length v.stack
        c-open = open-left (e.lowers.reaches.done q z) ∙ ap (λ (u : State). length u.stack) based

        -- there is the jump to set, and one more
        pub chain-longer : b.code.open < c.code.open
        chain-longer = omega (arith, c-open, stack-long chain-sound, branch-long names (keeping_of i) x body a.code.base (state_in t b))

        -- the count by other words
        pub chain_next : {code : Code} {i' : ℕ} (k : ℕ) → n - 1 ≡ k → Passes r i i' m → SetsJump (b.code.open - 1) 28 (c.code.open - 1 - b.code.open) c.code code
            → ChainRest d t names a i₀ n₀ p₀ (beside code c.tables) i' k q
        chain_next {code} {i'} k f passed j =
            let there = e.place q z in
            let done = e.lowers.reaches.done q z in
            let S = sound-next z e.lowers.reaches in
            let jump = jump-in (b.code.open - 1) S (omega (arith, chain-longer)) (omega (arith, S.sound.words, S.sound.limited.instructions)) j in
            let long = stack-long chain-sound in
            let moved = passed.at q z in
            let keeping : past m (keeping_of i) ≡ keeping_of i' = sym (ap keeping_of moved ∙ keeping-past i m chain-spare) in
            let left : loops_branches others ≡ loops_branches (branches_at d (n - 1) t q).value = ap (λ (u : ℕ). loops_branches (branches_at d (n - 1) t u).value) (sym there) in
            let over : c.code.open - 1 - b.code.open ≡ length v.stack - 1 - length (state_in t b).stack = omega (arith, c-open, long) in
            let last : code.open - 1 ≡ length v.stack - 1 = omega (arith, j.size, c-open) in
            let state : state_in t (beside code c.tables) ≡ set_at (b.code.open - 1) (Jump (length v.stack - 1 - length (state_in t b).stack)) v =
            jump.left.state ∙ (λ u. set_at (b.code.open - 1) (instr 28 (over u) 0) ((done.left.state ∙ based) u)) in
            subst (λ (u : ℕ). ChainRest d t names a i₀ n₀ p₀ (beside code c.tables) i' u q) f (record {
              branches = elifs-at d (n - 1) (n - 1) t (body_at d t p).end q refl there (elifs-more d t n p h inv.branches).1;
              next = elifs-end d (n - 1) t (body_at d t p).end q there ∙ sym (elifs-is d t n p h inv.branches).1 ∙ inv.next;
              limits = jump-limits c j ∙ e.lowers.reaches.limits ∙ inv.limits;
              areas = areas-after (areas-after inv.areas e.lowers.reaches.areas) (jump-areas c j);
              left = left-own (left-next (e.lowers.reaches.limits ∙ inv.limits) (left-next inv.limits inv.left done) jump);
              some = omega (arith, j.size, chain-longer);
              chain = (λ u. chain_at a.code.base names (sym keeping u) (branches_at d (n - 1) t (there u)).value (last u) (state u))
                  ∙ sym (chain-when a.code.base names (keeping_of i) x body (state_in t b) low others (b.code.open - 1) v last-in refl) ∙ split;
              spare = subst (λ (u : ℕ). Spare u (loops_branches (branches_at d (n - 1) t q).value)) (sym moved) (subst (Spare (after_loops i m)) left (spare-rest i m (loops_branches others) both));
              loops = (λ u. after_loops (moved u) (sym left u)) ∙ after-sum i m (loops_branches others) both ∙ ap (after_loops i) (sym more) ∙ inv.loops;
            })

  module _ (h : n ≤ 0) where
    none : branches_at d 0 t p ≡ branches_at d n t p
    none = elifs-zero d t n p h

    pub chain-rest : Spare i (loops_branches (branches_at d 0 t p).value)
    chain-rest = subst (λ (y : Node Branches). Spare i (loops_branches y.value)) (sym none) inv.spare

    pub chain-last : {r : Option ℕ} {c : Emitter} {i' : ℕ}
        → NextIs r (branches_at d 0 t p).end × Reaches r t b c (chain_at b.code.base names (keeping_of i) (branches_at d 0 t p).value (b.code.open - 1) (state_in t b)) × Passes r i i' (loops_branches (branches_at d 0 t p).value)
        → NextIs r (branches_at d n₀ t p₀).end × Reaches r t a c whole × Passes r i₀ i' (loops_branches (branches_at d n₀ t p₀).value)
    chain-last y =
        let here : Reaches (Some p) t a b (state_in t b) = reached_by p inv.limits inv.areas inv.left in (
          (λ k z. y.0 k z ∙ (λ j. (none j).end) ∙ inv.next),
          reaches-after {x = p} refl here
              (reaches_as ((λ j. chain_at (inv.left.left.base j) names (keeping_of i) (none j).value (b.code.open - 1) (state_in t b)) ∙ inv.chain) y.1),
          record { at = λ k z. y.2.at k z ∙ (λ j. after_loops i (loops_branches (none j).value)) ∙ inv.loops },
        )

-- ---- the else block, or none

module _ {t : List ℕ} {a : Emitter} {d at : ℕ} (names : List Name) (keep : Keeping) (S : SoundIn t a) (some : 0 < a.code.open) (low : BranchesLowerable d 0 t at) where
  abbrev else-want : State
  else-want = chain_at a.code.base names keep (branches_at d 0 t at).value (a.code.open - 1) (state_in t a)

  to-jump : a.code.open - 1 < length (state_in t a).stack
  to-jump = omega (arith, stack-long S, some)

  pub else-none : {code : Code} → get_or t at 0 ≡ 0 → SetsJump (a.code.open - 1) 28 0 a.code code → NextIs (Some (at + 1)) (branches_at d 0 t at).end × Reaches (Some (at + 1)) t a (beside code a.tables) else-want
  else-none z j =
      let n = none_is d t at low z in
      let b = a.code.base in (
        (λ k q. sym (some-is q) ∙ sym (λ i. (n i).end)),
        reached_by (at + 1) (jump-limits a j) (jump-areas a j)
            (left-by (jump-in (a.code.open - 1) S (omega (arith, some)) (omega arith) j)
            (sym ((λ i. chain_at b names keep (n i).value (a.code.open - 1) (state_in t a)) ∙ chain-done b names keep (a.code.open - 1) (state_in t a)))),
      )

  module _ {b : Emitter} {r : Option ℕ} (o : get_or t at 0 ≡ 0 → ⊥) (h : EmitsTo r (block_code d t names keep (at + 1)) (block_at d t (at + 1)).end t a b) where
    is : (branches_at d 0 t at).value ≡ else (block_at d t (at + 1)).value
    is = else-value d t (branches_at d 0 t at) (at + 1) (else-parts d t at low (else-one d t at low o)).1

    wanted : else-want ≡ chain_at a.code.base names keep (else (block_at d t (at + 1)).value) (a.code.open - 1) (state_in t a)
    wanted = ap (λ (y : Branches). chain_at a.code.base names keep y (a.code.open - 1) (state_in t a)) is

    pub else-over : {q : Option ℕ} → r ≡ None → q ≡ None → Reaches q t a b else-want
    else-over z n = reaches-full refl areas-none z n h.lowers.reaches (λ w. within-chain-else a.code.base names keep (block_at d t (at + 1)).value (a.code.open - 1) (state_in t a) to-jump (subst (WithinLimits (limits_in a)) wanted w))

    module _ {n : ℕ} (z : r ≡ Some n) where
      abbrev elsewhere : State
      elsewhere = emit_at a.code.base (block_code d t names keep (at + 1)) (state_in t a)

      b-open : b.code.open ≡ length elsewhere.stack
      b-open = open-left (h.lowers.reaches.done n z)

      pub else-longer : a.code.open ≤ b.code.open
      else-longer = omega (arith, b-open, stack-grows a.code.base (block_code d t names keep (at + 1)) (state_in t a), stack-long S)

      pub else-done : {code : Code} → SetsJump (a.code.open - 1) 28 (b.code.open - a.code.open) b.code code → NextIs (Some n) (branches_at d 0 t at).end × Reaches (Some n) t a (beside code b.tables) else-want
      else-done {code} j =
          let S₁ = sound-next z h.lowers.reaches in
          let done = h.lowers.reaches.done n z in
          let over : b.code.open - a.code.open ≡ length elsewhere.stack - length (state_in t a).stack = omega (arith, b-open, stack-long S) in (
            (λ k q. sym (some-is q) ∙ h.place n z ∙ sym (else-ends d t (branches_at d 0 t at) (at + 1) (else-parts d t at low (else-one d t at low o)).1)),
            reached_by n (jump-limits b j ∙ h.lowers.reaches.limits) (areas-after h.lowers.reaches.areas (jump-areas b j))
                (left-by (left-next h.lowers.reaches.limits done (jump-in (a.code.open - 1) S₁ (omega (arith, else-longer, some)) (omega (arith, S₁.sound.words, S₁.sound.limited.instructions)) j))
                ((λ i. set_at (a.code.open - 1) (instr 28 (over i) 0) (done.left.state i))
                ∙ sym (wanted ∙ chain-else a.code.base names keep (block_at d t (at + 1)).value (a.code.open - 1) (state_in t a) elsewhere to-jump refl))),
          )

-- ---- a for

-- by another word for the position
pub iterable-by : {r : Option ℕ} {a b : Emitter} (d : ℕ) (t : List ℕ) (names : List Name) {p q : ℕ} → q ≡ p
    → EmitsTo r (expr_code d t names q ⨟ make_iter) (expr_at d t q).end t a b → EmitsTo r (expr_code d t names p ⨟ make_iter) (expr_at d t p).end t a b
iterable-by d t names e h = emits-by h (ap (λ (x : ℕ). expr_code d t names x ⨟ make_iter) (sym e)) (ap (λ (x : ℕ). (expr_at d t x).end) e)

module _ {t : List ℕ} {a a₁ : Emitter} {p : Option ℕ} {n : ℕ} (names : List Name) (i : ℕ) (e : Expr) (x : Name) (b : Block) (S : SoundIn t a) (g : EmitsTo p (emit_expr names e ⨟ make_iter) n t a a₁) where
  abbrev keep : Keeping
  keep = keeping_of i

  pub for-stopped : {q : Option ℕ} {next : ℕ} → p ≡ None → q ≡ None → EmitsTo q (emit_stmt names keep (for x e b)) next t a a₁
  for-stopped z y = emits-full refl areas-none z y g.lowers.reaches (iterable-within names keep x e b a.code.base (state_in t a) (stack-low S))

  module _ {k : ℕ} (y : p ≡ Some k) {a₂ : Emitter} {i₁ : ℕ} {r : Option ℕ} (h : StoresIterator r keep t a₁ a₂ × (i₁ ≡ after_loops i 1)) where
    pub for-over : {q : Option ℕ} {next : ℕ} → r ≡ None → q ≡ None → EmitsTo q (emit_stmt names keep (for x e b)) next t a a₂
    for-over z u = emits-full g.lowers.reaches.limits g.lowers.reaches.areas z u h.0.reaches.reaches (for-within S names keep x e b (g.lowers.reaches.done k y))

    module _ {w : ℕ} (z : r ≡ Some w) where
      pub for-sound : SoundIn t a₂
      for-sound = sound-next z h.0.reaches.reaches

      pub for-loads : Loads w (keeper_of w)
      for-loads = loads-self (h.0.loads w z)

      module _ (s : Spare i (1 + loops_block b)) where
        pub for-spare : Spare i₁ (loops_block b)
        for-spare = subst (λ (m : ℕ). Spare m (loops_block b)) (sym h.1) (spare-rest i 1 (loops_block b) s)

        pub for-passes : {i₂ : ℕ} {r₃ : Option ℕ} → Passes r₃ i₁ i₂ (loops_block b) → Passes r₃ i i₂ (1 + loops_block b)
        for-passes u = record { at = λ m q. u.at m q ∙ ap (λ (m : ℕ). after_loops m (loops_block b)) h.1 ∙ after-sum i 1 (loops_block b) s }

        pub for-done : {a₃ : Emitter} {r₃ : Option ℕ} {m next : ℕ} {b' : Block} → b' ≡ b → m ≡ next
            → EmitsTo r₃ (loop (ask_iter (keeper_of w)) (take_iter names x (keeper_of w) ⨟ emit_block names (keeping_of i₁) b')) m t a₂ a₃ → EmitsTo r₃ (emit_stmt names keep (for x e b)) next t a a₃
        for-done {b' = b'} u v f = record {
          place = λ j q. f.place j q ∙ v;
          lowers = record {
            reaches = reaches_as
                (for-is S names keep x e b (g.lowers.reaches.done k y) (keeper_of w) b' (keeping_of i₁) (h.0.loads w z).keeper (h.0.reaches.reaches.done w z) u
                (ap keeping_of h.1 ∙ keeping-past i 1 (spare-first i 1 (loops_block b) s)))
                (reaches-after y g.lowers.reaches (reaches-after z h.0.reaches.reaches f.lowers.reaches));
          };
        }
