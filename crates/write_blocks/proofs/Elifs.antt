-- Elifs one after the other: what is left to write at the loop's head gives what the whole gives.
use Prim.Native.Nat.{ℕ, ◌+◌, ◌-◌, ◌≤◌, ◌<◌}
use mathlib.Core.Path.{◌≡◌, refl, sym, ap, subst, ◌∙◌}
use mathlib.Core.List.{List}
use native.Mathlib.Omega.{arith}
use Rattle.std.specs.Prelude.{Option, Some, None}
use Rattle.definitions.specs.Bytes.{Name}
use Rattle.definitions.specs.Tree.{Expr, Block, Branches, when}
use Rattle.definitions.specs.Tables.{Emit, one}
use Rattle.definitions.specs.Instruction.{Jump}
use Rattle.definitions.specs.Slots.{Keeping, past, loops_block, loops_branches}
use Rattle.definitions.specs.Measured.{so_far, measure_expr, measure_block}
use Rattle.tree_view.specs.ExprAt.{expr_at}
use Rattle.tree_view.specs.Places.{Node}
use Rattle.tree_view.specs.StmtAt.{body_at, branches_at}
use Rattle.tree_view.proofs.LoopsAt.{elifs-loops}
use Rattle.state.specs.State.{State, emit_at}
use Rattle.state.specs.Kept.{keeping_of, after_loops, Spare, Passes}
use Rattle.state.proofs.Kept.{passes_over, after-sum, spare-first, spare-rest, keeping-past}
use Rattle.state.proofs.Emission.{stack-grows}
use Rattle.measure_stmts.specs.Heads.{heads_block}
use Rattle.lower_forms.specs.Lowering.{BranchLowerable, BranchesLowerable}
use Rattle.lower_forms.proofs.StmtArms.{elifs-more, elifs-is, elifs-zero}
use Rattle.lower_forms.proofs.Sequences.{elifs-at, elifs-end}
use Rattle.lower_emit.specs.declared.emitter.Emitter.{Emitter}
use Rattle.lower_emit.specs.Emitting.{limits_in, state_in, SoundIn, SameAreas, LeftIn, LowersIn, EmitsTo}
use Rattle.lower_emit.proofs.Steps.{areas-none, areas-after, left-next, reaches_as, reaches-after}
use Rattle.lower_emit.proofs.Parts.{emits-by}
use Rattle.lower_blocks.proofs.Between.{stack-long, left-itself, open-left, left-own, left-sound, reached_by}
use Rattle.write_blocks.specs.declared.Loop.{Loop}
use Rattle.write_blocks.specs.Written.{Started, branch_written, rest_written}
use Rattle.write_blocks.specs.Sizes.{Fits}
use Rattle.write_blocks.proofs.Branches.{AskedBranches, elif-long, elif-full, elif-over, elif-left, elif-rest}
use Rattle.write_blocks.proofs.Asked.{asked-branch, asked-branches}

-- the code of so many elifs at p and of what comes after them
abbrev pub elifs_written : ℕ → ℕ → List ℕ → List Name → Keeping → Loop → ℕ → Emit
elifs_written d n t names keep w p = rest_written names keep w (branches_at d n t p).value

-- a is the emitter before the elifs, of which n from p on are left; i tells where their loops keep their iterators
pub record ElifsRest (d : ℕ) (t : List ℕ) (names : List Name) (w : Loop) (a : Emitter) (i₀ n₀ p₀ : ℕ) (b : Emitter) (i n p : ℕ) : Type 0 where
  pub branches : BranchesLowerable d n t p
  pub next : (branches_at d n t p).end ≡ (branches_at d n₀ t p₀).end
  pub limits : limits_in b ≡ limits_in a
  pub areas : SameAreas a b
  pub left : LeftIn t a b (state_in t b)
  pub started : Started w b
  pub code : emit_at a.code.base (elifs_written d n t names (keeping_of i) w p) (state_in t b) ≡ emit_at a.code.base (elifs_written d n₀ t names (keeping_of i₀) w p₀) (state_in t a)
  pub spare : Spare i (loops_branches (branches_at d n t p).value)
  pub loops : after_loops i (loops_branches (branches_at d n t p).value) ≡ after_loops i₀ (loops_branches (branches_at d n₀ t p₀).value)

-- none is done yet; the count by other words
pub elifs-all : {d : ℕ} {t : List ℕ} {w : Loop} {a : Emitter} {i n p : ℕ} (names : List Name) (m : ℕ) → n ≡ m → SoundIn t a → BranchesLowerable d n t p → Started w a
    → Spare i (loops_branches (branches_at d n t p).value) → ElifsRest d t names w a i n p a i m p
elifs-all {d} {t} {w} {a} {i} {n} {p} names m e S r g s = subst (λ (k : ℕ). ElifsRest d t names w a i n p a i k p) e (record {
  branches = r;
  next = refl;
  limits = refl;
  areas = areas-none;
  left = left-itself S;
  started = g;
  code = refl;
  spare = s;
  loops = refl;
})

module _ {d : ℕ} {t : List ℕ} {names : List Name} {w : Loop} {a : Emitter} {i₀ n₀ p₀ : ℕ} {b : Emitter} {i n p : ℕ} (inv : ElifsRest d t names w a i₀ n₀ p₀ b i n p) where
  pub elifs-sound : SoundIn t b
  elifs-sound = left-sound inv.left inv.limits

  abbrev whole : State
  whole = emit_at a.code.base (elifs_written d n₀ t names (keeping_of i₀) w p₀) (state_in t a)

  -- what is left is written, or over the limits
  pub elifs-on : {r : Option ℕ} {c : Emitter} {i' : ℕ}
      → EmitsTo r (elifs_written d n t names (keeping_of i) w p) (branches_at d n t p).end t b c × Passes r i i' (loops_branches (branches_at d n t p).value)
      → EmitsTo r (elifs_written d n₀ t names (keeping_of i₀) w p₀) (branches_at d n₀ t p₀).end t a c × Passes r i₀ i' (loops_branches (branches_at d n₀ t p₀).value)
  elifs-on h = (
    record {
      place = λ k z. h.0.place k z ∙ inv.next;
      lowers = record {
        reaches = reaches-after {x = p} refl (reached_by p inv.limits inv.areas inv.left)
            (reaches_as (ap (λ (k : ℕ). emit_at k (elifs_written d n t names (keeping_of i) w p) (state_in t b)) inv.left.left.base ∙ inv.code) h.0.lowers.reaches);
      };
    },
    record { at = λ x z. h.1.at x z ∙ inv.loops },
  )

  module _ (h : 0 < n) where
    abbrev m : ℕ
    m = loops_block (body_at d t p).value

    abbrev others : Branches
    others = (branches_at d (n - 1) t (body_at d t p).end).value

    elifs-when : (branches_at d n t p).value ≡ when (expr_at d t p).value (body_at d t p).value others
    elifs-when = (elifs-is d t n p h inv.branches).0

    more : loops_branches (branches_at d n t p).value ≡ m + loops_branches others
    more = elifs-loops d t h inv.branches.reads

    both : Spare i (m + loops_branches others)
    both = subst (Spare i) more inv.spare

    pub elifs-spare : Spare i m
    elifs-spare = spare-first i m (loops_branches others) both

    -- the count by other words
    elifs-to : {q : ℕ} {c : Emitter} {i' : ℕ} (k : ℕ) → n - 1 ≡ k → q ≡ (body_at d t p).end → i' ≡ after_loops i m → limits_in c ≡ limits_in b → SameAreas b c
        → LeftIn t b c (state_in t c) → b.code.open ≤ c.code.open
        → emit_at b.code.base (rest_written names (past m (keeping_of i)) w others) (state_in t c) ≡ emit_at b.code.base (rest_written names (keeping_of i) w (when (expr_at d t p).value (body_at d t p).value others)) (state_in t b)
        → ElifsRest d t names w a i₀ n₀ p₀ c i' k q
    elifs-to {q} {c} {i'} k f there moved limits areas done long code =
        let keeping : past m (keeping_of i) ≡ keeping_of i' = sym (ap keeping_of moved ∙ keeping-past i m elifs-spare) in
        let left : loops_branches others ≡ loops_branches (branches_at d (n - 1) t q).value = ap (λ (u : ℕ). loops_branches (branches_at d (n - 1) t u).value) (sym there) in
        let based = inv.left.left.base in
        subst (λ (u : ℕ). ElifsRest d t names w a i₀ n₀ p₀ c i' u q) f (record {
          branches = elifs-at d (n - 1) (n - 1) t (body_at d t p).end q refl there (elifs-more d t n p h inv.branches).1;
          next = elifs-end d (n - 1) t (body_at d t p).end q there ∙ sym (elifs-is d t n p h inv.branches).1 ∙ inv.next;
          limits = limits ∙ inv.limits;
          areas = areas-after inv.areas areas;
          left = left-own (left-next inv.limits inv.left done);
          started = omega (arith, done.left.base, long, inv.started);
          code = (λ u. emit_at (sym based u) (rest_written names (sym keeping u) w (branches_at d (n - 1) t (there u)).value) (state_in t c)) ∙ code
              ∙ (λ u. emit_at (based u) (rest_written names (keeping_of i) w (sym elifs-when u)) (state_in t b)) ∙ inv.code;
          spare = subst (λ (u : ℕ). Spare u (loops_branches (branches_at d (n - 1) t q).value)) (sym moved) (subst (Spare (after_loops i m)) left (spare-rest i m (loops_branches others) both));
          loops = (λ u. after_loops (moved u) (sym left u)) ∙ after-sum i m (loops_branches others) both ∙ ap (after_loops i) (sym more) ∙ inv.loops;
        })

  module _ (h : 0 < n) where
    abbrev condition : Expr
    condition = (expr_at d t p).value

    abbrev body : Block
    body = (body_at d t p).value

    abbrev rest : Branches
    rest = (branches_at d (n - 1) t (body_at d t p).end).value

    -- an elif's size, in the state before its end jump
    abbrev pub elif-size : ℕ
    elif-size = measure_expr names (so_far (state_in t b).tables) condition + (measure_block names (so_far (state_in t b).tables) body + 2)

    parts : BranchLowerable d t p × BranchesLowerable d (n - 1) t (body_at d t p).end
    parts = elifs-more d t n p h inv.branches

    stop : {r : Option ℕ} {c : Emitter} {i' : ℕ} → r ≡ None → EmitsTo r (rest_written names (keeping_of i) w (when condition body rest)) (branches_at d n t p).end t b c
        → EmitsTo r (elifs_written d n₀ t names (keeping_of i₀) w p₀) (branches_at d n₀ t p₀).end t a c × Passes r i₀ i' (loops_branches (branches_at d n₀ t p₀).value)
    stop z e = elifs-on (emits-by e (ap (λ (y : Branches). rest_written names (keeping_of i) w y) (elifs-when h)) refl, passes_over z)

    pub elifs-long : {o l : Option ℕ} {i' limit : ℕ} → Fits l (heads_block body) elif-size limit → limit ≡ b.code.limit → l ≡ None → o ≡ None
        → EmitsTo o (elifs_written d n₀ t names (keeping_of i₀) w p₀) (branches_at d n₀ t p₀).end t a b × Passes o i₀ i' (loops_branches (branches_at d n₀ t p₀).value)
    elifs-long F e y u =
        stop u (elif-long elifs-sound names (keeping_of i) w (asked-branch parts.0) (asked-branches parts.1) (subst AskedBranches (elifs-when h) (asked-branches inv.branches)) F e y u)

    module _ {k : ℕ} (e : k ≡ elif-size) {A : Type 0} {u : Option A} {b₁ : Emitter} (j : LowersIn u (one (Jump (k - 1))) t b b₁) where
      pub elifs-full : {o : Option ℕ} {i' : ℕ} → u ≡ None → o ≡ None
          → EmitsTo o (elifs_written d n₀ t names (keeping_of i₀) w p₀) (branches_at d n₀ t p₀).end t a b₁ × Passes o i₀ i' (loops_branches (branches_at d n₀ t p₀).value)
      elifs-full y v = stop v (elif-full elifs-sound names (keeping_of i) w (asked-branch parts.0) (asked-branches parts.1) e j y v)

      module _ {y : A} (v : u ≡ Some y) {r : Option ℕ} {b₂ : Emitter} (g : EmitsTo r (branch_written names (keeping_of i) w condition body) (body_at d t p).end t b₁ b₂) where
        pub elifs-over : {o : Option ℕ} {i' : ℕ} → r ≡ None → o ≡ None
            → EmitsTo o (elifs_written d n₀ t names (keeping_of i₀) w p₀) (branches_at d n₀ t p₀).end t a b₂ × Passes o i₀ i' (loops_branches (branches_at d n₀ t p₀).value)
        elifs-over z f = stop f (elif-over elifs-sound names (keeping_of i) w (asked-branch parts.0) (asked-branches parts.1) e j v g z f)

        -- the count by other words
        pub elifs-next : {q i' : ℕ} (m : ℕ) → n - 1 ≡ m → r ≡ Some q → Passes r i i' (loops_block body) → ElifsRest d t names w a i₀ n₀ p₀ b₂ i' m q
        elifs-next m f z passed =
            let L = elif-left elifs-sound names (keeping_of i) w (asked-branch parts.0) (asked-branches parts.1) e j v g z in
            let s = state_in t b in
            let J = one (Jump (k - 1)) in
            elifs-to h m f (g.place _ z) (passed.at _ z) (g.lowers.reaches.limits ∙ j.reaches.limits) (areas-after j.reaches.areas g.lowers.reaches.areas) (left-own L)
            (omega (arith, open-left L, stack-grows b.code.base (branch_written names (keeping_of i) w condition body) (emit_at b.code.base J s), stack-grows b.code.base J s, stack-long elifs-sound))
            (elif-rest elifs-sound names (keeping_of i) w (asked-branch parts.0) (asked-branches parts.1) e j v g z)

  module _ (h : n ≤ 0) where
    none : branches_at d 0 t p ≡ branches_at d n t p
    none = elifs-zero d t n p h

    pub elifs-rest : Spare i (loops_branches (branches_at d 0 t p).value)
    elifs-rest = subst (λ (y : Node Branches). Spare i (loops_branches y.value)) (sym none) inv.spare

    pub elifs-last : {r : Option ℕ} {c : Emitter} {i' : ℕ}
        → EmitsTo r (elifs_written d 0 t names (keeping_of i) w p) (branches_at d 0 t p).end t b c × Passes r i i' (loops_branches (branches_at d 0 t p).value)
        → EmitsTo r (elifs_written d n₀ t names (keeping_of i₀) w p₀) (branches_at d n₀ t p₀).end t a c × Passes r i₀ i' (loops_branches (branches_at d n₀ t p₀).value)
    elifs-last {r} {c} {i'} y = elifs-on (subst (λ (x : Node Branches). EmitsTo r (rest_written names (keeping_of i) w x.value) x.end t b c × Passes r i i' (loops_branches x.value)) none y)
