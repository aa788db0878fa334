-- Statements one after the other: what is left to emit at the loop's head gives what the whole gives.
use Prim.Native.Nat.{ℕ, ◌+◌, ◌-◌, ◌≤◌, ◌<◌}
use mathlib.Core.Path.{◌≡◌, refl, sym, ap, subst, ◌∙◌}
use mathlib.Core.List.{List}
use lib.ListN.{length}
use Rattle.std.specs.Prelude.{Option, Some, None}
use Rattle.definitions.specs.Bytes.{Name}
use Rattle.definitions.specs.Tables.{Emit}
use Rattle.definitions.specs.Slots.{Keeping, past, loops_stmt, loops_block}
use Rattle.tree_view.specs.Places.{count_at}
use Rattle.tree_view.specs.StmtAt.{stmt_at, block_at, stmts_at}
use Rattle.tree_view.proofs.LoopsAt.{loops-at, stmts-loops, none-loops}
use Rattle.state.specs.State.{State, emit_at, WithinLimits}
use Rattle.state.specs.Kept.{keeping_of, after_loops, Spare, Passes}
use Rattle.state.proofs.Kept.{after_none, after-sum, spare-first, spare-rest, keeping-past, passes_over}
use Rattle.state.proofs.Emission.{at-seq, at-nothing}
use Rattle.definitions.proofs.Growth.{lengthens-block}
use Rattle.state.proofs.Within.{within-down}
use Rattle.lower_forms.specs.Lowering.{BlockLowerable, StmtsLowerable, stmt_code, block_code, stmts_code}
use Rattle.lower_forms.proofs.StmtArms.{block-code, block-parts, stmts-more, stmts-code, stmts-none}
use Rattle.lower_emit.specs.declared.emitter.Emitter.{Emitter}
use Rattle.lower_emit.specs.Emitting.{limits_in, state_in, SoundIn, SameAreas, LeftIn, EmitsTo}
use Rattle.lower_emit.proofs.Steps.{areas-none, areas-after, left-next, some-is}
use Rattle.lower_emit.proofs.Parts.{emits-by}
use Rattle.lower_blocks.proofs.Between.{stack-low, left-itself, left-own, left-by, left-sound, reached_by, emits-full}

-- so many loops by other words
pub passes-by : {A : Type 0} {r : Option A} {i i' m n : ℕ} → m ≡ n → Passes r i i' m → Passes r i i' n
passes-by {i = i} e p = record { at = λ x z. p.at x z ∙ ap (after_loops i) e }

-- a is the emitter before the statements, of which n from p on are left; i tells where their loops keep their iterators
pub record StmtsRest (d : ℕ) (t : List ℕ) (names : List Name) (a : Emitter) (i₀ n₀ p₀ : ℕ) (b : Emitter) (i n p : ℕ) : Type 0 where
  pub stmts : StmtsLowerable d n t p
  pub next : (stmts_at d n t p).end ≡ (stmts_at d n₀ t p₀).end
  pub limits : limits_in b ≡ limits_in a
  pub areas : SameAreas a b
  pub left : LeftIn t a b (state_in t b)
  pub code : emit_at a.code.base (stmts_code d n t names (keeping_of i) p) (state_in t b) ≡ emit_at a.code.base (stmts_code d n₀ t names (keeping_of i₀) p₀) (state_in t a)
  pub spare : Spare i (loops_block (stmts_at d n t p).value)
  pub loops : after_loops i (loops_block (stmts_at d n t p).value) ≡ after_loops i₀ (loops_block (stmts_at d n₀ t p₀).value)

-- none is done yet; the count by other words
pub stmts-all : {d : ℕ} {t : List ℕ} {a : Emitter} {i n p : ℕ} (names : List Name) (m : ℕ) → n ≡ m → SoundIn t a → StmtsLowerable d n t p
    → Spare i (loops_block (stmts_at d n t p).value) → StmtsRest d t names a i n p a i m p
stmts-all {d} {t} {a} {i} {n} {p} names m e S r s = subst (λ (k : ℕ). StmtsRest d t names a i n p a i k p) e (record {
  stmts = r;
  next = refl;
  limits = refl;
  areas = areas-none;
  left = left-itself S;
  code = refl;
  spare = s;
  loops = refl;
})

module _ {d : ℕ} {t : List ℕ} {names : List Name} {a : Emitter} {i₀ n₀ p₀ : ℕ} {b : Emitter} {i n p : ℕ} (inv : StmtsRest d t names a i₀ n₀ p₀ b i n p) where
  pub stmts-sound : SoundIn t b
  stmts-sound = left-sound inv.left inv.limits

  abbrev whole : State
  whole = emit_at a.code.base (stmts_code d n₀ t names (keeping_of i₀) p₀) (state_in t a)

  module _ (h : 0 < n) where
    abbrev m : ℕ
    m = loops_stmt (stmt_at d t p).value

    abbrev rest : ℕ
    rest = loops_block (stmts_at d (n - 1) t (stmt_at d t p).end).value

    abbrev first : Emit
    first = stmt_code d t names (keeping_of i) p

    abbrev others : Emit
    others = stmts_code d (n - 1) t names (past m (keeping_of i)) (stmt_at d t p).end

    both : Spare i (m + rest)
    both = subst (Spare i) (stmts-loops d t h inv.stmts.reads) inv.spare

    pub stmts-spare : Spare i m
    stmts-spare = spare-first i m rest both

    low : a.code.base ≤ length (state_in t b).stack
    low = subst (λ (k : ℕ). k ≤ length (state_in t b).stack) inv.left.left.base (stack-low stmts-sound)

    split : emit_at a.code.base others (emit_at a.code.base first (state_in t b)) ≡ whole
    split = sym (ap (λ (e : Emit). emit_at a.code.base e (state_in t b)) (stmts-code d t names (keeping_of i) n p h inv.stmts).0 ∙ at-seq a.code.base first others (state_in t b) low) ∙ inv.code

    based : emit_at b.code.base first (state_in t b) ≡ emit_at a.code.base first (state_in t b)
    based = ap (λ (k : ℕ). emit_at k first (state_in t b)) inv.left.left.base

    module _ {r : Option ℕ} {c : Emitter} {i' : ℕ} (e : EmitsTo r first (stmt_at d t p).end t b c) where
      pub stmts-over : {r' : Option ℕ} {next : ℕ} → r ≡ None → r' ≡ None
          → EmitsTo r' (stmts_code d n₀ t names (keeping_of i₀) p₀) next t a c × Passes r' i₀ i' (loops_block (stmts_at d n₀ t p₀).value)
      stmts-over z y = (
        emits-full inv.limits inv.areas z y e.lowers.reaches
            (λ w. subst (WithinLimits (limits_in a)) (sym based) (within-down a.code.base _ (lengthens-block names (past m (keeping_of i)) _) (subst (WithinLimits (limits_in a)) (sym split) w))),
        passes_over y,
      )

      -- the count by other words
      pub stmts-next : {q : ℕ} (k : ℕ) → n - 1 ≡ k → r ≡ Some q → Passes r i i' m → StmtsRest d t names a i₀ n₀ p₀ c i' k q
      stmts-next {q} k f z passed =
          let there = e.place q z in
          let done = e.lowers.reaches.done q z in
          let g = stmts-more d t n p h inv.stmts in
          let moved = passed.at q z in
          let keeping : past m (keeping_of i) ≡ keeping_of i' = sym (ap keeping_of moved ∙ keeping-past i m stmts-spare) in
          let left : rest ≡ loops_block (stmts_at d (n - 1) t q).value = ap (λ (x : ℕ). loops_block (stmts_at d (n - 1) t x).value) (sym there) in
          subst (λ (x : ℕ). StmtsRest d t names a i₀ n₀ p₀ c i' x q) f (record {
            stmts = subst (StmtsLowerable d (n - 1) t) (sym there) g.1;
            next = ap (λ (x : ℕ). (stmts_at d (n - 1) t x).end) there ∙ sym (stmts-code d t names (keeping_of i) n p h inv.stmts).1 ∙ inv.next;
            limits = e.lowers.reaches.limits ∙ inv.limits;
            areas = areas-after inv.areas e.lowers.reaches.areas;
            left = left-own (left-next inv.limits inv.left done);
            code = (λ j. emit_at a.code.base (stmts_code d (n - 1) t names (sym keeping j) (there j)) ((done.left.state ∙ based) j)) ∙ split;
            spare = subst (λ (x : ℕ). Spare x (loops_block (stmts_at d (n - 1) t q).value)) (sym moved) (subst (Spare (after_loops i m)) left (spare-rest i m rest both));
            loops = (λ j. after_loops (moved j) (sym left j)) ∙ after-sum i m rest both ∙ ap (after_loops i) (sym (stmts-loops d t h inv.stmts.reads)) ∙ inv.loops;
          })

  pub stmts-done : n ≤ 0 → EmitsTo (Some p) (stmts_code d n₀ t names (keeping_of i₀) p₀) (stmts_at d n₀ t p₀).end t a b × Passes (Some p) i₀ i (loops_block (stmts_at d n₀ t p₀).value)
  stmts-done h =
      let g = stmts-none d t names (keeping_of i) n p h inv.stmts in
      let ended : state_in t b ≡ whole = sym (ap (λ (e : Emit). emit_at a.code.base e (state_in t b)) g.0 ∙ at-nothing a.code.base (state_in t b)) ∙ inv.code in (
        record {
          place = λ k z. sym (some-is z) ∙ g.1 ∙ inv.next;
          lowers = record { reaches = reached_by p inv.limits inv.areas (left-by inv.left ended) };
        },
        record { at = λ x z. sym (after_none i) ∙ ap (after_loops i) (sym (none-loops d t h inv.stmts.reads)) ∙ inv.loops },
      )

-- the statements of a block are its code
pub block-is : {r : Option ℕ} {a b : Emitter} (d : ℕ) (t : List ℕ) (names : List Name) (keep : Keeping) (p n : ℕ) → BlockLowerable d t p → n ≡ count_at t p
    → EmitsTo r (stmts_code d n t names keep (p + 2)) (stmts_at d n t (p + 2)).end t a b → EmitsTo r (block_code d t names keep p) (block_at d t p).end t a b
block-is d t names keep p n l e h = let b = block-code d t names keep p n l e in emits-by h (sym b.0) b.1

-- by another word for the position
pub block-by : {r : Option ℕ} {a b : Emitter} (d : ℕ) (t : List ℕ) (names : List Name) (keep : Keeping) {p q : ℕ} → q ≡ p
    → EmitsTo r (block_code d t names keep q) (block_at d t q).end t a b → EmitsTo r (block_code d t names keep p) (block_at d t p).end t a b
block-by d t names keep e h = emits-by h (ap (λ (x : ℕ). block_code d t names keep x) (sym e)) (ap (λ (x : ℕ). (block_at d t x).end) e)

pub spare-at : {p q i : ℕ} (d : ℕ) (t : List ℕ) → q ≡ p → Spare i (loops_block (block_at d t p).value) → Spare i (loops_block (block_at d t q).value)
spare-at {i = i} d t e s = subst (Spare i) (sym (loops-at d t e)) s

-- the statements of a block, with their count by other words
pub block-stmts : (d : ℕ) (t : List ℕ) (p n : ℕ) → BlockLowerable d t p → n ≡ count_at t p → StmtsLowerable d n t (p + 2)
block-stmts d t p n r e = subst (λ (m : ℕ). StmtsLowerable d m t (p + 2)) (sym e) (block-parts d t p r).1
