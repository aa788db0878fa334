-- Statements one after the other: what is left to write at the loop's head gives what the whole gives.
use Prim.Native.Nat.{ℕ, ◌+◌, ◌-◌, ◌≤◌, ◌<◌}
use mathlib.Core.Path.{◌≡◌, refl, sym, ap, subst, ◌∙◌}
use mathlib.Core.List.{List}
use native.Mathlib.Omega.{arith}
use lib.ListN.{length}
use Rattle.std.specs.Prelude.{Option, Some, None}
use Rattle.definitions.specs.Bytes.{Name}
use Rattle.definitions.specs.Tree.{Block}
use Rattle.definitions.specs.Tables.{Emit, ◌⨟◌}
use Rattle.definitions.specs.Slots.{Keeping, past, loops_stmt, loops_block}
use Rattle.definitions.specs.Measured as Measured
use Rattle.definitions.specs.Measured.{SoFar, measure_block, write_stmt, write_block}
use Rattle.tree_view.specs.Places.{Node, count_at}
use Rattle.tree_view.specs.StmtAt.{stmt_at, block_at, stmts_at, cons_at}
use Rattle.tree_view.proofs.StmtViews.{view-block, view-stmts-none, view-stmts-more}
use Rattle.tree_view.proofs.LoopsAt.{stmts-loops, none-loops}
use Rattle.state.specs.State.{State, emit_at, WithinLimits}
use Rattle.state.specs.Kept.{keeping_of, after_loops, Spare, Passes}
use Rattle.state.proofs.Kept.{after_none, after-sum, spare-first, spare-rest, keeping-past, passes_over}
use Rattle.state.proofs.Emission.{at-seq, at-nothing, stack-grows}
use Rattle.definitions.proofs.Growth.{Lengthens}
use Rattle.state.proofs.Within.{within-down}
use Rattle.lower_forms.specs.Lowering.{BlockLowerable, StmtsLowerable}
use Rattle.lower_forms.proofs.StmtArms.{stmts-more}
use Rattle.lower_emit.specs.declared.emitter.Emitter.{Emitter}
use Rattle.lower_emit.specs.Emitting.{limits_in, state_in, SoundIn, SameAreas, LeftIn, EmitsTo}
use Rattle.lower_emit.proofs.Steps.{areas-none, areas-after, left-next, some-is}
use Rattle.lower_emit.proofs.Parts.{emits-by}
use Rattle.lower_blocks.proofs.Between.{stack-long, stack-low, left-itself, open-left, left-own, left-by, left-sound, reached_by, emits-full}
use Rattle.write_blocks.specs.declared.Loop.{Loop}
use Rattle.measure_stmts.specs.Heads.{heads_block}
use Rattle.write_blocks.specs.Written.{loop_of, Started, KeepsWritten, stmt_written, block_written, stmts_written}
use Rattle.write_blocks.specs.Sizes.{Fits}
use Rattle.write_blocks.proofs.Growing.{grows-block}

-- the statement at p and those after it
stmts-written : (d : ℕ) (t : List ℕ) (names : List Name) (keep : Keeping) (w : Loop) (n p : ℕ) → 0 < n → StmtsLowerable d n t p
    → (stmts_written d n t names keep w p ≡ stmt_written d t names keep w p ⨟ stmts_written d (n - 1) t names (past (loops_stmt (stmt_at d t p).value) keep) w (stmt_at d t p).end)
    × ((stmts_at d n t p).end ≡ (stmts_at d (n - 1) t (stmt_at d t p).end).end)
unfolding write_stmt cons_at
stmts-written d t names keep w n p h r =
    let v = view-stmts-more d n t p h r.reads in
    (ap (λ (x : Node Block). write_block names keep (loop_of w) x.value) v.is, ap (λ (x : Node Block). x.end) v.is)

-- a is the emitter before the statements, of which n from p on are left; i tells where their loops keep their iterators
pub record StmtsRest (d : ℕ) (t : List ℕ) (names : List Name) (w : Loop) (a : Emitter) (i₀ n₀ p₀ : ℕ) (b : Emitter) (i n p : ℕ) : Type 0 where
  pub stmts : StmtsLowerable d n t p
  pub next : (stmts_at d n t p).end ≡ (stmts_at d n₀ t p₀).end
  pub limits : limits_in b ≡ limits_in a
  pub areas : SameAreas a b
  pub left : LeftIn t a b (state_in t b)
  pub started : Started w b
  pub code : emit_at a.code.base (stmts_written d n t names (keeping_of i) w p) (state_in t b) ≡ emit_at a.code.base (stmts_written d n₀ t names (keeping_of i₀) w p₀) (state_in t a)
  pub spare : Spare i (loops_block (stmts_at d n t p).value)
  pub loops : after_loops i (loops_block (stmts_at d n t p).value) ≡ after_loops i₀ (loops_block (stmts_at d n₀ t p₀).value)

-- none is done yet; the count by other words
pub stmts-all : {d : ℕ} {t : List ℕ} {w : Loop} {a : Emitter} {i n p : ℕ} (names : List Name) (m : ℕ) → n ≡ m → SoundIn t a → StmtsLowerable d n t p → Started w a
    → Spare i (loops_block (stmts_at d n t p).value) → StmtsRest d t names w a i n p a i m p
stmts-all {d} {t} {w} {a} {i} {n} {p} names m e S r g s = subst (λ (k : ℕ). StmtsRest d t names w a i n p a i k p) e (record {
  stmts = r;
  next = refl;
  limits = refl;
  areas = areas-none;
  left = left-itself S;
  started = g;
  code = refl;
  spare = s;
  loops = refl;
})

module _ {d : ℕ} {t : List ℕ} {names : List Name} {w : Loop} {a : Emitter} {i₀ n₀ p₀ : ℕ} {b : Emitter} {i n p : ℕ} (inv : StmtsRest d t names w a i₀ n₀ p₀ b i n p) where
  pub stmts-sound : SoundIn t b
  stmts-sound = left-sound inv.left inv.limits

  abbrev whole : State
  whole = emit_at a.code.base (stmts_written d n₀ t names (keeping_of i₀) w p₀) (state_in t a)

  module _ (h : 0 < n) where
    abbrev m : ℕ
    m = loops_stmt (stmt_at d t p).value

    abbrev rest : ℕ
    rest = loops_block (stmts_at d (n - 1) t (stmt_at d t p).end).value

    abbrev first : Emit
    first = stmt_written d t names (keeping_of i) w p

    abbrev others : Emit
    others = stmts_written d (n - 1) t names (past m (keeping_of i)) w (stmt_at d t p).end

    both : Spare i (m + rest)
    both = subst (Spare i) (stmts-loops d t h inv.stmts.reads) inv.spare

    pub stmts-spare : Spare i m
    stmts-spare = spare-first i m rest both

    low : a.code.base ≤ length (state_in t b).stack
    low = subst (λ (k : ℕ). k ≤ length (state_in t b).stack) inv.left.left.base (stack-low stmts-sound)

    split : emit_at a.code.base others (emit_at a.code.base first (state_in t b)) ≡ whole
    split = sym (ap (λ (e : Emit). emit_at a.code.base e (state_in t b)) (stmts-written d t names (keeping_of i) w n p h inv.stmts).0 ∙ at-seq a.code.base first others (state_in t b) low) ∙ inv.code

    based : emit_at b.code.base first (state_in t b) ≡ emit_at a.code.base first (state_in t b)
    based = ap (λ (k : ℕ). emit_at k first (state_in t b)) inv.left.left.base

    module _ {r : Option ℕ} {c : Emitter} {i' : ℕ} (e : EmitsTo r first (stmt_at d t p).end t b c) where
      pub stmts-over : {r' : Option ℕ} {next : ℕ} → r ≡ None → r' ≡ None
          → EmitsTo r' (stmts_written d n₀ t names (keeping_of i₀) w p₀) next t a c × Passes r' i₀ i' (loops_block (stmts_at d n₀ t p₀).value)
      stmts-over z y = (
        emits-full inv.limits inv.areas z y e.lowers.reaches
            (λ v. subst (WithinLimits (limits_in a)) (sym based) (within-down a.code.base _ (grows-block names (past m (keeping_of i)) (loop_of w) _) (subst (WithinLimits (limits_in a)) (sym split) v))),
        passes_over y,
      )

      -- the count by other words
      pub stmts-next : {q : ℕ} (k : ℕ) → n - 1 ≡ k → r ≡ Some q → Passes r i i' m → StmtsRest d t names w a i₀ n₀ p₀ c i' k q
      stmts-next {q} k f z passed =
          let there = e.place q z in
          let done = e.lowers.reaches.done q z in
          let g = stmts-more d t n p h inv.stmts in
          let moved = passed.at q z in
          let keeping : past m (keeping_of i) ≡ keeping_of i' = sym (ap keeping_of moved ∙ keeping-past i m stmts-spare) in
          let left : rest ≡ loops_block (stmts_at d (n - 1) t q).value = ap (λ (x : ℕ). loops_block (stmts_at d (n - 1) t x).value) (sym there) in
          subst (λ (x : ℕ). StmtsRest d t names w a i₀ n₀ p₀ c i' x q) f (record {
            stmts = subst (StmtsLowerable d (n - 1) t) (sym there) g.1;
            next = ap (λ (x : ℕ). (stmts_at d (n - 1) t x).end) there ∙ sym (stmts-written d t names (keeping_of i) w n p h inv.stmts).1 ∙ inv.next;
            limits = e.lowers.reaches.limits ∙ inv.limits;
            areas = areas-after inv.areas e.lowers.reaches.areas;
            left = left-own (left-next inv.limits inv.left done);
            started = omega (arith, done.left.base, open-left done, stack-grows b.code.base first (state_in t b), stack-long stmts-sound, inv.started);
            code = (λ j. emit_at a.code.base (stmts_written d (n - 1) t names (sym keeping j) w (there j)) ((done.left.state ∙ based) j)) ∙ split;
            spare = subst (λ (x : ℕ). Spare x (loops_block (stmts_at d (n - 1) t q).value)) (sym moved) (subst (Spare (after_loops i m)) left (spare-rest i m rest both));
            loops = (λ j. after_loops (moved j) (sym left j)) ∙ after-sum i m rest both ∙ ap (after_loops i) (sym (stmts-loops d t h inv.stmts.reads)) ∙ inv.loops;
          })

  pub stmts-done : n ≤ 0 → EmitsTo (Some p) (stmts_written d n₀ t names (keeping_of i₀) w p₀) (stmts_at d n₀ t p₀).end t a b × Passes (Some p) i₀ i (loops_block (stmts_at d n₀ t p₀).value)
  unfolding write_block
  stmts-done h =
      let v = view-stmts-none d n t p h inv.stmts.reads.start in
      let ended : state_in t b ≡ whole =
      sym (ap (λ (x : Node Block). emit_at a.code.base (write_block names (keeping_of i) (loop_of w) x.value) (state_in t b)) v ∙ at-nothing a.code.base (state_in t b)) ∙ inv.code in (
        record {
          place = λ k z. sym (some-is z) ∙ sym (ap (λ (x : Node Block). x.end) v) ∙ inv.next;
          lowers = record { reaches = reached_by p inv.limits inv.areas (left-by inv.left ended) };
        },
        record { at = λ x z. sym (after_none i) ∙ ap (after_loops i) (sym (none-loops d t h inv.stmts.reads)) ∙ inv.loops },
      )

-- the statements of a block are its code
pub block-is : {r : Option ℕ} {a b : Emitter} {i i' : ℕ} (d : ℕ) (t : List ℕ) (names : List Name) (w : Loop) (p n : ℕ) → BlockLowerable d t p → n ≡ count_at t p
    → EmitsTo r (stmts_written d n t names (keeping_of i) w (p + 2)) (stmts_at d n t (p + 2)).end t a b × Passes r i i' (loops_block (stmts_at d n t (p + 2)).value)
    → EmitsTo r (block_written d t names (keeping_of i) w p) (block_at d t p).end t a b × Passes r i i' (loops_block (block_at d t p).value)
block-is {i = i} d t names w p n l e h =
    let v = (view-block d t p l.reads).is in
    let u : block_at d t p ≡ stmts_at d n t (p + 2) = v ∙ ap (λ (m : ℕ). stmts_at d m t (p + 2)) (sym e) in (
      emits-by h.0 (ap (λ (x : Node Block). write_block names (keeping_of i) (loop_of w) x.value) u) (sym (ap (λ (x : Node Block). x.end) u)),
      record { at = λ x z. h.1.at x z ∙ ap (λ (y : Node Block). after_loops i (loops_block y.value)) (sym u) },
    )

-- by another word for the position
pub block_by : {r : Option ℕ} {a b : Emitter} {p q i i' : ℕ} (d : ℕ) (t : List ℕ) (names : List Name) (keep : Keeping) (v : Measured.Loop) → q ≡ p
    → EmitsTo r (write_block names keep v (block_at d t q).value) (block_at d t q).end t a b × Passes r i i' (loops_block (block_at d t q).value)
    → EmitsTo r (write_block names keep v (block_at d t p).value) (block_at d t p).end t a b × Passes r i i' (loops_block (block_at d t p).value)
block_by {r} {a} {b} {p} {q} {i} {i'} d t names keep v e h =
    subst (λ (x : ℕ). EmitsTo r (write_block names keep v (block_at d t x).value) (block_at d t x).end t a b × Passes r i i' (loops_block (block_at d t x).value)) e h

pub fits-at : {r : Option ℕ} {limit p q : ℕ} (d : ℕ) (t : List ℕ) (names : List Name) (k : SoFar) → q ≡ p
    → Fits r (heads_block (block_at d t q).value) (measure_block names k (block_at d t q).value) limit → Fits r (heads_block (block_at d t p).value) (measure_block names k (block_at d t p).value) limit
fits-at {r} {limit} d t names k e F = subst (λ (x : ℕ). Fits r (heads_block (block_at d t x).value) (measure_block names k (block_at d t x).value) limit) e F

-- a place of the function is one after a part, too, and after two
pub started_on : {t : List ℕ} {a b : Emitter} (start : ℕ) (e : Emit) → SoundIn t a → LeftIn t a b (emit_at a.code.base e (state_in t a)) → start + a.code.base ≤ a.code.open → start + b.code.base ≤ b.code.open
started_on {t} {a} {b} start e S A s = omega (arith, A.left.base, open-left A, stack-grows a.code.base e (state_in t a), stack-long S, s)

pub started-next : {t : List ℕ} {a b c : Emitter} (start : ℕ) (e f : Emit) → SoundIn t a → SoundIn t b
    → LeftIn t a b (emit_at a.code.base e (state_in t a)) → LeftIn t b c (emit_at b.code.base f (state_in t b))
    → start + a.code.base ≤ a.code.open → start + c.code.base ≤ c.code.open
started-next start e f S S₁ A B s = started_on start f S₁ B (started_on start e S A s)

-- what was written before a part is as it was
pub keeps-written : {r : Option ℕ} {e : Emit} {next : ℕ} {t : List ℕ} {a b : Emitter} → Lengthens e → EmitsTo r e next t a b → KeepsWritten r t a b
unfolding emit_at
keeps-written {t = t} {a = a} E h = record {
  words = λ n z. (_, ap (λ (s : State). s.stack) (h.lowers.reaches.done n z).left.state);
  functions = λ n z.
      let L = E.at (length (state_in t a).stack - a.code.base) (state_in t a).tables in
      (L.new, ap (λ (s : State). s.tables.functions) (h.lowers.reaches.done n z).left.state ∙ L.functions);
}
