-- Stretches of top statements, by their positions in the tree.
use Prim.Native.Nat.{ℕ, zero, suc, ◌+◌, ◌-◌, ◌<◌, ◌≤◌}
use mathlib.Core.Path.{◌≡◌, refl, sym, ap, ◌∙◌, subst}
use mathlib.Core.Bool.{false}
use mathlib.Core.List.{List}
use native.Mathlib.Omega.{arith}
use lib.ListN.{length, drop}
use Rattle.definitions.specs.Bytes.{Parsed, got, ◌>>=◌, give, counted}
use Rattle.definitions.specs.Tree.{Stmt, pass, Block, []ᵇ, ◌∷ᵇ◌}
use Rattle.definitions.specs.Parse.{parse_stmt}
use Rattle.definitions.specs.Wellformed.{ask_block}
use Rattle.definitions.specs.TreeBytes.{size}
use Rattle.definitions.specs.Cut.{skip, front, stretch_of}
use Rattle.definitions.proofs.CutSingle.{ask-stretch}
use Rattle.tree_view.specs.Places.{Node, count_at, CountThere}
use Rattle.tree_view.proofs.Laws.{follow, bind_is}
use Rattle.tree_view.proofs.Nodes.{got-node, got-reads, node-got}
use Rattle.tree_view.specs.StmtAt.{stmt_at, stmts_at, StmtReads, StmtsRead, BlockReads, TreeAt, cons_at}
use Rattle.tree_view.proofs.StmtLaws.{steady-S}
use Rattle.tree_view.proofs.StmtViews.{stmts-size, view-block, view-stmts-none, view-stmts-more}
use Rattle.compile.specs.Compiled.{tree_block, StretchIn}
use Rattle.compile.proofs.Compiling.{relied}
use Rattle.cut.specs.Tops.{TopAt}

-- ---- the first n of m statements from p on

record Got (d n : ℕ) (t : List ℕ) (p : ℕ) (b : Block) : Type 0 where
  end : ℕ
  within : end ≤ length t
  is : counted []ᵇ ◌∷ᵇ◌ (parse_stmt d) n (drop p t) ≡ got b (drop end t)

cons-value : (d m : ℕ) (t : List ℕ) (p : ℕ) → 0 < m → StmtsRead d m t p → (stmts_at d m t p).value ≡ (stmt_at d t p).value ∷ᵇ (stmts_at d (m - 1) t (stmt_at d t p).end).value
unfolding cons_at
cons-value d m t p h r = ap (λ (z : Node Block). z.value) (view-stmts-more d m t p h r).is

front-got : (d n m : ℕ) (t : List ℕ) (p : ℕ) → n ≤ m → StmtsRead d m t p → Got d n t p (front n (stmts_at d m t p).value)
unfolding counted front give
front-got d zero m t p h r = record { end = p; within = r.start; is = refl }
front-got d (suc n) m t p h r =
    let k : 0 < m = omega arith in
    let v = view-stmts-more d m t p k r in
    let s = stmt_at d t p in
    let G = front-got d n (m - 1) t s.end (omega arith) v.parts.rest in
    record {
      end = G.end;
      within = G.within;
      is = bind_is (parse_stmt d) (λ a. counted []ᵇ ◌∷ᵇ◌ (parse_stmt d) n >>= (λ b. give (a ∷ᵇ b))) (drop p t)
          ∙ ap (λ (g : Parsed Stmt). follow g (λ a. counted []ᵇ ◌∷ᵇ◌ (parse_stmt d) n >>= (λ b. give (a ∷ᵇ b)))) (node-got pass (parse_stmt d) t p (steady-S d) v.parts.head)
          ∙ bind_is (counted []ᵇ ◌∷ᵇ◌ (parse_stmt d) n) (λ b. give (s.value ∷ᵇ b)) (drop s.end t)
          ∙ ap (λ (g : Parsed Block). follow g (λ b. give (s.value ∷ᵇ b))) G.is
          ∙ ap (λ (b : Block). got (front (suc n) b) (drop G.end t)) (sym (cons-value d m t p k r));
    }

record Front (d m n : ℕ) (t : List ℕ) (p : ℕ) : Type 0 where
  reads : StmtsRead d n t p
  value : (stmts_at d n t p).value ≡ front n (stmts_at d m t p).value

front-stmts : (d n m : ℕ) (t : List ℕ) (p : ℕ) → n ≤ m → StmtsRead d m t p → Front d m n t p
front-stmts d n m t p h r =
    let G = front-got d n m t p h r in
    record {
      reads = got-reads (counted []ᵇ ◌∷ᵇ◌ (parse_stmt d) n) t p (front n (stmts_at d m t p).value) (drop G.end t) r.start G.is;
      value = ap (λ (z : Node Block). z.value) (got-node []ᵇ (counted []ᵇ ◌∷ᵇ◌ (parse_stmt d) n) t p (front n (stmts_at d m t p).value) G.end G.within G.is);
    }

-- ---- the top statements of a tree

pub skip-next : (i : ℕ) (b c : Block) (s : Stmt) → skip i b ≡ s ∷ᵇ c → skip (suc i) b ≡ c
unfolding skip
skip-next zero []ᵇ c s e = let z : ◌≡◌ {A = ℕ} 0 1 = cc in absurd (omega arith)
skip-next zero (x ∷ᵇ b) c s e = let z : b ≡ c = cc in z
skip-next (suc i) []ᵇ c s e = let z : ◌≡◌ {A = ℕ} 0 1 = cc in absurd (omega arith)
skip-next (suc i) (x ∷ᵇ b) c s e = skip-next i b c s e

module _ {t : List ℕ} (r : BlockReads 32 t 5) where
  pub top-counted : CountThere t 5
  top-counted = (view-block 32 t 5 r).parts.count

  block-value : (stmts_at 32 (count_at t 5) t 7).value ≡ tree_block t
  block-value = sym (ap (λ (z : Node Block). z.value) (view-block 32 t 5 r).is)

  pub size-tree : size (tree_block t) ≡ count_at t 5
  size-tree = ap size (sym block-value) ∙ stmts-size 32 (count_at t 5) t 7 (view-block 32 t 5 r).parts.statements

  pub top-start : TopAt t (tree_block t) 0 7
  unfolding skip
  top-start =
      let z : count_at t 5 - 0 ≡ count_at t 5 = omega arith in
      record {
        few = omega arith;
        reads = subst (λ (k : ℕ). StmtsRead 32 k t 7) (sym z) (view-block 32 t 5 r).parts.statements;
        value = ap (λ (k : ℕ). (stmts_at 32 k t 7).value) z ∙ block-value;
      }

module _ {t : List ℕ} {b : Block} {i p : ℕ} (T : TopAt t b i p) where
  -- one further
  module _ (h : i < count_at t 5) where
    left : 0 < count_at t 5 - i
    left = omega arith

    pub top-head : StmtReads 32 t p
    top-head = (view-stmts-more 32 (count_at t 5 - i) t p left T.reads).parts.head

    pub top-stmt : skip i b ≡ (stmt_at 32 t p).value ∷ᵇ (stmts_at 32 (count_at t 5 - i - 1) t (stmt_at 32 t p).end).value
    top-stmt = sym T.value ∙ cons-value 32 (count_at t 5 - i) t p left T.reads

    pub top-next : TopAt t b (suc i) (stmt_at 32 t p).end
    top-next =
        let e = (stmt_at 32 t p).end in
        let z : count_at t 5 - i - 1 ≡ count_at t 5 - suc i = omega arith in
        record {
          few = omega arith;
          reads = subst (λ (k : ℕ). StmtsRead 32 k t e) z (view-stmts-more 32 (count_at t 5 - i) t p left T.reads).parts.rest;
          value = ap (λ (k : ℕ). (stmts_at 32 k t e).value) (sym z) ∙ sym (skip-next i b _ _ top-stmt);
        }

  -- none is left
  pub top-end : count_at t 5 ≤ i → skip i b ≡ []ᵇ
  top-end h =
      let z : count_at t 5 - i ≡ 0 = omega arith in
      sym T.value ∙ ap (λ (x : Node Block). x.value) (view-stmts-none 32 (count_at t 5 - i) t p (omega arith) T.reads.start)

  -- a stretch from there on
  module _ (m : ℕ) (h : i + m ≤ count_at t 5) where
    pub stretch-reads : StmtsRead 32 m t p
    stretch-reads = (front-stmts 32 m (count_at t 5 - i) t p (omega arith) T.reads).reads

    pub stretch-value : (stmts_at 32 m t p).value ≡ stretch_of i m b
    unfolding stretch_of
    stretch-value = (front-stmts 32 m (count_at t 5 - i) t p (omega arith) T.reads).value ∙ ap (front m) T.value

-- m further
pub top-later : {t : List ℕ} {b : Block} (m : ℕ) {i p : ℕ} → TopAt t b i p → i + m ≤ count_at t 5 → TopAt t b (i + m) (stmts_at 32 m t p).end
unfolding cons_at
top-later {t} {b} zero {i} {p} T h =
    let e : i ≡ i + 0 = omega arith in
    let z = ap (λ (x : Node Block). x.end) (view-stmts-none 32 0 t p (omega arith) T.reads.start) in
    subst (TopAt t b (i + 0)) (sym z) (subst (λ (k : ℕ). TopAt t b k p) e T)
top-later {t} {b} (suc m) {i} {p} T h =
    let v = view-stmts-more 32 (suc m) t p (omega arith) (stretch-reads T (suc m) h) in
    let e : suc i + m ≡ i + suc m = omega arith in
    let z : suc m - 1 ≡ m = omega arith in
    let f : (stmts_at 32 (suc m) t p).end ≡ (stmts_at 32 m t (stmt_at 32 t p).end).end = ap (λ (x : Node Block). x.end) v.is ∙ ap (λ (k : ℕ). (stmts_at 32 k t (stmt_at 32 t p).end).end) z in
    subst (TopAt t b (i + suc m)) (sym f) (subst (λ (k : ℕ). TopAt t b k (stmts_at 32 m t (stmt_at 32 t p).end).end) e (top-later m (top-next T (omega arith)) (omega arith)))

-- it can be lowered
pub stretch-in : {t : List ℕ} {i p : ℕ} → TreeAt t → TopAt t (tree_block t) i p → (m : ℕ) → i + m ≤ count_at t 5 → StretchIn t (record { at = p; count = m })
stretch-in {t} {i} {p} A T m h = record {
  short = A.small;
  stmts = record {
    reads = stretch-reads T m h;
    loop = false;
    asks = λ q R. ap (ask_block q false) (stretch-value T m h) ∙ ask-stretch i m (tree_block t) q (relied t A q R);
  };
}
