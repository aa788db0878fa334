-- The tree of a stretch: a head, the count of its statements, and a part of the tree.
use Prim.Native.Nat.{ℕ, suc, ◌+◌, ◌-◌, ◌≤◌}
use mathlib.Core.Path.{◌≡◌, refl, sym, ap, ◌∙◌, subst}
use mathlib.Core.Bool.{true}
use mathlib.Core.List.{List, [], ◌∷◌, ◌++◌, append-nil, append_assoc}
use native.Mathlib.Omega.{arith}
use lib.ListN.{length, length-append, take, drop, length-take, length-drop}
use lib.Pow.{are_bytes}
use Rattle.definitions.specs.Bytes.{be, counted, housed}
use Rattle.definitions.specs.Tree.{Block, []ᵇ, ◌∷ᵇ◌}
use Rattle.definitions.specs.Parse.{parse_stmt, tree_version}
use Rattle.definitions.specs.TreeBytes.{size, stmts_bytes, block_bytes, tree_bytes}
use Rattle.definitions.proofs.BytesWritten.{length-be}
use Rattle.definitions.proofs.Taken.{length-housed, length-block}
use Rattle.definitions.proofs.TreeStmts.{block-is, writes-stmt, writes-stmts}
use Rattle.tree_view.specs.Places.{Node}
use Rattle.tree_view.proofs.Laws.{steady-counted}
use Rattle.tree_view.proofs.Nodes.{node-within}
use Rattle.tree_view.specs.StmtAt.{stmt_at, stmts_at, StmtReads, StmtsRead}
use Rattle.tree_view.proofs.StmtLaws.{steady-S}
use Rattle.tree_view.proofs.StmtViews.{view-stmts-none, view-stmts-more}
use Rattle.tree_view.specs.StmtAt.{cons_at}
use Rattle.rests.specs.Taking.{span}
use Rattle.rests.proofs.Spans.{node-after, node-fact}
use Rattle.writing.proofs.Begun.{joined}
use Rattle.tree_view.proofs.StmtViews.{stmts-size}

-- ---- where it ends

-- of n statements from p on m are left, from q on
pub record Left (t : List ℕ) (n p m q : ℕ) : Type 0 where
  pub reads : StmtsRead 32 m t q
  pub end : (stmts_at 32 m t q).end ≡ (stmts_at 32 n t p).end

pub left-all : {t : List ℕ} {n p : ℕ} (m : ℕ) → m ≡ n → StmtsRead 32 n t p → Left t n p m p
left-all {t} {n} {p} m e r = subst (λ (k : ℕ). Left t n p k p) (sym e) (record { reads = r; end = refl })

module _ {t : List ℕ} {n p m q : ℕ} (L : Left t n p m q) where
  pub left-head : 1 ≤ m → StmtReads 32 t q
  left-head h = (view-stmts-more 32 m t q h L.reads).parts.head

  pub left-next : {e : ℕ} (k : ℕ) → suc k ≡ m → e ≡ (stmt_at 32 t q).end → Left t n p k e
  unfolding cons_at
  left-next k e f =
      let v = view-stmts-more 32 m t q (omega arith) L.reads in
      let z : m - 1 ≡ k = omega arith in
      subst (Left t n p k) (sym f) (record {
        reads = subst (λ (j : ℕ). StmtsRead 32 j t (stmt_at 32 t q).end) z v.parts.rest;
        end = ap (λ (j : ℕ). (stmts_at 32 j t (stmt_at 32 t q).end).end) (sym z) ∙ sym (ap (λ (x : Node Block). x.end) v.is) ∙ L.end;
      })

  pub left-none : m ≤ 0 → q ≡ (stmts_at 32 n t p).end
  left-none h = sym (ap (λ (x : Node Block). x.end) (view-stmts-none 32 m t q h L.reads.start)) ∙ L.end

-- ---- its bytes

module _ {t : List ℕ} {p : ℕ} (n : ℕ) (o : are_bytes t ≡ true) (r : StmtsRead 32 n t p) where
  pub stretch-after : p ≤ (stmts_at 32 n t p).end
  stretch-after = node-after []ᵇ (writes-stmts (writes-stmt 32) n) (steady-counted []ᵇ ◌∷ᵇ◌ (steady-S 32) n) t p o r

  pub stretch-within : (stmts_at 32 n t p).end ≤ length t
  stretch-within = node-within []ᵇ (counted []ᵇ ◌∷ᵇ◌ (parse_stmt 32) n) t p (steady-counted []ᵇ ◌∷ᵇ◌ (steady-S 32) n) r

  pub stretch-bytes : span t p (stmts_at 32 n t p).end ≡ stmts_bytes (stmts_at 32 n t p).value
  stretch-bytes = (node-fact []ᵇ (writes-stmts (writes-stmt 32) n) (steady-counted []ᵇ ◌∷ᵇ◌ (steady-S 32) n) t p o r).bytes

-- the pieces of a tree
tree-pieces : (b : Block) (n size' : ℕ) (s : List ℕ) → size b ≡ n → s ≡ stmts_bytes b → size' ≡ 7 + length s
    → tree_bytes b ≡ (be 4 (size' - 4) ++ be 1 tree_version) ++ joined (be 2 n ∷ s ∷ [])
unfolding tree_bytes housed joined be
tree-pieces b n size' s e f g =
    let h : block_bytes b ≡ be 2 n ++ s = block-is b ∙ (λ i. be 2 (e i) ++ sym f i) in
    let l : suc (length (be 2 n ++ s)) ≡ size' - 4 = (let a = length-append (be 2 n) s in let c = length-be 2 n in omega arith) in
    ap (housed tree_version) h ∙ ap (λ (z : ℕ). be 4 z ++ (tree_version ∷ (be 2 n ++ s))) l
    ∙ (λ i. be 4 (size' - 4) ++ (tree_version ∷ (be 2 n ++ sym (append-nil s) i))) ∙ sym (append_assoc (be 4 (size' - 4)) (tree_version ∷ []) (be 2 n ++ (s ++ [])))

tree-long : (b : Block) → length (tree_bytes b) ≡ 7 + length (stmts_bytes b)
unfolding tree_bytes
tree-long b = let h = length-housed tree_version (block_bytes b) in let k = length-block b in omega arith

-- a stretch's statements s, as a part of the tree
pub record Spanned (t : List ℕ) (p n : ℕ) (s : List ℕ) : Type 0 where
  pub short : length s ≤ length t
  pub long : length (tree_bytes (stmts_at 32 n t p).value) ≡ 7 + length s
  pub pieces : tree_bytes (stmts_at 32 n t p).value ≡ (be 4 (7 + length s - 4) ++ be 1 tree_version) ++ joined (be 2 n ∷ s ∷ [])

pub spanned : {t : List ℕ} {p e : ℕ} (n : ℕ) → are_bytes t ≡ true → StmtsRead 32 n t p → e ≡ (stmts_at 32 n t p).end → Spanned t p n (take (e - p) (drop p t))
unfolding span
spanned {t} {p} {e} n o r f =
    let b = (stmts_at 32 n t p).value in
    let s : take (e - p) (drop p t) ≡ stmts_bytes b = ap (λ (x : ℕ). take (x - p) (drop p t)) f ∙ stretch-bytes n o r in
    record {
      short = let h = length-take (e - p) (drop p t) in let k = length-drop p t in omega arith;
      long = tree-long b ∙ ap (λ (x : List ℕ). 7 + length x) (sym s);
      pieces = tree-pieces b n _ _ (stmts-size 32 n t p r) s refl;
    }
