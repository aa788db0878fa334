-- R-13 on bytes: what is written is read as the stretch, and refused with the tree's number.
use mathlib.Core.Path.{◌≡◌, refl, sym, ◌∙◌}
use mathlib.Core.Bool.{Bool, true, false}
use mathlib.Core.List.{List}
use Prim.Native.Nat.{ℕ, zero, suc, ◌≤◌}
use native.Mathlib.Omega.{arith}
use lib.ListN.{length, length-append}
use lib.Dec.{leb}
use lib.Pow.{are_bytes}
use Rattle.definitions.specs.Bytes.{Answer, refused, accepted, when_accepted}
use Rattle.definitions.specs.Tree.{Stmt, Block, []ᵇ, ◌∷ᵇ◌}
use Rattle.definitions.specs.Parse.{tree_version, read_tree}
use Rattle.definitions.specs.Tables.{Tables}
use Rattle.definitions.specs.Module.{Limits, lower_block, lower_tables}
use Rattle.definitions.specs.Calls.{areas_fit}
use Rattle.definitions.specs.TreeBytes.{size, stmt_bytes, stmts_bytes, block_bytes, tree_bytes}
use Rattle.definitions.specs.Cut.{skip, front, stretch_of, first_start, fewest, cut_block, Cut, not_refused, cut_to, cut_by, cut_answer}
use Rattle.definitions.specs.Statements.{CutIs, Cuts, NoneRefused}
use Rattle.definitions.proofs.Accepted.{tables-read}
use Rattle.definitions.proofs.TreeStmts.{Each, no_each, each}
use Rattle.definitions.proofs.TreeWritten.{TreeIs, tree_is, read-written}
use Rattle.definitions.proofs.Taken.{length-block, length-housed}
use Rattle.definitions.proofs.CutShape.{cut-within, cut-refused, cut-fewest, cut-earliest}

-- ---- stretches are no longer than the tree, and read as well

each-front : {P : Stmt → Type 0} (n : ℕ) (b : Block) → Each P b → Each P (front n b)
unfolding front
each-front zero b e = no_each
each-front (suc n) []ᵇ e = e
each-front (suc n) (s ∷ᵇ b) (each p r) = each p (each-front n b r)

each-skip : {P : Stmt → Type 0} (i : ℕ) (b : Block) → Each P b → Each P (skip i b)
unfolding skip
each-skip zero b e = e
each-skip (suc i) []ᵇ e = e
each-skip (suc i) (s ∷ᵇ b) (each p r) = each-skip i b r

-- no more statements, no more bytes
record Less (a b : Block) : Type 0 where
  count : size a ≤ size b
  bytes : length (stmts_bytes a) ≤ length (stmts_bytes b)

less-front : (n : ℕ) (b : Block) → Less (front n b) b
unfolding front size stmts_bytes
less-front zero b = record { count = omega arith; bytes = omega arith }
less-front (suc n) []ᵇ = record { count = omega arith; bytes = omega arith }
less-front (suc n) (s ∷ᵇ b) =
    let L = less-front n b in
    let x = length-append (stmt_bytes s) (stmts_bytes (front n b)) in
    let y = length-append (stmt_bytes s) (stmts_bytes b) in
    record { count = omega (arith, L.count); bytes = omega (arith, L.bytes) }

less-skip : (i : ℕ) (b : Block) → Less (skip i b) b
unfolding skip size stmts_bytes
less-skip zero b = record { count = omega arith; bytes = omega arith }
less-skip (suc i) []ᵇ = record { count = omega arith; bytes = omega arith }
less-skip (suc i) (s ∷ᵇ b) =
    let L = less-skip i b in
    let y = length-append (stmt_bytes s) (stmts_bytes b) in
    record { count = omega (arith, L.count); bytes = omega (arith, L.bytes) }

stretch-less : (i n : ℕ) (b : Block) → Less (stretch_of i n b) b
unfolding stretch_of
stretch-less i n b = let A = less-front n (skip i b) in let B = less-skip i b in record { count = omega (arith, A.count, B.count); bytes = omega (arith, A.bytes, B.bytes) }

less-tree : (a b : Block) → Less a b → length (tree_bytes a) ≤ length (tree_bytes b)
unfolding tree_bytes
less-tree a b L =
    let w = length-housed tree_version (block_bytes a) in let x = length-housed tree_version (block_bytes b) in let y = length-block a in let z = length-block b in
    omega (arith, L.bytes)

each-stretch : {P : Stmt → Type 0} (i n : ℕ) (b : Block) → Each P b → Each P (stretch_of i n b)
unfolding stretch_of
each-stretch i n b e = each-front n (skip i b) (each-skip i b e)

pub stretch-read : {bs : List ℕ} (b : Block) → TreeIs bs b → (i n : ℕ) → read_tree (tree_bytes (stretch_of i n b)) ≡ accepted (stretch_of i n b)
stretch-read b I i n =
    let L = stretch-less i n b in
    let z = less-tree (stretch_of i n b) b L in
    read-written (stretch_of i n b) (omega (arith, L.count, I.few)) (each-stretch i n b I.reads) (omega (arith, I.short))

read-lowers : (l : Limits) (tree : List ℕ) (b : Block) → read_tree tree ≡ accepted b → lower_tables l tree ≡ lower_block l b
unfolding when_accepted
read-lowers l tree b e = tables-read l tree ∙ rw e

pub stretch-lowers : (l : Limits) {bs : List ℕ} (b : Block) → TreeIs bs b → (i n : ℕ) → lower_tables l (tree_bytes (stretch_of i n b)) ≡ lower_block l (stretch_of i n b)
stretch-lowers l b I i n = read-lowers l (tree_bytes (stretch_of i n b)) (stretch_of i n b) (stretch-read b I i n)

-- ---- the answer

cut-is : (l : Limits) (tree : List ℕ) (b : Block) (q : ℕ) → are_bytes tree ≡ true → read_tree tree ≡ accepted b → lower_block l b ≡ refused q → CutIs l tree (tree_bytes (cut_block l q b))
unfolding cut_block
cut-is l tree b q o e r =
    let I = tree_is tree b o e in
    let s = first_start l q b (fewest l q b) in
    let k = fewest l q b in
    record {
      number = q;
      block = b;
      start = s;
      count = k;
      reads = e;
      bytes = refl;
      within = cut-within l q b r;
      refused_tree = read-lowers l tree b e ∙ r;
      refused_cut = stretch-lowers l b I s k ∙ cut-refused l q b r;
      fewest = λ i n h g z. cut-fewest l q b r i n h g (sym (stretch-lowers l b I i n) ∙ z);
      earliest = λ i g z. cut-earliest l q b r i g (sym (stretch-lowers l b I i k) ∙ z);
      short = rw I.bytes (less-tree (stretch_of s k b) b (stretch-less s k b));
    }

-- what an accepted answer comes from
record Answered (l : Limits) (tree : List ℕ) (c : Cut (List ℕ)) : Type 0 where
  block : Block
  reads : read_tree tree ≡ accepted block
  cut : cut_by l block (lower_block l block) ≡ c

answered : (l : Limits) (m n room : ℕ) (tree : List ℕ) (c : Cut (List ℕ)) → cut_answer l m n room tree ≡ accepted c → Answered l tree c
unfolding cut_answer when_accepted
answered l m n room tree c e = go (areas_fit m n) (leb (length tree) room) (read_tree tree) refl e
  where
    go : (x y : Bool) (a : Answer Block) → read_tree tree ≡ a
        → ◌≡◌ {A = Answer (Cut (List ℕ))}
        (elim x as (λ z. Answer (Cut (List ℕ))) [ false ↦ refused 1 | true ↦ elim y as (λ z. Answer (Cut (List ℕ))) [ false ↦ refused 38 | true ↦ when_accepted a (λ b. accepted (cut_by l b (lower_block l b))) ] ])
        (accepted c)
        → Answered l tree c
    go false y a h e = let z : ◌≡◌ {A = ℕ} 0 1 = cc in absurd (omega arith)
    go true false a h e = let z : ◌≡◌ {A = ℕ} 0 1 = cc in absurd (omega arith)
    go true true (refused q) h e = let z : ◌≡◌ {A = ℕ} 0 1 = cc in absurd (omega arith)
    go true true (accepted b) h e = let z : cut_by l b (lower_block l b) ≡ c = cc in record { block = b; reads = h; cut = z }

pub cuts : Cuts
unfolding cut_by
cuts l m n room tree bs o e = let A = answered l m n room tree (cut_to bs) e in go A.block A.reads (lower_block l A.block) refl A.cut
  where
    go : (b : Block) → read_tree tree ≡ accepted b → (a : Answer Tables) → lower_block l b ≡ a → cut_by l b a ≡ cut_to bs → CutIs l tree bs
    go b h (refused q) r z = let w : tree_bytes (cut_block l q b) ≡ bs = cc in rw (← w) (cut-is l tree b q o h r)
    go b h (accepted t) r z = let w : ◌≡◌ {A = ℕ} 0 1 = cc in absurd (omega arith)

pub none_refused : NoneRefused
unfolding cut_by
none_refused l m n room tree e = let A = answered l m n room tree not_refused e in go A.block A.reads (lower_block l A.block) refl A.cut
  where
    go : (b : Block) → read_tree tree ≡ accepted b → (a : Answer Tables) → lower_block l b ≡ a → cut_by l b a ≡ not_refused → (t : Tables) × (lower_tables l tree ≡ accepted t)
    go b h (refused q) r z = let w : ◌≡◌ {A = ℕ} 0 1 = cc in absurd (omega arith)
    go b h (accepted t) r z = (t, read-lowers l tree b h ∙ r)
