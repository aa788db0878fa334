-- The bytes of a tree that is read are those that the writer writes for it; what is written for its rest reads back as the rest.
use mathlib.Core.Path.{◌≡◌, refl, ap, ◌∙◌, subst}
use mathlib.Core.Bool.{Bool, true, false}
use mathlib.Core.List.{List, [], ◌∷◌, append-nil}
use Prim.Native.Nat.{ℕ, suc, ◌<◌, ◌≤◌}
use native.Mathlib.Omega.{arith}
use lib.ListN.{length}
use lib.Dec.{eqb, leb, eqb_refl, le→leb}
use lib.Pow.{are_bytes}
use Rattle.definitions.specs.Bytes.{Answer, refused, accepted, got, housed, unhouse, counts_rest, version_is}
use Rattle.definitions.specs.Tree.{Block}
use Rattle.definitions.specs.Parse.{block_of, parse_stmt, whole_block, tree_version, read_tree}
use Rattle.definitions.specs.TreeBytes.{size, block_bytes, tree_bytes}
use Rattle.definitions.specs.Rests.{rest}
use Rattle.definitions.specs.Statements.{TreeWritten}
use Rattle.definitions.proofs.Truth.{is_true, at_most}
use Rattle.definitions.proofs.Writes.{in-house}
use Rattle.definitions.proofs.Readback.{Reads, reads-field}
use Rattle.definitions.proofs.Taken.{length-housed, tree_taken}
use Rattle.definitions.proofs.TreeFits.{whole-got}
use Rattle.definitions.proofs.TreeStmts.{Each, Legible, reads-block, size-rest, writes-block, writes-stmt}

-- ---- what was read was written

pub record TreeIs (bs : List ℕ) (b : Block) : Type 0 where
  pub bytes : bs ≡ tree_bytes b
  pub short : length (tree_bytes b) ≤ 32768
  pub few : size b < 65536
  pub reads : Each (Legible (parse_stmt 32)) b
  pub rest_reads : Each (Legible (parse_stmt 32)) (rest b)

pub tree_is : (bs : List ℕ) (b : Block) → are_bytes bs ≡ true → read_tree bs ≡ accepted b → TreeIs bs b
unfolding read_tree tree_bytes
tree_is bs b o e = go (leb (length bs) 32768) refl e
  where
    go : (c : Bool) → leb (length bs) 32768 ≡ c → (elim c as (λ z. Answer Block) [ true ↦ unhouse tree_version 3 4 (λ rest. whole_block (block_of (parse_stmt 32) rest)) bs | false ↦ refused 2 ]) ≡ accepted b → TreeIs bs b
    go false h e = let z : ◌≡◌ {A = ℕ} 0 1 = cc in absurd (omega arith)
    go true h e =
        let I = in-house tree_version 3 4 (λ rest. whole_block (block_of (parse_stmt 32) rest)) bs b o e in
        let K = (writes-block (writes-stmt 32)).at I.rest I.bytes b [] (whole-got (block_of (parse_stmt 32) I.rest) b I.gives) in
        let w : bs ≡ housed tree_version (block_bytes b) = I.whole ∙ ap (housed tree_version) (K.splits ∙ append-nil K.taken ∙ K.fact.bytes) in
        record {
          bytes = w;
          short = subst (λ (z : List ℕ). length z ≤ 32768) w (at_most (length bs) 32768 h);
          few = K.fact.few;
          reads = K.fact.reads;
          rest_reads = K.fact.rest_reads;
        }

-- ---- what is written is read

unhouse-counted : {A : Type 0} (v count version : ℕ) (body : List ℕ → Answer A) (bs : List ℕ) → counts_rest count (version_is v version body) (got (suc (length bs)) (v ∷ bs)) ≡ body bs
unfolding counts_rest version_is
unhouse-counted v count version body bs = rw (is_true (eqb (suc (length bs)) (suc (length bs))) (eqb_refl (suc (length bs))), counts_rest) (rw (is_true (eqb v v) (eqb_refl v), version_is) refl)

pub unhouse-housed : {A : Type 0} (v count version : ℕ) (body : List ℕ → Answer A) (bs : List ℕ) → suc (length bs) < 4294967296 → unhouse v count version body (housed v bs) ≡ body bs
unfolding unhouse housed
unhouse-housed v count version body bs h = rw ((reads-field 4 (suc (length bs)) h).at (v ∷ bs)) (unhouse-counted v count version body bs)

whole_back : (b : Block) → Reads (block_of (parse_stmt 32)) (block_bytes b) b → whole_block (block_of (parse_stmt 32) (block_bytes b)) ≡ accepted b
unfolding whole_block
whole_back b r = let z : block_of (parse_stmt 32) (block_bytes b) ≡ got b [] = rw append-nil at (r.at []) in rw (z, whole_block)

pub read-written : (b : Block) → size b < 65536 → Each (Legible (parse_stmt 32)) b → length (tree_bytes b) ≤ 32768 → read_tree (tree_bytes b) ≡ accepted b
unfolding read_tree tree_bytes
read-written b f r h =
    let l = length-housed tree_version (block_bytes b) in
    rw (is_true (leb (length (housed tree_version (block_bytes b))) 32768) (le→leb _ _ h), read_tree)
    (unhouse-housed tree_version 3 4 (λ rest. whole_block (block_of (parse_stmt 32) rest)) (block_bytes b) (omega arith) ∙ whole_back b (reads-block b f r))

-- ---- the rest is no longer

pub rest-shorter : (b : Block) → length (tree_bytes (rest b)) ≤ length (tree_bytes b)
rest-shorter b = omega (arith, tree_taken b)

-- the rest of a tree that is read reads
pub rest_read : {bs : List ℕ} (b : Block) → TreeIs bs b → read_tree (tree_bytes (rest b)) ≡ accepted (rest b)
rest_read b I =
    let x = size-rest b in
    let y = rest-shorter b in
    read-written (rest b) (omega (arith, I.few)) I.rest_reads (omega (arith, I.short))

pub tree_written : TreeWritten
tree_written tree b o e = (tree_is tree b o e).bytes
