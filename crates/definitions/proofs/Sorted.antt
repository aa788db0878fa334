-- R-11: equal scripts lower to equal modules; the rest of an accepted tree is accepted.
use mathlib.Core.Path.{◌≡◌, refl, sym, ap, ◌∙◌}
use mathlib.Core.Bool.{true}
use mathlib.Core.List.{List}
use Prim.Native.Nat.{ℕ}
use native.Mathlib.Omega.{arith}
use lib.Pow.{are_bytes}
use Rattle.definitions.specs.Bytes.{Answer, refused, accepted, when_accepted}
use Rattle.definitions.specs.Tree.{Block}
use Rattle.definitions.specs.Parse.{read_tree}
use Rattle.definitions.specs.Tables.{Tables}
use Rattle.definitions.specs.Lower.{compile}
use Rattle.definitions.specs.Module.{Limits, fits, lower_block, lower_bytes, module_bytes}
use Rattle.definitions.specs.TreeBytes.{tree_bytes}
use Rattle.definitions.specs.Rests.{rest}
use Rattle.definitions.specs.Order.{equal, order, accepted_tree}
use Rattle.definitions.specs.Statements.{RestAccepted}
use Rattle.definitions.proofs.Accepted.{tables-read}
use Rattle.definitions.proofs.RestAsked.{verdict, first_of, lower-is, verdict-accepted, rest-none}
use Rattle.definitions.proofs.RestLowered.{rest_compiles}
use Rattle.definitions.proofs.ByteOrder.{compare_same, compare-equal}
use Rattle.definitions.proofs.TreeWritten.{TreeIs, tree_is, rest_read}

-- ---- equal in the order

-- the order says equal exactly where the rests are equal bytes
pub order-bytes : (a b : Block) → order a b ≡ equal → tree_bytes (rest a) ≡ tree_bytes (rest b)
unfolding order
order-bytes a b e = compare-equal (tree_bytes (rest a)) (tree_bytes (rest b)) e

pub rests-order : (a b : Block) → rest a ≡ rest b → order a b ≡ equal
unfolding order
rests-order a b e = rw e (compare_same (tree_bytes (rest b)))

unaccepted : {A : Type 0} {a b : A} → accepted a ≡ accepted b → a ≡ b
unaccepted e = cc

-- and, of two trees that are read, the rests are equal trees
pub order-rests : {xs ys : List ℕ} (a b : Block) → TreeIs xs a → TreeIs ys b → order a b ≡ equal → rest a ≡ rest b
order-rests a b A B e = unaccepted (sym (rest_read a A) ∙ ap read_tree (order-bytes a b e) ∙ rest_read b B)

-- ---- lowering

-- an accepted block's rest is accepted, with the very same tables
pub lower-rest : (l : Limits) (b : Block) (t : Tables) → lower_block l b ≡ accepted t → lower_block l (rest b) ≡ accepted t
unfolding verdict
lower-rest l b t e =
    let v = verdict-accepted (first_of b) (fits l (compile b).tables) t (sym (lower-is l b) ∙ e) in
    lower-is l (rest b) ∙ rw (rest-none b v.0, rest_compiles b) v.1

-- two accepted blocks with equal rests have equal tables
pub equal-tables : (l : Limits) (a b : Block) (t u : Tables) → lower_block l a ≡ accepted t → lower_block l b ≡ accepted u → rest a ≡ rest b → t ≡ u
equal-tables l a b t u e f h = unaccepted (sym (lower-rest l a t e) ∙ ap (lower_block l) h ∙ lower-rest l b u f)

-- ---- on bytes

-- what an accepted tree is read as and lowered to
pub record Lowers (l : Limits) (tree : List ℕ) (b : Block) (t : Tables) : Type 0 where
  pub reads : read_tree tree ≡ accepted b
  pub lowers : lower_block l b ≡ accepted t

pub tree-lowers : (l : Limits) (tree : List ℕ) (b : Block) → accepted_tree l tree ≡ accepted b → (t : Tables) × Lowers l tree b t
unfolding accepted_tree when_accepted
tree-lowers l tree b e = go (read_tree tree) refl e
  where
    inner : (c : Block) (a : Answer Tables) → read_tree tree ≡ accepted c → lower_block l c ≡ a → when_accepted a (λ t. accepted c) ≡ accepted b → (t : Tables) × Lowers l tree b t
    inner c (refused q) h k e = let z : ◌≡◌ {A = ℕ} 0 1 = cc in absurd (omega arith)
    inner c (accepted t) h k e = let z : c ≡ b = cc in (t, record { reads = rw (← z) h; lowers = rw (← z) k })

    go : (a : Answer Block) → read_tree tree ≡ a → when_accepted a (λ b. when_accepted (lower_block l b) (λ t. accepted b)) ≡ accepted b → (t : Tables) × Lowers l tree b t
    go (refused q) h e = let z : ◌≡◌ {A = ℕ} 0 1 = cc in absurd (omega arith)
    go (accepted c) h e = inner c (lower_block l c) h refl e

pub lowers-bytes : (l : Limits) (tree : List ℕ) (b : Block) (t : Tables) → Lowers l tree b t → lower_bytes l tree ≡ accepted (module_bytes t)
unfolding lower_bytes when_accepted
lowers-bytes l tree b t L = rw (tables-read l tree, L.reads, when_accepted) (rw L.lowers)

lowers-accepted : (l : Limits) (tree : List ℕ) (b : Block) (t : Tables) → Lowers l tree b t → accepted_tree l tree ≡ accepted b
unfolding accepted_tree when_accepted
lowers-accepted l tree b t L = rw (L.reads, when_accepted) (rw L.lowers)

rest-lowers : (l : Limits) (tree : List ℕ) (b : Block) (t : Tables) → are_bytes tree ≡ true → Lowers l tree b t → Lowers l (tree_bytes (rest b)) (rest b) t
rest-lowers l tree b t o L = record { reads = rest_read b (tree_is tree b o L.reads); lowers = lower-rest l b t L.lowers }

-- the rest is an accepted tree, with the same module
pub rest_accepted : RestAccepted
rest_accepted l x a o e =
    let A = tree-lowers l x a e in
    let R = rest-lowers l x a A.0 o A.1 in
    record {
      reads = lowers-accepted l (tree_bytes (rest a)) (rest a) A.0 R;
      lowers = lowers-bytes l (tree_bytes (rest a)) (rest a) A.0 R ∙ sym (lowers-bytes l x a A.0 A.1);
    }
