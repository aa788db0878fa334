-- The order of two rests: by the counts in their headers, then by their blocks in step.
use mathlib.Core.Path.{◌≡◌, refl, sym, ap, ◌∙◌}
use mathlib.Core.Bool.{true}
use mathlib.Core.List.{List, ◌∷◌, ◌++◌}
use Prim.Native.Nat.{ℕ, suc, ◌+◌, ◌<◌, ◌≤◌}
use native.Mathlib.Omega.{arith}
use lib.ListN.{length}
use lib.Pow.{are_bytes}
use Rattle.std.specs.Prelude.{Result, Ok, Err}
use Rattle.std.specs.declared.cmp.Ordering.{Ordering as Place}
use Rattle.std.specs.declared.cmp.Ordering.TheVariants.{Less, Equal, Greater}
use Rattle.definitions.specs.Bytes.{be, housed}
use Rattle.definitions.specs.Tree.{Block}
use Rattle.definitions.specs.Parse.{tree_version}
use Rattle.definitions.specs.TreeBytes.{block_bytes, tree_bytes}
use Rattle.definitions.specs.Rests.{rest}
use Rattle.definitions.specs.Order.{compare_bytes, order}
use Rattle.definitions.proofs.ByteOrder.{compare_same}
use Rattle.definitions.proofs.Taken.{length-housed}
use Rattle.definitions.proofs.TreeWritten.{tree_is, rest-shorter}
use Rattle.tree_view.specs.StmtAt.{block_at, TreeAt}
use Rattle.settle.proofs.Outcome.{check-gives}
use Rattle.instep.specs.Stepping.{Differs, Lower, lower, higher, SideBySide}
use Rattle.instep.specs.declared.Spot.{Spot}
use Rattle.instep.proofs.Differing.{differs_more, number-differs, differs-less, differs-greater}
use Rattle.instep.proofs.Stepping.{steps-as, steps-same, steps_apart, steps-after, byte-steps}
use Rattle.order.specs.Ordered.{place}

-- a shorter record is lower in its header
shorter-differs : (v : ℕ) (xs ys : List ℕ) → length (housed v xs) < length (housed v ys) → length (housed v ys) ≤ 32768 → Differs (housed v xs) (housed v ys)
unfolding housed
shorter-differs v xs ys h k =
    let a : length (housed v xs) ≡ 5 + length xs = length-housed v xs in
    let b : length (housed v ys) ≡ 5 + length ys = length-housed v ys in
    differs_more (v ∷ xs) (v ∷ ys) (number-differs 4 (suc (length xs)) (suc (length ys)) (omega arith) (omega arith))

-- the headers of two records of one length are the same
level-steps : (v : ℕ) {r : Result Spot Place} {xs ys : List ℕ} {e f : ℕ} → length (housed v xs) ≡ length (housed v ys) → SideBySide r xs ys e f → SideBySide r (housed v xs) (housed v ys) e f
unfolding housed
level-steps v {xs = xs} {ys = ys} h S =
    let a : length (housed v xs) ≡ 5 + length xs = length-housed v xs in
    let b : length (housed v ys) ≡ 5 + length ys = length-housed v ys in
    let l : suc (length xs) ≡ suc (length ys) = omega arith in
    steps-as (steps-after (be 4 (suc (length xs))) (byte-steps v S)) refl (ap (λ (n : ℕ). be 4 n ++ (v ∷ ys)) l) refl refl

-- which comes first, by the first byte that differs
lower-order : {o : Place} {xs ys : List ℕ} → Lower o xs ys → place o ≡ compare_bytes xs ys
unfolding place
lower-order (lower D) = sym (differs-less D)
lower-order (higher D) = sym (differs-greater D)

-- ---- of two accepted trees

-- the rest has no more bytes than a tree may have
rest-short : {x : List ℕ} → are_bytes x ≡ true → TreeAt x → length (tree_bytes (rest (block_at 32 x 5).value)) ≤ 32768
rest-short {x} o X =
    let b = (block_at 32 x 5).value in
    omega (arith, rest-shorter b, (tree_is x b o (check-gives x b X.answer).reads).short)

module _ {x y : List ℕ} (o : are_bytes x ≡ true) (w : are_bytes y ≡ true) (X : TreeAt x) (Y : TreeAt y) where
  abbrev a : Block
  a = (block_at 32 x 5).value

  abbrev b : Block
  b = (block_at 32 y 5).value

  module _ {m n : ℕ} (f : m ≡ length (tree_bytes (rest a))) (g : n ≡ length (tree_bytes (rest b))) where
    pub shorter-less : m < n → place Less ≡ order a b
    unfolding place tree_bytes order
    shorter-less h = sym (differs-less (shorter-differs tree_version (block_bytes (rest a)) (block_bytes (rest b)) (omega (arith, f, g)) (rest-short w Y)))

    pub longer-greater : n < m → place Greater ≡ order a b
    unfolding place tree_bytes order
    longer-greater h = sym (differs-greater (shorter-differs tree_version (block_bytes (rest b)) (block_bytes (rest a)) (omega (arith, f, g)) (rest-short o X)))

    module _ (h : m ≤ n) (k : n ≤ m) {r : Result Spot Place} {e d : ℕ} (S : SideBySide r (block_bytes (rest a)) (block_bytes (rest b)) e d) where
      whole : SideBySide r (tree_bytes (rest a)) (tree_bytes (rest b)) e d
      unfolding tree_bytes
      whole = let z : m ≡ n = omega arith in level-steps tree_version (sym f ∙ z ∙ g) S

      pub steps-equal : {at : Spot} → r ≡ Ok at → place Equal ≡ order a b
      unfolding place order
      steps-equal i = sym (ap (compare_bytes (tree_bytes (rest a))) (sym (steps-same whole i).bytes) ∙ compare_same (tree_bytes (rest a)))

      pub steps-order : {c : Place} → r ≡ Err c → place c ≡ order a b
      unfolding order
      steps-order i = lower-order (steps_apart whole i)
