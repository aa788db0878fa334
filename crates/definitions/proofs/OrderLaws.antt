-- R-11: the theorems about the order.
use mathlib.Core.Path.{◌≡◌, refl, sym, ap, ◌∙◌}
use mathlib.Core.Bool.{Bool, true, false}
use mathlib.Core.Logic.{◌⊎◌, inl, inr}
use mathlib.Core.List.{List}
use Prim.Native.Nat.{ℕ}
use native.Mathlib.Omega.{arith}
use Rattle.definitions.specs.Bytes.{Answer, refused, accepted, when_accepted}
use Rattle.definitions.specs.Tree.{Block}
use Rattle.definitions.specs.Module.{Limits, module_bytes}
use Rattle.definitions.specs.Calls.{areas_fit}
use Rattle.definitions.specs.TreeBytes.{tree_bytes}
use Rattle.definitions.specs.Rests.{rest}
use Rattle.definitions.specs.Order.{Ordering, less, equal, greater, compare_bytes, order, accepted_tree, order_answer}
use Rattle.definitions.specs.Statements.{RestReads, turned, at_most, OrderSame, OrderTurned, OrderTotal, OrderTransitive, OrderAntisymmetric, EqualRests, EqualModules}
use Rattle.definitions.proofs.ByteOrder.{compare-turned, compare_same, compare-less}
use Rattle.definitions.proofs.TreeWritten.{tree_is, rest_read}
use Rattle.definitions.proofs.Sorted.{order-bytes, order-rests, rests-order, tree-lowers, lowers-bytes, equal-tables}
use Rattle.definitions.proofs.Truth.{true-false}

pub order_same : OrderSame
unfolding order
order_same a = compare_same (tree_bytes (rest a))

pub order_turned : OrderTurned
unfolding order
order_turned a b = compare-turned (tree_bytes (rest a)) (tree_bytes (rest b))

pub order_total : OrderTotal
unfolding at_most turned
order_total a b = go (order a b) (order b a) (order_turned a b)
  where
    go : (o p : Ordering) → p ≡ turned o → (at_most o ≡ true) ⊎ (at_most p ≡ true)
    go less p e = inl refl
    go equal p e = inl refl
    go greater p e = inr (ap at_most e)

order-less : (a b c : Block) → order a b ≡ less → order b c ≡ less → order a c ≡ less
unfolding order
order-less a b c e f = compare-less (tree_bytes (rest a)) (tree_bytes (rest b)) (tree_bytes (rest c)) e f

order-left : (a b c : Block) → order a b ≡ equal → order a c ≡ order b c
unfolding order
order-left a b c e = ap (λ (z : List ℕ). compare_bytes z (tree_bytes (rest c))) (order-bytes a b e)

order-right : (a b c : Block) → order b c ≡ equal → order a c ≡ order a b
unfolding order
order-right a b c e = ap (λ (z : List ℕ). compare_bytes (tree_bytes (rest a)) z) (sym (order-bytes b c e))

pub order_transitive : OrderTransitive
unfolding at_most
order_transitive a b c x y = go (order a b) (order b c) refl refl x y
  where
    go : (o p : Ordering) → order a b ≡ o → order b c ≡ p → at_most o ≡ true → at_most p ≡ true → at_most (order a c) ≡ true
    go less less e f x y = ap at_most (order-less a b c e f)
    go less equal e f x y = ap at_most (order-right a b c f ∙ e)
    go less greater e f x y = true-false y refl
    go equal p e f x y = ap at_most (order-left a b c e ∙ f) ∙ y
    go greater p e f x y = true-false x refl

pub order_antisymmetric : OrderAntisymmetric
unfolding at_most turned
order_antisymmetric a b x y = go (order a b) refl (order_turned a b) x
  where
    go : (o : Ordering) → order a b ≡ o → order b a ≡ turned o → at_most o ≡ true → o ≡ equal
    go less e f x = true-false y (ap at_most f)
    go equal e f x = refl
    go greater e f x = true-false x refl

pub equal_rests : EqualRests
equal_rests x y a b o p e f = record { rests = order-rests a b (tree_is x a o e) (tree_is y b p f); ordered = rests-order a b }

pub rest_reads : RestReads
rest_reads tree b o e = rest_read b (tree_is tree b o e)

-- what an accepted answer of the call comes from
record Ordered (l : Limits) (x y : List ℕ) (r : Ordering) : Type 0 where
  first : Block
  second : Block
  reads : accepted_tree l x ≡ accepted first
  reads₂ : accepted_tree l y ≡ accepted second
  is : order first second ≡ r

ordered : (l : Limits) (m n : ℕ) (x y : List ℕ) (r : Ordering) → order_answer l m n x y ≡ accepted r → Ordered l x y r
unfolding order_answer when_accepted
ordered l m n x y r e = go (areas_fit m n) (accepted_tree l x) (accepted_tree l y) refl refl e
  where
    go : (c : Bool) (s t : Answer Block) → accepted_tree l x ≡ s → accepted_tree l y ≡ t
        → ◌≡◌ {A = Answer Ordering} (elim c as (λ z. Answer Ordering) [ false ↦ refused 1 | true ↦ when_accepted s (λ a. when_accepted t (λ b. accepted (order a b))) ]) (accepted r) → Ordered l x y r
    go false s t h k e = let z : ◌≡◌ {A = ℕ} 0 1 = cc in absurd (omega arith)
    go true (refused q) t h k e = let z : ◌≡◌ {A = ℕ} 0 1 = cc in absurd (omega arith)
    go true (accepted a) (refused q) h k e = let z : ◌≡◌ {A = ℕ} 0 1 = cc in absurd (omega arith)
    go true (accepted a) (accepted b) h k e = let z : order a b ≡ r = cc in record { first = a; second = b; reads = h; reads₂ = k; is = z }

pub equal_modules : EqualModules
equal_modules l m n x y o p e =
    let R = ordered l m n x y equal e in
    let A = tree-lowers l x R.first R.reads in
    let B = tree-lowers l y R.second R.reads₂ in
    let r = order-rests R.first R.second (tree_is x R.first o A.1.reads) (tree_is y R.second p B.1.reads) R.is in
    let z = equal-tables l R.first R.second A.0 B.0 A.1.lowers B.1.lowers r in
    record { bytes = module_bytes A.0; first = lowers-bytes l x R.first A.0 A.1; second = rw z (lowers-bytes l y R.second B.0 B.1) }
