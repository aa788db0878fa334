-- Byte order: names in order stay so, and where a name belongs among them is told by the test's turning point. Assumes nothing.
use Prim.Native.Nat.{ℕ, zero, suc, ◌+◌, ◌-◌, ◌<◌, ◌≤◌}
use mathlib.Core.Path.{◌≡◌, refl, sym, ap, ◌∙◌, subst}
use mathlib.Core.Bool.{Bool, true, false, not, true≢false}
use mathlib.Core.List.{List, [], ◌∷◌}
use mathlib.Core.Logic.{⊎_elim}
use native.Mathlib.Omega.{arith}
use lib.ListN.{length, take, drop, get_or, length-drop}
use lib.Seq.{get_or-drop, drop-drop, take_all}
use Rattle.std.specs.List.Sorted.{IsPartitionedBy, IsPartitionPoint}
use Rattle.std.proofs.lemmas.List.{get_or_default}
use Rattle.definitions.specs.Bytes.{Name, below}
use Rattle.definitions.specs.Slots.{insert, sort}
use Rattle.state.specs.Words.{name_at}
use Rattle.state.specs.State.{names_at}
use Rattle.slots.specs.Order.{NoneBelow, no_names, one_more, NamesInOrder, no_order, in_order, SpotInOrder}
use Rattle.slots.proofs.Holding.{bool-or}
use Rattle.byte_tests.proofs.Below.{below_flip, below-past}
use Rattle.slots.proofs.Ordering.{insert-here, insert-after, Sorting}
use borrow.Author.Tests.{not-true, not-false}

-- ---- names in order

not_lower : (x y z : Name) → below x y ≡ true → below z y ≡ false → below z x ≡ false
not_lower x y z e f = below_flip x z (below-past x y z e f)

lower : (x y : Name) (zs : List Name) → below x y ≡ true → NoneBelow y zs → NoneBelow x zs
lower x y [] e no_names = no_names
lower x y (z ∷ zs) e (one_more f n) = one_more (not_lower x y z e f) (lower x y zs e n)

none-insert : (x y : Name) (zs : List Name) → below x y ≡ false → NoneBelow y zs → NoneBelow y (insert x zs)
unfolding insert
none-insert x y [] e no_names = one_more e no_names
none-insert x y (z ∷ zs) e (one_more f n) = ⊎_elim
    (λ (h : below x z ≡ true). subst (NoneBelow y) (sym (insert-here x z zs h)) (one_more e (one_more f n)))
    (λ (h : below x z ≡ false). subst (NoneBelow y) (sym (insert-after x z zs h)) (one_more f (none-insert x y zs e n)))
    (bool-or (below x z))

pub insert-order : (x : Name) (ys : List Name) → NamesInOrder ys → NamesInOrder (insert x ys)
unfolding insert
insert-order x [] no_order = in_order no_names no_order
insert-order x (y ∷ ys) (in_order n o) = ⊎_elim
    (λ (h : below x y ≡ true). subst NamesInOrder (sym (insert-here x y ys h)) (in_order (one_more (below_flip x y h) (lower x y ys h n)) (in_order n o)))
    (λ (h : below x y ≡ false). subst NamesInOrder (sym (insert-after x y ys h)) (in_order (none-insert x y ys h n) (insert-order x ys o)))
    (bool-or (below x y))

pub sort-order : (xs : List Name) → NamesInOrder (sort xs)
unfolding sort
sort-order [] = no_order
sort-order (x ∷ xs) = insert-order x (sort xs) (sort-order xs)

none-at : (y : Name) (t qs : List ℕ) → NoneBelow y (names_at t qs) → (j : ℕ) → j < length qs → below (name_at t (get_or qs j 0)) y ≡ false
unfolding names_at
none-at y t [] n j h = absurd (omega arith)
none-at y t (q ∷ qs) (one_more f n) zero h = f
none-at y t (q ∷ qs) (one_more f n) (suc j) h = none-at y t qs n j (omega arith)

-- what comes before a name comes before those after it
rising : (x : Name) (t qs : List ℕ) → NamesInOrder (names_at t qs) → (i j : ℕ) → i ≤ j → j < length qs → below x (name_at t (get_or qs i 0)) ≡ true → below x (name_at t (get_or qs j 0)) ≡ true
unfolding names_at
rising x t [] o i j h k e = absurd (omega arith)
rising x t (q ∷ qs) (in_order n o) zero zero h k e = e
rising x t (q ∷ qs) (in_order n o) zero (suc j) h k e = below-past x (name_at t q) (name_at t (get_or qs j 0)) e (none-at (name_at t q) t qs n j (omega arith))
rising x t (q ∷ qs) (in_order n o) (suc i) zero h k e = absurd (omega arith)
rising x t (q ∷ qs) (in_order n o) (suc i) (suc j) h k e = rising x t qs o i j (omega arith) (omega arith) e

-- ---- the spot

module _ (t : List ℕ) (x : Name) (ps : List ℕ) where
  -- the places after the first, lent
  abbrev others : List ℕ
  others = take (length ps - 1) (drop 1 ps)

  others-are : others ≡ drop 1 ps
  others-are = take_all (length ps - 1) (drop 1 ps) (let z = length-drop 1 ps in omega arith)

  abbrev after : ℕ → Bool
  after w = not (below x (name_at t w))

  -- those that x does not come before are the first
  pub parted : NamesInOrder (names_at t (drop 1 ps)) → IsPartitionedBy after others
  parted o = subst (IsPartitionedBy after) (sym others-are) (λ i j d h l e. go i j d h l e (below x (name_at t (get_or (drop 1 ps) i d))) refl)
    where
      go : (i j d : ℕ) → i ≤ j → j < length (drop 1 ps) → not (below x (name_at t (get_or (drop 1 ps) j d))) ≡ true → (b : Bool) → below x (name_at t (get_or (drop 1 ps) i d)) ≡ b
          → not (below x (name_at t (get_or (drop 1 ps) i d))) ≡ true
      go i j d h l e false f = ap not f
      go i j d h l e true f =
          let u = ap (λ (w : ℕ). below x (name_at t w)) (get_or_default (drop 1 ps) i 0 d (omega arith)) ∙ f in
          let v = ap (λ (w : ℕ). below x (name_at t w)) (get_or_default (drop 1 ps) j d 0 l) ∙ rising x t (drop 1 ps) o i j h l u in
          absurd (true≢false (sym e ∙ ap not v))

  after_first : (i : ℕ) → get_or (drop 1 ps) i 0 ≡ get_or ps (i + 1) 0
  after_first i = get_or-drop 1 ps i 0 ∙ ap (λ (k : ℕ). get_or ps k 0) (let e : 1 + i ≡ i + 1 = omega arith in e)

  pub spotted : (w r : ℕ) → x ≡ name_at t w → 0 < length ps → r ≤ length others → IsPartitionPoint (λ y. after y ≡ true) (λ y. after y ≡ false) others r → SpotInOrder t w ps r
  spotted w r e h l q =
      let n = length-drop 1 ps in
      let k = ap length others-are in
      let p = subst (λ (ys : List ℕ). IsPartitionPoint (λ y. after y ≡ true) (λ y. after y ≡ false) ys r) others-are q in
      record {
        inside = omega arith;
        before = λ i g. (λ j. below (sym e j) (name_at t (sym (after_first i) j))) ∙ not-true _ (p.0 i 0 (omega arith) g);
        after = λ g. (λ j. below (sym e j) (name_at t (sym (after_first r) j))) ∙ not-false _ (p.1 r 0 (omega arith) (omega arith));
      }

-- the names after the j-th are in order
pub sort-rest : (t ps₀ ps : List ℕ) (i j : ℕ) → Sorting t ps₀ ps i → 0 < i → j ≡ i - 1 → NamesInOrder (names_at t (drop 1 (take (length ps - j) (drop j ps))))
sort-rest t ps₀ ps i j l h e =
    let z : j + 1 ≡ i = omega arith in
    let q = length-drop j ps in
    let o = sort-order (names_at t (drop i ps₀)) in
    subst NamesInOrder (sym (ap (λ (w : List ℕ). names_at t (drop 1 w)) (take_all (length ps - j) (drop j ps) (omega arith)) ∙ ap (names_at t) (drop-drop 1 j ps ∙ ap (λ (k : ℕ). drop k ps) z) ∙ l.names)) o
