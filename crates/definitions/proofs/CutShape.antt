-- R-13: the stretch that is cut out is refused with the tree's number; no shorter stretch is, and no earlier one of its length.
use mathlib.Core.Path.{◌≡◌, refl, ap}
use mathlib.Core.Bool.{Bool, true, false}
use mathlib.Core.Logic.{◌⊎◌, inl, inr}
use Prim.Native.Nat.{ℕ, zero, suc, ◌+◌, ◌-◌, ◌<◌, ◌≤◌}
use native.Mathlib.Omega.{arith}
use lib.Dec.{eqb, eqb_refl}
use borrow.Author.Tests.{eqb-true}
use Rattle.definitions.specs.Bytes.{Answer, refused, accepted}
use Rattle.definitions.specs.Tree.{Block, []ᵇ, ◌∷ᵇ◌}
use Rattle.definitions.specs.Module.{Limits, lower_block}
use Rattle.definitions.specs.TreeBytes.{size}
use Rattle.definitions.specs.Cut.{skip, front, stretch_of, refused_with, refused_stretch, first_from, first_start, fewest, cut_block}
use Rattle.definitions.proofs.Truth.{is_true, true-false}
use Rattle.definitions.proofs.Begins.{le-or-gt}

-- ---- the first that passes a test

pub first-bounds : (test : ℕ → Bool) (k i : ℕ) → (i ≤ first_from test k i) × (first_from test k i ≤ i + k)
unfolding first_from
first-bounds test zero i = (omega arith, omega arith)
first-bounds test (suc k) i = go (test i) (first-bounds test k (suc i))
  where
    go : (c : Bool) → (suc i ≤ first_from test k (suc i)) × (first_from test k (suc i) ≤ suc i + k)
        → (i ≤ (elim c as (λ z. ℕ) [ true ↦ i | false ↦ first_from test k (suc i) ])) × ((elim c as (λ z. ℕ) [ true ↦ i | false ↦ first_from test k (suc i) ]) ≤ i + suc k)
    go true r = (omega arith, omega arith)
    go false r = (omega arith, omega arith)

pub first-least : (test : ℕ → Bool) (k i j : ℕ) → i ≤ j → j < first_from test k i → test j ≡ false
unfolding first_from
first-least test zero i j h g = absurd (omega arith)
first-least test (suc k) i j h g = go (test i) refl g (first-least test k (suc i) j)
  where
    go : (c : Bool) → test i ≡ c → j < (elim c as (λ z. ℕ) [ true ↦ i | false ↦ first_from test k (suc i) ]) → (suc i ≤ j → j < first_from test k (suc i) → test j ≡ false) → test j ≡ false
    go true e g r = absurd (omega arith)
    go false e g r = split (le-or-gt j i)
      where
        split : (j ≤ i) ⊎ (i < j) → test j ≡ false
        split (inl a) = let z : j ≡ i = omega arith in rw z e
        split (inr a) = r a g

pub first-hit : (test : ℕ → Bool) (k i j : ℕ) → i ≤ j → j ≤ i + k → test j ≡ true → test (first_from test k i) ≡ true
unfolding first_from
first-hit test zero i j h g e = let z : i ≡ j = omega arith in rw z e
first-hit test (suc k) i j h g e = go (test i) refl (first-hit test k (suc i) j)
  where
    go : (c : Bool) → test i ≡ c → (suc i ≤ j → j ≤ suc i + k → test j ≡ true → test (first_from test k (suc i)) ≡ true)
        → test (elim c as (λ z. ℕ) [ true ↦ i | false ↦ first_from test k (suc i) ]) ≡ true
    go true f r = f
    go false f r = split (le-or-gt j i)
      where
        split : (j ≤ i) ⊎ (i < j) → test (first_from test k (suc i)) ≡ true
        split (inl a) = let z : j ≡ i = omega arith in true-false e (rw z f)
        split (inr a) = r a (omega arith) e

-- the first that passes, known
pub first-is : (test : ℕ → Bool) (k i j : ℕ) → i ≤ j → j ≤ i + k → test j ≡ true → ((m : ℕ) → i ≤ m → m < j → test m ≡ false) → first_from test k i ≡ j
first-is test k i j h g e f = low (le-or-gt j (first_from test k i))
  where
    b : (i ≤ first_from test k i) × (first_from test k i ≤ i + k)
    b = first-bounds test k i

    high : j ≤ first_from test k i → (first_from test k i ≤ j) ⊎ (j < first_from test k i) → first_from test k i ≡ j
    high a (inl c) = omega arith
    high a (inr c) = true-false e (first-least test k i j h c)

    low : (j ≤ first_from test k i) ⊎ (first_from test k i < j) → first_from test k i ≡ j
    low (inl a) = high a (le-or-gt (first_from test k i) j)
    low (inr a) = true-false (first-hit test k i j h g e) (f (first_from test k i) b.0 a)

-- ---- refusals

pub refused-true : {A : Type 0} (q : ℕ) (a : Answer A) → refused_with q a ≡ true → a ≡ refused q
unfolding refused_with
refused-true q (refused k) e = rw (eqb-true k q e)
refused-true q (accepted a) e = true-false e refl

pub true-refused : {A : Type 0} (q : ℕ) (a : Answer A) → a ≡ refused q → refused_with q a ≡ true
unfolding refused_with
true-refused q a e = rw e (is_true (eqb q q) (eqb_refl q))

-- the whole tree is a stretch
pub whole-stretch : (b : Block) → front (size b) b ≡ b
unfolding front size
whole-stretch []ᵇ = refl
whole-stretch (s ∷ᵇ b) = ap (λ (z : Block). s ∷ᵇ z) (whole-stretch b)

module _ (l : Limits) (q : ℕ) (b : Block) (e : lower_block l b ≡ refused q) where
  pub whole-refused : refused_stretch l q b (size b) 0 ≡ true
  unfolding refused_stretch stretch_of skip
  whole-refused = rw (whole-stretch b) (true-refused q (lower_block l b) e)

  last-start : first_start l q b (size b) ≡ 0
  unfolding first_start
  last-start =
      let h = first-bounds (refused_stretch l q b (size b)) (size b - size b) 0 in
      let z : size b - size b ≡ 0 = omega arith in
      omega arith

  -- the stretch that is cut out is one that the tree has
  pub cut-within : first_start l q b (fewest l q b) + fewest l q b ≤ size b
  unfolding first_start fewest
  cut-within =
      let h = first-bounds (λ n. refused_stretch l q b n (first_start l q b n)) (size b) 0 in
      let g = first-bounds (refused_stretch l q b (fewest l q b)) (size b - fewest l q b) 0 in
      omega arith

  -- it is refused with the same number
  pub cut-refused : lower_block l (cut_block l q b) ≡ refused q
  unfolding cut_block fewest refused_stretch
  cut-refused =
      refused-true q (lower_block l (stretch_of (first_start l q b (fewest l q b)) (fewest l q b) b))
      (first-hit (λ n. refused_stretch l q b n (first_start l q b n)) (size b) 0 (size b) (omega arith) (omega arith) (rw last-start whole-refused))

  -- no shorter stretch is
  pub cut-fewest : (i n : ℕ) → i + n ≤ size b → n < fewest l q b → lower_block l (stretch_of i n b) ≡ refused q → ⊥
  unfolding fewest first_start refused_stretch
  cut-fewest i n h g r =
      true-false
      (first-hit (refused_stretch l q b n) (size b - n) 0 i (omega arith) (omega arith) (true-refused q (lower_block l (stretch_of i n b)) r))
      (first-least (λ n. refused_stretch l q b n (first_start l q b n)) (size b) 0 n (omega arith) g)

  -- no earlier stretch of its length is
  pub cut-earliest : (i : ℕ) → i < first_start l q b (fewest l q b) → lower_block l (stretch_of i (fewest l q b) b) ≡ refused q → ⊥
  unfolding first_start refused_stretch
  cut-earliest i g r =
      true-false (true-refused q (lower_block l (stretch_of i (fewest l q b) b)) r)
      (first-least (refused_stretch l q b (fewest l q b)) (size b - fewest l q b) 0 i (omega arith) g)
