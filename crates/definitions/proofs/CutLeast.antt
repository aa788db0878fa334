-- R-13 and question 15: a search over the starts, with the shortest stretch so far, finds the fewest statements, the earliest of equals.
use mathlib.Core.Path.{◌≡◌, refl, sym, ap, ◌∙◌}
use mathlib.Core.Bool.{Bool, true, false, not}
use mathlib.Core.Logic.{◌⊎◌, inl, inr}
use Prim.Native.Nat.{ℕ, zero, suc, ◌+◌, ◌-◌, ◌<◌, ◌≤◌}
use native.Mathlib.Omega.{arith}
use Rattle.definitions.specs.Bytes.{refused}
use Rattle.definitions.specs.Tree.{Block, []ᵇ, ◌∷ᵇ◌}
use Rattle.definitions.specs.Lower.{compile}
use Rattle.definitions.specs.Open.{everything}
use Rattle.definitions.specs.Module.{Limits, limits_by, tables_fit, lower_block}
use Rattle.definitions.specs.TreeBytes.{size}
use Rattle.definitions.specs.Cut.{skip, front, stretch_of, refused_stretch, first_start, fewest, cut_block, over_stretch}
use Rattle.definitions.proofs.Truth.{true-false}
use Rattle.definitions.proofs.Begins.{le-or-gt}
use Rattle.definitions.proofs.CutShape.{first-is, whole-refused}
use Rattle.definitions.proofs.CutTables.{shorter_fits, stretch-over}

-- ---- the shortest, the earliest of equals

module _ (over : ℕ → ℕ → Bool) where
  -- of the starts before i no stretch shorter than n is over; that of n from s on is, and none of n before it
  pub record Sought (i n s : ℕ) : Type 0 where
    pub hit : over s n ≡ true
    pub first : (j : ℕ) → j < s → over j n ≡ false
    pub none : (j m : ℕ) → j < i → m < n → over j m ≡ false

  -- a shorter stretch from i on
  pub shorter : (i n s m : ℕ) → Sought i n s → m < n → over i m ≡ true → Sought i m i
  shorter i n s m I h e = record { hit = e; first = λ j g. I.none j m g h; none = λ j k g r. I.none j k g (omega arith) }

  -- no shorter stretch from i on
  pub later : (i n s : ℕ) → Sought i n s → ((k : ℕ) → k < n → over i k ≡ false) → Sought (suc i) n s
  later i n s I f = record { hit = I.hit; first = I.first; none = go }
    where
      go : (j k : ℕ) → j < suc i → k < n → over j k ≡ false
      go j k a b = split (le-or-gt i j)
        where
          split : (i ≤ j) ⊎ (j < i) → over j k ≡ false
          split (inl c) = let z : j ≡ i = omega arith in rw z (f k b)
          split (inr c) = I.none j k c b

-- ---- stretches at the tree's end

pub size-skip : (i : ℕ) (b : Block) → size (skip i b) ≡ size b - i
unfolding size skip
size-skip zero b = omega arith
size-skip (suc i) []ᵇ = omega arith
size-skip (suc i) (s ∷ᵇ b) = let z = size-skip i b in omega arith

front-all : (n : ℕ) (b : Block) → size b ≤ n → front n b ≡ b
unfolding size front
front-all zero []ᵇ h = refl
front-all zero (s ∷ᵇ b) h = absurd (omega arith)
front-all (suc n) []ᵇ h = refl
front-all (suc n) (s ∷ᵇ b) h = ap (λ (z : Block). s ∷ᵇ z) (front-all n b (omega arith))

-- a stretch past the tree's end is the shorter one that is left
pub over-end : (l : Limits) (b : Block) (i n : ℕ) → size b - i ≤ n → over_stretch l b i n ≡ over_stretch l b i (size b - i)
unfolding over_stretch stretch_of
over-end l b i n h =
    let z = size-skip i b in
    ap (λ (r : Block). not (tables_fit l (compile r).tables)) (front-all n (skip i b) (omega arith) ∙ sym (front-all (size b - i) (skip i b) (omega arith)))

-- a stretch of m statements from i on that is not over: none of fewer than n is, where n is m + 1 or the stretch reaches the tree's end
pub none-over : (l : Limits) (b : Block) (i m n : ℕ) → (n ≤ suc m) ⊎ (size b - i ≤ m) → over_stretch l b i m ≡ false → (k : ℕ) → k < n → over_stretch l b i k ≡ false
none-over l b i m n (inl h) e k g = shorter_fits l b i k m (omega arith) e
none-over l b i m n (inr h) e k g = split (le-or-gt k m)
  where
    split : (k ≤ m) ⊎ (m < k) → over_stretch l b i k ≡ false
    split (inl a) = shorter_fits l b i k m a e
    split (inr a) = over-end l b i k (omega arith) ∙ sym (over-end l b i m h) ∙ e

-- both sets of limits have room for an empty tree
pub sets-room : (n : ℕ) → tables_fit (limits_by n) (compile []ᵇ).tables ≡ true
unfolding everything
sets-room zero = refl
sets-room (suc n) = refl

-- no statement is never too many where the limits have room for an empty tree; nor is what follows the last statement
pub nothing-over : (l : Limits) (b : Block) → tables_fit l (compile []ᵇ).tables ≡ true → (i : ℕ) → over_stretch l b i 0 ≡ false
unfolding over_stretch stretch_of front
nothing-over l b e i = rw e

pub past-over : (l : Limits) (b : Block) → tables_fit l (compile []ᵇ).tables ≡ true → (i m : ℕ) → size b ≤ i → over_stretch l b i m ≡ false
past-over l b e i m h =
    let z : size b - i ≡ 0 = omega arith in
    over-end l b i m (omega arith) ∙ rw z (nothing-over l b e i)

-- ---- the stretch that 15 refuses

module _ (l : Limits) (b : Block) (e : lower_block l b ≡ refused 15) (room : tables_fit l (compile []ᵇ).tables ≡ true) where
  -- the whole tree is the shortest so far when the search begins
  pub begins : Sought (over_stretch l b) 0 (size b) 0
  begins = record { hit = sym (stretch-over l b e 0 (size b)) ∙ whole-refused l 15 b e; first = λ j h. absurd (omega arith); none = λ j m h k. absurd (omega arith) }

  -- it ends where no start is left, or with a single statement
  module _ (i n s : ℕ) (I : Sought (over_stretch l b) i n s) (ends : (size b ≤ i) ⊎ (n ≤ 1)) where
    none-at : (j m : ℕ) → m < n → over_stretch l b j m ≡ false
    none-at j m h = go ends
      where
        left : size b ≤ i → (j < i) ⊎ (i ≤ j) → over_stretch l b j m ≡ false
        left g (inl a) = I.none j m a h
        left g (inr a) = past-over l b room j m (omega arith)

        turn : (i ≤ j) ⊎ (j < i) → (j < i) ⊎ (i ≤ j)
        turn (inl a) = inr a
        turn (inr a) = inl a

        go : (size b ≤ i) ⊎ (n ≤ 1) → over_stretch l b j m ≡ false
        go (inl g) = left g (turn (le-or-gt i j))
        go (inr g) = let z : m ≡ 0 = omega arith in rw z (nothing-over l b room j)

    -- the stretch lies in the tree
    pub within : s + n ≤ size b
    within = go (le-or-gt (s + n) (size b))
      where
        past : size b < s + n → (size b ≤ s) ⊎ (s < size b) → s + n ≤ size b
        past a (inl h) = true-false I.hit (past-over l b room s n h)
        past a (inr h) = true-false (sym (over-end l b s n (omega arith)) ∙ I.hit) (none-at s (size b - s) (omega arith))

        go : (s + n ≤ size b) ⊎ (size b < s + n) → s + n ≤ size b
        go (inl a) = a
        go (inr a) = past a (le-or-gt (size b) s)

    start-is : first_start l 15 b n ≡ s
    unfolding first_start
    start-is =
        let z = within in
        first-is (refused_stretch l 15 b n) (size b - n) 0 s (omega arith) (omega arith)
        (stretch-over l b e s n ∙ I.hit) (λ m h k. stretch-over l b e m n ∙ I.first m k)

    fewest-is : fewest l 15 b ≡ n
    unfolding fewest
    fewest-is =
        first-is (λ m. refused_stretch l 15 b m (first_start l 15 b m)) (size b) 0 n (omega arith) (omega (arith, within))
        (rw start-is (stretch-over l b e s n ∙ I.hit))
        (λ m h k. stretch-over l b e (first_start l 15 b m) m ∙ none-at (first_start l 15 b m) m k)

    -- and is the one that is cut out
    pub cut-is : cut_block l 15 b ≡ stretch_of s n b
    unfolding cut_block
    cut-is = rw (fewest-is, start-is)
