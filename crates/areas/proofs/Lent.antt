-- Question 1 of the two work areas of a lowering, and these after it.
use mathlib.Core.Path.{◌≡◌, refl, ap, ◌∙◌}
use mathlib.Core.Bool.{true, false}
use mathlib.Core.List.{List}
use Prim.Native.Nat.{ℕ, ◌<◌, ◌≤◌}
use lib.ListN.{length, replicate}
use borrow.Author.Tests.{le-leb, lt-leb}
use Rattle.definitions.specs.Calls.{zeros, areas_fit, area_after}

pub areas-fit : (m n : ℕ) → 16384 ≤ m → 16384 ≤ n → areas_fit m n ≡ true
unfolding areas_fit
areas-fit m n h g = rw (le-leb 16384 m h) (le-leb 16384 n g)

pub first_short : (m n : ℕ) → m < 16384 → areas_fit m n ≡ false
unfolding areas_fit
first_short m n h = rw (lt-leb 16384 m h) refl

pub second_short : (m n : ℕ) → 16384 ≤ m → n < 16384 → areas_fit m n ≡ false
unfolding areas_fit
second_short m n g h = rw (le-leb 16384 m g) (lt-leb 16384 n h)

-- an area as it was
pub area-left : (m n : ℕ) (area : List ℕ) → areas_fit m n ≡ false → area ≡ area_after m n area
unfolding area_after
area-left m n area e = rw (e, area_after) refl

-- an area that was worked in, then cleared
pub area-cleared : (m n : ℕ) (area mid : List ℕ) {end : List ℕ} → areas_fit m n ≡ true → length mid ≡ length area → end ≡ zeros mid → end ≡ area_after m n area
unfolding area_after zeros
area-cleared m n area mid e p x = rw (e, area_after) (x ∙ ap (λ (k : ℕ). replicate {A = ℕ} k 0) p)
