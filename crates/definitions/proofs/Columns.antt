-- How long a text in columns is.
use mathlib.Core.Path.{◌≡◌}
use mathlib.Core.List.{List}
use Prim.Native.Nat.{ℕ, ◌-◌, ◌≤◌}
use native.Mathlib.Omega.{arith}
use lib.ListN.{length, replicate, length-append, length-replicate}
use Rattle.definitions.specs.Columns.{spaces, left_in, right_in}

pub length-right : (w : ℕ) (s : List ℕ) → length s ≤ w → length (right_in w s) ≡ w
unfolding right_in spaces
length-right w s h = let a = length-append (replicate (w - length s) 32) s in let b = length-replicate {A = ℕ} (w - length s) 32 in omega arith

pub length-left : (w : ℕ) (s : List ℕ) → length s ≤ w → length (left_in w s) ≡ w
unfolding left_in spaces
length-left w s h = let a = length-append s (replicate (w - length s) 32) in let b = length-replicate {A = ℕ} (w - length s) 32 in omega arith
