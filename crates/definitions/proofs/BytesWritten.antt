-- How long numbers and lists are in bytes.
use mathlib.Core.Path.{◌≡◌, refl, ap}
use mathlib.Core.List.{List}
use Prim.Native.Nat.{ℕ, zero, suc, ◌+◌}
use lib.ListN.{length, length-append}
use Rattle.definitions.specs.Bytes.{be, concat, list_bytes}

pub length-be : (w v : ℕ) → length (be w v) ≡ w
unfolding be
length-be zero v = refl
length-be (suc w) v = ap suc (length-be w v)

pub length-list : {A : Type 0} (w : ℕ) (f : A → List ℕ) (xs : List A) → length (list_bytes w f xs) ≡ w + length (concat f xs)
unfolding list_bytes
length-list w f xs = simp (length-append, length-be)
