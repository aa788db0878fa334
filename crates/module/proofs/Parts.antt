-- A part of some words, cut at their end. Assumes nothing.
use mathlib.Core.Path.{◌≡◌, sym, ap, ◌∙◌}
use mathlib.Core.List.{List}
use mathlib.Core.Logic.{⊎_elim}
use Prim.Native.Nat.{ℕ, ◌-◌, ◌≤◌, ◌<◌, min}
use native.Mathlib.Omega.{arith}
use lib.ListN.{length, take, drop, length-drop}
use Rattle.std.proofs.lemmas.List.{take_all, drop_all}
use Rattle.definitions.proofs.Begins.{le-or-gt}

from_end : (a : ℕ) (xs : List ℕ) → drop (min a (length xs)) xs ≡ drop a xs
from_end a xs = ⊎_elim
    (λ (h : a ≤ length xs). ap (λ (k : ℕ). drop k xs) (let e : min a (length xs) ≡ a = omega arith in e))
    (λ (h : length xs < a). drop_all _ xs (omega arith) ∙ sym (drop_all a xs (omega arith)))
    (le-or-gt a (length xs))

up_to_end : (n : ℕ) (xs : List ℕ) → take (min n (length xs)) xs ≡ take n xs
up_to_end n xs = ⊎_elim
    (λ (h : n ≤ length xs). ap (λ (k : ℕ). take k xs) (let e : min n (length xs) ≡ n = omega arith in e))
    (λ (h : length xs < n). take_all _ xs (omega arith) ∙ sym (take_all n xs (omega arith)))
    (le-or-gt n (length xs))

pub cut_part : (from n a b : ℕ) (xs : List ℕ) → a ≡ min from (length xs) → b ≡ min n (length (take (length xs - a) (drop a xs))) →
    take b (take (length xs - a) (drop a xs)) ≡ take n (drop from xs)
cut_part from n a b xs e f =
    ap (λ (k : ℕ). take k (take (length xs - a) (drop a xs))) f ∙ up_to_end n (take (length xs - a) (drop a xs))
    ∙ ap (take n) (take_all _ _ (let l = length-drop a xs in omega arith) ∙ ap (λ (k : ℕ). drop k xs) e ∙ from_end from xs)
