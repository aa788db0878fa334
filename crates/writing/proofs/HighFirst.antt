-- The library's bytes of a number, and the last of them. Assumes nothing.
use mathlib.Core.Path.{◌≡◌, refl, sym, ap, ◌∙◌}
use mathlib.Core.List.{List, ◌∷◌}
use Prim.Native.Nat.{ℕ, zero, suc, ◌+◌, ◌-◌, ◌/◌, ◌%◌, ◌^◌, ◌≤◌}
use native.Mathlib.Omega.{arith}
use native.Mathlib.Nat.{div-one}
use lib.ListN.{take, drop}
use Rattle.std.proofs.lemmas.List.{take_all}
use Rattle.std.specs.Int.{bytes_high_first, to_be_bytes}
use mir.Syntax.{w64}
use Rattle.definitions.specs.Bytes.{be}
use Rattle.definitions.proofs.BytesWritten.{length-be}

high-first : (w v : ℕ) → bytes_high_first w v ≡ be w v
unfolding be
high-first zero v = refl
high-first (suc zero) v = ap (λ (n : ℕ). n % 256 ∷ be 0 v) (sym (div-one v))
high-first (suc (suc w)) v = ap (λ (bs : List ℕ). v / 256 ^ suc w % 256 ∷ bs) (high-first (suc w) v)

drop-be : (k w v : ℕ) → drop k (be (k + w) v) ≡ be w v
unfolding be
drop-be zero w v = ap (λ (n : ℕ). be n v) (let e : 0 + w ≡ w = omega arith in e)
drop-be (suc k) w v = ap (λ (n : ℕ). drop (suc k) (be n v)) (let e : suc k + w ≡ suc (k + w) = omega arith in e) ∙ drop-be k w v

-- the last w of the eight bytes
pub last-bytes : (w v : ℕ) (bs : List ℕ) → w ≤ 8 → bs ≡ to_be_bytes w64 v → take (8 - (8 - w)) (drop (8 - w) bs) ≡ be w v
last-bytes w v bs h e =
    ap (λ (xs : List ℕ). take (8 - (8 - w)) (drop (8 - w) xs)) (e ∙ high-first 8 v ∙ ap (λ (n : ℕ). be n v) (let g : 8 ≡ 8 - w + w = omega arith in g))
    ∙ ap (λ (xs : List ℕ). take (8 - (8 - w)) xs) (drop-be (8 - w) w v)
    ∙ take_all _ _ (let k = length-be w v in omega arith)
