-- The text of bytes in hexadecimal, a byte after the other. Assumes nothing.
use Prim.Native.Nat.{ℕ, ◌+◌, ◌-◌, ◌^◌, ◌<◌, ◌≤◌}
use mathlib.Core.Path.{◌≡◌, refl, sym, ap, ◌∙◌}
use mathlib.Core.Bool.{false}
use mathlib.Core.List.{List, [], ◌∷◌, ◌++◌}
use native.Mathlib.Omega.{arith}
use lib.ListN.{length, get_or, take}
use lib.Seq.{take_all}
use Rattle.std.specs.List.{flat_map}
use Rattle.std.specs.Fmt.{padded_integral, format_spec, digits}
use Rattle.std.proofs.lemmas.Fmt.{hex_byte}
use Rattle.std.proofs.lemmas.List.{take_more, flat_map_more}
use Rattle.report.specs.Text.{hex_pair, hex_text}

pub none-dash : (xs : List ℕ) → length xs ≡ 0 → 45 ∷ [] ≡ hex_text xs
unfolding hex_text
none-dash [] e = refl
none-dash (x ∷ xs) e = absurd (omega arith)

pub whole-text : (xs : List ℕ) (i : ℕ) → (length xs ≡ 0 → ⊥) → length xs ≤ i → flat_map hex_pair (take i xs) ≡ hex_text xs
unfolding hex_text
whole-text [] i f h = absurd (f refl)
whole-text (x ∷ xs) i f h = ap (flat_map hex_pair) (take_all i (x ∷ xs) h)

pub one_more : (xs : List ℕ) (i : ℕ) → i < length xs → get_or xs i 0 < 256
    → flat_map hex_pair (take i xs) ++ padded_integral (format_spec 32 0 4 2 (2 ^ 64 - 1)) false [] (digits 16 false (get_or xs i 0)) ≡ flat_map hex_pair (take (i + 1) xs)
one_more xs i h b =
    ap (λ (z : List ℕ). flat_map hex_pair (take i xs) ++ z) (hex_byte false (get_or xs i 0) b)
    ∙ flat_map_more hex_pair [] (take i xs) (get_or xs i 0) ∙ ap (flat_map hex_pair) (sym (take_more xs i 0 h))
