-- What is printed of bytes.
use Rattle.std.specs.Prelude.{ℕ, ◌/◌, ◌%◌, false, List, [], ◌∷◌}
use Rattle.std.specs.List.{flat_map}
use Rattle.std.specs.Fmt.{digit_glyph}

-- a byte by its two hexadecimal digits, in lower case
abbrev pub hex_pair : ℕ → List ℕ
hex_pair n = digit_glyph false (n / 16) ∷ digit_glyph false (n % 16) ∷ []

-- bytes one after the other, and a dash where there are none
unfoldable pub hex_text : List ℕ → List ℕ
hex_text [] = 45 ∷ []
hex_text (x ∷ xs) = flat_map hex_pair (x ∷ xs)
