-- What a field shows, as text.
use Rattle.std.specs.Prelude.{ℕ, suc, ◌≤◌, ◌≡◌, List, [], ◌∷◌, ◌++◌, length}
use Rattle.definitions.specs.Bytes.{decimal}
use Rattle.definitions.specs.Columns.{right_in, hexadecimal}
use Rattle.columns.specs.declared.Field.{Field}
use Rattle.columns.specs.declared.Field.TheVariants.{Blank, Digits, Negative, Minus, Bits}
use Rattle.columns.specs.declared.Last.{Last}

unfoldable pub field_text : Field → List ℕ
field_text Blank = []
field_text (Digits n) = decimal n
field_text (Negative n) = 45 ∷ decimal n
field_text Minus = 45 ∷ []
field_text (Bits w n) = hexadecimal w n

-- a field's last byte, and what it shows before that
pub record Splits (f : Field) (r : Last) : Type 0 where
  pub fits : (w : ℕ) → length (field_text f) ≤ suc w → length (field_text r.rest) ≤ w
  pub splits : (w : ℕ) → length (field_text f) ≤ suc w → right_in (suc w) (field_text f) ≡ right_in w (field_text r.rest) ++ r.byte ∷ []
