-- Texts in columns, and numbers as text.
use Rattle.std.specs.Prelude.{ℕ, zero, suc, ◌+◌, ◌-◌, ◌/◌, ◌%◌, ◌^◌, true, false, List, [], ◌∷◌, ◌++◌, length, replicate, ltb}
use Rattle.definitions.specs.Bytes.{decimal}

-- so many spaces
unfoldable pub spaces : ℕ → List ℕ
spaces n = replicate n 32

-- a text in w columns: at the left, and at the right
unfoldable pub left_in : ℕ → List ℕ → List ℕ
left_in w s = s ++ spaces (w - length s)

unfoldable pub right_in : ℕ → List ℕ → List ℕ
right_in w s = spaces (w - length s) ++ s

-- the number whose two's complement in b bits is n, in decimal digits, after a minus where it is below 0
unfoldable pub signed : ℕ → ℕ → List ℕ
signed b n = elim (ltb (n + n) (2 ^ b)) [ true ↦ decimal n | false ↦ 45 ∷ decimal (2 ^ b - n) ]

-- an upper-case hexadecimal digit, and the low w digits of n
unfoldable pub hex_digit : ℕ → ℕ
hex_digit d = elim (ltb d 10) [ true ↦ 48 + d | false ↦ 55 + d ]

unfoldable pub hexadecimal : ℕ → ℕ → List ℕ
hexadecimal zero n = []
hexadecimal (suc w) n = hex_digit (n / 16 ^ w % 16) ∷ hexadecimal w n
