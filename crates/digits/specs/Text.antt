-- What text spells: digits and decimal numbers. Assumes nothing: these are definitions.
use Rattle.std.specs.Prelude.{ℕ, ◌+◌, ◌*◌, ◌-◌, ◌^◌, Bool, true, ◌&&◌, cond, List, [], ◌∷◌, leb, ltb, Option, Some, None}

-- the value of a hexadecimal digit in lower case; 16 of any other character
unfoldable pub digit_value : ℕ → ℕ
digit_value c = cond (leb 48 c && ltb c 58) (c - 48) (cond (leb 97 c && ltb c 103) (c - 87) 16)

-- each character is a decimal digit
unfoldable pub all_decimal : List ℕ → Bool
all_decimal [] = true
all_decimal (c ∷ cs) = ltb (digit_value c) 10 && all_decimal cs

-- the number that digits spell after those of v
unfoldable pub value_from : ℕ → List ℕ → ℕ
value_from v [] = v
value_from v (c ∷ cs) = value_from (v * 10 + digit_value c) cs

-- the same, where all are decimal digits and the number is below 2^64
unfoldable pub decimal_from : ℕ → List ℕ → Option ℕ
decimal_from v cs = cond (ltb (value_from v cs) (2 ^ 64) && all_decimal cs) (Some (value_from v cs)) None

-- the number that a text spells: at least one character, all of them decimal digits, below 2^64
unfoldable pub decimal_spelled : List ℕ → Option ℕ
decimal_spelled [] = None
decimal_spelled (c ∷ cs) = decimal_from 0 (c ∷ cs)
