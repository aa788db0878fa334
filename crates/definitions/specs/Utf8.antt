-- Well-formed UTF-8, as section 4 of RFC 3629 writes it.
use Rattle.std.specs.Prelude.{ℕ, ◌+◌, ◌/◌, ◌%◌, Bool, true, false, not, ◌&&◌, List, [], ◌∷◌, leb, ltb}
use Rattle.std.proofs.Math.Option.{Option, none, some}
use Rattle.definitions.specs.Bytes.{Text}

-- bytes from one to another
pub record Range : Type 0 where
  pub from : ℕ
  pub up_to : ℕ

abbrev pub range : ℕ → ℕ → Range
range a b = record { from = a; up_to = b }

unfoldable pub in_range : Range → ℕ → Bool
in_range r b = leb r.from b && leb b r.up_to

-- a character: its first byte, and those after it
pub record Octets : Type 0 where
  pub first : Range
  pub others : List Range

abbrev pub octets : Range → List Range → Octets
octets r rs = record { first = r; others = rs }

-- UTF8-tail
abbrev pub tail : Range
tail = range 0x80 0xBF

-- UTF8-char: UTF8-1, UTF8-2, four of UTF8-3, three of UTF8-4
unfoldable pub utf8_char : List Octets
utf8_char =
    octets (range 0x00 0x7F) []
    ∷ octets (range 0xC2 0xDF) (tail ∷ [])
    ∷ octets (range 0xE0 0xE0) (range 0xA0 0xBF ∷ tail ∷ [])
    ∷ octets (range 0xE1 0xEC) (tail ∷ tail ∷ [])
    ∷ octets (range 0xED 0xED) (range 0x80 0x9F ∷ tail ∷ [])
    ∷ octets (range 0xEE 0xEF) (tail ∷ tail ∷ [])
    ∷ octets (range 0xF0 0xF0) (range 0x90 0xBF ∷ tail ∷ tail ∷ [])
    ∷ octets (range 0xF1 0xF3) (tail ∷ tail ∷ tail ∷ [])
    ∷ octets (range 0xF4 0xF4) (range 0x80 0x8F ∷ tail ∷ tail ∷ [])
    ∷ []

-- what must follow a first byte, by the only line that it begins; none where no character begins with it
unfoldable pub followers : List Octets → ℕ → Option (List Range)
followers [] b = none
followers (c ∷ cs) b = elim (in_range c.first b) [ true ↦ some c.others | false ↦ followers cs b ]

-- the bytes go on with one in each of the ranges, and then with characters up to the end
unfoldable pub goes_on : List Range → List ℕ → Bool
goes_on [] [] = true
goes_on (r ∷ rs) [] = false
goes_on [] (b ∷ bs) = elim (followers utf8_char b) [ none ↦ false | some rs ↦ goes_on rs bs ]
goes_on (r ∷ rs) (b ∷ bs) = in_range r b && goes_on rs bs

-- UTF8-octets
unfoldable pub is_utf8 : Text → Bool
is_utf8 s = goes_on [] s

-- ---- characters

-- a scalar value: a number below 0x110000 that is no surrogate
unfoldable pub is_scalar : ℕ → Bool
is_scalar c = ltb c 0x110000 && not (leb 0xD800 c && leb c 0xDFFF)

-- the bytes of a character, by its number (section 3)
unfoldable pub encode_char : ℕ → List ℕ
encode_char c =
    elim (ltb c 0x80) [
      | true ↦ c ∷ []
      | false ↦
          elim (ltb c 0x800) [
            | true ↦ (0xC0 + c / 64) ∷ (0x80 + c % 64) ∷ []
            | false ↦
                elim (ltb c 0x10000) [
                  | true ↦ (0xE0 + c / 4096) ∷ (0x80 + c / 64 % 64) ∷ (0x80 + c % 64) ∷ []
                  | false ↦ (0xF0 + c / 262144) ∷ (0x80 + c / 4096 % 64) ∷ (0x80 + c / 64 % 64) ∷ (0x80 + c % 64) ∷ []
                ]
          ]
    ]
