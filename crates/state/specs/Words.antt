-- An instruction as one word of 32 bits: opcode, a 16-bit operand, an 8-bit operand; and parts of a slice.
use Rattle.std.specs.Prelude.{ℕ, zero, suc, ◌+◌, ◌*◌, ◌-◌, ◌/◌, ◌%◌, ◌^◌, true, false, ◌||◌, List, map, take, drop, get_or, eqb, ltb}
use Rattle.definitions.specs.Bytes.{Name, Text}
use Rattle.definitions.specs.Instruction.{Instr, instr, ConstI64}
use Rattle.definitions.specs.Reader.{is_jump}

-- n words of an area from a on
unfoldable pub region : ℕ → ℕ → List ℕ → List ℕ
region a n xs = take n (drop a xs)

-- the big-endian number of w bytes at p, 0 past the end
unfoldable pub big_endian_at : ℕ → List ℕ → ℕ → ℕ
big_endian_at zero t p = 0
big_endian_at (suc w) t p = get_or t p 0 * 256 ^ w + big_endian_at w t (p + 1)

-- the name whose length byte is at p; the string whose count is at p
unfoldable pub name_at : List ℕ → ℕ → Name
name_at t p = take (get_or t p 0) (drop (p + 1) t)

unfoldable pub text_at : List ℕ → ℕ → Text
text_at t p = take (big_endian_at 2 t p) (drop (p + 2) t)

-- a word
abbrev pub word : ℕ → ℕ → ℕ → ℕ
word op a b = op * 2 ^ 24 + a * 2 ^ 8 + b

abbrev pub op_of : ℕ → ℕ
op_of w = w / 2 ^ 24

abbrev pub first_of : ℕ → ℕ
first_of w = w / 2 ^ 8 % 2 ^ 16

abbrev pub second_of : ℕ → ℕ
second_of w = w % 2 ^ 8

-- a signed number of 16 bits in 32 bits
unfoldable pub widened : ℕ → ℕ
widened a = elim (ltb a (2 ^ 15)) [ true ↦ a | false ↦ a + (2 ^ 32 - 2 ^ 16) ]

-- the opcode of a word whose integer is its operand: one below 2 ^ 16. ConstI64's own operand is the place of the integer in the tree
abbrev pub small_int : ℕ
small_int = 48

-- the first operand: of ConstI64 and ConstF64 the eight bytes at that place in the tree; of a jump signed
unfoldable pub operand_read : List ℕ → ℕ → ℕ → ℕ
operand_read t op a =
    elim (eqb op 0 || eqb op 1) [
      | true ↦ big_endian_at 8 t a
      | false ↦
          elim (is_jump op) [ true ↦ widened a | false ↦ a ]
    ]

-- the instruction of a word
unfoldable pub instr_of : List ℕ → ℕ → Instr
instr_of t w = elim (eqb (op_of w) small_int) [ true ↦ ConstI64 (first_of w) | false ↦ instr (op_of w) (operand_read t (op_of w) (first_of w)) (second_of w) ]

unfoldable pub instrs_of : List ℕ → List ℕ → List Instr
instrs_of t ws = map (instr_of t) ws
