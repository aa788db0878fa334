-- The code listing (R-2): a line for each instruction, in pages of 50.
use Rattle.std.specs.Prelude.{ℕ, suc, ◌+◌, ◌/◌, ◌%◌, true, false, List, [], ◌∷◌, ◌++◌, length, eqb}
use Rattle.definitions.specs.Bytes.{ascii, decimal}
use Rattle.definitions.specs.Columns.{left_in, right_in, signed, hexadecimal}
use Rattle.definitions.specs.Instruction.{Instr, ConstI64, ConstF64, row_of, first_width, second_width}
use Rattle.definitions.specs.Tables.{Function, Tables}
use Rattle.definitions.specs.Reader.{is_jump}

-- how a first operand is shown
pub data Shown : Type 0 where
  blank plain signed₆₄ signed₃₂ bits : Shown

-- no operand; ConstI64; ConstF64; a jump; any other
unfoldable pub shown_as : ℕ → Shown
shown_as op =
    elim (eqb (first_width op) 0) [
      | true ↦ blank
      | false ↦
          elim (eqb op (ConstI64 0).op) [
            | true ↦ signed₆₄
            | false ↦
                elim (eqb op (ConstF64 0).op) [ true ↦ bits | false ↦ elim (is_jump op) [ true ↦ signed₃₂ | false ↦ plain ] ]
          ]
    ]

unfoldable pub shown : Shown → ℕ → List ℕ
shown blank n = []
shown plain n = decimal n
shown signed₆₄ n = signed 64 n
shown signed₃₂ n = signed 32 n
shown bits n = hexadecimal 16 n

-- the first operand of the instruction with an opcode, and the second
unfoldable pub first_text : ℕ → ℕ → List ℕ
first_text op a = shown (shown_as op) a

unfoldable pub second_text : ℕ → ℕ → List ℕ
second_text op b = elim (eqb (second_width op) 0) [ true ↦ [] | false ↦ decimal b ]

-- its name as in the Rust
unfoldable pub name_text : ℕ → List ℕ
name_text op = ascii (row_of op).name

-- the line of the instruction at a place of function f: columns 1 to 5, 7 to 11, 13 to 27, 29 to 48 and 50 to 52
unfoldable pub code_line : ℕ → ℕ → Instr → List ℕ
code_line f p i =
    right_in 5 (decimal f)
    ++ (32 ∷ right_in 5 (decimal p)
    ++ (32 ∷ left_in 15 (name_text i.op)
    ++ (32 ∷ right_in 20 (first_text i.op i.a)
    ++ (32 ∷ right_in 3 (second_text i.op i.b) ++ 10 ∷ []))))

-- a page's first line, by its number: columns 1 to 4 and 6 to 11
unfoldable pub page_line : ℕ → List ℕ
page_line n = left_in 52 (ascii "PAGE " ++ right_in 6 (decimal n)) ++ 10 ∷ []

-- what stands before code line k, from 0: a page's first line, before each fiftieth
unfoldable pub heading : ℕ → List ℕ
heading k = elim (eqb (k % 50) 0) [ true ↦ page_line (suc (k / 50)) | false ↦ [] ]

-- the lines of a function's code, from place p and code line k on
unfoldable pub code_lines : ℕ → ℕ → ℕ → List Instr → List ℕ
code_lines f p k [] = []
code_lines f p k (i ∷ is) = heading k ++ (code_line f p i ++ code_lines f (suc p) (suc k) is)

-- of the functions, from number f and code line k on
unfoldable pub function_lines : ℕ → ℕ → List Function → List ℕ
function_lines f k [] = []
function_lines f k (g ∷ gs) = code_lines f 0 k g.code ++ function_lines (suc f) (k + length g.code) gs

unfoldable pub listing : Tables → List ℕ
listing t = function_lines 0 0 t.functions
