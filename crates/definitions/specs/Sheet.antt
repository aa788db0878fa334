-- The count sheet (R-5): a line for each function, and one for the totals.
use Rattle.std.specs.Prelude.{ℕ, suc, Bool, true, false, ◌||◌, List, [], ◌∷◌, ◌++◌, eqb}
use Rattle.definitions.specs.Bytes.{ascii, decimal}
use Rattle.definitions.specs.Columns.{left_in, right_in}
use Rattle.definitions.specs.Instruction.{Instr, JumpIfFalse, JumpIfTrue, Call, CallBuiltin, CallValue, CallMethod}
use Rattle.definitions.specs.Tables.{Function, Tables}

-- what is counted: every instruction; conditional jumps; calls
unfoldable pub any_op : ℕ → Bool
any_op op = true

unfoldable pub is_question : ℕ → Bool
is_question op = eqb op (JumpIfFalse 0).op || eqb op (JumpIfTrue 0).op

unfoldable pub is_call : ℕ → Bool
is_call op = eqb op (Call 0 0).op || eqb op (CallBuiltin 0 0).op || eqb op (CallValue 0).op || eqb op (CallMethod 0 0).op

-- 1 for what passes a test
unfoldable pub one_if : Bool → ℕ
one_if true = 1
one_if false = 0

-- how many instructions have an opcode that passes the test
unfoldable pub tally : (ℕ → Bool) → List Instr → ℕ
tally p [] = 0
tally p (i ∷ is) = elim (p i.op) [ true ↦ suc (tally p is) | false ↦ tally p is ]

-- the instructions of all functions, in order
unfoldable pub all_code : List Function → List Instr
all_code [] = []
all_code (f ∷ fs) = f.code ++ all_code fs

-- a line of a word and three numbers: columns 1 to 5, 7 to 12, 14 to 19 and 21 to 26
unfoldable pub count_line : List ℕ → ℕ → ℕ → ℕ → List ℕ
count_line w n q c = left_in 40 (right_in 5 w ++ (32 ∷ right_in 6 (decimal n) ++ (32 ∷ right_in 6 (decimal q) ++ (32 ∷ right_in 6 (decimal c))))) ++ 10 ∷ []

-- the line of some code: its instructions, conditional jumps and calls
unfoldable pub tally_line : List ℕ → List Instr → List ℕ
tally_line w is = count_line w (tally any_op is) (tally is_question is) (tally is_call is)

-- the lines of the functions, from number f on
unfoldable pub tally_lines : ℕ → List Function → List ℕ
tally_lines f [] = []
tally_lines f (g ∷ gs) = tally_line (decimal f) g.code ++ tally_lines (suc f) gs

-- the sheet of functions; of a module
unfoldable pub sheet_of : List Function → List ℕ
sheet_of fs = tally_lines 0 fs ++ tally_line (ascii "TOTAL") (all_code fs)

unfoldable pub sheet : Tables → List ℕ
sheet t = sheet_of t.functions
