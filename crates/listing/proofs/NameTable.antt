-- The table of names: each stands where its instruction's number says.
use mathlib.Core.Path.{◌≡◌, refl, ap, ap₂, ◌∙◌}
use mathlib.Core.Bool.{Bool, true}
use mathlib.Core.List.{List, [], ◌∷◌, ◌++◌}
use Prim.Native.Nat.{ℕ, zero, suc, ◌+◌, ◌*◌, ◌-◌, ◌<◌}
use native.Mathlib.Omega.{arith}
use lib.Dec.{leb}
use lib.ListN.{length, get_or, take, drop}
use lib.Seq.{take_at, drop-append-add}
use Rattle.definitions.specs.Bytes.{all, concat, ascii}
use Rattle.definitions.specs.Instruction.{Row, no_row, instruction_table, row_of}
use Rattle.definitions.specs.Columns.{left_in}
use Rattle.definitions.specs.Listing.{name_text}
use Rattle.definitions.proofs.Truth.{left, right, at_most}
use Rattle.definitions.proofs.Columns.{length-left}

-- a row's name after a space
unfoldable pub name_row : Row → List ℕ
name_row r = 32 ∷ left_in 15 (ascii r.name)

unfoldable pub names : List ℕ
names = concat name_row instruction_table

short : Row → Bool
short r = leb (length (ascii r.name)) 15

-- the rule, tested over the table
all_short : all short instruction_table ≡ true
unfolding all short instruction_table
all_short = refl

none : Row
none = no_row

row_at : (xs : List Row) → all short xs ≡ true → (k : ℕ) → k < length xs → take 16 (drop (k * 16) (concat name_row xs)) ≡ name_row (get_or xs k none)
unfolding all short concat name_row
row_at [] e k h = absurd (omega arith)
row_at (x ∷ xs) e zero h = let l = length-left 15 (ascii x.name) (at_most _ _ (left (short x) (all short xs) e)) in take_at (name_row x) (concat name_row xs) 16 (omega arith)
row_at (x ∷ xs) e (suc k) h =
    let l = length-left 15 (ascii x.name) (at_most _ _ (left (short x) (all short xs) e)) in
    ap (λ (n : ℕ). take 16 (drop n (name_row x ++ concat name_row xs))) (let z : suc k * 16 ≡ length (name_row x) + k * 16 = omega arith in z)
    ∙ ap (take 16) (drop-append-add (name_row x) (concat name_row xs) (k * 16))
    ∙ row_at xs (right (short x) (all short xs) e) k (omega arith)

rows : length instruction_table ≡ 46
unfolding instruction_table
rows = refl

pub name-at : (op : ℕ) (t : List ℕ) → op < 46 → t ≡ names → take (op * 16 + 16 - op * 16) (drop (op * 16) t) ≡ 32 ∷ left_in 15 (name_text op)
unfolding name_text row_of none names name_row
name-at op t h e =
    let r = rows in
    ap₂ (λ (n : ℕ) (l : List ℕ). take n (drop (op * 16) l)) (let z : op * 16 + 16 - op * 16 ≡ 16 = omega arith in z) e
    ∙ row_at instruction_table all_short op (omega arith)
