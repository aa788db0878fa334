-- How long a module is: at most 187,471 bytes where its tables are in bounds.
use mathlib.Core.Path.{◌≡◌, refl}
use mathlib.Core.Bool.{◌&&◌}
use mathlib.Core.List.{List, ◌∷◌, []}
use Prim.Native.Nat.{ℕ, ◌+◌, ◌*◌, ◌≤◌}
use native.Mathlib.Omega.{arith}
use lib.ListN.{length, length-append}
use lib.Dec.{leb}
use Rattle.definitions.specs.Bytes.{Name, Text, all, be, concat, housed}
use Rattle.definitions.specs.Instruction.{Instr, Row, no_row, instruction_table, first_width, second_width, encode}
use Rattle.definitions.specs.Tables.{Function, Method, Class, Tables}
use Rattle.definitions.specs.Module.{name_bytes, text_bytes, function_bytes, method_bytes, class_bytes, table_bytes, module_bytes, office, instructions}
use Rattle.definitions.specs.Open.{all_instruction}
use Rattle.definitions.proofs.Truth.{left, right, at_most}
use Rattle.definitions.proofs.BytesWritten.{length-be, length-list}
use Rattle.definitions.proofs.Every.{Every, no_every, every, all_get_d}
use Rattle.definitions.proofs.Names.{Short, name-short}
use Rattle.definitions.proofs.Bounds.{Ordered, texts, names, members}
use Rattle.definitions.proofs.Known.{Known}

symbols-room : {xs : List Name} → Every Short xs → length (concat name_bytes xs) ≤ 65 * length xs
unfolding concat name_bytes
symbols-room no_every = omega arith
symbols-room (every h r) = simp (length-append, length-be) (omega (arith, symbols-room r, h.short))

strings-room : (ss : List Text) → length (concat text_bytes ss) ≡ texts ss
unfolding concat text_bytes
strings-room [] = refl
strings-room (s ∷ ss) = simp (length-append, length-be, strings-room ss)

methods-room : (ms : List Method) → length (concat method_bytes ms) ≡ names ms
unfolding concat method_bytes name_bytes
methods-room [] = refl
methods-room (m ∷ ms) = simp (length-append, length-be, methods-room ms) (omega arith)

classes-room : {t : Tables} {xs : List Class} → Every (Ordered t) xs → length (concat class_bytes xs) ≤ 67 * length xs + members xs
unfolding concat class_bytes name_bytes
classes-room no_every = omega arith
classes-room (every {a = c} h r) = simp (length-append, length-be, length-list, methods-room) (omega (arith, classes-room r, (name-short c.name h.named).short))

constants-room : (ks : List ℕ) → length (concat (be 2) ks) ≡ 2 * length ks
unfolding concat
constants-room [] = refl
constants-room (k ∷ ks) = simp (length-append, length-be) (omega (arith, constants-room ks))

-- an instruction has at most ten bytes, one of them its number
pub operands-room : (op : ℕ) → (first_width op ≤ 8) × (second_width op ≤ 1)
unfolding all_instruction all
operands-room op =
    let e = all_get_d (λ (r : Row). leb r.first 8 && leb r.second 1) instruction_table refl op no_row refl in
    (at_most _ 8 (left (leb (first_width op) 8) (leb (second_width op) 1) e), at_most _ 1 (right (leb (first_width op) 8) (leb (second_width op) 1) e))

code-room : (is : List Instr) → length (concat encode is) ≤ 10 * length is
unfolding concat encode
code-room [] = omega arith
code-room (i ∷ is) = simp (length-append, length-be) (omega (arith, code-room is, operands-room i.op))

function-room : (f : Function) → length (function_bytes f) ≤ 9 + 10 * length f.code
unfolding function_bytes
function-room f = simp (length-append, length-be, length-list) (omega (arith, code-room f.code))

functions-room : (fs : List Function) → length (concat function_bytes fs) ≤ 9 * length fs + 10 * instructions fs
unfolding concat instructions
functions-room [] = omega arith
functions-room (f ∷ fs) = omega (arith, functions-room fs, function-room f, length-append (function_bytes f) (concat function_bytes fs))

-- ---- the whole

pub length-tables : (t : Tables) → length (table_bytes t)
    ≡ 10 + length (concat name_bytes t.symbols) + length (concat text_bytes t.strings)
    + length (concat function_bytes t.functions) + length (concat class_bytes t.classes) + length (concat (be 2) t.constants)
unfolding table_bytes
length-tables t = simp (length-append, length-list) (omega arith)

pub module-room : {n : ℕ} (t : Tables) → n ≤ 32768 → Known n t → length (module_bytes t) ≤ 187983
unfolding module_bytes housed office
module-room t h K =
    let L = K.limits in
    let B = K.bounded in
    let s = symbols-room B.trim.symbols in
    let x = strings-room t.strings in
    let f = functions-room t.functions in
    let c = classes-room B.trim.classes in
    let k = constants-room t.constants in
    simp (length-append, length-be) (omega (arith, L.symbols, L.functions, L.classes, L.instructions, B.weight, B.constants, length-tables t))
