-- The count sheet: totals are the sums of their columns, what fits its columns, and how long it is.
use mathlib.Core.Path.{◌≡◌, refl, sym, ap, ap₂, ◌∙◌}
use mathlib.Core.Bool.{Bool, true, false}
use mathlib.Core.List.{List, [], ◌∷◌, ◌++◌}
use Prim.Native.Nat.{ℕ, suc, ◌+◌, ◌*◌, ◌≤◌, ◌<◌}
use native.Mathlib.Nat.{zero-add}
use native.Mathlib.Omega.{arith}
use lib.ListN.{length, length-append}
use Rattle.definitions.specs.Bytes.{ascii, decimal}
use Rattle.definitions.specs.Columns.{spaces, right_in}
use Rattle.definitions.specs.Instruction.{Instr}
use Rattle.definitions.specs.Module.{instructions}
use Rattle.definitions.specs.Tables.{Function}
use Rattle.definitions.specs.Sheet.{any_op, is_question, is_call, one_if, tally, all_code, count_line, tally_line, tally_lines, sheet_of, sheet}
use Rattle.definitions.specs.Statements.{column, sum, rows, SheetTotals, SheetLength}
use Rattle.definitions.proofs.Columns.{length-right, length-left}
use Rattle.definitions.proofs.Every.{Every, no_every, every, every-at}
use Rattle.definitions.proofs.ReadFits.{CodeFits, functions-fit}
use Rattle.definitions.proofs.Listing.{five-digits, six-digits}

-- ---- counts

-- an instruction more
pub tally-more : (t : ℕ → Bool) (i : Instr) (is : List Instr) → tally t (i ∷ is) ≡ one_if (t i.op) + tally t is
unfolding tally one_if
tally-more t i is = go (t i.op)
  where
    go : (b : Bool) → (elim b as (λ z. ℕ) [ true ↦ suc (tally t is) | false ↦ tally t is ]) ≡ one_if b + tally t is
    go true = omega arith
    go false = omega arith

pub tally-append : (t : ℕ → Bool) (xs ys : List Instr) → tally t (xs ++ ys) ≡ tally t xs + tally t ys
unfolding tally
tally-append t [] ys = sym (zero-add (tally t ys))
tally-append t (x ∷ xs) ys = go (t x.op) (tally-append t xs ys)
  where
    go : (b : Bool) → tally t (xs ++ ys) ≡ tally t xs + tally t ys
        → (elim b as (λ z. ℕ) [ true ↦ suc (tally t (xs ++ ys)) | false ↦ tally t (xs ++ ys) ]) ≡ (elim b as (λ z. ℕ) [ true ↦ suc (tally t xs) | false ↦ tally t xs ]) + tally t ys
    go true h = omega arith
    go false h = h

pub tally-length : (is : List Instr) → tally any_op is ≡ length is
unfolding tally any_op
tally-length [] = refl
tally-length (i ∷ is) = ap suc (tally-length is)

pub tally-few : (t : ℕ → Bool) (is : List Instr) → tally t is ≤ length is
unfolding tally
tally-few t [] = omega arith
tally-few t (i ∷ is) = go (t i.op) (tally-few t is)
  where
    go : (b : Bool) → tally t is ≤ length is → (elim b as (λ z. ℕ) [ true ↦ suc (tally t is) | false ↦ tally t is ]) ≤ suc (length is)
    go true h = omega arith
    go false h = omega arith

pub length-all : (fs : List Function) → length (all_code fs) ≡ instructions fs
unfolding all_code instructions
length-all [] = refl
length-all (f ∷ fs) = length-append f.code (all_code fs) ∙ ap (λ (n : ℕ). length f.code + n) (length-all fs)

-- ---- totals

column-sum : (t : ℕ → Bool) (fs : List Function) → sum (column t fs) ≡ tally t (all_code fs)
unfolding tally all_code column sum
column-sum t [] = refl
column-sum t (f ∷ fs) = ap (λ (n : ℕ). tally t f.code + n) (column-sum t fs) ∙ sym (tally-append t f.code (all_code fs))

rows_are : (f : ℕ) (fs : List Function) → tally_lines f fs ≡ rows f (column any_op fs) (column is_question fs) (column is_call fs)
unfolding tally_lines tally_line rows column
rows_are f [] = refl
rows_are f (g ∷ gs) = ap (λ (l : List ℕ). tally_line (decimal f) g.code ++ l) (rows_are (suc f) gs)

pub sheet_totals : SheetTotals
unfolding sheet sheet_of tally_line
sheet_totals t =
    let fs = t.functions in
    let total : ℕ → ℕ → ℕ → List ℕ = count_line (ascii "TOTAL") in
    record {
      shows = ap₂ (λ (l m : List ℕ). l ++ m) (rows_are 0 fs)
          (ap (λ (n : ℕ). total n (tally is_question (all_code fs)) (tally is_call (all_code fs))) (sym (column-sum any_op fs))
          ∙ ap₂ (λ (q c : ℕ). total (sum (column any_op fs)) q c) (sym (column-sum is_question fs)) (sym (column-sum is_call fs)));
      counts = λ test. column-sum test fs;
      all = column-sum any_op fs ∙ tally-length (all_code fs) ∙ length-all fs;
    }

-- ---- how long it is

pub total-word : right_in 5 (ascii "TOTAL") ≡ ascii "TOTAL"
unfolding right_in spaces
total-word = refl

pub count_long : (w : List ℕ) (n q c : ℕ) → length (right_in 5 w) ≡ 5 → n < 1000000 → q < 1000000 → c < 1000000 → length (count_line w n q c) ≡ 41
unfolding count_line
count_long w n q c hw hn hq hc =
    let a = length-right 6 (decimal n) (six-digits n hn) in
    let b = length-right 6 (decimal q) (six-digits q hq) in
    let d = length-right 6 (decimal c) (six-digits c hc) in
    let s : length (right_in 5 w ++ (32 ∷ right_in 6 (decimal n) ++ (32 ∷ right_in 6 (decimal q) ++ (32 ∷ right_in 6 (decimal c))))) ≡ 26 = simp (length-append, hw, a, b, d) in
    let l = length-left 40 (right_in 5 w ++ (32 ∷ right_in 6 (decimal n) ++ (32 ∷ right_in 6 (decimal q) ++ (32 ∷ right_in 6 (decimal c))))) (omega arith) in
    simp (length-append, l)

pub tally-long : (w : List ℕ) (is : List Instr) → length (right_in 5 w) ≡ 5 → length is < 1000000 → length (tally_line w is) ≡ 41
unfolding tally_line
tally-long w is hw h =
    let a = tally-few any_op is in let b = tally-few is_question is in let c = tally-few is_call is in
    count_long w (tally any_op is) (tally is_question is) (tally is_call is) hw (omega arith) (omega arith) (omega arith)

lines_long : (f : ℕ) (fs : List Function) → Every CodeFits fs → f + length fs ≤ 65536 → length (tally_lines f fs) ≡ 41 * length fs
unfolding tally_lines
lines_long f [] no_every h = refl
lines_long f (g ∷ gs) (every F r) h =
    let few = F.few in
    let i = lines_long (suc f) gs r (omega arith) in
    let l = tally-long (decimal f) g.code (length-right 5 (decimal f) (five-digits f (omega arith))) (omega arith) in
    let a = length-append (tally_line (decimal f) g.code) (tally_lines (suc f) gs) in
    omega arith

pub sheet_length : SheetLength
unfolding sheet sheet_of
sheet_length m t o e =
    let F = functions-fit m t o e in
    let fs = t.functions in
    let few = F.few in
    let short = F.short in
    let n = length-all fs in
    let i = lines_long 0 fs F.each (omega arith) in
    let l = tally-long (ascii "TOTAL") (all_code fs) (ap length total-word) (omega arith) in
    let a = length-append (tally_lines 0 fs) (tally_line (ascii "TOTAL") (all_code fs)) in
    record {
      function = λ f h. five-digits f (omega arith);
      line = λ test f g h.
          let C = (every-at fs F.each f g h).few in
          let k = tally-few test g.code in
          six-digits (tally test g.code) (omega arith);
      total = λ test. let k = tally-few test (all_code fs) in six-digits (tally test (all_code fs)) (omega arith);
      long = omega arith;
    }
