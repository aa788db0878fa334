-- Lines, written field by field.
use mathlib.Core.Path.{◌≡◌, ap, ◌∙◌}
use mathlib.Core.List.{List, [], ◌∷◌}
use Prim.Native.Nat.{ℕ, ◌≤◌, ◌<◌}
use native.Mathlib.Omega.{arith}
use lib.ListN.{length, set}
use Rattle.definitions.specs.Bytes.{decimal, ascii}
use Rattle.definitions.specs.Calls.{written}
use Rattle.definitions.specs.Instruction.{instr}
use Rattle.definitions.specs.Columns.{left_in, right_in}
use Rattle.definitions.specs.Listing.{first_text, second_text, name_text, code_line, page_line}
use Rattle.definitions.specs.Statements.{LineFits}
use Rattle.definitions.proofs.Columns.{length-right, length-left}
use Rattle.definitions.proofs.Listing.{line-fits, line-long, page-long, first_fits, second_fits, six-digits}
use Rattle.columns.specs.declared.Field.{Field}
use Rattle.columns.specs.declared.Field.TheVariants.{Blank, Digits}
use Rattle.columns.specs.Fields.{field_text}
use Rattle.writing.proofs.Begun.{over, from, length-written, put_first, put_next, put_last}
use Rattle.reader.specs.View.{instruction_shown}
use Rattle.reader.specs.declared.Placed.{Placed}
use Rattle.listing.specs.Lines.{Operands}
use Rattle.listing.proofs.Fields.{line-pieces, page-pieces}

-- what is shown, by what it is to be
shown-written : (f : Field) {s z : List ℕ} (w : ℕ) (x : List ℕ) → field_text f ≡ s → z ≡ written (right_in w (field_text f)) x → z ≡ written (right_in w s) x
shown-written f w x h e = e ∙ ap (λ (l : List ℕ). written (right_in w l) x) h

pub first-room : {p : Placed} (f : Field) → Operands p → field_text f ≡ first_text p.instruction.op p.instruction.a → length (field_text f) ≤ 21
first-room {p} f O e = let l = ap length e in let h = first_fits p.instruction.op p.instruction.a O.first in omega arith

pub second-room : {p : Placed} (f : Field) → Operands p → field_text f ≡ second_text p.instruction.op p.instruction.b → length (field_text f) ≤ 4
second-room {p} f O e = let l = ap length e in let h = second_fits p.instruction.op p.instruction.b O.second in omega arith

pub line-in : (f : ℕ) (p : Placed) → f < 65536 → p.place < 65536 → Operands p → LineFits f p.place (instruction_shown p)
line-in f p hf hp O = line-fits f p.place (instruction_shown p) hf hp O.first O.second

module _ {f p op a b : ℕ} (first second : Field) (F : LineFits f p (instr op a b)) (sa : field_text first ≡ first_text op a) (sb : field_text second ≡ second_text op b)
    (xs x z₂ z₃ z₄ z₅ : List ℕ) (room : 53 ≤ length xs)
    (e₁ : x ≡ written (right_in 5 (field_text (Digits f))) xs)
    (e₂ : z₂ ≡ written (right_in 6 (field_text (Digits p))) (from 5 x))
    (e₃ : z₃ ≡ written (32 ∷ left_in 15 (name_text op)) (from 11 (over 5 x z₂)))
    (e₄ : z₄ ≡ written (right_in 21 (field_text first)) (from 27 (over 11 (over 5 x z₂) z₃)))
    (e₅ : z₅ ≡ written (right_in 4 (field_text second)) (from 48 (over 27 (over 11 (over 5 x z₂) z₃) z₄))) where
  pub line-written : set (over 48 (over 27 (over 11 (over 5 x z₂) z₃) z₄) z₅) 52 10 ≡ written (code_line f p (instr op a b)) xs
  unfolding field_text
  line-written =
      let i = instr op a b in
      let hp = F.place in
      let ha = F.first in
      let hb = F.second in
      let l = line-long f p i F in
      let l₁ = length-right 5 (decimal f) F.function in
      let l₂ = length-right 6 (decimal p) (omega arith) in
      let l₃ = length-left 15 (name_text op) F.name in
      let l₄ = length-right 21 (first_text op a) (omega arith) in
      let l₅ = length-right 4 (second_text op b) (omega arith) in
      let b₁ = put_first (right_in 5 (decimal f)) 5 (line-pieces f p i F) (omega arith) (omega arith) e₁ in
      let b₂ = put_next 11 b₁ (omega arith) e₂ in
      let b₃ = put_next 27 b₂ (omega arith) e₃ in
      let b₄ = put_next 48 b₃ (omega arith) (shown-written first 21 _ sa e₄) in
      let b₅ = put_next 52 b₄ (omega arith) (shown-written second 4 _ sb e₅) in
      put_last 10 b₅

  pub line_same : length (set (over 48 (over 27 (over 11 (over 5 x z₂) z₃) z₄) z₅) 52 10) ≡ length xs
  line_same = let l = line-long f p (instr op a b) F in ap length line-written ∙ length-written _ xs (omega arith)

module _ {n : ℕ} (hn : n < 1000000) (xs x z₂ z₃ : List ℕ) (room : 53 ≤ length xs)
    (e₁ : x ≡ written (ascii "PAGE ") xs)
    (e₂ : z₂ ≡ written (right_in 6 (field_text (Digits n))) (from 5 x))
    (e₃ : z₃ ≡ written (right_in 41 (field_text Blank)) (from 11 (over 5 x z₂))) where
  pub page-written : set (over 11 (over 5 x z₂) z₃) 52 10 ≡ written (page_line n) xs
  unfolding field_text
  page-written =
      let d = six-digits n hn in
      let l = page-long n d in
      let l₂ = length-right 6 (decimal n) d in
      let l₃ = length-right 41 [] (omega arith) in
      let b₁ = put_first (ascii "PAGE ") 5 (page-pieces n d) (omega arith) (omega arith) e₁ in
      let b₂ = put_next 11 b₁ (omega arith) e₂ in
      let b₃ = put_next 52 b₂ (omega arith) e₃ in
      put_last 10 b₃

  pub page-same : length (set (over 11 (over 5 x z₂) z₃) 52 10) ≡ length xs
  page-same = let l = page-long n (six-digits n hn) in ap length page-written ∙ length-written _ xs (omega arith)
