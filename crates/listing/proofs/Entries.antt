-- A code line, and the first line of a page before it.
use mathlib.Core.Path.{◌≡◌, sym, ap, ap₂, ◌∙◌}
use mathlib.Core.List.{List, [], ◌∷◌, ◌++◌, append-nil}
use Prim.Native.Nat.{ℕ, ◌+◌, ◌/◌, ◌%◌, ◌≤◌, ◌<◌}
use native.Mathlib.Omega.{arith}
use lib.ListN.{length}
use Rattle.definitions.specs.Calls.{written}
use Rattle.definitions.specs.Reader.{instruction}
use Rattle.definitions.specs.Listing.{heading, code_line, page_line}
use Rattle.definitions.proofs.Listing as Text
use Rattle.reader.specs.View.{Got, instruction_shown}
use Rattle.reader.specs.declared.Placed.{Placed}
use Rattle.reader.proofs.Encoding.{Small}
use Rattle.tally.proofs.Parts.{operands-fit}
use Rattle.writing.specs.Wrote.{Wrote}
use Rattle.writing.proofs.Begun.{over, from, joined, begun-done, put_first, put_next}
use Rattle.listing.specs.Lines.{Operands}
use Rattle.listing.proofs.LineLaws.{line-in}

-- operands that were read
pub operands-read : (t : List ℕ) → Small t → (at : ℕ) (p : Placed) (m : ℕ) → at ≤ length t → Got instruction t at (instruction_shown p) m → p.instruction.op < 46 → Operands p
operands-read t small at p m h g o =
    let v = operands-fit t small at (instruction_shown p) m h g in record { opcode = o; first = v.0; second = v.1 }

-- the page's line
pub page-53 : (k : ℕ) → k < 1000000 → length (page_line (k / 50 + 1)) ≡ 53
page-53 k h = Text.page-long (k / 50 + 1) (Text.six-digits (k / 50 + 1) (omega arith))

module _ (k f : ℕ) (p : Placed) (hk : k < 1000000) (hf : f < 65536) (hp : p.place < 65536) (O : Operands p) where
  line-53 : length (code_line f p.place (instruction_shown p)) ≡ 53
  line-53 = Text.line-long f p.place (instruction_shown p) (line-in f p hf hp O)

  pub entry_new : k % 50 ≡ 0 → length (heading k ++ code_line f p.place (instruction_shown p)) ≡ 106
  entry_new h = Text.entry_new k (code_line f p.place (instruction_shown p)) hk line-53 h

  pub entry_old : (k % 50 ≡ 0 → ⊥) → length (heading k ++ code_line f p.place (instruction_shown p)) ≡ 53
  entry_old h = Text.entry_old k (code_line f p.place (instruction_shown p)) hk line-53 h

  pub page-then-line : k % 50 ≡ 0 → {xs x z : List ℕ} → length (heading k ++ code_line f p.place (instruction_shown p)) ≤ length xs
      → x ≡ written (page_line (k / 50 + 1)) xs → z ≡ written (code_line f p.place (instruction_shown p)) (from 53 x) → Wrote 106 (heading k ++ code_line f p.place (instruction_shown p)) xs (over 53 x z)
  unfolding joined
  page-then-line h {xs} {x} {z} r e₁ e₂ =
      let l = line-53 in
      let b₁ = put_first {ps = code_line f p.place (instruction_shown p) ∷ []} (page_line (k / 50 + 1)) 53
      (ap₂ (λ (m n : List ℕ). m ++ n) (Text.heading-page k h) (sym (append-nil (code_line f p.place (instruction_shown p))))) r (sym (page-53 k hk)) e₁ in
      begun-done (put_next 106 b₁ (omega arith) e₂)

  pub line-alone : (k % 50 ≡ 0 → ⊥) → {xs x : List ℕ} → x ≡ written (code_line f p.place (instruction_shown p)) xs → Wrote 53 (heading k ++ code_line f p.place (instruction_shown p)) xs x
  line-alone h {xs} e = record { count = sym (entry_old h); out = e ∙ ap (λ (l : List ℕ). written (l ++ code_line f p.place (instruction_shown p)) xs) (sym (Text.heading-none k h)) }
