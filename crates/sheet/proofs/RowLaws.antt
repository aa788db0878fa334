-- A sheet's lines, field by field.
use mathlib.Core.Path.{◌≡◌, refl, sym, ap, ap₂, ◌∙◌}
use mathlib.Core.List.{List, [], ◌∷◌, ◌++◌, append_assoc, append-nil}
use Prim.Native.Nat.{ℕ, ◌-◌, ◌≤◌, ◌<◌}
use native.Mathlib.Omega.{arith}
use lib.ListN.{length, set, length-append}
use Rattle.definitions.specs.Bytes.{decimal}
use Rattle.definitions.specs.Calls.{written}
use Rattle.definitions.specs.Columns.{spaces, left_in, right_in}
use Rattle.definitions.specs.Sheet.{count_line}
use Rattle.definitions.proofs.Columns.{length-right}
use Rattle.definitions.proofs.Listing.{six-digits}
use Rattle.columns.specs.declared.Field.TheVariants.{Blank, Digits}
use Rattle.columns.specs.Fields.{field_text}
use Rattle.columns.proofs.Right.{right-wider}
use Rattle.writing.proofs.Begun.{over, from, joined, length-written, put_first, put_next, put_last, begun-done}
use Rattle.sheet.specs.Rows.{counts_text, Few}

-- ---- the counts

counts-pieces : (n q c : ℕ) → counts_text n q c ≡ right_in 7 (decimal n) ++ joined (right_in 7 (decimal q) ∷ right_in 7 (decimal c) ∷ right_in 14 [] ∷ (10 ∷ []) ∷ [])
unfolding counts_text joined
counts-pieces n q c = refl

-- a number in seven columns
seven : (n : ℕ) → n < 1000000 → length (right_in 7 (decimal n)) ≡ 7
seven n h = let d = six-digits n h in length-right 7 (decimal n) (omega arith)

length-counts : (n q c : ℕ) → Few n q c → length (counts_text n q c) ≡ 36
unfolding counts_text
length-counts n q c h =
    let a = seven n h.all in
    let b = seven q h.questions in
    let d = seven c h.calls in
    let e = length-right 14 [] (omega arith) in
    simp (length-append, a, b, d, e)

module _ {n q c : ℕ} (h : Few n q c) (xs x z₂ z₃ z₄ : List ℕ) (room : 36 ≤ length xs)
    (e₁ : x ≡ written (right_in 7 (field_text (Digits n))) xs)
    (e₂ : z₂ ≡ written (right_in 7 (field_text (Digits q))) (from 7 x))
    (e₃ : z₃ ≡ written (right_in 7 (field_text (Digits c))) (from 14 (over 7 x z₂)))
    (e₄ : z₄ ≡ written (right_in 14 (field_text Blank)) (from 21 (over 14 (over 7 x z₂) z₃))) where
  pub counts-written : set (over 21 (over 14 (over 7 x z₂) z₃) z₄) 35 10 ≡ written (counts_text n q c) xs
  unfolding field_text
  counts-written =
      let l = length-counts n q c h in
      let l₁ = seven n h.all in
      let l₂ = seven q h.questions in
      let l₃ = seven c h.calls in
      let l₄ = length-right 14 [] (omega arith) in
      let b₁ = put_first (right_in 7 (decimal n)) 7 (counts-pieces n q c) (omega arith) (omega arith) e₁ in
      let b₂ = put_next 14 b₁ (omega arith) e₂ in
      let b₃ = put_next 21 b₂ (omega arith) e₃ in
      let b₄ = put_next 35 b₃ (omega arith) e₄ in
      put_last 10 b₄

  pub counts_same : length (set (over 21 (over 14 (over 7 x z₂) z₃) z₄) 35 10) ≡ length xs
  counts_same = let l = length-counts n q c h in ap length counts-written ∙ length-written _ xs (omega arith)

-- ---- a line: its word in five columns, and the counts

leftover : (w a b c : List ℕ) → length w ≡ 5 → length a ≡ 7 → length b ≡ 7 → length c ≡ 7 → left_in 40 (w ++ (a ++ (b ++ c))) ++ 10 ∷ [] ≡ w ++ (a ++ (b ++ (c ++ (right_in 14 [] ++ 10 ∷ []))))
unfolding left_in right_in
leftover w a b c hw ha hb hc =
    let l : length (w ++ (a ++ (b ++ c))) ≡ 26 = simp (length-append, hw, ha, hb, hc) in
    ap (λ (k : ℕ). ((w ++ (a ++ (b ++ c))) ++ spaces k) ++ 10 ∷ []) (let z : 40 - length (w ++ (a ++ (b ++ c))) ≡ 14 = omega arith in z)
    ∙ simp (append_assoc, append-nil)

module _ (w : List ℕ) {v : List ℕ} (e : right_in 5 w ≡ v) (hv : length v ≡ 5) {n q c : ℕ} (h : Few n q c) where
  line-is : count_line w n q c ≡ v ++ counts_text n q c
  unfolding count_line counts_text
  line-is =
      ap₂ (λ (x y : List ℕ). left_in 40 (x ++ (y ++ ((32 ∷ right_in 6 (decimal q)) ++ (32 ∷ right_in 6 (decimal c))))) ++ 10 ∷ []) e (right-wider 6 (decimal n) (six-digits n h.all))
      ∙ ap₂ (λ (x y : List ℕ). left_in 40 (v ++ (right_in 7 (decimal n) ++ (x ++ y))) ++ 10 ∷ []) (right-wider 6 (decimal q) (six-digits q h.questions)) (right-wider 6 (decimal c) (six-digits c h.calls))
      ∙ leftover v (right_in 7 (decimal n)) (right_in 7 (decimal q)) (right_in 7 (decimal c)) hv (seven n h.all) (seven q h.questions) (seven c h.calls)

  pub line-written : (xs x z : List ℕ) → 41 ≤ length xs → x ≡ written v xs → z ≡ written (counts_text n q c) (from 5 x) → over 5 x z ≡ written (count_line w n q c) xs
  unfolding joined
  line-written xs x z r e₁ e₂ =
      let k = length-counts n q c h in
      let l : length (v ++ counts_text n q c) ≡ 41 = let a = length-append v (counts_text n q c) in omega arith in
      let b₁ = put_first {ps = counts_text n q c ∷ []} v 5 (ap (λ (m : List ℕ). v ++ m) (sym (append-nil (counts_text n q c)))) (omega arith) (omega arith) e₁ in
      (begun-done (put_next 41 b₁ (omega arith) e₂)).out ∙ ap (λ (s : List ℕ). written s xs) (sym line-is)
