-- The code listing: its lines in order and in pages, what fits their columns, and how long it is.
use mathlib.Core.Path.{◌≡◌, refl, sym, ap, ap₂, ◌∙◌}
use mathlib.Core.Bool.{Bool, true, false}
use mathlib.Core.Option.{some}
use mathlib.Core.List.{List, [], ◌∷◌, ◌++◌, append_assoc}
use Prim.Native.Nat.{ℕ, zero, suc, ◌+◌, ◌*◌, ◌-◌, ◌/◌, ◌%◌, ◌^◌, ◌≤◌, ◌<◌}
use native.Mathlib.Omega.{arith}
use native.Mathlib.Nat.{pow-le-pow_right}
use borrow.Author.Tests.{eq-eqb, ne_eqb, eqb-true, eqb-false, ltb-true, ltb-false, leb-true, le-leb}
use lib.Dec.{eqb, leb, ltb, lit<}
use lib.ListN.{length, length-append, get_elem?, take, drop, length-drop}
use Rattle.definitions.specs.Bytes.{ascii, concat, decimal, all}
use Rattle.definitions.specs.Columns.{right_in, signed}
use Rattle.definitions.specs.Instruction.{Instr, ConstI64, ConstF64, Row, no_row, instruction_table, row_of, first_width, second_width}
use Rattle.definitions.specs.Tables.{Function}
use Rattle.definitions.specs.Module.{instructions}
use Rattle.definitions.specs.Reader.{is_jump}
use Rattle.definitions.specs.Listing.{Shown, blank, plain, signed₆₄, signed₃₂, bits, shown_as, shown, first_text, second_text, name_text, code_line, page_line, heading, code_lines, function_lines, listing}
use Rattle.definitions.specs.Open.{all_instruction}
use Rattle.definitions.specs.Statements.{code_texts, function_texts, pages, ListingLines, LineFits, ListingLength}
use Rattle.definitions.proofs.Truth.{left, right, at_most}
use Rattle.definitions.proofs.Rows.{jump-is}
use Rattle.definitions.proofs.Every.{Every, no_every, every, every-at, all_get_d}
use Rattle.definitions.proofs.Decimals.{length-decimal, length-hexadecimal, signed-plus, signed-minus}
use Rattle.definitions.proofs.Columns.{length-right, length-left}
use Rattle.definitions.proofs.ModuleLength.{operands-room}
use Rattle.definitions.proofs.Readback.{InstrFits}
use Rattle.definitions.proofs.ReadFits.{CodeFits, functions-fit}

-- ---- lines with what stands before each

abbrev line_of : List ℕ → List ℕ
line_of l = l

headed : ℕ → List (List ℕ) → List ℕ
headed k [] = []
headed k (l ∷ ls) = heading k ++ (l ++ headed (suc k) ls)

headed-code : (f p k : ℕ) (is : List Instr) (ls : List (List ℕ)) → code_lines f p k is ++ headed (k + length is) ls ≡ headed k (code_texts f p is ++ ls)
unfolding code_lines code_texts headed
headed-code f p k [] ls = ap (λ (j : ℕ). headed j ls) (let z : k + 0 ≡ k = omega arith in z)
headed-code f p k (i ∷ is) ls =
    append_assoc (heading k) (code_line f p i ++ code_lines f (suc p) (suc k) is) (headed (k + suc (length is)) ls)
    ∙ ap (λ (l : List ℕ). heading k ++ l)
    (append_assoc (code_line f p i) (code_lines f (suc p) (suc k) is) (headed (k + suc (length is)) ls)
    ∙ ap (λ (l : List ℕ). code_line f p i ++ l)
    (ap (λ (j : ℕ). code_lines f (suc p) (suc k) is ++ headed j ls) (let z : k + suc (length is) ≡ suc k + length is = omega arith in z) ∙ headed-code f (suc p) (suc k) is ls))

headed-functions : (f k : ℕ) (gs : List Function) → function_lines f k gs ≡ headed k (function_texts f gs)
unfolding function_lines function_texts headed
headed-functions f k [] = refl
headed-functions f k (g ∷ gs) =
    ap (λ (l : List ℕ). code_lines f 0 k g.code ++ l) (headed-functions (suc f) (k + length g.code) gs) ∙ headed-code f 0 k g.code (function_texts (suc f) gs)

-- ---- pages

pub heading-none : (k : ℕ) → (k % 50 ≡ 0 → ⊥) → heading k ≡ []
unfolding heading
heading-none k h = rw (ne_eqb (k % 50) 0 h, heading)

pub heading-page : (k : ℕ) → k % 50 ≡ 0 → heading k ≡ page_line (k / 50 + 1)
unfolding heading
heading-page k h = rw (eq-eqb (k % 50) 0 h, heading) (ap page_line (let z : suc (k / 50) ≡ k / 50 + 1 = omega arith in z))

-- the lines up to the next page
plain_lines : (d k : ℕ) (ls : List (List ℕ)) → ((i : ℕ) → i < d → (k + i) % 50 ≡ 0 → ⊥) → headed k ls ≡ concat line_of (take d ls) ++ headed (k + d) (drop d ls)
unfolding headed concat
plain_lines zero k ls h = ap (λ (j : ℕ). headed j ls) (let z : k ≡ k + 0 = omega arith in z)
plain_lines (suc d) k [] h = refl
plain_lines (suc d) k (l ∷ ls) h =
    ap₂ (λ (x y : List ℕ). x ++ (l ++ y)) (heading-none k (λ e. h 0 (omega arith) (ap (λ (j : ℕ). j % 50) (let z : k + 0 ≡ k = omega arith in z) ∙ e)))
    (plain_lines d (suc k) ls (λ i b e. h (suc i) (omega arith) (ap (λ (j : ℕ). j % 50) (let z : k + suc i ≡ suc k + i = omega arith in z) ∙ e)))
    ∙ sym (append_assoc l (concat line_of (take d ls)) (headed (suc k + d) (drop d ls)))
    ∙ ap (λ (j : ℕ). (l ++ concat line_of (take d ls)) ++ headed j (drop d ls)) (let z : suc k + d ≡ k + suc d = omega arith in z)

inside : (n i : ℕ) → i < 49 → (suc (50 * n) + i) % 50 ≡ 0 → ⊥
inside n i h e = omega arith

headed-pages : (m n : ℕ) (ls : List (List ℕ)) → length ls ≤ m → headed (50 * n) ls ≡ pages m (suc n) ls
unfolding headed pages concat
headed-pages zero n [] h = refl
headed-pages zero n (l ∷ ls) h = absurd (omega arith)
headed-pages (suc m) n [] h = refl
headed-pages (suc m) n (l ∷ ls) h =
    let d = length-drop 49 ls in
    ap₂ (λ (x y : List ℕ). x ++ (l ++ y)) (heading-page (50 * n) (omega arith) ∙ ap page_line (let z : 50 * n / 50 + 1 ≡ suc n = omega arith in z))
    (plain_lines 49 (suc (50 * n)) ls (inside n)
    ∙ ap (λ (x : List ℕ). concat line_of (take 49 ls) ++ x)
    (ap (λ (j : ℕ). headed j (drop 49 ls)) (let z : suc (50 * n) + 49 ≡ 50 * suc n = omega arith in z) ∙ headed-pages m (suc n) (drop 49 ls) (omega arith)))
    ∙ ap (λ (x : List ℕ). page_line (suc n) ++ x) (sym (append_assoc l (concat line_of (take 49 ls)) (pages m (suc (suc n)) (drop 49 ls))))

-- ---- which line stands where

code-count : (f p : ℕ) (is : List Instr) → length (code_texts f p is) ≡ length is
unfolding code_texts
code-count f p [] = refl
code-count f p (i ∷ is) = ap suc (code-count f (suc p) is)

function-count : (f : ℕ) (gs : List Function) → length (function_texts f gs) ≡ instructions gs
unfolding function_texts instructions
function-count f [] = refl
function-count f (g ∷ gs) =
    length-append (code_texts f 0 g.code) (function_texts (suc f) gs) ∙ ap₂ (λ (m n : ℕ). m + n) (code-count f 0 g.code) (function-count (suc f) gs)

code-line : (f p : ℕ) (is : List Instr) (ls : List (List ℕ)) (q : ℕ) (i : Instr) → get_elem? is q ≡ some i → get_elem? (code_texts f p is ++ ls) q ≡ some (code_line f (p + q) i)
unfolding code_texts
code-line f p [] ls q i e = let z : ◌≡◌ {A = ℕ} 0 1 = cc in absurd (omega arith)
code-line f p (j ∷ is) ls zero i e =
    let z : j ≡ i = cc in ap₂ (λ (n : ℕ) (k : Instr). some (code_line f n k)) (let y : p ≡ p + 0 = omega arith in y) z
code-line f p (j ∷ is) ls (suc q) i e =
    code-line f (suc p) is ls q i e ∙ ap (λ (n : ℕ). some (code_line f n i)) (let z : suc p + q ≡ p + suc q = omega arith in z)

past-code : (f p : ℕ) (is : List Instr) (ls : List (List ℕ)) (q : ℕ) → get_elem? (code_texts f p is ++ ls) (length is + q) ≡ get_elem? ls q
unfolding code_texts
past-code f p [] ls q = ap (get_elem? ls) (let z : 0 + q ≡ q = omega arith in z)
past-code f p (i ∷ is) ls q =
    ap (get_elem? (code_line f p i ∷ (code_texts f (suc p) is ++ ls))) (let z : suc (length is) + q ≡ suc (length is + q) = omega arith in z) ∙ past-code f (suc p) is ls q

function-line : (n : ℕ) (gs : List Function) (f p : ℕ) (g : Function) (i : Instr) → get_elem? gs f ≡ some g → get_elem? g.code p ≡ some i
    → get_elem? (function_texts n gs) (instructions (take f gs) + p) ≡ some (code_line (n + f) p i)
unfolding function_texts instructions
function-line n [] f p g i e k = let z : ◌≡◌ {A = ℕ} 0 1 = cc in absurd (omega arith)
function-line n (h ∷ gs) zero p g i e k =
    let z : h ≡ g = cc in
    ap (get_elem? (code_texts n 0 h.code ++ function_texts (suc n) gs)) (let y : 0 + p ≡ p = omega arith in y)
    ∙ code-line n 0 h.code (function_texts (suc n) gs) p i (ap (λ (x : Function). get_elem? x.code p) z ∙ k)
    ∙ ap₂ (λ (a b : ℕ). some (code_line a b i)) (let y : n ≡ n + 0 = omega arith in y) (let y : 0 + p ≡ p = omega arith in y)
function-line n (h ∷ gs) (suc f) p g i e k =
    ap (get_elem? (code_texts n 0 h.code ++ function_texts (suc n) gs))
    (let y : length h.code + instructions (take f gs) + p ≡ length h.code + (instructions (take f gs) + p) = omega arith in y)
    ∙ past-code n 0 h.code (function_texts (suc n) gs) (instructions (take f gs) + p)
    ∙ function-line (suc n) gs f p g i e k
    ∙ ap (λ (a : ℕ). some (code_line a p i)) (let y : suc n + f ≡ n + suc f = omega arith in y)

pub listing_lines : ListingLines
unfolding listing
listing_lines t =
    let ls = function_texts 0 t.functions in
    record {
      paged = headed-functions 0 0 t.functions ∙ headed-pages (length ls) 0 ls (omega arith);
      lines = function-count 0 t.functions;
      line = λ f p g i e k. function-line 0 t.functions f p g i e k ∙ ap (λ (a : ℕ). some (code_line a p i)) (let z : 0 + f ≡ f = omega arith in z);
    }

-- ---- what fits its columns

signed-fits : (b k a : ℕ) → (a + a < 2 ^ b → a < 10 ^ suc (suc k)) → (2 ^ b ≤ a + a → 2 ^ b - a < 10 ^ suc k) → length (signed b a) ≤ suc (suc k)
signed-fits b k a plus minus = go (ltb (a + a) (2 ^ b)) refl
  where
    go : (c : Bool) → ltb (a + a) (2 ^ b) ≡ c → length (signed b a) ≤ suc (suc k)
    go true e = let h = ltb-true (a + a) (2 ^ b) e in let l = length-decimal (suc k) a (plus h) in let s = ap length (signed-plus b a h) in omega arith
    go false e = let h = ltb-false (a + a) (2 ^ b) e in let l = length-decimal k (2 ^ b - a) (minus h) in let s = ap length (signed-minus b a h) in omega arith

pub is-jump : (op : ℕ) → 28 ≤ op → op ≤ 30 → is_jump op ≡ true
is-jump op h k = rw (jump-is op, le-leb 28 op h, le-leb op 30 k)

-- a jump's operand has four bytes
pub jump-width : (op : ℕ) → is_jump op ≡ true → first_width op ≡ 4
unfolding first_width row_of instruction_table
jump-width op j =
    let e = sym (jump-is op) ∙ j in
    let h = leb-true 28 op (left (leb 28 op) (leb op 30) e) in
    let k = leb-true op 30 (right (leb 28 op) (leb op 30) e) in
    go (op - 28) (omega arith) (omega arith)
  where
    go : (d : ℕ) → d < 3 → op ≡ 28 + d → first_width op ≡ 4
    go zero h k = ap first_width k
    go (suc zero) h k = ap first_width k
    go (suc (suc zero)) h k = ap first_width k
    go (suc (suc (suc d))) h k = absurd (omega arith)

jump-shown : (op : ℕ) → shown_as op ≡ signed₃₂ → is_jump op ≡ true
unfolding shown_as
jump-shown op e = go (eqb (first_width op) 0) (eqb op (ConstI64 0).op) (eqb op (ConstF64 0).op) (is_jump op) e
  where
    go : (w x y z : Bool)
        → ◌≡◌ {A = Shown} (elim w as (λ c. Shown) [
          | true ↦ blank
          | false ↦ elim x as (λ c. Shown) [
            | true ↦ signed₆₄
            | false ↦ elim y as (λ c. Shown) [
              | true ↦ bits
              | false ↦ elim z as (λ c. Shown) [ true ↦ signed₃₂ | false ↦ plain ]
            ]
          ]
        ]) signed₃₂ → z ≡ true
    go true x y z e = let n : ◌≡◌ {A = ℕ} 0 1 = cc in absurd (omega arith)
    go false true y z e = let n : ◌≡◌ {A = ℕ} 0 1 = cc in absurd (omega arith)
    go false false true z e = let n : ◌≡◌ {A = ℕ} 0 1 = cc in absurd (omega arith)
    go false false false true e = refl
    go false false false false e = let n : ◌≡◌ {A = ℕ} 0 1 = cc in absurd (omega arith)

shown-fits : (s : Shown) (a : ℕ) → (s ≡ signed₃₂ → a < 4294967296) → a < 18446744073709551616 → length (shown s a) ≤ 20
unfolding shown
shown-fits blank a j h = omega arith
shown-fits plain a j h = length-decimal 19 a (omega arith)
shown-fits signed₆₄ a j h = signed-fits 64 18 a (λ p. omega arith) (λ p. omega arith)
shown-fits signed₃₂ a j h = let k = j refl in signed-fits 32 18 a (λ p. omega arith) (λ p. omega arith)
shown-fits bits a j h = let l = length-hexadecimal 16 a in omega arith

-- operands of so many bytes
pub first_below : (op a : ℕ) → a < 256 ^ first_width op → a < 18446744073709551616
first_below op a h = let p : 256 ^ first_width op ≤ 256 ^ 8 = pow-le-pow_right (lit< tt) (operands-room op).0 in omega arith

pub second_below : (op b : ℕ) → b < 256 ^ second_width op → b < 256
second_below op b h = let p : 256 ^ second_width op ≤ 256 ^ 1 = pow-le-pow_right (lit< tt) (operands-room op).1 in omega arith

pub jump-below : (op a : ℕ) → a < 256 ^ first_width op → is_jump op ≡ true → a < 4294967296
jump-below op a h j = let w = ap (λ (e : ℕ). 256 ^ e) (jump-width op j) in omega arith

pub first_fits : (op a : ℕ) → a < 256 ^ first_width op → length (first_text op a) ≤ 20
unfolding first_text
first_fits op a h = shown-fits (shown_as op) a (λ e. jump-below op a h (jump-shown op e)) (first_below op a h)

pub second_fits : (op b : ℕ) → b < 256 ^ second_width op → length (second_text op b) ≤ 3
unfolding second_text
second_fits op b h = go (eqb (second_width op) 0) (second_below op b h)
  where
    go : (c : Bool) → b < 256 → length {A = ℕ} (elim c as (λ z. List ℕ) [ true ↦ [] | false ↦ decimal b ]) ≤ 3
    go true k = omega arith
    go false k = length-decimal 2 b (omega arith)

pub name-fits : (op : ℕ) → length (name_text op) ≤ 15
unfolding name_text all_instruction all
name-fits op = at_most _ 15 (all_get_d (λ (r : Row). leb (length (ascii r.name)) 15) instruction_table refl op no_row refl)

pub five-digits : (n : ℕ) → n < 65536 → length (decimal n) ≤ 5
five-digits n h = length-decimal 4 n (omega arith)

pub six-digits : (n : ℕ) → n < 1000000 → length (decimal n) ≤ 6
six-digits n h = length-decimal 5 n (omega arith)

pub line-fits : (f p : ℕ) (i : Instr) → f < 65536 → p < 65536 → i.a < 256 ^ first_width i.op → i.b < 256 ^ second_width i.op → LineFits f p i
line-fits f p i hf hp ha hb = record {
  function = five-digits f hf;
  place = five-digits p hp;
  name = name-fits i.op;
  first = first_fits i.op i.a ha;
  second = second_fits i.op i.b hb;
}

-- ---- how long it is

pub line-long : (f p : ℕ) (i : Instr) → LineFits f p i → length (code_line f p i) ≡ 53
unfolding code_line
line-long f p i F =
    let a = length-right 5 (decimal f) F.function in
    let b = length-right 5 (decimal p) F.place in
    let n = length-left 15 (name_text i.op) F.name in
    let c = length-right 20 (first_text i.op i.a) F.first in
    let d = length-right 3 (second_text i.op i.b) F.second in
    simp (length-append, a, b, c, d, n)

pub page-long : (n : ℕ) → length (decimal n) ≤ 6 → length (page_line n) ≡ 53
unfolding page_line
page-long n h =
    let a = length-right 6 (decimal n) h in
    let b : length (ascii "PAGE " ++ right_in 6 (decimal n)) ≡ 5 + length (right_in 6 (decimal n)) = length-append (ascii "PAGE ") (right_in 6 (decimal n)) in
    let c = length-left 52 (ascii "PAGE " ++ right_in 6 (decimal n)) (omega arith) in
    simp (length-append, c)

-- a line with what stands before it
module _ (k : ℕ) (line : List ℕ) (few : k < 1000000) (l : length line ≡ 53) where
  pub entry_new : k % 50 ≡ 0 → length (heading k ++ line) ≡ 106
  entry_new h =
      let g = ap length (heading-page k h) ∙ page-long (k / 50 + 1) (six-digits (k / 50 + 1) (omega arith)) in
      length-append (heading k) line ∙ (let z : length (heading k) + length line ≡ 106 = omega arith in z)

  pub entry_old : (k % 50 ≡ 0 → ⊥) → length (heading k ++ line) ≡ 53
  entry_old h = ap (λ (x : List ℕ). length (x ++ line)) (heading-none k h) ∙ l

  -- how far it brings the listing
  entry-long : length (heading k ++ line) + 53 * (k + (k + 49) / 50) ≡ 53 * (k + 1 + (k + 1 + 49) / 50)
  entry-long = go (eqb (k % 50) 0) refl
    where
      quotient : (k : ℕ) → (k % 50 ≡ 0 → ⊥) → (k + 1 + 49) / 50 ≡ (k + 49) / 50
      quotient k n = omega arith

      go : (c : Bool) → eqb (k % 50) 0 ≡ c → length (heading k ++ line) + 53 * (k + (k + 49) / 50) ≡ 53 * (k + 1 + (k + 1 + 49) / 50)
      go true e = let m = eqb-true _ _ e in let x = entry_new m in omega arith
      go false e = let m = eqb-false _ _ e in let x = entry_old m in let d = quotient k m in omega arith

-- the bytes of a listing of so many code lines
abbrev long : ℕ → ℕ
long n = 53 * (n + (n + 49) / 50)

code-long : (f p k : ℕ) (is : List Instr) → Every InstrFits is → f < 65536 → p + length is ≤ 65536 → k + length is < 1000000
    → length (code_lines f p k is) + long k ≡ long (k + length is)
unfolding code_lines
code-long f p k [] no_every hf hp hk = let e = ap long (let z : k ≡ k + 0 = omega arith in z) in omega arith
code-long f p k (i ∷ is) (every F r) hf hp hk =
    let ih = code-long f (suc p) (suc k) is r hf (omega arith) (omega arith) in
    let w = entry-long k (code_line f p i) (omega arith) (line-long f p i (line-fits f p i hf (omega arith) F.a F.b)) in
    let c = ap length (sym (append_assoc (heading k) (code_line f p i) (code_lines f (suc p) (suc k) is))) ∙ length-append (heading k ++ code_line f p i) (code_lines f (suc p) (suc k) is) in
    let q : long (suc k) ≡ long (k + 1) = ap long (let z : suc k ≡ k + 1 = omega arith in z) in
    let u : long (suc k + length is) ≡ long (k + suc (length is)) = ap long (let z : suc k + length is ≡ k + suc (length is) = omega arith in z) in
    adds _ _ _ _ _ _ _ _ c w ih q u
  where
    adds : (L H R A B C D E : ℕ) → L ≡ H + R → H + A ≡ B → R + C ≡ D → C ≡ B → D ≡ E → L + A ≡ E
    adds L H R A B C D E a b c d e = omega arith

functions-long : (f k : ℕ) (gs : List Function) → Every CodeFits gs → f + length gs ≤ 65536 → k + instructions gs < 1000000
    → length (function_lines f k gs) + long k ≡ long (k + instructions gs)
unfolding function_lines instructions
functions-long f k [] no_every hf hk = let e = ap long (let z : k ≡ k + 0 = omega arith in z) in omega arith
functions-long f k (g ∷ gs) (every F r) hf hk =
    let few = F.few in
    let ih = functions-long (suc f) (k + length g.code) gs r (omega arith) (omega arith) in
    let u = code-long f 0 k g.code F.code (omega arith) (omega arith) (omega arith) in
    let e = length-append (code_lines f 0 k g.code) (function_lines (suc f) (k + length g.code) gs) in
    let z : long (k + length g.code + instructions gs) ≡ long (k + (length g.code + instructions gs)) =
    ap long (let x : k + length g.code + instructions gs ≡ k + (length g.code + instructions gs) = omega arith in x) in
    adds _ _ _ _ _ _ _ e u ih z
  where
    adds : (L H R A B D E : ℕ) → L ≡ H + R → H + A ≡ B → R + B ≡ D → D ≡ E → L + A ≡ E
    adds L H R A B D E a b c d = omega arith

-- a place that holds something is before the end
before-end : {A : Type 0} (xs : List A) (k : ℕ) (x : A) → get_elem? xs k ≡ some x → k < length xs
before-end [] k x e = let z : ◌≡◌ {A = ℕ} 0 1 = cc in absurd (omega arith)
before-end (y ∷ xs) zero x e = omega arith
before-end (y ∷ xs) (suc k) x e = let h = before-end xs k x e in omega arith

pub listing_length : ListingLength
unfolding listing
listing_length m t o e =
    let F = functions-fit m t o e in
    let few = F.few in
    let short = F.short in
    let l = functions-long 0 0 t.functions F.each (omega arith) (omega arith) in
    let y : long (0 + instructions t.functions) ≡ long (instructions t.functions) = ap long (let z : 0 + instructions t.functions ≡ instructions t.functions = omega arith in z) in
    record {
      line = λ f p g i h k.
          let C = every-at t.functions F.each f g h in
          let I = every-at g.code C.code p i k in
          let c = C.few in
          let hf = before-end t.functions f g h in
          let hp = before-end g.code p i k in
          line-fits f p i (omega arith) (omega arith) I.a I.b;
      page = λ k h. six-digits (suc (k / 50)) (omega arith);
      long = ends _ _ _ l y;
    }
  where
    ends : (L A B : ℕ) → L + 53 * (0 + (0 + 49) / 50) ≡ A → A ≡ B → L ≡ B
    ends L A B a b = omega arith
