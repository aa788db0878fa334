-- What the fields of a line show.
use mathlib.Core.Path.{◌≡◌, sym, ap, ap₂, ◌∙◌}
use mathlib.Core.Bool.{false}
use mathlib.Core.List.{List, [], ◌∷◌, ◌++◌, append-nil, append_assoc}
use Prim.Native.Nat.{ℕ, suc, ◌+◌, ◌-◌, ◌^◌, ◌≤◌, ◌<◌}
use mathlib.Core.Logic.{⊎_elim}
use native.Mathlib.Omega.{arith}
use borrow.Author.Tests.{eq-eqb, ne_eqb, le-leb, lt-leb}
use lib.ListN.{length, length-append}
use Rattle.definitions.specs.Bytes.{decimal, ascii}
use Rattle.definitions.specs.Instruction.{Instr, first_width, second_width}
use Rattle.definitions.specs.Reader.{is_jump}
use Rattle.definitions.specs.Columns.{spaces, left_in, right_in, signed}
use Rattle.definitions.specs.Statements.{LineFits}
use Rattle.definitions.specs.Listing.{shown_as, shown, first_text, second_text, name_text, code_line, page_line}
use Rattle.definitions.proofs.Columns.{length-right}
use Rattle.definitions.proofs.Listing.{is-jump, jump-width}
use Rattle.definitions.proofs.Begins.{le-or-gt}
use Rattle.columns.specs.declared.Field.{Field}
use Rattle.columns.specs.declared.Field.TheVariants.{Blank, Digits, Negative, Bits}
use Rattle.columns.specs.Fields.{field_text}
use Rattle.definitions.proofs.Rows.{jump-is}
use Rattle.definitions.proofs.Decimals.{signed-plus, signed-minus}
use Rattle.columns.proofs.Right.{right-wider}
use Rattle.writing.proofs.Begun.{joined}

-- ---- what is no jump

pub no-jump : (op : ℕ) → (op ≡ 28 → ⊥) → (op ≡ 29 → ⊥) → (op ≡ 30 → ⊥) → is_jump op ≡ false
no-jump op a b c = ⊎_elim
    (λ (h : 28 ≤ op). ⊎_elim
    (λ (k : 31 ≤ op). rw (jump-is op, le-leb 28 op h, lt-leb op 30 (omega arith)))
    (λ (k : op < 31). ⊎_elim
    (λ (m : 30 ≤ op). absurd (c (omega arith)))
    (λ (m : op < 30). ⊎_elim (λ (n : 29 ≤ op). absurd (b (omega arith))) (λ (n : op < 29). absurd (a (omega arith))) (le-or-gt 29 op))
    (le-or-gt 30 op))
    (le-or-gt 31 op))
    (λ (h : op < 28). rw (jump-is op, lt-leb 28 op h))
    (le-or-gt 28 op)

-- ---- opcodes that have a first operand

pub wide-at : (op k w : ℕ) → op ≡ k → first_width k ≡ suc w → first_width op ≡ 0 → ⊥
wide-at op k w e f z = let n = sym z ∙ ap first_width e ∙ f in omega arith

pub wide-jump : (op : ℕ) → 28 ≤ op → op ≤ 30 → first_width op ≡ 0 → ⊥
wide-jump op h k z = let n = jump-width op (is-jump op h k) in omega arith

-- ---- numbers with a sign

pub long-plus : (a : ℕ) → a < 9223372036854775808 → field_text (Digits a) ≡ signed 64 a
unfolding field_text
long-plus a h = sym (signed-plus 64 a (omega arith))

pub long-minus : (a n : ℕ) → 9223372036854775808 ≤ a → n ≡ 18446744073709551615 - a + 1 → a < 18446744073709551616 → field_text (Negative n) ≡ signed 64 a
unfolding field_text
long-minus a n h z r = ap (λ (x : ℕ). 45 ∷ decimal x) (let q : n ≡ 2 ^ 64 - a = omega arith in q) ∙ sym (signed-minus 64 a (omega arith))

pub short-plus : (a : ℕ) → a < 2147483648 → field_text (Digits a) ≡ signed 32 a
unfolding field_text
short-plus a h = sym (signed-plus 32 a (omega arith))

pub short-minus : (a : ℕ) → 2147483648 ≤ a → field_text (Negative (4294967296 - a)) ≡ signed 32 a
unfolding field_text
short-minus a h = sym (signed-minus 32 a (omega arith))

-- ---- operands

module _ (op a : ℕ) where
  pub first-blank : (w : ℕ) → w ≡ first_width op → w ≡ 0 → field_text Blank ≡ first_text op a
  unfolding first_text shown field_text shown_as
  first-blank w e z = rw (eq-eqb (first_width op) 0 (sym e ∙ z), first_text, shown_as, shown)

  module _ (w : ℕ) (e : w ≡ first_width op) (z : w ≡ 0 → ⊥) where
    pub first-long : (f : Field) → op ≡ 0 → field_text f ≡ signed 64 a → field_text f ≡ first_text op a
    unfolding first_text shown shown_as
    first-long f o s = s ∙ rw (ne_eqb (first_width op) 0 (λ q. z (e ∙ q)), eq-eqb op 0 o, first_text, shown_as, shown)

    pub first-bits : (op ≡ 0 → ⊥) → op ≡ 1 → field_text (Bits 16 a) ≡ first_text op a
    unfolding first_text shown field_text shown_as
    first-bits o u = rw (ne_eqb (first_width op) 0 (λ q. z (e ∙ q)), ne_eqb op 0 o, eq-eqb op 1 u, first_text, shown_as, shown)

    pub first-jump : (f : Field) → (op ≡ 0 → ⊥) → (op ≡ 1 → ⊥) → 28 ≤ op → op ≤ 30 → field_text f ≡ signed 32 a → field_text f ≡ first_text op a
    unfolding first_text shown shown_as
    first-jump f o u g h s = s ∙ rw (ne_eqb (first_width op) 0 (λ q. z (e ∙ q)), ne_eqb op 0 o, ne_eqb op 1 u, is-jump op g h, first_text, shown_as, shown)

    pub first_plain : (op ≡ 0 → ⊥) → (op ≡ 1 → ⊥) → is_jump op ≡ false → field_text (Digits a) ≡ first_text op a
    unfolding first_text shown field_text shown_as
    first_plain o u j = rw (ne_eqb (first_width op) 0 (λ q. z (e ∙ q)), ne_eqb op 0 o, ne_eqb op 1 u, j, first_text, shown_as, shown)

module _ (op b w : ℕ) (e : w ≡ second_width op) where
  pub second-blank : w ≡ 0 → field_text Blank ≡ second_text op b
  unfolding second_text field_text
  second-blank z = rw (eq-eqb (second_width op) 0 (sym e ∙ z), second_text)

  pub second_digits : (w ≡ 0 → ⊥) → field_text (Digits b) ≡ second_text op b
  unfolding second_text field_text
  second_digits z = rw (ne_eqb (second_width op) 0 (λ q. z (e ∙ q)), second_text)

-- ---- lines, as pieces: a field with the space before it is a wider field

pub line-pieces : (f p : ℕ) (i : Instr) → LineFits f p i → code_line f p i
    ≡ right_in 5 (decimal f) ++ joined (right_in 6 (decimal p) ∷ (32 ∷ left_in 15 (name_text i.op)) ∷ right_in 21 (first_text i.op i.a) ∷ right_in 4 (second_text i.op i.b) ∷ (10 ∷ []) ∷ [])
unfolding code_line joined
line-pieces f p i F =
    let n : List ℕ = 32 ∷ left_in 15 (name_text i.op) in
    let first = first_text i.op i.a in
    let second = second_text i.op i.b in
    ap₂ (λ (x y : List ℕ). right_in 5 (decimal f) ++ (x ++ (n ++ (y ++ ((32 ∷ right_in 3 second) ++ 10 ∷ []))))) (right-wider 5 (decimal p) F.place) (right-wider 20 first F.first)
    ∙ ap (λ (z : List ℕ). right_in 5 (decimal f) ++ (right_in 6 (decimal p) ++ (n ++ (right_in 21 first ++ (z ++ 10 ∷ []))))) (right-wider 3 second F.second)

pub page-pieces : (n : ℕ) → length (decimal n) ≤ 6 → page_line n ≡ ascii "PAGE " ++ joined (right_in 6 (decimal n) ∷ right_in 41 [] ∷ (10 ∷ []) ∷ [])
unfolding page_line joined left_in right_in
page-pieces n h =
    let r : length (spaces (6 - length (decimal n)) ++ decimal n) ≡ 6 = length-right 6 (decimal n) h in
    let l = length-append (ascii "PAGE ") (right_in 6 (decimal n)) in
    ap (λ (k : ℕ). ((ascii "PAGE " ++ right_in 6 (decimal n)) ++ spaces k) ++ 10 ∷ []) (let z : 52 - length (ascii "PAGE " ++ right_in 6 (decimal n)) ≡ 41 = omega arith in z)
    ∙ simp (append_assoc, append-nil)
