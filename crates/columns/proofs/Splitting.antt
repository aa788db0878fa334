-- The last byte of what a field shows.
use mathlib.Core.Path.{◌≡◌, sym, ap, ◌∙◌, subst}
use mathlib.Core.List.{List, [], ◌∷◌, ◌++◌, append-nil}
use Prim.Native.Nat.{ℕ, zero, suc, ◌+◌, ◌-◌, ◌/◌, ◌%◌, ◌≤◌, ◌<◌}
use native.Mathlib.Omega.{arith}
use lib.ListN.{length, set, drop, replicate, length-append, length-replicate}
use Rattle.definitions.specs.Columns.{spaces, right_in, hex_digit, hexadecimal}
use Rattle.columns.specs.Fields.{field_text, Splits}
use Rattle.columns.specs.declared.Field.{Field}
use Rattle.columns.specs.declared.Field.TheVariants.{Blank, Digits, Negative, Minus, Bits}
use Rattle.columns.specs.declared.Last.{Last}
use Rattle.definitions.proofs.Decimals.{decimal_digit, decimal-more, hexadecimal-last}
use Rattle.definitions.proofs.Columns.{length-right}
use Rattle.columns.proofs.Right.{right-blank, right-last, Ended, ended-start, ended-next, ended-done, ended-filled}
use Rattle.definitions.specs.Calls.{written}

-- something is shown; nothing is
splits-one : (f : Field) (r : Last) → field_text f ≡ field_text r.rest ++ r.byte ∷ [] → Splits f r
splits-one f r e = record {
  fits = λ w h. let l = ap length e ∙ length-append (field_text r.rest) (r.byte ∷ []) in omega arith;
  splits = λ w h. ap (right_in (suc w)) e ∙ right-last w (field_text r.rest) r.byte;
}

splits-none : (f : Field) → field_text f ≡ [] → Splits f (record { byte = 32; rest = Blank })
unfolding field_text
splits-none f e = record { fits = λ w h. omega arith; splits = λ w h. ap (right_in (suc w)) e ∙ right-blank w }

pub splits-blank : (f : Field) → f ≡ Blank → Splits f (record { byte = 32; rest = Blank })
unfolding field_text
splits-blank f e = splits-none f (ap field_text e)

pub splits-digit : (f : Field) (n : ℕ) → f ≡ Digits n → n < 10 → Splits f (record { byte = 48 + n; rest = Blank })
unfolding field_text
splits-digit f n e h = splits-one f _ (ap field_text e ∙ decimal_digit n h)

pub splits-digits : (f : Field) (n : ℕ) → f ≡ Digits n → 10 ≤ n → Splits f (record { byte = 48 + n % 10; rest = Digits (n / 10) })
unfolding field_text
splits-digits f n e h = splits-one f _ (ap field_text e ∙ decimal-more n h)

pub splits-negative : (f : Field) (n : ℕ) → f ≡ Negative n → n < 10 → Splits f (record { byte = 48 + n; rest = Minus })
unfolding field_text
splits-negative f n e h = splits-one f _ (ap field_text e ∙ ap (λ (l : List ℕ). 45 ∷ l) (decimal_digit n h))

pub splits-negatives : (f : Field) (n : ℕ) → f ≡ Negative n → 10 ≤ n → Splits f (record { byte = 48 + n % 10; rest = Negative (n / 10) })
unfolding field_text
splits-negatives f n e h = splits-one f _ (ap field_text e ∙ ap (λ (l : List ℕ). 45 ∷ l) (decimal-more n h))

pub splits-minus : (f : Field) → f ≡ Minus → Splits f (record { byte = 45; rest = Blank })
unfolding field_text
splits-minus f e = splits-one f _ (ap field_text e)

pub splits-no-bits : (f : Field) (w n : ℕ) → f ≡ Bits w n → w ≡ 0 → Splits f (record { byte = 32; rest = Blank })
unfolding field_text hexadecimal
splits-no-bits f w n e z = splits-none f (ap field_text e ∙ ap (λ (k : ℕ). hexadecimal k n) z)

pub splits-bits : (f : Field) (w n d : ℕ) → f ≡ Bits w n → 0 < w → d ≡ hex_digit (n % 16) → Splits f (record { byte = d; rest = Bits (w - 1) (n / 16) })
unfolding field_text
splits-bits f w n d e h k = splits-one f _ (ap field_text e ∙ go w h ∙ ap (λ (x : ℕ). hexadecimal (w - 1) (n / 16) ++ x ∷ []) (sym k))
  where
    go : (w : ℕ) → 0 < w → hexadecimal w n ≡ hexadecimal (w - 1) (n / 16) ++ hex_digit (n % 16) ∷ []
    go zero h = absurd (omega arith)
    go (suc v) h = hexadecimal-last v n ∙ ap (λ (k : ℕ). hexadecimal k (n / 16) ++ hex_digit (n % 16) ∷ []) (let z : v ≡ suc v - 1 = omega arith in z)

-- the whole of it is to come
pub field-start : (w : ℕ) (f : Field) (xs : List ℕ) → length (field_text f) ≤ w → w ≤ length xs →
    (w ≤ w) × (length (field_text f) ≤ w) × Ended (right_in w (field_text f)) xs xs (right_in w (field_text f))
field-start w f xs h k = let l = length-right w (field_text f) h in (omega arith, h, ended-start _ _ (omega arith))

-- one byte more of a field
pub field_next : (P xs out : List ℕ) (i : ℕ) (f : Field) (r : Last) → 0 < i → length (field_text f) ≤ i → Ended P xs out (right_in i (field_text f)) → Splits f r →
    (length (field_text r.rest) ≤ i - 1) × Ended P xs (set out (i - 1) r.byte) (right_in (i - 1) (field_text r.rest))
field_next P xs out zero f r p h e s = absurd (omega arith)
field_next P xs out (suc j) f r p h e s =
    let z : j ≡ suc j - 1 = omega arith in
    let g = s.fits j h in
    let n = ended-next (right_in j (field_text r.rest)) r.byte (subst (λ (l : List ℕ). Ended P xs out l) (s.splits j h) e) in
    let l = length-right j (field_text r.rest) g in
    subst (λ (k : ℕ). (length (field_text r.rest) ≤ k) × Ended P xs (set out k r.byte) (right_in k (field_text r.rest))) z
    (g, subst (λ (k : ℕ). Ended P xs (set out k r.byte) (right_in j (field_text r.rest))) l n)

-- none of it is to come
pub field-done : (P xs out : List ℕ) (i : ℕ) (f : Field) → i ≤ 0 → length (field_text f) ≤ i → Ended P xs out (right_in i (field_text f)) → out ≡ written P xs
field-done P xs out i f z h e = let l = length-right i (field_text f) h in ended-done (omega arith) e

-- nothing is shown any more: spaces as far as the field goes
pub field-blank : (P xs out s : List ℕ) (i : ℕ) (f : Field) → f ≡ Blank → s ≡ replicate i 32 → Ended P xs out (right_in i (field_text f)) → s ++ drop i out ≡ written P xs
unfolding field_text right_in spaces
field-blank P xs out s i f b k e =
    let size : i - length {A = ℕ} [] ≡ i = omega arith in
    let r : right_in i (field_text f) ≡ s = ap (λ (g : Field). right_in i (field_text g)) b ∙ ap (λ (n : ℕ). replicate n 32 ++ []) size ∙ append-nil (replicate i 32) ∙ sym k in
    let n : length s ≡ i = ap length k ∙ length-replicate i 32 in
    subst (λ (m : ℕ). s ++ drop m out ≡ written P xs) n (ended-filled (subst (λ (l : List ℕ). Ended P xs out l) r e))
