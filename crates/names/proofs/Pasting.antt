-- Bytes that are pasted into others, decimal digits, and names with their length before them.
use Prim.Native.Nat.{ℕ, suc, ◌+◌, ◌-◌, ◌/◌, ◌%◌, ◌≤◌, ◌<◌}
use mathlib.Core.Path.{◌≡◌, refl, sym, ap, ◌∙◌}
use mathlib.Core.List.{List, [], ◌∷◌, ◌++◌, append_assoc}
use native.Mathlib.Omega.{arith}
use native.Mathlib.Nat.{add-zero}
use lib.Dec.{lit<}
use borrow.Rule.Slice.PartMut.{put_mid, Post-is}
use lib.ListN.{length, take, drop, get_or, set, length-append, length-drop, take-append-drop}
use lib.Seq.{drop-cons, set_at, take_at, drop_at, take-take, take-append-le, length-take-le, drop-drop, drop-append-add, get_or-set_same, drop-set-lt, take-set-le}
use Rattle.definitions.specs.Bytes.{Name, ascii, decimal}
use Rattle.definitions.specs.Lower.{lambda_name}
use Rattle.definitions.proofs.Decimals.{decimal_digit, decimal-more, length-decimal, one-digit, more-digits}
use Rattle.state.specs.Words.{name_at}
use Rattle.names.specs.Made.{made_name, pasted, NameStands}
use Rattle.names.specs.declared.Made.TheVariants.{Main, Lambda}

-- ---- pasted bytes

pub pasted-none : (p : ℕ) (xs : List ℕ) → xs ≡ pasted [] p xs
unfolding pasted
pasted-none p xs = sym (ap (λ (k : ℕ). take p xs ++ drop k xs) (add-zero p) ∙ take-append-drop p xs)

module _ (s : List ℕ) (p : ℕ) (xs : List ℕ) (inside : p + length s ≤ length xs) where
  head-length : length (take p xs ++ s) ≡ p + length s
  head-length = length-append (take p xs) s ∙ ap (λ (k : ℕ). k + length s) (length-take-le p xs (omega arith))

  by-head : pasted s p xs ≡ (take p xs ++ s) ++ drop (p + length s) xs
  unfolding pasted
  by-head = sym (append_assoc (take p xs) s (drop (p + length s) xs))

  pub pasted_length : length (pasted s p xs) ≡ length xs
  pasted_length = ap length by-head ∙ length-append (take p xs ++ s) (drop (p + length s) xs) ∙ (let e = length-drop (p + length s) xs in let f = head-length in omega arith)

  pub pasted-after : (r : List ℕ) → pasted r (p + length s) (pasted s p xs) ≡ pasted (s ++ r) p xs
  unfolding pasted
  pasted-after r =
      let k : length s + length r ≡ length (s ++ r) = sym (length-append s r) in
      let a : take (p + length s) (pasted s p xs) ≡ take p xs ++ s = ap (take (p + length s)) by-head ∙ take_at (take p xs ++ s) (drop (p + length s) xs) (p + length s) head-length in
      let n : p + length s + length r ≡ length (take p xs ++ s) + length r = ap (λ (i : ℕ). i + length r) (sym head-length) in
      let m : p + length s + length r ≡ p + length (s ++ r) = omega arith in
      let b : drop (p + length s + length r) (pasted s p xs) ≡ drop (p + length (s ++ r)) xs =
      (λ j. drop (n j) (by-head j)) ∙ drop-append-add (take p xs ++ s) (drop (p + length s) xs) (length r) ∙ drop-drop (length r) (p + length s) xs ∙ ap (λ (i : ℕ). drop i xs) m in
      (λ j. a j ++ (r ++ b j)) ∙ simp append_assoc

  pub pasted-next : (v : ℕ) → p + length s < length xs → set (pasted s p xs) (p + length s) v ≡ pasted (s ++ v ∷ []) p xs
  unfolding pasted
  pasted-next v h =
      let n : suc (p + length s) ≡ p + length (s ++ v ∷ []) = omega (arith, length-append s (v ∷ [])) in
      ap (λ (l : List ℕ). set l (p + length s) v) (by-head ∙ ap (λ (l : List ℕ). (take p xs ++ s) ++ l) (drop-cons xs (p + length s) 0 h))
      ∙ set_at (take p xs ++ s) (get_or xs (p + length s) 0) (drop (suc (p + length s)) xs) v (p + length s) head-length
      ∙ ap (λ (k : ℕ). (take p xs ++ s) ++ v ∷ drop k xs) n ∙ simp append_assoc

-- the bytes are copied to their part
pub pasted-put : (part : List ℕ) (p : ℕ) (xs ys : List ℕ) → ys ≡ part → put_mid p (p + length part - p) xs ys ≡ pasted part p xs
unfolding pasted
pasted-put part p xs ys e = (λ j. put_mid p (p + length part - p) xs (e j)) ∙ ap (λ (l : List ℕ). take p xs ++ (part ++ l)) (Post-is p (p + length part) xs (omega arith))

-- three parts, one after the other
pub three-length : (a d b : List ℕ) → length (a ++ (d ++ b)) ≡ length a + (length d + length b)
three-length a d b = length-append a (d ++ b) ∙ ap (λ (n : ℕ). length a + n) (length-append d b)

pub paste-three : (a d b : List ℕ) (at p q r : ℕ) (xs ys zs us : List ℕ) → at + length (a ++ (d ++ b)) ≤ length xs
    → (p ≡ at + length a) × (ys ≡ pasted a at xs) → (q ≡ p + length d) × (zs ≡ pasted d p ys) → (r ≡ q + length b) × (us ≡ pasted b q zs)
    → (r ≡ at + length (a ++ (d ++ b))) × (us ≡ pasted (a ++ (d ++ b)) at xs)
paste-three a d b at p q r xs ys zs us inside e f g =
    let n = three-length a d b in
    let m = length-append a d in
    let k : zs ≡ pasted (a ++ d) at xs = f.1 ∙ (λ j. pasted d (e.0 j) (e.1 j)) ∙ pasted-after a at xs (omega arith) d in
    let h : q ≡ at + length (a ++ d) = omega (arith, e.0, f.0) in
    (omega (arith, e.0, f.0, g.0), g.1 ∙ (λ j. pasted b (h j) (k j)) ∙ pasted-after (a ++ d) at xs (omega arith) b ∙ ap (λ (l : List ℕ). pasted l at xs) (append_assoc a d b))

-- the same bytes under another name
pub fits-as : (x y : List ℕ) (at : ℕ) (xs : List ℕ) → x ≡ y → at + length y ≤ length xs → at + length x ≤ length xs
fits-as x y at xs e h = let k = ap length e in omega arith

pub paste-as : (x y : List ℕ) (at r : ℕ) (xs ys : List ℕ) → x ≡ y → (r ≡ at + length x) × (ys ≡ pasted x at xs) → (r ≡ at + length y) × (ys ≡ pasted y at xs)
paste-as x y at r xs ys e h = (h.0 ∙ ap (λ (l : List ℕ). at + length l) e, h.1 ∙ ap (λ (l : List ℕ). pasted l at xs) e)

-- ---- decimal digits

-- the digits are pasted, the last one after the others
pub paste-digit : (p n : ℕ) (xs : List ℕ) → n < 10 → p + length (decimal n) ≤ length xs → set xs p (48 + n) ≡ pasted (decimal n) p xs
paste-digit p n xs h inside =
    let k = one-digit n h in
    (λ j. set (pasted-none p xs j) (sym (add-zero p) j) (48 + n)) ∙ pasted-next [] p xs (omega arith) (48 + n) (omega arith) ∙ ap (λ (ds : List ℕ). pasted ds p xs) (sym (decimal_digit n h))

pub paste-digits : (p n q : ℕ) (xs ys : List ℕ) → 10 ≤ n → p + length (decimal n) ≤ length xs → q ≡ p + length (decimal (n / 10)) → ys ≡ pasted (decimal (n / 10)) p xs
    → set ys q (48 + n % 10) ≡ pasted (decimal n) p xs
paste-digits p n q xs ys h inside e f =
    let k = more-digits n h in
    (λ j. set (f j) (e j) (48 + n % 10)) ∙ pasted-next (decimal (n / 10)) p xs (omega arith) (48 + n % 10) (omega arith) ∙ ap (λ (ds : List ℕ). pasted ds p xs) (sym (decimal-more n h))

-- ---- a name with its length before it

module _ (x : Name) (p : ℕ) (xs : List ℕ) (inside : p + 1 + length x ≤ length xs) where
  abbrev named : List ℕ
  named = set (pasted x (p + 1) xs) p (length x)

  rest : drop (p + 1) (pasted x (p + 1) xs) ≡ x ++ drop (p + 1 + length x) xs
  unfolding pasted
  rest = drop_at (take (p + 1) xs) (x ++ drop (p + 1 + length x) xs) (p + 1) (length-take-le (p + 1) xs (omega arith))

  size-byte : get_or named p 0 ≡ length x
  size-byte = get_or-set_same (pasted x (p + 1) xs) p (length x) 0 (let e = pasted_length x (p + 1) xs inside in omega arith)

  pub stands : NameStands x p xs named
  unfolding name_at pasted
  stands = record {
    name = ap (λ (n : ℕ). take n (drop (p + 1) named)) size-byte
        ∙ ap (take (length x)) (drop-set-lt (p + 1) (pasted x (p + 1) xs) p (length x) (omega arith) ∙ rest) ∙ take_at x (drop (p + 1 + length x) xs) (length x) refl;
    size = size-byte;
    before = take-set-le p (pasted x (p + 1) xs) p (length x) (omega arith)
        ∙ take-append-le p (take (p + 1) xs) (x ++ drop (p + 1 + length x) xs) (let e = length-take-le (p + 1) xs (omega arith) in omega arith) ∙ take-take p (p + 1) xs (omega arith);
  }

pub stands_set : (x : Name) (p n : ℕ) (xs ys : List ℕ) → p + 1 + length x ≤ length xs → ys ≡ pasted x (p + 1) xs → n ≡ length x → NameStands x p xs (set ys p n)
stands_set x p n xs ys inside e f = rw (e, f) (stands x p xs inside)

-- ---- made names are short

pub lambda-short : (n : ℕ) → n < 10000 → length (made_name (Lambda n)) < 20
unfolding made_name lambda_name
lambda-short n h = let a = length-decimal 3 n (omega arith) in omega (arith, three-length (ascii "<lambda#") (decimal n) (ascii ">"))

pub main-short : length (made_name Main) < 20
unfolding made_name
main-short = lit< tt
