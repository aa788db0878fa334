-- The names that the lowering gives iterators have the form that question 33 asks for.
use mathlib.Core.Path.{◌≡◌, refl, sym, ap, ◌∙◌}
use mathlib.Core.Bool.{Bool, true, false, not}
use mathlib.Core.List.{List, [], ◌∷◌, ◌++◌}
use Prim.Native.Nat.{ℕ, zero, suc, ◌+◌, ◌*◌, ◌-◌, ◌/◌, ◌%◌, ◌≤◌, ◌<◌}
use native.Mathlib.Omega.{arith}
use lib.ListN.{length, take, drop, length-append}
use lib.Dec.{T, leb, ltb, ltb→lt, lt→ltb, nltb→le, le→leb}
use Rattle.definitions.specs.Bytes.{Name, ascii, all, same, digits, decimal}
use Rattle.definitions.specs.Wellformed.{digit, is_iterator}
use Rattle.definitions.specs.Lower.{iter_name}
use Rattle.definitions.specs.Statements.{Iterators}
use Rattle.definitions.proofs.Truth.{left, right, is_true}

take-append : (xs ys : List ℕ) → take (length xs) (xs ++ ys) ≡ xs
take-append [] ys = refl
take-append (x ∷ xs) ys = rw (take-append xs ys)

drop-append : (xs ys : List ℕ) → drop (length xs) (xs ++ ys) ≡ ys
drop-append [] ys = refl
drop-append (x ∷ xs) ys = drop-append xs ys

all_append : (p : ℕ → Bool) (xs ys : List ℕ) → all p xs ≡ true → all p ys ≡ true → all p (xs ++ ys) ≡ true
unfolding all
all_append p [] ys e f = f
all_append p (x ∷ xs) ys e f = rw (left (p x) (all p xs) e) (all_append p xs ys (right (p x) (all p xs) e) f)

digit-of : (n : ℕ) → n < 10 → digit (48 + n) ≡ true
unfolding digit
digit-of n h = rw (is_true (leb 48 (48 + n)) (le→leb 48 (48 + n) (omega arith)), is_true (leb (48 + n) 57) (le→leb (48 + n) 57 (omega arith)))

record Decimal (ds : List ℕ) : Type 0 where
  some : 1 ≤ length ds
  all_digits : all digit ds ≡ true

decimal-digits : (f n : ℕ) → Decimal (digits (suc f) n)
unfolding digits all
decimal-digits zero n = go (ltb n 10) (ltb→lt n 10)
  where
    go : (b : Bool) → (T b → n < 10) → Decimal (elim b as (λ z. List ℕ) [ true ↦ (48 + n) ∷ [] | false ↦ (48 + n % 10) ∷ [] ])
    go true h = record { some = omega arith; all_digits = rw (digit-of n (h tt)) }
    go false h = record { some = omega arith; all_digits = rw (digit-of (n % 10) (omega arith)) }
decimal-digits (suc f) n = go (ltb n 10) (ltb→lt n 10) (decimal-digits f (n / 10))
  where
    go : (b : Bool) → (T b → n < 10) → Decimal (digits (suc f) (n / 10)) → Decimal (elim b as (λ z. List ℕ) [ true ↦ (48 + n) ∷ [] | false ↦ digits (suc f) (n / 10) ++ (48 + n % 10) ∷ [] ])
    go true h D = record { some = omega arith; all_digits = rw (digit-of n (h tt)) }
    go false h D =
        let e : all digit ((48 + n % 10) ∷ []) ≡ true = rw (digit-of (n % 10) (omega arith)) in
        record {
          some = omega (arith, length-append (digits (suc f) (n / 10)) ((48 + n % 10) ∷ []));
          all_digits = all_append digit (digits (suc f) (n / 10)) _ D.all_digits e;
        }

-- digits between the beginning and the end
between : (ds : List ℕ) → Decimal ds → is_iterator (ascii "__for_iter_" ++ (ds ++ ascii "__")) ≡ true
unfolding is_iterator same
between ds D =
    let n = length (ascii "__for_iter_" ++ (ds ++ ascii "__")) - 13 in
    let e : n ≡ length ds = omega (arith, length-append ds (ascii "__")) in
    rw (e, is_true (ltb 0 (length ds)) (lt→ltb 0 (length ds) D.some), take-append ds (ascii "__"), D.all_digits, drop-append ds (ascii "__"))

-- the number that digits spell
unfoldable number : ℕ → List ℕ → ℕ
number a [] = a
number a (c ∷ cs) = number (a * 10 + (c - 48)) cs

number_append : (a : ℕ) (xs ys : List ℕ) → number a (xs ++ ys) ≡ number (number a xs) ys
unfolding number
number_append a [] ys = refl
number_append a (x ∷ xs) ys = number_append (a * 10 + (x - 48)) xs ys

spelled : (f n : ℕ) → n ≤ f → number 0 (digits (suc f) n) ≡ n
unfolding digits number
spelled zero zero h = refl
spelled zero (suc n) h = absurd (omega arith)
spelled (suc f) n h = go (ltb n 10) (λ e. spelled f (n / 10) (let g = nltb→le n 10 e in omega arith))
  where
    go : (b : Bool) → (T (not b) → number 0 (digits (suc f) (n / 10)) ≡ n / 10)
        → number 0 (elim b as (λ z. List ℕ) [ true ↦ (48 + n) ∷ [] | false ↦ digits (suc f) (n / 10) ++ (48 + n % 10) ∷ [] ]) ≡ n
    go true e = omega arith
    go false e = number_append 0 (digits (suc f) (n / 10)) ((48 + n % 10) ∷ []) ∙ rw (e tt) (omega arith)

-- the digits in an iterator's name
inner : Name → List ℕ
inner x = take (length x - 13) (drop 11 x)

inner-is : (n : ℕ) → inner (iter_name n) ≡ decimal n
unfolding inner iter_name
inner-is n =
    let e : length (ascii "__for_iter_" ++ (decimal n ++ ascii "__")) - 13 ≡ length (decimal n) = omega (arith, length-append (decimal n) (ascii "__")) in
    rw e (take-append (decimal n) (ascii "__"))

same_place : (m n : ℕ) → iter_name m ≡ iter_name n → m ≡ n
unfolding decimal
same_place m n e =
    sym (spelled m m (omega arith)) ∙ ap (number 0) (sym (inner-is m) ∙ ap inner e ∙ inner-is n) ∙ spelled n n (omega arith)

iterator-form : (n : ℕ) → is_iterator (iter_name n) ≡ true
unfolding iter_name decimal
iterator-form n = between (decimal n) (decimal-digits n n)

pub iterators : Iterators
iterators n = record { form = iterator-form n; place = λ m e. same_place m n e }
