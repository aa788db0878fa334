-- Decimal and hexadecimal digits, and how many there are.
use mathlib.Core.Path.{◌≡◌, refl, sym, ap, ap₂, ◌∙◌, subst}
use mathlib.Core.Bool.{Bool, true, false}
use mathlib.Core.List.{List, [], ◌∷◌, ◌++◌}
use Prim.Native.Nat.{ℕ, zero, suc, ◌+◌, ◌*◌, ◌-◌, ◌/◌, ◌%◌, ◌^◌, ◌≤◌, ◌<◌}
use native.Mathlib.Omega.{arith}
use native.Mathlib.Nat.{pow-succ', div-div-eq-div-mul, div-one}
use borrow.Author.Tests.{ltb-true, ltb-false, lt-ltb, le-ltb}
use lib.Dec.{ltb}
use lib.ListN.{length, length-append}
use Rattle.definitions.specs.Bytes.{digits, decimal}
use Rattle.definitions.specs.Columns.{signed, hex_digit, hexadecimal}

digits-enough : (m k n : ℕ) → n < m → n < k → digits m n ≡ digits k n
unfolding digits
digits-enough zero k n h g = absurd (omega arith)
digits-enough (suc m) zero n h g = absurd (omega arith)
digits-enough (suc m) (suc k) n h g = go (ltb n 10) refl (λ (l : 10 ≤ n). digits-enough m k (n / 10) (omega arith) (omega arith))
  where
    go : (b : Bool) → ltb n 10 ≡ b → (10 ≤ n → digits m (n / 10) ≡ digits k (n / 10)) →
        ◌≡◌ {A = List ℕ} (elim b as (λ c. List ℕ) [ true ↦ (48 + n) ∷ [] | false ↦ digits m (n / 10) ++ (48 + n % 10) ∷ [] ])
        (elim b as (λ c. List ℕ) [ true ↦ (48 + n) ∷ [] | false ↦ digits k (n / 10) ++ (48 + n % 10) ∷ [] ])
    go true e f = refl
    go false e f = ap (λ (ds : List ℕ). ds ++ (48 + n % 10) ∷ []) (f (ltb-false n 10 e))

pub decimal_digit : (n : ℕ) → n < 10 → decimal n ≡ (48 + n) ∷ []
unfolding decimal digits
decimal_digit n h = rw (lt-ltb n 10 h, digits)

pub decimal-more : (n : ℕ) → 10 ≤ n → decimal n ≡ decimal (n / 10) ++ (48 + n % 10) ∷ []
unfolding decimal digits
decimal-more n h =
    let e : digits (suc n) n ≡ digits n (n / 10) ++ (48 + n % 10) ∷ [] = rw (le-ltb n 10 h, digits) in
    e ∙ ap (λ (ds : List ℕ). ds ++ (48 + n % 10) ∷ []) (digits-enough n (suc (n / 10)) (n / 10) (omega arith) (omega arith))

pub one-digit : (n : ℕ) → n < 10 → length (decimal n) ≡ 1
one-digit n h = ap length (decimal_digit n h)

pub more-digits : (n : ℕ) → 10 ≤ n → length (decimal n) ≡ length (decimal (n / 10)) + 1
more-digits n h = ap length (decimal-more n h) ∙ length-append (decimal (n / 10)) ((48 + n % 10) ∷ [])

-- a number below 10 to the power k, for k from 1 on, has at most k digits
pub length-decimal : (k n : ℕ) → n < 10 ^ suc k → length (decimal n) ≤ suc k
length-decimal zero n h = let z = one-digit n h in omega arith
length-decimal (suc k) n h =
    let p : n < 10 * 10 ^ suc k = subst (λ (x : ℕ). n < x) (pow-succ' 10 (suc k)) h in
    let q : n / 10 < 10 ^ suc k = omega arith in
    go (ltb n 10) refl (length-decimal k (n / 10) q)
  where
    go : (b : Bool) → ltb n 10 ≡ b → length (decimal (n / 10)) ≤ suc k → length (decimal n) ≤ suc (suc k)
    go true e r = let z = one-digit n (ltb-true n 10 e) in omega arith
    go false e r = let z = more-digits n (ltb-false n 10 e) in omega arith

-- the last hexadecimal digit
pub hexadecimal-last : (w n : ℕ) → hexadecimal (suc w) n ≡ hexadecimal w (n / 16) ++ hex_digit (n % 16) ∷ []
unfolding hexadecimal
hexadecimal-last zero n = ap (λ (x : ℕ). hex_digit (x % 16) ∷ []) (div-one n)
hexadecimal-last (suc w) n =
    ap₂ (λ (x : ℕ) (xs : List ℕ). hex_digit (x % 16) ∷ xs)
    (ap (λ (x : ℕ). n / x) (pow-succ' 16 w) ∙ sym (div-div-eq-div-mul n 16 (16 ^ w)))
    (hexadecimal-last w n)

pub length-hexadecimal : (w n : ℕ) → length (hexadecimal w n) ≡ w
unfolding hexadecimal
length-hexadecimal zero n = refl
length-hexadecimal (suc w) n = ap suc (length-hexadecimal w n)

-- a number's sign, by its bits
pub signed-plus : (b n : ℕ) → n + n < 2 ^ b → signed b n ≡ decimal n
unfolding signed
signed-plus b n h = rw (lt-ltb (n + n) (2 ^ b) h, signed)

pub signed-minus : (b n : ℕ) → 2 ^ b ≤ n + n → signed b n ≡ 45 ∷ decimal (2 ^ b - n)
unfolding signed
signed-minus b n h = rw (le-ltb (n + n) (2 ^ b) h, signed)
