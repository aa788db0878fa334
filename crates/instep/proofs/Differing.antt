-- Bytes that differ: of longer parts, of numbers, of parts that one reader takes; and what that says of the order.
use Prim.Native.Nat.{ℕ, zero, suc, ◌+◌, ◌*◌, ◌/◌, ◌%◌, ◌^◌, ◌<◌}
use mathlib.Core.Path.{◌≡◌, refl, sym, ap, ◌∙◌}
use mathlib.Core.List.{List, [], ◌∷◌, ◌++◌, append_assoc, append-nil}
use native.Mathlib.Nat.{pow-succ', one-le-pow, mod-eq_of_lt, mod-one, mod-lt}
use native.Mathlib.Omega.{arith}
use lib.Arith.{mod-mul, digits_lt}
use Rattle.definitions.specs.Bytes.{got, Parser, be}
use Rattle.definitions.specs.Order.{less, greater, compare_bytes}
use Rattle.definitions.specs.Statements.{turned}
use Rattle.definitions.proofs.ByteOrder.{Tri, smaller, alike, larger, tri, cons-less, cons-alike, compare-turned}
use Rattle.definitions.proofs.Readback.{Reads}
use Rattle.instep.specs.Stepping.{Differs, Clear}

-- ---- longer parts

pub differs_more : {xs ys : List ℕ} (us vs : List ℕ) → Differs xs ys → Differs (xs ++ us) (ys ++ vs)
differs_more us vs D = record {
  front = D.front;
  x = D.x;
  y = D.y;
  us = D.us ++ us;
  vs = D.vs ++ vs;
  first = ap (λ (z : List ℕ). z ++ us) D.first ∙ append_assoc D.front (D.x ∷ D.us) us;
  second = ap (λ (z : List ℕ). z ++ vs) D.second ∙ append_assoc D.front (D.y ∷ D.vs) vs;
  below = D.below;
}

pub differs-after : {xs ys : List ℕ} (zs : List ℕ) → Differs xs ys → Differs (zs ++ xs) (zs ++ ys)
differs-after zs D = record {
  front = zs ++ D.front;
  x = D.x;
  y = D.y;
  us = D.us;
  vs = D.vs;
  first = ap (λ (z : List ℕ). zs ++ z) D.first ∙ sym (append_assoc zs D.front (D.x ∷ D.us));
  second = ap (λ (z : List ℕ). zs ++ z) D.second ∙ sym (append_assoc zs D.front (D.y ∷ D.vs));
  below = D.below;
}

pub differs-here : (x y : ℕ) (us vs : List ℕ) → x < y → Differs (x ∷ us) (y ∷ vs)
differs-here x y us vs h = record { front = []; x = x; y = y; us = us; vs = vs; first = refl; second = refl; below = h }

-- ---- the order

compare-front : (front : List ℕ) (x y : ℕ) (us vs : List ℕ) → x < y → compare_bytes (front ++ (x ∷ us)) (front ++ (y ∷ vs)) ≡ less
compare-front [] x y us vs h = cons-less x y us vs h
compare-front (z ∷ front) x y us vs h = cons-alike z z (front ++ (x ∷ us)) (front ++ (y ∷ vs)) refl ∙ compare-front front x y us vs h

pub differs-less : {xs ys : List ℕ} → Differs xs ys → compare_bytes xs ys ≡ less
differs-less D = rw (D.first, D.second) (compare-front D.front D.x D.y D.us D.vs D.below)

pub differs-greater : {xs ys : List ℕ} → Differs ys xs → compare_bytes xs ys ≡ greater
unfolding turned
differs-greater {xs} {ys} D = compare-turned ys xs ∙ ap turned (differs-less D)

-- ---- numbers of w bytes

digit-less : (b d e r s : ℕ) → d < e → r < b → d * b + r < e * b + s
digit-less b d e r s h k = omega (arith, digits_lt h k)

pow_pos : (w : ℕ) → 0 < 256 ^ w
pow_pos w = one-le-pow w 256 (omega arith)

low-digits : (w v : ℕ) → v % 256 ^ suc w ≡ v / 256 ^ w % 256 * 256 ^ w + v % 256 ^ w
low-digits w v = ap (λ (z : ℕ). v % z) (pow-succ' 256 w) ∙ mod-mul v {m = 256} {c = 256 ^ w} (omega arith) (pow_pos w)

be-lower : (w m n : ℕ) → m % 256 ^ w < n % 256 ^ w → Differs (be w m) (be w n)
unfolding be
be-lower zero m n h = let x = mod-one m in let y = mod-one n in absurd (omega arith)
be-lower (suc w) m n h = go (tri (m / 256 ^ w % 256) (n / 256 ^ w % 256)) (be-lower w m n)
  where
    go : Tri (m / 256 ^ w % 256) (n / 256 ^ w % 256) → (m % 256 ^ w < n % 256 ^ w → Differs (be w m) (be w n)) → Differs (m / 256 ^ w % 256 ∷ be w m) (n / 256 ^ w % 256 ∷ be w n)
    go (smaller k) r = differs-here _ _ (be w m) (be w n) k
    go (alike k) r =
        let g : n / 256 ^ w % 256 * 256 ^ w + m % 256 ^ w < n / 256 ^ w % 256 * 256 ^ w + n % 256 ^ w = rw (low-digits w m, low-digits w n, k) at h in
        rw k (differs-after (n / 256 ^ w % 256 ∷ []) (r (omega arith)))
    go (larger k) r =
        let g : m / 256 ^ w % 256 * 256 ^ w + m % 256 ^ w < n / 256 ^ w % 256 * 256 ^ w + n % 256 ^ w = rw (low-digits w m, low-digits w n) at h in
        let f = digit-less (256 ^ w) (n / 256 ^ w % 256) (m / 256 ^ w % 256) (n % 256 ^ w) (m % 256 ^ w) k (mod-lt n (pow_pos w)) in
        absurd (omega arith)

pub number-differs : (w m n : ℕ) → m < n → n < 256 ^ w → Differs (be w m) (be w n)
number-differs w m n h k =
    let j : m < 256 ^ w = omega arith in
    be-lower w m n (rw (mod-eq_of_lt j, mod-eq_of_lt k) h)

-- ---- parts that one reader takes

got-rest : {A : Type 0} {a b : A} {us vs : List ℕ} → got a us ≡ got b vs → us ≡ vs
got-rest e = cc

reads_first : {A : Type 0} {p : Parser A} {xs ys : List ℕ} {a b : A} → Reads p xs a → Reads p ys b → (zs : List ℕ) → ys ≡ xs ++ zs → zs ≡ []
reads_first {p = p} {xs = xs} {ys = ys} X Y zs e =
    got-rest (sym (X.at zs) ∙ ap p (sym (append-nil (xs ++ zs)) ∙ ap (λ (z : List ℕ). z ++ []) (sym e)) ∙ Y.at [])

pub reads-clear : {A : Type 0} {p : Parser A} {xs ys : List ℕ} {a b : A} → Reads p xs a → Reads p ys b → Clear xs ys
reads-clear X Y = record { first = reads_first X Y; second = reads_first Y X }
