-- What passes the test of strings are the encodings of the scalar values, one after the other.
use mathlib.Core.Path.{◌≡◌, refl, sym, ap, ◌∙◌}
use mathlib.Core.Bool.{Bool, true, false, not, ◌&&◌}
use mathlib.Core.Option.{some}
use mathlib.Core.Logic.{◌⊎◌, inl, inr, ⊎_elim}
use mathlib.Core.List.{List, [], ◌∷◌, ◌++◌}
use Prim.Native.Nat.{ℕ, ◌+◌, ◌*◌, ◌-◌, ◌/◌, ◌%◌, ◌≤◌, ◌<◌}
use native.Mathlib.Omega.{arith}
use lib.ListN.{get_elem?}
use lib.Dec.{leb, ltb}
use borrow.Author.Tests.{ltb-true, ltb-false, leb-true, leb-false, lt-ltb, le-ltb, le-leb, lt-leb}
use Rattle.definitions.specs.Bytes.{all, concat}
use Rattle.definitions.specs.Utf8.{Range, range, in_range, Octets, utf8_char, is_scalar, encode_char}
use Rattle.definitions.specs.Statements.{Matches, no_byte, byte, Utf8Octets, no_char, char, Utf8Scalars}
use Rattle.definitions.proofs.Truth.{left, right}
use Rattle.definitions.proofs.Every.{Every, no_every, every, every-at}
use Rattle.definitions.proofs.Utf8Grammar.{utf8-sound, utf8-complete}
use Rattle.std.proofs.Math.Bool.{and-false}

-- ---- bytes in ranges

within : {a z b : ℕ} → in_range (range a z) b ≡ true → (a ≤ b) × (b ≤ z)
unfolding in_range
within {a} {z} {b} e = (leb-true a b (left (leb a b) (leb b z) e), leb-true b z (right (leb a b) (leb b z) e))

in-range : {a z b : ℕ} → a ≤ b → b ≤ z → in_range (range a z) b ≡ true
unfolding in_range
in-range {a} {z} {b} h g = rw (le-leb a b h, le-leb b z g)

-- ---- the encoder by the size of the number

one_byte : (c : ℕ) → c < 0x80 → encode_char c ≡ c ∷ []
unfolding encode_char
one_byte c h = rw (lt-ltb c 0x80 h, encode_char)

two_bytes : (c : ℕ) → 0x80 ≤ c → c < 0x800 → encode_char c ≡ (0xC0 + c / 64) ∷ (0x80 + c % 64) ∷ []
unfolding encode_char
two_bytes c h g = rw (le-ltb c 0x80 h, encode_char) (rw (lt-ltb c 0x800 g))

three-bytes : (c : ℕ) → 0x800 ≤ c → c < 0x10000 → encode_char c ≡ (0xE0 + c / 4096) ∷ (0x80 + c / 64 % 64) ∷ (0x80 + c % 64) ∷ []
unfolding encode_char
three-bytes c h g = rw (le-ltb c 0x80 (omega arith), encode_char) (rw (le-ltb c 0x800 h) (rw (lt-ltb c 0x10000 g)))

four_bytes : (c : ℕ) → 0x10000 ≤ c → encode_char c ≡ (0xF0 + c / 262144) ∷ (0x80 + c / 4096 % 64) ∷ (0x80 + c / 64 % 64) ∷ (0x80 + c % 64) ∷ []
unfolding encode_char
four_bytes c h = rw (le-ltb c 0x80 (omega arith), encode_char) (rw (le-ltb c 0x800 (omega arith)) (rw (le-ltb c 0x10000 h)))

-- ---- scalar values

low_scalar : (c : ℕ) → c < 0xD800 → is_scalar c ≡ true
unfolding is_scalar
low_scalar c h = rw (lt-ltb c 0x110000 (omega arith), lt-leb 0xD800 c h)

high_scalar : (c : ℕ) → 0xDFFF < c → c < 0x110000 → is_scalar c ≡ true
unfolding is_scalar
high_scalar c h g = rw (lt-ltb c 0x110000 g, lt-leb c 0xDFFF h, and-false (leb 0xD800 c))

scalar_below : (c : ℕ) → is_scalar c ≡ true → c < 0x110000
unfolding is_scalar
scalar_below c e = ltb-true c 0x110000 (left (ltb c 0x110000) (not (leb 0xD800 c && leb c 0xDFFF)) e)

scalar-apart : (c : ℕ) → is_scalar c ≡ true → (c < 0xD800) ⊎ (0xDFFF < c)
unfolding is_scalar
scalar-apart c e = go (leb 0xD800 c) refl (leb c 0xDFFF) refl (right (ltb c 0x110000) (not (leb 0xD800 c && leb c 0xDFFF)) e)
  where
    go : (a : Bool) → leb 0xD800 c ≡ a → (b : Bool) → leb c 0xDFFF ≡ b → not (a && b) ≡ true → (c < 0xD800) ⊎ (0xDFFF < c)
    go true x true y z = let w : ◌≡◌ {A = ℕ} 0 1 = cc in absurd (omega arith)
    go true x false y z = inr (leb-false c 0xDFFF y)
    go false x b y z = inl (leb-false 0xD800 c x)

-- ---- a character of the table is the encoding of a scalar value

record Coded (bs : List ℕ) : Type 0 where
  code : ℕ
  scalar : is_scalar code ≡ true
  is : bs ≡ encode_char code

coded-1 : (a : ℕ) → a ≤ 0x7F → Coded (a ∷ [])
coded-1 a h = record { code = a; scalar = low_scalar a (omega arith); is = sym (one_byte a (omega arith)) }

same-two : (a b x y : ℕ) → a ≡ x → b ≡ y → ◌≡◌ {A = List ℕ} (a ∷ b ∷ []) (x ∷ y ∷ [])
same-two a b x y e f = rw (e, f)

same-three : (a b c x y z : ℕ) → a ≡ x → b ≡ y → c ≡ z → ◌≡◌ {A = List ℕ} (a ∷ b ∷ c ∷ []) (x ∷ y ∷ z ∷ [])
same-three a b c x y z e f g = rw (e, f, g)

same-four : (a b c d x y z w : ℕ) → a ≡ x → b ≡ y → c ≡ z → d ≡ w → ◌≡◌ {A = List ℕ} (a ∷ b ∷ c ∷ d ∷ []) (x ∷ y ∷ z ∷ w ∷ [])
same-four a b c d x y z w e f g h = rw (e, f, g, h)

coded-2 : (a b : ℕ) → 0xC2 ≤ a → a ≤ 0xDF → 0x80 ≤ b → b ≤ 0xBF → Coded (a ∷ b ∷ [])
coded-2 a b h₁ h₂ k₁ k₂ =
    let v = (a - 0xC0) * 64 + (b - 0x80) in
    record {
      code = v;
      scalar = low_scalar v (omega arith);
      is = same-two a b (0xC0 + v / 64) (0x80 + v % 64) (omega arith) (omega arith) ∙ sym (two_bytes v (omega arith) (omega arith));
    }

coded-3 : (a b c v : ℕ) → v ≡ (a - 0xE0) * 4096 + (b - 0x80) * 64 + (c - 0x80) → 0xE0 ≤ a → a ≤ 0xEF → 0x80 ≤ b → b ≤ 0xBF → 0x80 ≤ c → c ≤ 0xBF → 0x800 ≤ v
    → is_scalar v ≡ true → Coded (a ∷ b ∷ c ∷ [])
coded-3 a b c v e a₁ a₂ b₁ b₂ c₁ c₂ h s = record {
  code = v;
  scalar = s;
  is = same-three a b c (0xE0 + v / 4096) (0x80 + v / 64 % 64) (0x80 + v % 64) (omega arith) (omega arith) (omega arith) ∙ sym (three-bytes v h (omega arith));
}

coded-4 : (a b c d v : ℕ) → v ≡ (a - 0xF0) * 262144 + (b - 0x80) * 4096 + (c - 0x80) * 64 + (d - 0x80) → 0xF0 ≤ a → a ≤ 0xF4 → 0x80 ≤ b → b ≤ 0xBF → 0x80 ≤ c → c ≤ 0xBF
    → 0x80 ≤ d → d ≤ 0xBF → 0x10000 ≤ v → v < 0x110000 → Coded (a ∷ b ∷ c ∷ d ∷ [])
coded-4 a b c d v e a₁ a₂ b₁ b₂ c₁ c₂ d₁ d₂ h g = record {
  code = v;
  scalar = high_scalar v (omega arith) g;
  is = same-four a b c d (0xF0 + v / 262144) (0x80 + v / 4096 % 64) (0x80 + v / 64 % 64) (0x80 + v % 64) (omega arith) (omega arith) (omega arith) (omega arith)
      ∙ sym (four_bytes v h);
}

-- by the lines of the table
record Line (c : Octets) : Type 0 where
  at : {bs : List ℕ} → Matches (c.first ∷ c.others) bs → Coded bs

line-1 : Line (record { first = range 0x00 0x7F; others = [] })
line-1 = record { at = go }
  where
    go : {bs : List ℕ} → Matches (range 0x00 0x7F ∷ []) bs → Coded bs
    go (byte {b = a} h no_byte) = coded-1 a (within h).1

line-2 : Line (record { first = range 0xC2 0xDF; others = range 0x80 0xBF ∷ [] })
line-2 = record { at = go }
  where
    go : {bs : List ℕ} → Matches (range 0xC2 0xDF ∷ range 0x80 0xBF ∷ []) bs → Coded bs
    go (byte {b = a} h (byte {b = b} k no_byte)) = coded-2 a b (within h).0 (within h).1 (within k).0 (within k).1

-- three bytes, whose number stands in bounds and is no surrogate
line-3 : (f l s t : ℕ) → 0xE0 ≤ f → l ≤ 0xEF → 0x80 ≤ s → t ≤ 0xBF
    → ((a b c v : ℕ) → v ≡ (a - 0xE0) * 4096 + (b - 0x80) * 64 + (c - 0x80) → f ≤ a → a ≤ l → s ≤ b → b ≤ t → 0x80 ≤ c → c ≤ 0xBF → (0x800 ≤ v) × (is_scalar v ≡ true))
    → Line (record { first = range f l; others = range s t ∷ range 0x80 0xBF ∷ [] })
line-3 f l s t f₁ l₁ s₁ t₁ bounds = record { at = go }
  where
    go : {bs : List ℕ} → Matches (range f l ∷ range s t ∷ range 0x80 0xBF ∷ []) bs → Coded bs
    go (byte {b = a} h (byte {b = b} k (byte {b = c} m no_byte))) =
        let h' = within h in
        let k' = within k in
        let m' = within m in
        let v = (a - 0xE0) * 4096 + (b - 0x80) * 64 + (c - 0x80) in
        let x = bounds a b c v refl h'.0 h'.1 k'.0 k'.1 m'.0 m'.1 in
        coded-3 a b c v refl (omega arith) (omega arith) (omega arith) (omega arith) m'.0 m'.1 x.0 x.1

line-4 : (f l s t : ℕ) → 0xF0 ≤ f → l ≤ 0xF4 → 0x80 ≤ s → t ≤ 0xBF
    → ((a b c d v : ℕ) → v ≡ (a - 0xF0) * 262144 + (b - 0x80) * 4096 + (c - 0x80) * 64 + (d - 0x80) → f ≤ a → a ≤ l → s ≤ b → b ≤ t → 0x80 ≤ c → c ≤ 0xBF → 0x80 ≤ d → d ≤ 0xBF
    → (0x10000 ≤ v) × (v < 0x110000))
    → Line (record { first = range f l; others = range s t ∷ range 0x80 0xBF ∷ range 0x80 0xBF ∷ [] })
line-4 f l s t f₁ l₁ s₁ t₁ bounds = record { at = go }
  where
    go : {bs : List ℕ} → Matches (range f l ∷ range s t ∷ range 0x80 0xBF ∷ range 0x80 0xBF ∷ []) bs → Coded bs
    go (byte {b = a} h (byte {b = b} k (byte {b = c} m (byte {b = d} n no_byte)))) =
        let h' = within h in
        let k' = within k in
        let m' = within m in
        let n' = within n in
        let v = (a - 0xF0) * 262144 + (b - 0x80) * 4096 + (c - 0x80) * 64 + (d - 0x80) in
        let x = bounds a b c d v refl h'.0 h'.1 k'.0 k'.1 m'.0 m'.1 n'.0 n'.1 in
        coded-4 a b c d v refl (omega arith) (omega arith) (omega arith) (omega arith) m'.0 m'.1 n'.0 n'.1 x.0 x.1

lines : Every Line utf8_char
unfolding utf8_char
lines =
    every line-1
    (every line-2
    (every (line-3 0xE0 0xE0 0xA0 0xBF (omega arith) (omega arith) (omega arith) (omega arith) (λ a b c v e a₁ a₂ b₁ b₂ c₁ c₂. (omega arith, low_scalar v (omega arith))))
    (every (line-3 0xE1 0xEC 0x80 0xBF (omega arith) (omega arith) (omega arith) (omega arith) (λ a b c v e a₁ a₂ b₁ b₂ c₁ c₂. (omega arith, low_scalar v (omega arith))))
    (every (line-3 0xED 0xED 0x80 0x9F (omega arith) (omega arith) (omega arith) (omega arith) (λ a b c v e a₁ a₂ b₁ b₂ c₁ c₂. (omega arith, low_scalar v (omega arith))))
    (every (line-3 0xEE 0xEF 0x80 0xBF (omega arith) (omega arith) (omega arith) (omega arith) (λ a b c v e a₁ a₂ b₁ b₂ c₁ c₂. (omega arith, high_scalar v (omega arith) (omega arith))))
    (every (line-4 0xF0 0xF0 0x90 0xBF (omega arith) (omega arith) (omega arith) (omega arith) (λ a b c d v e a₁ a₂ b₁ b₂ c₁ c₂ d₁ d₂. (omega arith, omega arith)))
    (every (line-4 0xF1 0xF3 0x80 0xBF (omega arith) (omega arith) (omega arith) (omega arith) (λ a b c d v e a₁ a₂ b₁ b₂ c₁ c₂ d₁ d₂. (omega arith, omega arith)))
    (every (line-4 0xF4 0xF4 0x80 0x8F (omega arith) (omega arith) (omega arith) (omega arith) (λ a b c d v e a₁ a₂ b₁ b₂ c₁ c₂ d₁ d₂. (omega arith, omega arith)))
    no_every))))))))

-- characters that are encodings
record Decoded (s : List ℕ) : Type 0 where
  codes : List ℕ
  scalars : all is_scalar codes ≡ true
  is : s ≡ concat encode_char codes

decoded : {s : List ℕ} → Utf8Octets s → Decoded s
unfolding concat all
decoded no_char = record { codes = []; scalars = refl; is = refl }
decoded (char {c} {bs} {rest} line e m u) =
    let C = (every-at utf8_char lines line c e).at m in
    let D = decoded u in
    record { codes = C.code ∷ D.codes; scalars = rw C.scalar D.scalars; is = ap (λ (x : List ℕ). x ++ rest) C.is ∙ ap (λ (x : List ℕ). encode_char C.code ++ x) D.is }

-- ---- the encoding of a scalar value is a character of the table

-- a byte of six bits after the first
six : (n : ℕ) {rs : List Range} {bs : List ℕ} → Matches rs bs → Matches (range 0x80 0xBF ∷ rs) ((0x80 + n % 64) ∷ bs)
six n m = byte {b = 0x80 + n % 64} (in-range {a = 0x80} {z = 0xBF} (omega arith) (omega arith)) m

-- the line of three and of four bytes
char-3 : (line f l s t c : ℕ) {rest : List ℕ} → get_elem? utf8_char line ≡ some (record { first = range f l; others = range s t ∷ range 0x80 0xBF ∷ [] }) → 0x800 ≤ c → c < 0x10000
    → f ≤ 0xE0 + c / 4096 → 0xE0 + c / 4096 ≤ l → s ≤ 0x80 + c / 64 % 64 → 0x80 + c / 64 % 64 ≤ t → Utf8Octets rest → Utf8Octets (encode_char c ++ rest)
char-3 line f l s t c e h g f₁ l₁ s₁ t₁ u =
    rw (three-bytes c h g) (char line e (byte (in-range f₁ l₁) (byte (in-range s₁ t₁) (six c no_byte))) u)

char-4 : (line f l s t c : ℕ) {rest : List ℕ} → get_elem? utf8_char line ≡ some (record { first = range f l; others = range s t ∷ range 0x80 0xBF ∷ range 0x80 0xBF ∷ [] }) → 0x10000 ≤ c
    → f ≤ 0xF0 + c / 262144 → 0xF0 + c / 262144 ≤ l → s ≤ 0x80 + c / 4096 % 64 → 0x80 + c / 4096 % 64 ≤ t → Utf8Octets rest → Utf8Octets (encode_char c ++ rest)
char-4 line f l s t c e h f₁ l₁ s₁ t₁ u =
    rw (four_bytes c h)
    (char line e (byte (in-range f₁ l₁) (byte (in-range s₁ t₁) (six (c / 64) (six c no_byte)))) u)

-- a number is below a bound, or not
below_or : (c n : ℕ) → (c < n) ⊎ (n ≤ c)
below_or c n = go (ltb c n) refl
  where
    go : (b : Bool) → ltb c n ≡ b → (c < n) ⊎ (n ≤ c)
    go true e = inl (ltb-true c n e)
    go false e = inr (ltb-false c n e)

char-low : (c : ℕ) {rest : List ℕ} → 0x800 ≤ c → c < 0xD800 → Utf8Octets rest → Utf8Octets (encode_char c ++ rest)
unfolding utf8_char
char-low c h g u = ⊎_elim
    (λ (k : c < 0x1000). char-3 2 0xE0 0xE0 0xA0 0xBF c refl h (omega arith) (omega arith) (omega arith) (omega arith) (omega arith) u)
    (λ (k : 0x1000 ≤ c). ⊎_elim
    (λ (m : c < 0xD000). char-3 3 0xE1 0xEC 0x80 0xBF c refl h (omega arith) (omega arith) (omega arith) (omega arith) (omega arith) u)
    (λ (m : 0xD000 ≤ c). char-3 4 0xED 0xED 0x80 0x9F c refl h (omega arith) (omega arith) (omega arith) (omega arith) (omega arith) u)
    (below_or c 0xD000))
    (below_or c 0x1000)

char-high : (c : ℕ) {rest : List ℕ} → 0xDFFF < c → c < 0x110000 → Utf8Octets rest → Utf8Octets (encode_char c ++ rest)
unfolding utf8_char
char-high c h g u = ⊎_elim
    (λ (k : c < 0x10000). char-3 5 0xEE 0xEF 0x80 0xBF c refl (omega arith) k (omega arith) (omega arith) (omega arith) (omega arith) u)
    (λ (k : 0x10000 ≤ c). ⊎_elim
    (λ (m : c < 0x40000). char-4 6 0xF0 0xF0 0x90 0xBF c refl k (omega arith) (omega arith) (omega arith) (omega arith) u)
    (λ (m : 0x40000 ≤ c). ⊎_elim
    (λ (n : c < 0x100000). char-4 7 0xF1 0xF3 0x80 0xBF c refl k (omega arith) (omega arith) (omega arith) (omega arith) u)
    (λ (n : 0x100000 ≤ c). char-4 8 0xF4 0xF4 0x80 0x8F c refl k (omega arith) (omega arith) (omega arith) (omega arith) u)
    (below_or c 0x100000))
    (below_or c 0x40000))
    (below_or c 0x10000)

char_of : (c : ℕ) {rest : List ℕ} → is_scalar c ≡ true → Utf8Octets rest → Utf8Octets (encode_char c ++ rest)
unfolding utf8_char
char_of c s u = ⊎_elim
    (λ (k : c < 0x80). rw (one_byte c k) (char 0 refl (byte {b = c} (in-range {a = 0x00} {z = 0x7F} (omega arith) (omega arith)) no_byte) u))
    (λ (k : 0x80 ≤ c). ⊎_elim
    (λ (m : c < 0x800). rw (two_bytes c k m) (char 1 refl (byte {b = 0xC0 + c / 64} (in-range {a = 0xC2} {z = 0xDF} (omega arith) (omega arith)) (six c no_byte)) u))
    (λ (m : 0x800 ≤ c). ⊎_elim (λ (n : c < 0xD800). char-low c m n u) (λ (n : 0xDFFF < c). char-high c n (scalar_below c s) u) (scalar-apart c s))
    (below_or c 0x800))
    (below_or c 0x80)

encoded : (cs : List ℕ) → all is_scalar cs ≡ true → Utf8Octets (concat encode_char cs)
unfolding concat all
encoded [] e = no_char
encoded (c ∷ cs) e = char_of c (left (is_scalar c) (all is_scalar cs) e) (encoded cs (right (is_scalar c) (all is_scalar cs) e))

pub utf8_scalars : Utf8Scalars
utf8_scalars = record {
  decodes = λ s e. let D = decoded (utf8-sound s e) in (D.codes, D.scalars, D.is);
  encodes = λ cs e. utf8-complete (concat encode_char cs) (encoded cs e);
}
