-- A text passes the test of question 8 exactly if it is made of characters of RFC 3629's table.
use mathlib.Core.Path.{◌≡◌, refl, sym, ap, subst}
use mathlib.Core.Bool.{Bool, true, false, ◌&&◌}
use mathlib.Core.Option.{Option, none, some}
use mathlib.Core.List.{List, [], ◌∷◌, ◌++◌}
use Prim.Native.Nat.{ℕ, zero, suc}
use native.Mathlib.Omega.{arith}
use lib.ListN.{get_elem?}
use lib.Dec.{leb, ltb, ltb→lt}
use lib.Arith.{lt→nleb}
use Rattle.definitions.specs.Bytes.{all}
use Rattle.definitions.specs.Utf8.{Range, in_range, Octets, utf8_char, followers, goes_on, is_utf8}
use Rattle.definitions.specs.Statements.{Matches, no_byte, byte, Utf8Octets, no_char, char, Utf8Grammar}
use Rattle.definitions.specs.Open.{all_utf8}
use Rattle.definitions.proofs.Truth.{left, right, holds, at_most, is_false}
use Rattle.std.proofs.Math.Bool.{and-false}

-- ---- what passes the test is made of characters

-- the line that a first byte begins
record Begins (cs : List Octets) (b : ℕ) (rs : List Range) : Type 0 where
  line : ℕ
  octets : Octets
  there : get_elem? cs line ≡ some octets
  first : in_range octets.first b ≡ true
  others : octets.others ≡ rs

begins : (cs : List Octets) (b : ℕ) (rs : List Range) → followers cs b ≡ some rs → Begins cs b rs
unfolding followers
begins [] b rs e = let z : ◌≡◌ {A = ℕ} 0 1 = cc in absurd (omega arith)
begins (c ∷ cs) b rs e = go (in_range c.first b) refl (begins cs b rs) e
  where
    go : (x : Bool) → in_range c.first b ≡ x → (followers cs b ≡ some rs → Begins cs b rs) → (elim x as (λ z. Option (List Range)) [ true ↦ some c.others | false ↦ followers cs b ]) ≡ some rs → Begins (c ∷ cs) b rs
    go true q rest e = record { line = 0; octets = c; there = refl; first = q; others = cc }
    go false q rest e = let B = rest e in record { line = suc B.line; octets = B.octets; there = B.there; first = B.first; others = B.others }

-- bytes in the ranges, and characters after them
record Split (rs : List Range) (bs : List ℕ) : Type 0 where
  bytes : List ℕ
  rest : List ℕ
  whole : bs ≡ bytes ++ rest
  matches : Matches rs bytes
  chars : Utf8Octets rest

split-char : (b : ℕ) (bs : List ℕ) → ((rs : List Range) → goes_on rs bs ≡ true → Split rs bs)
    → (o : Option (List Range)) → followers utf8_char b ≡ o → (elim o as (λ z. Bool) [ none ↦ false | some rs ↦ goes_on rs bs ]) ≡ true → Split [] (b ∷ bs)
split-char b bs next none q e = let z : ◌≡◌ {A = ℕ} 0 1 = cc in absurd (omega arith)
split-char b bs next (some rs) q e =
    let S = next rs e in
    let B = begins utf8_char b rs q in
    let m : Matches B.octets.others S.bytes = subst (λ (z : List Range). Matches z S.bytes) (sym B.others) S.matches in
    record {
      bytes = [];
      rest = b ∷ bs;
      whole = refl;
      matches = no_byte;
      chars = subst Utf8Octets (ap (λ (z : List ℕ). b ∷ z) (sym S.whole)) (char B.line B.there (byte B.first m) S.chars);
    }

split : (bs : List ℕ) (rs : List Range) → goes_on rs bs ≡ true → Split rs bs
unfolding goes_on
split [] [] e = record { bytes = []; rest = []; whole = refl; matches = no_byte; chars = no_char }
split [] (r ∷ rs) e = let z : ◌≡◌ {A = ℕ} 0 1 = cc in absurd (omega arith)
split (b ∷ bs) [] e = split-char b bs (split bs) (followers utf8_char b) refl e
split (b ∷ bs) (r ∷ rs) e =
    let S = split bs rs (right (in_range r b) (goes_on rs bs) e) in
    record { bytes = b ∷ S.bytes; rest = S.rest; whole = ap (λ (z : List ℕ). b ∷ z) S.whole; matches = byte (left (in_range r b) (goes_on rs bs) e) S.matches; chars = S.chars }

pub utf8-sound : (s : List ℕ) → is_utf8 s ≡ true → Utf8Octets s
unfolding is_utf8
utf8-sound s e = let S = split s [] e in whole_of S.bytes S.rest S.matches S.whole S.chars
  where
    whole_of : (bs rest : List ℕ) → Matches [] bs → s ≡ bs ++ rest → Utf8Octets rest → Utf8Octets s
    whole_of [] rest m q u = subst Utf8Octets (sym q) u
    whole_of (_ ∷ _) rest m q u = elim m [ ]

-- ---- what is made of characters passes the test

-- the lines begin with rising ranges, so a byte begins one at most
unfoldable ascending : List Octets → Bool
ascending [] = true
ascending (c ∷ cs) = all (λ (d : Octets). ltb c.first.up_to d.first.from) cs && ascending cs

all-at : (p : Octets → Bool) (cs : List Octets) (k : ℕ) (c : Octets) → all p cs ≡ true → get_elem? cs k ≡ some c → p c ≡ true
unfolding all
all-at p [] k c h e = let z : ◌≡◌ {A = ℕ} 0 1 = cc in absurd (omega arith)
all-at p (d ∷ cs) zero c h e = let q : d ≡ c = cc in rw (← q) (left (p d) (all p cs) h)
all-at p (d ∷ cs) (suc k) c h e = all-at p cs k c (right (p d) (all p cs) h) e

-- a byte of a later range is not in an earlier one
not_earlier : (r s : Range) (b : ℕ) → ltb r.up_to s.from ≡ true → in_range s b ≡ true → in_range r b ≡ false
unfolding in_range
not_earlier r s b h e =
    let low = at_most s.from b (left (leb s.from b) (leb b s.up_to) e) in
    let lt = ltb→lt r.up_to s.from (holds _ h) in
    rw (is_false (leb b r.up_to) (lt→nleb b r.up_to (omega arith))) (and-false (leb r.from b))

follows : (cs : List Octets) → ascending cs ≡ true → (k : ℕ) (c : Octets) (b : ℕ) → get_elem? cs k ≡ some c → in_range c.first b ≡ true → followers cs b ≡ some c.others
unfolding followers ascending
follows [] a k c b e h = let z : ◌≡◌ {A = ℕ} 0 1 = cc in absurd (omega arith)
follows (d ∷ cs) a zero c b e h = let q : d ≡ c = cc in rw q (rw (h, followers))
follows (d ∷ cs) a (suc k) c b e h =
    let u = all-at (λ (z : Octets). ltb d.first.up_to z.first.from) cs k c (left (all (λ (z : Octets). ltb d.first.up_to z.first.from) cs) (ascending cs) a) e in
    rw (not_earlier d.first c.first b u h, followers) (follows cs (right (all (λ (z : Octets). ltb d.first.up_to z.first.from) cs) (ascending cs) a) k c b e h)

lines-ascend : ascending utf8_char ≡ true
unfolding ascending all all_utf8
lines-ascend = refl

-- what a first byte of a line is followed by
pub line-follows : (line : ℕ) (c : Octets) (b : ℕ) → get_elem? utf8_char line ≡ some c → in_range c.first b ≡ true → followers utf8_char b ≡ some c.others
line-follows line c b e h = follows utf8_char lines-ascend line c b e h

-- bytes in the ranges are gone over
past : (rs : List Range) (bs rest : List ℕ) → Matches rs bs → goes_on rs (bs ++ rest) ≡ goes_on [] rest
unfolding goes_on
past rs bs rest no_byte = refl
past rs bs rest (byte {rs = rs'} {bs = bs'} h m) = rw h (past rs' bs' rest m)

pub utf8-complete : (s : List ℕ) → Utf8Octets s → is_utf8 s ≡ true
unfolding is_utf8 goes_on
utf8-complete s no_char = refl
utf8-complete s (char {c} {bs} {rest} line e m u) = first-of c line e bs rest m (utf8-complete rest u)
  where
    first-of : (c : Octets) (line : ℕ) → get_elem? utf8_char line ≡ some c → (bs rest : List ℕ) → Matches (c.first ∷ c.others) bs → goes_on [] rest ≡ true → goes_on [] (bs ++ rest) ≡ true
    first-of c line e (b ∷ bs) rest (byte h m) q = rw (line-follows line c b e h, goes_on) (rw (past c.others bs rest m) q)
    first-of c line e [] rest x3 q = elim x3 [ ]

pub utf8_grammar : Utf8Grammar
utf8_grammar s = (utf8-sound s, utf8-complete s)
