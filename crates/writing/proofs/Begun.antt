-- Bytes that are written piece by piece, each into the rest of the output.
use mathlib.Core.Path.{◌≡◌, refl, sym, ap, ap₂, ◌∙◌, subst}
use mathlib.Core.List.{List, [], ◌∷◌, ◌++◌, append-nil, append_assoc}
use Prim.Native.Nat.{ℕ, suc, ◌+◌, ◌-◌, ◌/◌, ◌%◌, ◌≤◌, ◌<◌}
use native.Mathlib.Omega.{arith}
use native.Mathlib.Nat.{div-one}
use native.Mathlib.Numerals.{add-one}
use lib.ListN.{length, get_or, take, drop, set, length-append, length-drop, length-take, drop_of_length-le}
use lib.Seq.{take-append_seam, drop-append_seam, drop-drop, drop-cons, set-append_seam, take_all, take-suc, length-take-le}
use borrow.Rule.Slice.PartMut.{put_mid, mid_of}
use Rattle.definitions.specs.Bytes.{be}
use Rattle.definitions.specs.Calls.{written}
use Rattle.definitions.proofs.BytesWritten.{length-be}
use Rattle.writing.specs.Wrote.{Wrote}

-- ---- what is written from a list's start on

pub written_none : (xs : List ℕ) → written [] xs ≡ xs
unfolding written
written_none xs = refl

pub length-written : (s xs : List ℕ) → length s ≤ length xs → length (written s xs) ≡ length xs
unfolding written
length-written s xs h = simp (length-append, length-drop) (omega arith)

-- one byte more
written-set : (s xs : List ℕ) (v : ℕ) → length s < length xs → set (written s xs) (length s) v ≡ written (s ++ v ∷ []) xs
unfolding written
written-set s xs v h =
    rw (drop-cons xs (length s) 0 h)
    (set-append_seam s (get_or xs (length s) 0) (drop (suc (length s)) xs) v ∙ sym (simp (length-append, append_assoc, add-one)))

-- a byte more of s
pub written-more : (s xs : List ℕ) (i : ℕ) → i < length s → length s ≤ length xs → set (written (take i s) xs) i (get_or s i 0) ≡ written (take (i + 1) s) xs
written-more s xs i h r =
    let l = length-take-le i s (omega arith) in
    ap (λ (n : ℕ). set (written (take i s) xs) n (get_or s i 0)) (sym l) ∙ written-set (take i s) xs (get_or s i 0) (omega arith)
    ∙ ap (λ (z : List ℕ). written z xs) (sym (ap (λ (n : ℕ). take n s) (add-one i) ∙ take-suc s i 0 h))

-- a part more, written into the rest that is lent
written_next : (s s₂ xs ys zs : List ℕ) (p : ℕ) → ys ≡ written s xs → p ≡ length s → length s + length s₂ ≤ length xs → zs ≡ written s₂ (mid_of p (length ys - p) ys) →
    put_mid p (length ys - p) ys zs ≡ written (s ++ s₂) xs
unfolding written
written_next s s₂ xs ys zs p e i h z =
    let l : length (s ++ drop (length s) xs) ≡ length xs = simp (length-append, length-drop) (omega arith) in
    let d : length (drop (length s) xs) ≤ length xs - length s = simp length-drop (omega arith) in
    rw (z, e, i, take-append_seam, drop-append_seam, l)
    (simp (take_all (length xs - length s) (drop (length s) xs) d, drop_of_length-le (drop (length s) xs) d, drop-drop, append-nil, length-append, append_assoc))

-- what is written over a beginning of it
written-again : (a b xs : List ℕ) → written (a ++ b) (written a xs) ≡ written (a ++ b) xs
unfolding written
written-again a b xs =
    ap (λ (z : List ℕ). (a ++ b) ++ z)
    (ap (λ (n : ℕ). drop n (a ++ drop (length a) xs)) (length-append a b) ∙ sym (drop-drop (length b) (length a) (a ++ drop (length a) xs))
    ∙ ap (drop (length b)) (drop-append_seam a (drop (length a) xs)) ∙ drop-drop (length b) (length a) xs ∙ ap (λ (n : ℕ). drop n xs) (sym (length-append a b)))

-- a byte at the start
pub wrote-byte : (v : ℕ) (xs : List ℕ) → 0 < length xs → Wrote 1 (v ∷ []) xs (set xs 0 v)
wrote-byte v xs h = record { count = refl; out = ap (λ (l : List ℕ). set l 0 v) (sym (written_none xs)) ∙ written-set [] xs v h }

-- numbers of at most two bytes
pub wrote_none : (w v : ℕ) (xs : List ℕ) → w ≡ 0 → Wrote 0 (be w v) xs xs
unfolding be
wrote_none w v xs e = subst (λ (n : ℕ). Wrote 0 (be n v) xs xs) (sym e) (record { count = refl; out = sym (written_none xs) })

pub wrote_one : (w v : ℕ) (xs : List ℕ) → w ≡ 1 → w ≤ length xs → Wrote 1 (be w v) xs (set xs 0 (v % 256))
unfolding be
wrote_one w v xs e h =
    subst (λ (n : ℕ). Wrote 1 (be n v) xs (set xs 0 (v % 256))) (sym e)
    (subst (λ (n : ℕ). Wrote 1 (n % 256 ∷ []) xs (set xs 0 (v % 256))) (sym (div-one v)) (wrote-byte (v % 256) xs (omega arith)))

two_bytes : (a b : ℕ) (xs : List ℕ) → 2 ≤ length xs → Wrote 2 (a ∷ b ∷ []) xs (set (set xs 0 a) 1 b)
two_bytes a b xs h = record {
  count = refl;
  out = ap (λ (l : List ℕ). set l 1 b) (wrote-byte a xs (omega arith)).out ∙ written-set (a ∷ []) xs b h;
}

pub wrote-two : (w v : ℕ) (xs : List ℕ) → w ≡ 2 → w ≤ length xs → Wrote 2 (be w v) xs (set (set xs 0 (v / 256 % 256)) 1 (v % 256))
unfolding be
wrote-two w v xs e h =
    subst (λ (n : ℕ). Wrote 2 (be n v) xs (set (set xs 0 (v / 256 % 256)) 1 (v % 256))) (sym e)
    (subst (λ (n : ℕ). Wrote 2 (v / 256 % 256 ∷ n % 256 ∷ []) xs (set (set xs 0 (v / 256 % 256)) 1 (v % 256))) (sym (div-one v))
    (two_bytes (v / 256 % 256) (v % 256) xs (omega arith)))

-- ---- pieces

unfoldable pub joined : List (List ℕ) → List ℕ
joined [] = []
joined (p ∷ ps) = p ++ joined ps

pub joined-one : (x : List ℕ) → x ≡ joined (x ∷ [])
unfolding joined
joined-one x = sym (append-nil x)

-- ---- bytes s of which all but some pieces are written

pub record Begun (s before : List ℕ) (at : ℕ) (out : List ℕ) (ps : List (List ℕ)) : Type 0 where
  pub so_far : List ℕ
  pub split : s ≡ so_far ++ joined ps
  pub count : at ≡ length so_far
  pub wrote : out ≡ written so_far before
  pub room : length s ≤ length before

-- the first piece, which is written into the whole output
pub begun_first : {s p before after : List ℕ} {n : ℕ} {ps : List (List ℕ)} → s ≡ p ++ joined ps → length s ≤ length before → Wrote n p before after → Begun s before n after ps
begun_first {p = p} e h w = record { so_far = p; split = e; count = w.count; wrote = w.out; room = h }

-- the head of a record, whose count is written and whose version is left
pub begun_headed : {before after : List ℕ} {n : ℕ} (size version : ℕ) → 5 ≤ length before → Wrote n (be 4 (size - 4)) before after
    → Begun (be 4 (size - 4) ++ be 1 version) before n after (be 1 version ∷ [])
begun_headed size version h w =
    let five = length-append (be 4 (size - 4)) (be 1 version) ∙ ap₂ (λ (x y : ℕ). x + y) (length-be 4 (size - 4)) (length-be 1 version) in
    begun_first (ap (λ (z : List ℕ). be 4 (size - 4) ++ z) (joined-one (be 1 version))) (omega (arith, five)) w

module _ {s before : List ℕ} {at : ℕ} {out : List ℕ} {ps : List (List ℕ)} (b : Begun s before at out ps) where
  -- what is left
  pub begun-left : length s ≡ at + length (joined ps)
  begun-left = ap length b.split ∙ length-append b.so_far (joined ps) ∙ ap (λ (n : ℕ). n + length (joined ps)) (sym b.count)

  pub begun-length : length out ≡ length before
  begun-length = let h = begun-left in let k = b.count in let r = b.room in ap length b.wrote ∙ length-written b.so_far before (omega arith)

  -- the pieces by another name
  pub begun-as : (qs : List (List ℕ)) → ps ≡ qs → Begun s before at out qs
  begun-as qs e = subst (λ (r : List (List ℕ)). Begun s before at out r) e b

  -- the same of the output as it is now
  pub begun-now : Begun s out at out ps
  begun-now = record {
    so_far = b.so_far;
    split = b.split;
    count = b.count;
    wrote = b.wrote ∙ sym (twice b.so_far before) ∙ ap (written b.so_far) (sym b.wrote);
    room = let h = begun-length in let r = b.room in omega arith;
  }
    where
      twice : (a xs : List ℕ) → written a (written a xs) ≡ written a xs
      twice a xs = subst (λ (z : List ℕ). written z (written a xs) ≡ written z xs) (append-nil a) (written-again a [] xs)

  -- what began before a loop and ended in it
  pub begun-back : {n : ℕ} {after : List ℕ} → Wrote n s out after → Wrote n s before after
  begun-back w = record {
    count = w.count;
    out = w.out
        ∙ ap₂ (λ (x y : List ℕ). written x y) b.split b.wrote
        ∙ written-again b.so_far (joined ps) before
        ∙ ap (λ (x : List ℕ). written x before) (sym b.split);
  }

module _ {s before : List ℕ} {at : ℕ} {out p : List ℕ} {ps : List (List ℕ)} (b : Begun s before at out (p ∷ ps)) where
  parts : length s ≡ at + (length p + length (joined ps))
  unfolding joined
  parts = begun-left b ∙ ap (λ (n : ℕ). at + n) (length-append p (joined ps))

  -- there is room for a piece, in the output and in the part of it that is lent
  pub begun-fits : at + length p ≤ length out
  begun-fits = let h = parts in let k = begun-length b in let r = b.room in omega arith

  pub begun-piece : length p ≤ length (mid_of at (length out - at) out)
  begun-piece = let h = begun-fits in simp (length-take, length-drop) (omega arith)

  -- the next piece
  pub begun-next : {n : ℕ} {zs : List ℕ} → Wrote n p (mid_of at (length out - at) out) zs → Begun s before (at + n) (put_mid at (length out - at) out zs) ps
  unfolding joined
  begun-next {n} {zs} w =
      let r = b.room in let h = parts in let k = b.count in
      record {
        so_far = b.so_far ++ p;
        split = b.split ∙ sym (append_assoc b.so_far p (joined ps));
        count = ap₂ (λ (x y : ℕ). x + y) b.count w.count ∙ sym (length-append b.so_far p);
        wrote = written_next b.so_far p before out zs at b.wrote b.count (omega arith) w.out;
        room = r;
      }

-- there is room for a number
pub begun-number : {s before : List ℕ} {at : ℕ} {out : List ℕ} {ps : List (List ℕ)} (w v : ℕ) → Begun s before at out (be w v ∷ ps) → w ≤ length (mid_of at (length out - at) out)
begun-number w v b = let h = begun-piece b in let k = length-be w v in omega arith

-- everything is written
pub begun-done : {s before : List ℕ} {at : ℕ} {out : List ℕ} → Begun s before at out [] → Wrote at s before out
unfolding joined
begun-done {s} {before} b =
    let e : s ≡ b.so_far = b.split ∙ append-nil b.so_far in
    record { count = b.count ∙ ap length (sym e); out = b.wrote ∙ ap (λ (z : List ℕ). written z before) (sym e) }

-- ---- pieces at known places

pub put_first : {s before after : List ℕ} {ps : List (List ℕ)} (p : List ℕ) (n : ℕ) → s ≡ p ++ joined ps → length s ≤ length before → n ≡ length p → after ≡ written p before → Begun s before n after ps
put_first p n e h k w = record { so_far = p; split = e; count = k; wrote = w; room = h }

pub put_next : {s before : List ℕ} {at : ℕ} {out p : List ℕ} {ps : List (List ℕ)} {zs : List ℕ} (m : ℕ) → Begun s before at out (p ∷ ps) → m ≡ at + length p →
    zs ≡ written p (mid_of at (length out - at) out) → Begun s before m (put_mid at (length out - at) out zs) ps
put_next {s} {before} {at} {out} {p} {ps} {zs} m b e w =
    subst (λ (k : ℕ). Begun s before k (put_mid at (length out - at) out zs) ps) (sym e) (begun-next b (record { count = refl; out = w }))

pub put_last : {s before : List ℕ} {at : ℕ} {out : List ℕ} (v : ℕ) → Begun s before at out ((v ∷ []) ∷ []) → set out at v ≡ written s before
unfolding joined
put_last {s} {before} {at} {out} v b =
    let l = begun-left b in let k = b.count in let r = b.room in
    ap₂ (λ (l : List ℕ) (n : ℕ). set l n v) b.wrote b.count
    ∙ written-set b.so_far before v (omega arith)
    ∙ ap (λ (z : List ℕ). written z before) (sym b.split)

-- x from place n on is z now; the part of x from place n on
abbrev pub over : ℕ → List ℕ → List ℕ → List ℕ
over n x z = put_mid n (length x - n) x z

abbrev pub from : ℕ → List ℕ → List ℕ
from n x = mid_of n (length x - n) x

pub from-long : (n m : ℕ) (s x xs : List ℕ) → x ≡ written s xs → length s ≤ length xs → n + m ≤ length xs → m ≤ length (from n x)
from-long n m s x xs e g h = let l = ap length e ∙ length-written s xs g in simp (length-take, length-drop) (omega arith)

-- ---- a rest that is taken apart as it is written

pub begun-start : (s xs : List ℕ) → length s ≤ length xs → Begun s xs 0 xs (s ∷ [])
begun-start s xs h = record { so_far = []; split = joined-one s; count = refl; wrote = sym (written_none xs); room = h }

pub begun-split : {s before : List ℕ} {at : ℕ} {out r : List ℕ} {ps : List (List ℕ)} (p q : List ℕ) → r ≡ p ++ q → Begun s before at out (r ∷ ps) → Begun s before at out (p ∷ q ∷ ps)
unfolding joined
begun-split {ps = ps} p q e b = record {
  so_far = b.so_far;
  split = b.split ∙ ap (λ (z : List ℕ). b.so_far ++ z) (ap (λ (z : List ℕ). z ++ joined ps) e ∙ append_assoc p q (joined ps));
  count = b.count;
  wrote = b.wrote;
  room = b.room;
}

pub begun-rest : {s before : List ℕ} {at : ℕ} {out r : List ℕ} → Begun s before at out (r ∷ []) → r ≡ [] → Wrote at s before out
unfolding joined
begun-rest {s} {before} {at} {out} {r} b e =
    begun-done (record { so_far = b.so_far; split = b.split ∙ ap (λ (z : List ℕ). b.so_far ++ (z ++ [])) e; count = b.count; wrote = b.wrote; room = b.room })
