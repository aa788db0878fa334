-- Names and strings as parts of bytes, and how two are compared.
use Prim.Native.Nat.{ℕ, ◌+◌, ◌*◌, ◌-◌, ◌≤◌, ◌<◌}
use mathlib.Core.Path.{◌≡◌, refl, sym, ap, ◌∙◌}
use mathlib.Core.List.{List, []}
use native.Mathlib.Omega.{arith}
use native.Mathlib.Nat.{add-sub_cancel_left}
use lib.ListN.{length, take, drop, get_or, length-drop, drop_of_length-le}
use lib.Seq.{take-nil, take_all}
use borrow.Author.Tests.{lt-ltb, le-ltb, le-leb, lt-leb}
use Rattle.state.specs.Words.{big_endian_at, name_at, text_at}
use Rattle.state.specs.State.{spelled}
use Rattle.names.specs.Parts.{begin_at, Points, Spells}

-- ---- parts

pub past_end : (n p : ℕ) (t : List ℕ) → length t ≤ p → [] ≡ take n (drop p t)
past_end n p t h = sym (ap (take n) (drop_of_length-le t h) ∙ take-nil n)

pub cut-end : (n p : ℕ) (t : List ℕ) → length t - p < n → take (length t - p) (drop p t) ≡ take n (drop p t)
cut-end n p t h =
    let e = length-drop p t in
    take_all (length t - p) (drop p t) (omega arith) ∙ sym (take_all n (drop p t) (omega arith))

pub whole_part : (n p : ℕ) (t : List ℕ) → take (p + n - p) (drop p t) ≡ take n (drop p t)
whole_part n p t = ap (λ (k : ℕ). take k (drop p t)) (add-sub_cancel_left p n)

pub name-past : (p : ℕ) (t : List ℕ) → length t ≤ p → [] ≡ name_at t p
unfolding name_at
name-past p t h = past_end (get_or t p 0) (p + 1) t (omega arith)

pub name-here : (p : ℕ) (t : List ℕ) → take (get_or t p 0) (drop (p + 1) t) ≡ name_at t p
unfolding name_at
name-here p t = refl

pub text-past : (p : ℕ) (t : List ℕ) → length t ≤ p → [] ≡ text_at t p
unfolding text_at
text-past p t h = past_end (big_endian_at 2 t p) (p + 2) t (omega arith)

pub text-here : (p n : ℕ) (t : List ℕ) → n ≡ big_endian_at 2 t p → take n (drop (p + 2) t) ≡ text_at t p
unfolding text_at
text-here p n t e = ap (λ (k : ℕ). take k (drop (p + 2) t)) e

pub count-is : (t : List ℕ) (p a b : ℕ) → a ≡ get_or t p 0 → b ≡ get_or t (p + 1) 0 → a * 256 + b ≡ big_endian_at 2 t p
unfolding big_endian_at
count-is t p a b e f = omega arith

pub spelled-tree : (tree made : List ℕ) (w : ℕ) → w < 32768 → name_at tree w ≡ spelled tree made w
unfolding spelled
spelled-tree tree made w h = rw (lt-ltb w 32768 h, spelled)

pub spelled-made : (tree made : List ℕ) (w : ℕ) → 32768 ≤ w → name_at made (w - 32768) ≡ spelled tree made w
unfolding spelled
spelled-made tree made w h = rw (le-ltb w 32768 h, spelled)

-- ---- where a part begins

pub begin-past : (t : List ℕ) (p : ℕ) → length t < p → 0 ≡ begin_at t p
unfolding begin_at
begin-past t p h = rw (lt-leb p (length t) h, begin_at)

pub begin-here : (t : List ℕ) (p : ℕ) → p ≤ length t → p ≡ begin_at t p
unfolding begin_at
begin-here t p h = rw (le-leb p (length t) h, begin_at)

pub points-start : (r s : ℕ × ℕ) (t : List ℕ) (p : ℕ) → r.0 ≡ s.0 → r.1 ≡ s.1 + 0 → length t < p → Points r s (begin_at t p)
points-start r s t p e f h = record { block = e; offset = let b = begin-past t p h in omega arith }

pub points-part : (r s : ℕ × ℕ) (t : List ℕ) (p : ℕ) → r.0 ≡ s.0 → r.1 ≡ s.1 + p → p ≤ length t → Points r s (begin_at t p)
points-part r s t p e f h = record { block = e; offset = let b = begin-here t p h in omega arith }

pub spells-tree : (r tree made : ℕ × ℕ) (t m : List ℕ) (w : ℕ) → w < 32768 → Points r tree (begin_at t (w + 1)) → Spells r tree made t m w
spells-tree r tree made t m w h p = record { first = λ k. p; later = λ k. absurd (omega arith) }

pub spells-made : (r tree made : ℕ × ℕ) (t m : List ℕ) (w : ℕ) → 32768 ≤ w → Points r made (begin_at m (w - 32768 + 1)) → Spells r tree made t m w
spells-made r tree made t m w h p = record { first = λ k. absurd (omega arith); later = λ k. p }
