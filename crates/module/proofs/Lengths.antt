-- How long names and strings are; and what an element of a list of words is.
use mathlib.Core.Path.{◌≡◌, sym, ap, ◌∙◌}
use mathlib.Core.Bool.{Bool, true, false}
use mathlib.Core.List.{List, [], ◌∷◌, ◌++◌, map, append-nil}
use Prim.Native.Nat.{ℕ, ◌+◌, ◌-◌, ◌/◌, ◌%◌, ◌≤◌, ◌<◌}
use native.Mathlib.Omega.{arith}
use lib.Dec.{ltb}
use lib.ListN.{length, get_or, length-append, length-take, length-map}
use Rattle.std.proofs.lemmas.List.{get_or-map}
use Rattle.definitions.specs.Bytes.{Name, Text, be}
use Rattle.definitions.specs.Module.{name_bytes, text_bytes, method_bytes}
use Rattle.definitions.proofs.BytesWritten.{length-be}
use Rattle.state.specs.Words.{name_at, text_at, big_endian_at}
use Rattle.state.specs.State.{spelled, method_from}
use Rattle.writing.proofs.Begun.{joined}

-- each element is a byte
abbrev pub Small : List ℕ → Type 0
Small t = (i : ℕ) → get_or t i 0 < 256

-- a name's length is a byte, a string's count two
pub name-short : (t : List ℕ) (p : ℕ) → Small t → length (name_at t p) ≤ 255
unfolding name_at
name-short t p b = simp length-take (omega (arith, b p))

pub text-short : (t : List ℕ) (p : ℕ) → Small t → length (text_at t p) ≤ 65535
unfolding text_at big_endian_at
text-short t p b = simp length-take (omega (arith, b p, b (p + 1)))

pub spelled-short : (t m : List ℕ) (w : ℕ) → Small t → Small m → length (spelled t m w) ≤ 255
unfolding spelled
spelled-short t m w b d = go (ltb w 32768)
  where
    go : (x : Bool) → length {A = ℕ} (elim x as (λ c. Name) [ true ↦ name_at t w | false ↦ name_at m (w - 32768) ]) ≤ 255
    go true = name-short t w b
    go false = name-short m (w - 32768) d

pub length-name : (x : Name) → length (name_bytes x) ≡ 1 + length x
unfolding name_bytes
length-name x = simp (length-append, length-be)

pub length-text : (x : Text) → length (text_bytes x) ≡ 2 + length x
unfolding text_bytes
length-text x = simp (length-append, length-be)

-- bytes after their count
pub length-counted : (w : ℕ) (x : List ℕ) → length (be w (length x) ++ x) ≡ w + length x
length-counted w x = simp (length-append, length-be)

-- ---- an element of a list, by its word

pub element : (h : ℕ → List ℕ) (ws : List ℕ) (i : ℕ) → i < length (map h ws) → get_or (map h ws) i [] ≡ h (get_or ws i 0)
element h ws i l = get_or-map h ws i 0 [] (let n = length-map ws h in omega arith)

-- with the bytes that the code has found for it
module _ {x : List ℕ} (ws : List ℕ) (i : ℕ) where
  module _ (g : ℕ → List ℕ) (e : x ≡ g (get_or ws i 0)) where
    pub named : i < length (map (λ (w : ℕ). name_bytes (g w)) ws) → get_or (map (λ (w : ℕ). name_bytes (g w)) ws) i [] ≡ be 1 (length x) ++ x
    unfolding name_bytes
    named l = element (λ (w : ℕ). name_bytes (g w)) ws i l ∙ ap (λ (z : List ℕ). be 1 (length z) ++ z) (sym e)

    pub worded : i < length (map (λ (w : ℕ). text_bytes (g w)) ws) → get_or (map (λ (w : ℕ). text_bytes (g w)) ws) i [] ≡ be 2 (length x) ++ x
    unfolding text_bytes
    worded l = element (λ (w : ℕ). text_bytes (g w)) ws i l ∙ ap (λ (z : List ℕ). be 2 (length z) ++ z) (sym e)

  pub method-pieces : (tree : List ℕ) → x ≡ name_at tree (get_or ws i 0 / 256) → i < length (map (λ (w : ℕ). method_bytes (method_from tree w)) ws) →
      get_or (map (λ (w : ℕ). method_bytes (method_from tree w)) ws) i [] ≡ (be 1 (length x) ++ x) ++ joined (be 2 (get_or ws i 0 % 256) ∷ [])
  unfolding method_bytes method_from name_bytes joined
  method-pieces tree e l =
      element (λ (w : ℕ). method_bytes (method_from tree w)) ws i l
      ∙ ap (λ (z : List ℕ). (be 1 (length z) ++ z) ++ be 2 (get_or ws i 0 % 256)) (sym e)
      ∙ ap (λ (z : List ℕ). (be 1 (length x) ++ x) ++ z) (sym (append-nil (be 2 (get_or ws i 0 % 256))))

  pub length-method : (tree : List ℕ) → x ≡ name_at tree (get_or ws i 0 / 256) → i < length (map (λ (w : ℕ). method_bytes (method_from tree w)) ws) →
      3 + length x ≡ length (get_or (map (λ (w : ℕ). method_bytes (method_from tree w)) ws) i [])
  unfolding joined
  length-method tree e l =
      let r : length ((be 1 (length x) ++ x) ++ joined (be 2 (get_or ws i 0 % 256) ∷ [])) ≡ 3 + length x = simp (length-append, length-be) (omega arith) in
      sym (ap length (method-pieces tree e l) ∙ r)
