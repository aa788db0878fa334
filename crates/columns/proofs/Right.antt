-- A list that is stored from its last element to its first, and text at the right of a field.
use mathlib.Core.Path.{◌≡◌, refl, sym, ap, ◌∙◌}
use mathlib.Core.List.{List, [], ◌∷◌, ◌++◌, append-nil, append_assoc}
use Prim.Native.Nat.{ℕ, zero, suc, ◌-◌, ◌≤◌}
use native.Mathlib.Omega.{arith}
use lib.ListN.{length, get_or, take, drop, set, replicate, length-append, take-append-drop}
use lib.Seq.{take-suc, set_at, append_snoc, length-take-le, drop-append_seam}
use Rattle.definitions.specs.Calls.{written}
use Rattle.definitions.specs.Columns.{spaces, right_in}

-- ---- the last byte of a field

replicate-last : (n x : ℕ) → replicate (suc n) x ≡ replicate n x ++ x ∷ []
replicate-last zero x = refl
replicate-last (suc n) x = ap (λ (l : List ℕ). x ∷ l) (replicate-last n x)

pub right-blank : (w : ℕ) → right_in (suc w) [] ≡ right_in w [] ++ 32 ∷ []
unfolding right_in spaces
right-blank w =
    ap (λ (k : ℕ). replicate k 32 ++ []) (let z : suc w - length {A = ℕ} [] ≡ suc w = omega arith in z)
    ∙ append-nil (replicate {A = ℕ} (suc w) 32) ∙ replicate-last w 32 ∙ ap (λ (l : List ℕ). l ++ 32 ∷ []) (sym (append-nil (replicate w 32)))
    ∙ ap (λ (k : ℕ). (replicate k 32 ++ []) ++ 32 ∷ []) (let z : w ≡ w - length {A = ℕ} [] = omega arith in z)

pub right-last : (w : ℕ) (s : List ℕ) (v : ℕ) → right_in (suc w) (s ++ v ∷ []) ≡ right_in w s ++ v ∷ []
unfolding right_in
right-last w s v =
    let l = length-append s (v ∷ []) in
    ap (λ (k : ℕ). spaces k ++ (s ++ v ∷ [])) (let z : suc w - length (s ++ v ∷ []) ≡ w - length s = omega arith in z)
    ∙ sym (append_assoc (spaces (w - length s)) s (v ∷ []))

-- a column of spaces before a field is a wider field
pub right-wider : (w : ℕ) (s : List ℕ) → length s ≤ w → 32 ∷ right_in w s ≡ right_in (suc w) s
unfolding right_in spaces
right-wider w s h = ap (λ (k : ℕ). replicate k 32 ++ s) (let z : suc (w - length s) ≡ suc w - length s = omega arith in z)

-- ---- stores from the end on

-- of P, which is to stand at the start of xs, what follows r is stored
pub record Ended (P xs out r : List ℕ) : Type 0 where
  pub tail : List ℕ
  pub split : P ≡ r ++ tail
  pub is : out ≡ take (length r) xs ++ (tail ++ drop (length P) xs)
  pub room : length P ≤ length xs

pub ended-start : (P xs : List ℕ) → length P ≤ length xs → Ended P xs xs P
ended-start P xs h = record { tail = []; split = sym (append-nil P); is = sym (take-append-drop (length P) xs); room = h }

pub ended-inside : {P xs out r : List ℕ} → Ended P xs out r → length r ≤ length xs
ended-inside {P} {xs} {out} {r} e = let k = e.room in let l = ap length e.split ∙ length-append r e.tail in omega arith

pub ended-next : {P xs out : List ℕ} (r : List ℕ) (v : ℕ) → Ended P xs out (r ++ v ∷ []) → Ended P xs (set out (length r) v) r
ended-next {P} {xs} {out} r v e =
    let j = length r in
    let k = ended-inside e in
    let n = length-append r (v ∷ []) in
    let m : length (r ++ v ∷ []) ≡ suc j = omega arith in
    let T = e.tail ++ drop (length P) xs in
    record {
      tail = v ∷ e.tail;
      split = e.split ∙ append_assoc r (v ∷ []) e.tail;
      is =
          ap (λ (l : List ℕ). set l j v) (e.is ∙ ap (λ (i : ℕ). take i xs ++ T) m)
          ∙ ap (λ (l : List ℕ). set (l ++ T) j v) (take-suc xs j 0 (omega arith))
          ∙ ap (λ (l : List ℕ). set l j v) (append_snoc (take j xs) (get_or xs j 0) T)
          ∙ set_at (take j xs) (get_or xs j 0) T v j (length-take-le j xs (omega arith));
      room = e.room;
    }

pub ended-done : {P xs out r : List ℕ} → length r ≤ 0 → Ended P xs out r → out ≡ written P xs
unfolding written
ended-done {P} {xs} {out} {r} h e = go r h e.split e.is
  where
    go : (r : List ℕ) → length r ≤ 0 → P ≡ r ++ e.tail → out ≡ take (length r) xs ++ (e.tail ++ drop (length P) xs) → out ≡ P ++ drop (length P) xs
    go [] h p i = i ∙ ap (λ (l : List ℕ). l ++ drop (length P) xs) (sym p)
    go (x ∷ r) h p i = absurd (omega arith)

-- what is left of it is stored at once
pub ended-filled : {P xs out r : List ℕ} → Ended P xs out r → r ++ drop (length r) out ≡ written P xs
unfolding written
ended-filled {P} {xs} {out} {r} e =
    let T = e.tail ++ drop (length P) xs in
    let n : length (take (length r) xs) ≡ length r = length-take-le (length r) xs (ended-inside e) in
    ap (λ (l : List ℕ). r ++ l) (ap (drop (length r)) e.is ∙ ap (λ (k : ℕ). drop k (take (length r) xs ++ T)) (sym n) ∙ drop-append_seam (take (length r) xs) T)
    ∙ sym (append_assoc r e.tail (drop (length P) xs)) ∙ ap (λ (l : List ℕ). l ++ drop (length P) xs) (sym e.split)
