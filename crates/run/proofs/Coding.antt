-- A function's code: where its instructions begin, what stands there, and what question 21 says of them. Assumes nothing.
use Prim.Native.Nat.{ℕ, ◌+◌, ◌-◌, ◌<◌, ◌≤◌}
use mathlib.Core.Path.{◌≡◌, refl, sym, ap, ap₂, ◌∙◌, subst}
use mathlib.Core.Bool.{true}
use mathlib.Core.List.{List, [], ◌∷◌, ◌++◌, append_assoc}
use native.Mathlib.Omega.{arith}
use lib.ListN.{length, take, drop, get_or, length-append, length-drop, take-append-drop}
use lib.Seq.{take-add, drop-append_seam, take-append_seam, length-take-le}
use Rattle.definitions.specs.Bytes.{concat}
use Rattle.definitions.specs.Instruction.{Instr, Return, encode, encodes, first_width}
use Rattle.definitions.specs.Reader.{instruction, is_jump, landing}
use Rattle.definitions.proofs.Stays as Stays
use Rattle.reader.specs.View.{Got, number_at, instructions_of, start_of}
use Rattle.reader.proofs.Encoding.{instruction-view}
use Rattle.run.specs.Tables.{Coded}
use Rattle.run.specs.Pass.{between}

-- ---- the bytes of instructions

pub encodes-append : (xs ys : List Instr) → encodes (xs ++ ys) ≡ encodes xs ++ encodes ys
unfolding encodes concat
encodes-append [] ys = refl
encodes-append (x ∷ xs) ys = ap (λ (bs : List ℕ). encode x ++ bs) (encodes-append xs ys) ∙ sym (append_assoc (encode x) (concat encode xs) (concat encode ys))

module _ (is : List Instr) where
  pub start-add : (k m : ℕ) → start_of is (k + m) ≡ start_of is k + length (encodes (take m (drop k is)))
  unfolding start_of
  start-add k m = ap (λ (js : List Instr). length (encodes js)) (take-add k m is) ∙ ap length (encodes-append (take k is) (take m (drop k is))) ∙ length-append (encodes (take k is)) (encodes (take m (drop k is)))

  parted : (k : ℕ) → encodes is ≡ encodes (take k is) ++ encodes (drop k is)
  parted k = ap encodes (sym (take-append-drop k is)) ∙ encodes-append (take k is) (drop k is)

  pub rest-is : (k : ℕ) → drop (start_of is k) (encodes is) ≡ encodes (drop k is)
  unfolding start_of
  rest-is k = ap (drop (length (encodes (take k is)))) (parted k) ∙ drop-append_seam (encodes (take k is)) (encodes (drop k is))

  pub start-within : (k : ℕ) → start_of is k ≤ length (encodes is)
  unfolding start_of
  start-within k = let e = ap length (parted k) ∙ length-append (encodes (take k is)) (encodes (drop k is)) in omega arith

-- ---- code that stands

module _ (c : List ℕ) (h : Coded c) where
  pub nonempty : 0 < length (instructions_of c)
  nonempty = Stays.ends_some (instructions_of c) h.ends

  pub start-in : (k : ℕ) → start_of (instructions_of c) k ≤ length c
  start-in k = subst (λ (bs : List ℕ). start_of (instructions_of c) k ≤ length bs) (sym h.bytes) (start-within (instructions_of c) k)

  -- the code from one place to another
  pub between_is : (k j : ℕ) → k ≤ j → between c k j ≡ encodes (take (j - k) (drop k (instructions_of c)))
  unfolding between
  between_is k j l =
      let is = instructions_of c in
      let e : start_of is j ≡ start_of is k + length (encodes (take (j - k) (drop k is))) = ap (start_of is) (let z : j ≡ k + (j - k) = omega arith in z) ∙ start-add is k (j - k) in
      ap₂ (λ (n : ℕ) (bs : List ℕ). take n bs) (let z : start_of is j - start_of is k ≡ length (encodes (take (j - k) (drop k is))) = omega arith in z)
      (ap (drop (start_of is k)) h.bytes ∙ rest-is is k ∙ ap encodes (sym (take-append-drop (j - k) (drop k is))) ∙ encodes-append (take (j - k) (drop k is)) (drop (j - k) (drop k is)))
      ∙ take-append_seam (encodes (take (j - k) (drop k is))) (encodes (drop (j - k) (drop k is)))

  pub start_up : (k j : ℕ) → k ≤ j → start_of (instructions_of c) k ≤ start_of (instructions_of c) j
  start_up k j l =
      let is = instructions_of c in
      let e : start_of is j ≡ start_of is k + length (encodes (take (j - k) (drop k is))) = ap (start_of is) (let z : j ≡ k + (j - k) = omega arith in z) ∙ start-add is k (j - k) in omega arith

  pub between-length : (k j : ℕ) → k ≤ j → length (between c k j) ≡ start_of (instructions_of c) j - start_of (instructions_of c) k
  unfolding between
  between-length k j l = let a = start-in j in let b = start_up k j l in let d = length-drop (start_of (instructions_of c) k) c in
      length-take-le (start_of (instructions_of c) j - start_of (instructions_of c) k) (drop (start_of (instructions_of c) k) c) (omega arith)

  module _ (k : ℕ) (l : k < length (instructions_of c)) where
    pub reads_here : Got instruction c (start_of (instructions_of c) k) (get_or (instructions_of c) k Return) (start_of (instructions_of c) (k + 1))
    reads_here = record { is = h.reads k l; from = start_up k (k + 1) (omega arith); to = start-in (k + 1) }

    pub op-here : (start_of (instructions_of c) k < length c) × (get_or c (start_of (instructions_of c) k) 0 ≡ (get_or (instructions_of c) k Return).op)
    op-here = let v = instruction-view c (start_of (instructions_of c) k) (get_or (instructions_of c) k Return) (start_of (instructions_of c) (k + 1)) (start-in k) reads_here in (v.0, sym v.1)

    pub operand-here : first_width (get_or (instructions_of c) k Return).op ≡ 4 →
        (start_of (instructions_of c) k + 1 + 4 ≤ length c) × (number_at 4 c (start_of (instructions_of c) k + 1) ≡ (get_or (instructions_of c) k Return).a)
    operand-here e =
        let v = instruction-view c (start_of (instructions_of c) k) (get_or (instructions_of c) k Return) (start_of (instructions_of c) (k + 1)) (start-in k) reads_here in
        let m = v.4 in let t = start-in (k + 1) in
        (omega arith, ap (λ (w : ℕ). number_at w c (start_of (instructions_of c) k + 1)) (sym e) ∙ sym v.2)

    pub not_last : ((get_or (instructions_of c) k Return).op ≡ 33 → ⊥) → k + 1 < length (instructions_of c)
    not_last f = Stays.not_last (instructions_of c) h.ends k l f

    pub jump-inside : is_jump (get_or (instructions_of c) k Return).op ≡ true → landing k (get_or (instructions_of c) k Return).a < length (instructions_of c)
    jump-inside j = Stays.jump-inside (instructions_of c) h.land k l j
