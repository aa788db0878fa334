-- What an accepted lowering wrote.
use Prim.Native.Nat.{ℕ, ◌-◌, ◌≤◌}
use mathlib.Core.Path.{◌≡◌, refl, sym, ap, ap₂, ◌∙◌, subst}
use mathlib.Core.Bool.{Bool, true, false}
use mathlib.Core.List.{List}
use native.Mathlib.Omega.{arith}
use lib.ListN.{length, take, drop}
use lib.Seq.{take-append_seam}
use lib.Dec.{leb}
use borrow.Author.Tests.{leb-true}
use Rattle.definitions.specs.Bytes.{Answer, refused, accepted, when_accepted}
use Rattle.definitions.specs.Module.{Limits, lower_bytes}
use Rattle.definitions.specs.Calls.{written, output_after, count_answer, areas_fit, fits_room, lower_answer, Lowering, lower_call}
use Rattle.definitions.proofs.Lowered.{when-accepted}
use Rattle.lowering.specs.Lowered.{lowering_said, Lowers}
use Rattle.std.specs.Prelude.{Result, Ok, Err}
use Rattle.questions.specs.declared.Question.{Question}
use Rattle.questions.specs.Numbers.{number}
use Rattle.follows.specs.Thereafter.{Thereafter, thereafter, left_after}

-- ---- the module that was written

-- the tree is lowered to a module, and that is the first n bytes of the output
pub record Made (l : Limits) (tree output output' : List ℕ) (n : ℕ) : Type 0 where
  pub bytes : List ℕ
  pub lowers : lower_bytes l tree ≡ accepted bytes
  pub front : take n output' ≡ bytes
  pub fits : n ≤ length output

fits-room : (room : ℕ) (x m : List ℕ) → fits_room room x ≡ accepted m → (x ≡ m) × (length x ≤ room)
unfolding fits_room
fits-room room x m = go (leb (length x) room) refl
  where
    go : (b : Bool) → leb (length x) room ≡ b → (elim b as (λ z. Answer (List ℕ)) [ true ↦ accepted x | false ↦ refused 16 ]) ≡ accepted m → (x ≡ m) × (length x ≤ room)
    go true h e = (cc, leb-true _ _ h)
    go false h e = let z : ◌≡◌ {A = ℕ} 0 1 = cc in absurd (omega arith)

answer-gives : (l : Limits) (a b room : ℕ) (tree m : List ℕ) → lower_answer l a b room tree ≡ accepted m → (lower_bytes l tree ≡ accepted m) × (length m ≤ room)
unfolding lower_answer
answer-gives l a b room tree m = go (areas_fit a b)
  where
    go : (x : Bool) → (elim x as (λ z. Answer (List ℕ)) [ false ↦ refused 1 | true ↦ when_accepted (lower_bytes l tree) (fits_room room) ]) ≡ accepted m → (lower_bytes l tree ≡ accepted m) × (length m ≤ room)
    go false e = let z : ◌≡◌ {A = ℕ} 0 1 = cc in absurd (omega arith)
    go true e =
        let W = when-accepted (lower_bytes l tree) (fits_room room) m e in
        let F = fits-room room W.0 m W.2 in
        (W.1 ∙ ap accepted F.0, subst (λ (x : List ℕ). length x ≤ room) F.0 F.1)

-- an answer that is a count
counted : (r : Result ℕ Question) (n : ℕ) (a : Answer (List ℕ)) (output output' : List ℕ) → lowering_said r ≡ count_answer a → output' ≡ output_after a output → r ≡ Ok n →
    (m : List ℕ) × (a ≡ accepted m) × (n ≡ length m) × (output' ≡ written m output)
unfolding lowering_said count_answer output_after when_accepted
counted r n (refused q) output output' t o e = let x : accepted n ≡ refused q = sym (ap lowering_said e) ∙ t in let z : ◌≡◌ {A = ℕ} 0 1 = cc in absurd (omega arith)
counted r n (accepted m) output output' t o e = let x : accepted n ≡ accepted (length m) = sym (ap lowering_said e) ∙ t in (m, refl, cc, o)

pub front-is : (n : ℕ) (m output output' : List ℕ) → n ≡ length m → output' ≡ written m output → take n output' ≡ m
unfolding written
front-is n m output output' c o = ap₂ take c o ∙ take-append_seam m (drop (length m) output)

module _ (r : Result ℕ Question) (l : Limits) (tree area₁ area₂ output area₁' area₂' output' : List ℕ) (L : Lowers r area₁' area₂' output' (lower_call l tree area₁ area₂ output)) (n : ℕ) (e : r ≡ Ok n) where
  pub made : Made l tree output output' n
  unfolding lower_call
  made =
      let C = counted r n (lower_answer l (length area₁) (length area₂) (length output) tree) output output' L.answer L.output e in
      let G = answer-gives l (length area₁) (length area₂) (length output) tree C.0 C.1 in
      record { bytes = C.0; lowers = G.0; front = front-is n C.0 output output' C.2 C.3; fits = omega (arith, C.2, G.1) }

  -- the part of the buffer that is the module
  pub part-fits : length output' ≡ length output → n ≤ length output'
  part-fits h = omega (arith, h, made.fits)

-- the part from 0 to n, as the code takes it
pub part-is : (n : ℕ) (xs : List ℕ) → take (n - 0) xs ≡ take n xs
part-is n xs = let e : n - 0 ≡ n = omega arith in ap (λ (k : ℕ). take k xs) e

-- ---- calls over it

abbrev both : {A : Type 0} → ℕ → Answer A → Answer (Thereafter A)
both n x = accepted (record { count = n; next = x })

module _ (w : Lowering) (r : Result ℕ Question) (output' : List ℕ) (answer : lowering_said r ≡ w.answer) (output : output' ≡ w.output) where
  answer-wrote : (n : ℕ) → r ≡ Ok n → w.answer ≡ accepted n
  unfolding lowering_said
  answer-wrote n e = sym answer ∙ ap lowering_said e

  answer-refused : (q : Question) → r ≡ Err q → w.answer ≡ refused (number q)
  unfolding lowering_said
  answer-refused q e = sym answer ∙ ap lowering_said e

  pub then-accepted : {A : Type 0} (call : List ℕ → Answer A) (n : ℕ) → r ≡ Ok n → (next : Answer A) → next ≡ call (take n output') →
      both n next ≡ thereafter w.answer w.output call
  unfolding thereafter
  then-accepted {A} call n e next h =
      ap (λ (x : Answer A). both n x) h
      ∙ ap₂ (λ (a : Answer ℕ) (o : List ℕ). thereafter a o call) (sym (answer-wrote n e)) output

  pub then-refused : {A : Type 0} (call : List ℕ → Answer A) (q : Question) → r ≡ Err q → refused (number q) ≡ thereafter w.answer w.output call
  unfolding thereafter
  then-refused call q e = ap (λ (a : Answer ℕ). thereafter a w.output call) (sym (answer-refused q e))

  pub left-accepted : (call : List ℕ → List ℕ) (buffer : List ℕ) (n : ℕ) → r ≡ Ok n → call (take n output') ≡ left_after w.answer w.output call buffer
  unfolding left_after
  left-accepted call buffer n e = ap₂ (λ (a : Answer ℕ) (o : List ℕ). left_after a o call buffer) (sym (answer-wrote n e)) output

  pub left-refused : (call : List ℕ → List ℕ) (buffer : List ℕ) (q : Question) → r ≡ Err q → buffer ≡ left_after w.answer w.output call buffer
  unfolding left_after
  left-refused call buffer q e = ap (λ (a : Answer ℕ). left_after a w.output call buffer) (sym (answer-refused q e))
