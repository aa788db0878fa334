-- What the program writes, by the lowering's answer.
use Prim.Native.Nat.{ℕ, ◌+◌, ◌≤◌, ◌<◌}
use mathlib.Core.Path.{◌≡◌, refl, sym, ap, ◌∙◌}
use mathlib.Core.List.{List, [], ◌∷◌, ◌++◌}
use native.Mathlib.Omega.{arith}
use lib.ListN.{length, take, drop, length-append}
use lib.Seq.{take_at, take_all}
use Rattle.definitions.specs.Bytes.{Answer, refused, accepted, when_accepted, ascii, decimal}
use Rattle.definitions.specs.Module.{office, limits_by}
use Rattle.definitions.specs.Calls.{written, output_after, count_answer, lower_answer, lower_call, lower_program}
use Rattle.limits.specs.Sets.{set_number, limits_for}
use Rattle.limits.specs.declared.Limits.TheVariants.{Office}
use Rattle.names.specs.Made.{pasted}
use Rattle.definitions.proofs.Decimals.{length-decimal}
use Rattle.names.proofs.Pasting.{three-length, paste-three}
use Rattle.lowering.specs.Lowered.{lowering_said, Lowers}
use Rattle.std.specs.Prelude.{Result, Ok, Err}
use Rattle.questions.specs.declared.Question.{Question}
use Rattle.questions.specs.Numbers.{number}

-- the first n bytes are these
pub record Answered (n : ℕ) (out bs : List ℕ) : Type 0 where
  pub counts : (n ≤ length out) × (n ≡ length (take n out))
  pub bytes : take n out ≡ bs

-- ---- the line of a refusal

-- bytes at the start of a buffer
at-start : (n : ℕ) (s rest out : List ℕ) → n ≡ length s → out ≡ s ++ rest → Answered n out s
at-start n s rest out e f =
    let b : take n out ≡ s = ap (take n) f ∙ take_at s rest n (sym e) in
    record { counts = (let k = length-append s rest in let l = ap length f in omega arith, e ∙ sym (ap length b)); bytes = b }

pub pasted-first : (s xs out : List ℕ) (n : ℕ) → (n ≡ 0 + length s) × (out ≡ pasted s 0 xs) → Answered n out s
unfolding pasted
pasted-first s xs out n h = at-start n s (drop (0 + length s) xs) out (omega (arith, h.0)) h.1

pub line-pasted : (q p e r : ℕ) (xs ys zs us : List ℕ) → q < 4294967296 → 65536 ≡ length xs
    → (p ≡ 0 + length (ascii "refused ")) × (ys ≡ pasted (ascii "refused ") 0 xs) → (e ≡ p + length (decimal q)) × (zs ≡ pasted (decimal q) p ys)
    → (r ≡ e + length {A = ℕ} (10 ∷ [])) × (us ≡ pasted (10 ∷ []) e zs) → Answered r us (ascii "refused " ++ (decimal q ++ 10 ∷ []))
line-pasted q p e r xs ys zs us h room a d b =
    let n = three-length (ascii "refused ") (decimal q) (10 ∷ []) in
    pasted-first (ascii "refused " ++ (decimal q ++ 10 ∷ [])) xs us r
    (paste-three (ascii "refused ") (decimal q) (10 ∷ []) 0 p e r xs ys zs us (omega (arith, length-decimal 9 q (omega arith))) a d b)

-- ---- the program

program-wrote : (input bs : List ℕ) → lower_answer office 16384 16384 65536 (take 32769 input) ≡ accepted bs → lower_program input ≡ bs
unfolding lower_program
program-wrote input bs e = rw (e, lower_program)

program-refused : (input : List ℕ) (q : ℕ) → lower_answer office 16384 16384 65536 (take 32769 input) ≡ refused q → lower_program input ≡ ascii "refused " ++ (decimal q ++ 10 ∷ [])
unfolding lower_program
program-refused input q e = rw (e, lower_program)

-- the lowering's answer, where its slices are the program's
same_answer : (m n room : ℕ) (input : List ℕ) (a : Answer (List ℕ)) → 16384 ≡ m → 16384 ≡ n → 65536 ≡ room → length input ≤ 32769 → lower_answer office m n room input ≡ a → lower_answer office 16384 16384 65536 (take 32769 input) ≡ a
same_answer m n room input a e f g h k = (λ i. lower_answer office (e i) (f i) (g i) (take_all 32769 input h i)) ∙ k

wrote : (a : Answer (List ℕ)) (n : ℕ) (out out' : List ℕ) → accepted n ≡ count_answer a → out' ≡ output_after a out → (bs : List ℕ) × (a ≡ accepted bs) × Answered n out' bs
unfolding count_answer output_after written when_accepted
wrote (refused q) n out out' e f = let z : ◌≡◌ {A = ℕ} 0 1 = cc in absurd (omega arith)
wrote (accepted bs) n out out' e f = let x : n ≡ length bs = cc in (bs, refl, at-start n bs (drop (length bs) out) out' x f)

refuses : (a : Answer (List ℕ)) (q : ℕ) → refused q ≡ count_answer a → a ≡ refused q
unfolding count_answer when_accepted
refuses (refused p) q e = cc
refuses (accepted bs) q e = let z : ◌≡◌ {A = ℕ} 0 1 = cc in absurd (omega arith)

module _ (r : Result ℕ Question) (input area₁ area₂ out area₁' area₂' out' : List ℕ) (L : Lowers r area₁' area₂' out' (lower_call (limits_for Office) input area₁ area₂ out))
    (first : 16384 ≡ length area₁) (second : 16384 ≡ length area₂) (room : 65536 ≡ length out) (short : length input ≤ 32769) where
  abbrev whole : Answer (List ℕ)
  whole = lower_answer office (length area₁) (length area₂) (length out) input

  pub answered-wrote : (n : ℕ) → r ≡ Ok n → Answered n out' (lower_program input)
  unfolding lowering_said lower_call limits_by set_number
  answered-wrote n e =
      let w = wrote whole n out out' (sym (ap lowering_said e) ∙ L.answer) L.output in
      rw (program-wrote input w.0 (same_answer _ _ _ input _ first second room short w.1)) w.2

  pub refused-line : (q : Question) (line : List ℕ) → r ≡ Err q → line ≡ ascii "refused " ++ (decimal (number q) ++ 10 ∷ []) → line ≡ lower_program input
  unfolding lowering_said lower_call limits_by set_number
  refused-line q line e A =
      let w = refuses whole (number q) (sym (ap lowering_said e) ∙ L.answer) in
      A ∙ sym (program-refused input (number q) (same_answer _ _ _ input _ first second room short w))
