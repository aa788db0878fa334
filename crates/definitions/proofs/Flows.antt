-- Opcodes and how they go on.
use Prim.Native.Nat.{ℕ, ◌+◌, ◌<◌, ◌≤◌}
use mathlib.Core.Path.{◌≡◌, refl, sym, ap, ap₂, ◌∙◌}
use mathlib.Core.Bool.{Bool, true, false, ◌&&◌}
use mathlib.Core.Logic.{◌⊎◌, inl, inr, ⊎_elim}
use native.Mathlib.Omega.{arith}
use lib.Dec.{eqb}
use borrow.Author.Tests.{eq-eqb, ne_eqb, eqb-true, le-leb}
use Rattle.definitions.specs.Instruction.{instruction_table, row_of, first_width, straight, jump, question, returns, flow}
use Rattle.definitions.specs.Reader.{is_jump, landing}
use Rattle.definitions.specs.Run.{way}
use Rattle.definitions.specs.Open.{flows}
use Rattle.definitions.proofs.Rows.{chosen, flow-is, jump-is}

-- the four that do not go straight on
some-stop : (a b c d : Bool) → (chosen a b c d ≡ straight → ⊥) → (a ≡ true) ⊎ ((b ≡ true) ⊎ ((c ≡ true) ⊎ (d ≡ true)))
unfolding chosen
some-stop true b c d f = inl refl
some-stop false true c d f = inr (inl refl)
some-stop false false true d f = inr (inr (inl refl))
some-stop false false false true f = inr (inr (inr refl))
some-stop false false false false f = absurd (f refl)

module _ (op : ℕ) where
  pub jump-stops : op ≡ 28 → flow op ≡ straight → ⊥
  unfolding flows
  jump-stops e f = let k = sym (ap flow e) ∙ f in let z : ◌≡◌ {A = ℕ} 0 1 = cc in omega arith

  pub false-stops : op ≡ 29 → flow op ≡ straight → ⊥
  unfolding flows
  false-stops e f = let k = sym (ap flow e) ∙ f in let z : ◌≡◌ {A = ℕ} 0 1 = cc in omega arith

  pub true-stops : op ≡ 30 → flow op ≡ straight → ⊥
  unfolding flows
  true-stops e f = let k = sym (ap flow e) ∙ f in let z : ◌≡◌ {A = ℕ} 0 1 = cc in omega arith

  pub return-stops : op ≡ 33 → flow op ≡ straight → ⊥
  unfolding flows
  return-stops e f = let k = sym (ap flow e) ∙ f in let z : ◌≡◌ {A = ℕ} 0 1 = cc in omega arith

  pub goes-straight : (op ≡ 28 → ⊥) → (op ≡ 29 → ⊥) → (op ≡ 30 → ⊥) → (op ≡ 33 → ⊥) → flow op ≡ straight
  unfolding chosen
  goes-straight a b c d = flow-is op
      ∙ ap (λ (x : Bool). chosen x (eqb op 29) (eqb op 30) (eqb op 33)) (ne_eqb op 28 a)
      ∙ ap (λ (x : Bool). chosen false x (eqb op 30) (eqb op 33)) (ne_eqb op 29 b)
      ∙ ap (λ (x : Bool). chosen false false x (eqb op 33)) (ne_eqb op 30 c)
      ∙ ap (λ (x : Bool). chosen false false false x) (ne_eqb op 33 d)

  -- a stop that is no Return is a jump or a question
  pub stop-jumps : (flow op ≡ straight → ⊥) → (op ≡ 33 → ⊥) → (28 ≤ op) × (op ≤ 30)
  stop-jumps f r =
      ⊎_elim (λ (e : eqb op 28 ≡ true). let z = eqb-true op 28 e in range (omega arith) (omega arith))
      (⊎_elim (λ (e : eqb op 29 ≡ true). let z = eqb-true op 29 e in range (omega arith) (omega arith))
      (⊎_elim (λ (e : eqb op 30 ≡ true). let z = eqb-true op 30 e in range (omega arith) (omega arith))
      (λ (e : eqb op 33 ≡ true). absurd (r (eqb-true op 33 e)))))
      (some-stop (eqb op 28) (eqb op 29) (eqb op 30) (eqb op 33) (λ e. f (flow-is op ∙ e)))
    where
      range : 28 ≤ op → op ≤ 30 → (28 ≤ op) × (op ≤ 30)
      range a b = (a, b)

  pub flow-jump : op ≡ 28 → flow op ≡ jump
  unfolding flows
  flow-jump e = ap flow e

  pub flow-returns : op ≡ 33 → flow op ≡ returns
  unfolding flows
  flow-returns e = ap flow e

  module _ (a : 28 ≤ op) (b : op ≤ 30) where
    one_of : (op ≡ 28) ⊎ ((op ≡ 29) ⊎ (op ≡ 30))
    one_of = pick (eqb op 28) (eqb op 29) refl refl
      where
        pick : (x y : Bool) → eqb op 28 ≡ x → eqb op 29 ≡ y → (op ≡ 28) ⊎ ((op ≡ 29) ⊎ (op ≡ 30))
        pick true y e f = inl (eqb-true op 28 e)
        pick false true e f = inr (inl (eqb-true op 29 f))
        pick false false e f = inr (inr (third (λ k. differ 28 e k) (λ k. differ 29 f k)))
          where
            differ : (n : ℕ) → eqb op n ≡ false → op ≡ n → ⊥
            differ n e k = let z = sym (eq-eqb op n k) ∙ e in let y : ◌≡◌ {A = ℕ} 0 1 = cc in omega arith

            third : (op ≡ 28 → ⊥) → (op ≡ 29 → ⊥) → op ≡ 30
            third f g = omega arith

    pub jump-width : first_width op ≡ 4
    unfolding first_width row_of instruction_table
    jump-width = ⊎_elim (λ (e : op ≡ 28). ap first_width e) (⊎_elim (λ (e : op ≡ 29). ap first_width e) (λ (e : op ≡ 30). ap first_width e)) one_of

    pub is-jump : is_jump op ≡ true
    is-jump = jump-is op ∙ ap₂ (λ (x y : Bool). x && y) (le-leb 28 op a) (le-leb op 30 b)

    pub flow-question : (op ≡ 28 → ⊥) → flow op ≡ question (eqb op 30)
    unfolding flows
    flow-question f = ⊎_elim (λ (e : op ≡ 28). absurd (f e))
        (⊎_elim (λ (e : op ≡ 29). ap flow e ∙ ap (λ (k : ℕ). question (eqb k 30)) (sym e)) (λ (e : op ≡ 30). ap flow e ∙ ap (λ (k : ℕ). question (eqb k 30)) (sym e))) one_of

-- where a question goes, in code of n instructions
pub way-below : (n p a : ℕ) (x y : Bool) → landing p a < n → p + 1 < n → way x y p a < n
unfolding way
way-below n p a true true h l = h
way-below n p a true false h l = omega arith
way-below n p a false true h l = omega arith
way-below n p a false false h l = h
