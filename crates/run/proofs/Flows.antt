-- What the code tests of opcodes, and where a question goes. Assumes nothing.
use Prim.Native.Nat.{ℕ, ◌+◌, ◌<◌, ◌≤◌}
use mathlib.Core.Path.{◌≡◌, refl, sym, ap, ap₂, ◌∙◌, subst}
use lib.Dec.{eqb}
use borrow.Author.Tests.{eq-eqb, ne_eqb}
use mathlib.Core.Bool.{Bool, true, false}
use mathlib.Core.List.{[], ◌∷◌}
use mathlib.Core.Logic.{◌⊎◌, ⊎_elim}
use native.Mathlib.Omega.{arith}
use native.Mathlib.Numerals.{add-one}
use Rattle.definitions.specs.Instruction.{Instr, instr, instruction_table, row_of, first_width, second_width, encode}
use Rattle.definitions.specs.Bytes.{be}
use Rattle.definitions.specs.Reader.{landing}
use Rattle.definitions.specs.Instruction.{straight, flow}
use Rattle.definitions.specs.Run.{way}
use Rattle.definitions.proofs.Flows.{jump-stops, false-stops, true-stops, return-stops, goes-straight}
use Rattle.definitions.proofs.Begins.{le-or-gt}
use Rattle.run.specs.Tables.{GoesOn, Nearer}

-- a Return has no operands
pub return-bytes : (i : Instr) → i.op ≡ 33 → encode i ≡ i.op ∷ []
unfolding encode first_width second_width row_of instruction_table be
return-bytes i e = ap (λ (k : ℕ). encode (instr k i.a i.b)) e ∙ ap (λ (k : ℕ). k ∷ []) (sym e)

-- ---- what the code tests

goes-yes : (op : ℕ) → flow op ≡ straight → GoesOn true op
unfolding GoesOn
goes-yes op e = e

goes-not : (op : ℕ) → (flow op ≡ straight → ⊥) → GoesOn false op
unfolding GoesOn
goes-not op f = f

module _ (op : ℕ) where
  pub on_turn : 28 ≤ op → op ≤ 30 → GoesOn false op
  on_turn h g = goes-not op (⊎_elim (λ (a : 29 ≤ op). ⊎_elim (λ (b : 30 ≤ op). true-stops op (omega arith)) (λ (b : op < 30). false-stops op (omega arith)) (le-or-gt 30 op)) (λ (a : op < 29). jump-stops op (omega arith)) (le-or-gt 29 op))

  pub on-return : op ≡ 33 → GoesOn false op
  on-return e = goes-not op (return-stops op e)

  pub on_straight : (op < 28) ⊎ (30 < op) → (op ≡ 33 → ⊥) → GoesOn true op
  on_straight h d = goes-yes op (⊎_elim (λ (a : op < 28). go (omega arith) (omega arith) (omega arith)) (λ (a : 30 < op). go (omega arith) (omega arith) (omega arith)) h)
    where
      go : (op ≡ 28 → ⊥) → (op ≡ 29 → ⊥) → (op ≡ 30 → ⊥) → flow op ≡ straight
      go a b c = goes-straight op a b c d

-- what the test's answer says
pub on-true : (b : Bool) (op : ℕ) → GoesOn b op → b ≡ true → flow op ≡ straight
unfolding GoesOn
on-true b op g e = subst (λ (x : Bool). GoesOn x op) e g

pub on-false : (b : Bool) (op : ℕ) → GoesOn b op → b ≡ false → flow op ≡ straight → ⊥
unfolding GoesOn
on-false b op g e = subst (λ (x : Bool). GoesOn x op) e g

pub nearer-on : (b : Bool) (op k stop : ℕ) → GoesOn b op → b ≡ true → Nearer stop op k stop
nearer-on b op k stop g e = record { on = λ f. refl; stops = λ f. absurd (f (on-true b op g e)) }

pub nearer-stop : (b : Bool) (op k stop : ℕ) → GoesOn b op → b ≡ false → Nearer k op k stop
nearer-stop b op k stop g e = record { on = λ f. absurd (on-false b op g e f); stops = λ f. refl }

-- ---- a question's way

module _ (op x p a : ℕ) where
  pub way-true-yes : op ≡ 30 → x ≡ 1 → landing p a ≡ way (eqb op 30) (eqb x 1) p a
  unfolding way
  way-true-yes e f = sym (ap₂ (λ (y z : Bool). way y z p a) (eq-eqb op 30 e) (eq-eqb x 1 f))

  pub way-true-no : op ≡ 30 → (x ≡ 1 → ⊥) → p + 1 ≡ way (eqb op 30) (eqb x 1) p a
  unfolding way
  way-true-no e f = add-one p ∙ sym (ap₂ (λ (y z : Bool). way y z p a) (eq-eqb op 30 e) (ne_eqb x 1 f))

  pub way-false-yes : (op ≡ 30 → ⊥) → x ≡ 1 → p + 1 ≡ way (eqb op 30) (eqb x 1) p a
  unfolding way
  way-false-yes e f = add-one p ∙ sym (ap₂ (λ (y z : Bool). way y z p a) (ne_eqb op 30 e) (eq-eqb x 1 f))

  pub way-false-no : (op ≡ 30 → ⊥) → (x ≡ 1 → ⊥) → landing p a ≡ way (eqb op 30) (eqb x 1) p a
  unfolding way
  way-false-no e f = sym (ap₂ (λ (y z : Bool). way y z p a) (ne_eqb op 30 e) (ne_eqb x 1 f))
