-- The heights of words: what each leaves, and the number of all. Assumes nothing.
use Prim.Native.Nat.{ℕ, ◌+◌, ◌-◌, ◌*◌, ◌/◌, ◌%◌, ◌^◌, ◌≤◌, ◌<◌, max}
use mathlib.Core.Path.{◌≡◌, refl, sym, ap, ap₂, ◌∙◌}
use mathlib.Core.Bool.{Bool, true, false}
use mathlib.Core.List.{List, ◌∷◌}
use native.Mathlib.Omega.{arith}
use native.Mathlib.Numerals.{add-one}
use lib.Dec.{eqb, leb}
use lib.ListN.{length, get_or, drop, drop_of_length-le}
use lib.Seq.{drop-cons}
use borrow.Author.Tests.{ne_eqb, eqb-true, eqb-false, leb-true, leb-false}
use Rattle.definitions.specs.Instruction.{Instr, instr, instruction_table, row_of, Flow, straight, jump, returns, question, flow}
use Rattle.definitions.specs.Stack.{pops, pushes, height_after, following, tallest, height_number}
use Rattle.definitions.proofs.Flows.{flow-jump}
use Rattle.definitions.proofs.Rows.{chosen, flow-is}
use Rattle.definitions.proofs.Truth.{true-false}
use Rattle.state.specs.Words.{op_of, first_of, second_of, operand_read, instr_of, instrs_of}
use Rattle.widths.specs.Turns.{turn}
use Rattle.widths.proofs.StackLaws.{has_each, first-pops-none}
use Rattle.module.proofs.Encoding.{of-small, of_other, operand-high}

-- ---- one word

-- an operand that counts stands in the word
first-counts : (t : List ℕ) (op a : ℕ) → (row_of op).pops.per_first * operand_read t op a ≡ (row_of op).pops.per_first * a
unfolding has_each
first-counts t op a = go (leb op 30) refl
  where
    none : op ≤ 30 → has_each op ≡ false
    none h =
        simp (ne_eqb op 34 (λ e. omega arith), ne_eqb op 38 (λ e. omega arith), ne_eqb op 39 (λ e. omega arith), ne_eqb op 40 (λ e. omega arith), ne_eqb op 41 (λ e. omega arith), ne_eqb op 42 (λ e. omega arith))

    go : (b : Bool) → leb op 30 ≡ b → (row_of op).pops.per_first * operand_read t op a ≡ (row_of op).pops.per_first * a
    go true e =
        let z = sym (first-pops-none op (none (leb-true op 30 e))) in
        let x : 0 * operand_read t op a ≡ 0 * a = omega arith in
        ap (λ (k : ℕ). k * operand_read t op a) z ∙ x ∙ sym (ap (λ (k : ℕ). k * a) z)
    go false e = ap (λ (x : ℕ). (row_of op).pops.per_first * x) (operand-high t op a (leb-false op 30 e))

module _ (t : List ℕ) (w : ℕ) where
  -- what it pops, by its opcode and the operands in the word
  pops-word : pops (instr ((instr_of t w).op) (first_of w) (second_of w)) ≡ pops (instr_of t w)
  unfolding pops row_of instruction_table
  pops-word = go (eqb (w / 2 ^ 24) 48) refl
    where
      go : (b : Bool) → eqb (w / 2 ^ 24) 48 ≡ b → pops (instr ((instr_of t w).op) (first_of w) (second_of w)) ≡ pops (instr_of t w)
      go true e = let i = of-small t w (eqb-true (w / 2 ^ 24) 48 e) in
          ap (λ (j : Instr). pops (instr j.op (first_of w) (second_of w))) i ∙ (let z : 0 + 0 * first_of w + 0 * second_of w ≡ 0 + 0 * first_of w + 0 * 0 = omega arith in z) ∙ sym (ap pops i)
      go false e = let i = of_other t w (eqb-false (w / 2 ^ 24) 48 e) in
          ap (λ (j : Instr). pops (instr j.op (first_of w) (second_of w))) i
          ∙ ap (λ (x : ℕ). (row_of (op_of w)).pops.own + x + (row_of (op_of w)).pops.per_second * second_of w) (sym (first-counts t (op_of w) (first_of w))) ∙ sym (ap pops i)

  pub left-word : {op a b r : ℕ} (h : ℕ) → op ≡ (instr_of t w).op → a ≡ first_of w → b ≡ second_of w → r ≡ height_after (instr op (a % 65536) (b % 65536)) h → r ≡ height_after (instr_of t w) h
  unfolding height_after pushes
  left-word {op} {a} {b} h e f g k =
      let x : a % 65536 ≡ first_of w = omega arith in
      let y : b % 65536 ≡ second_of w = omega arith in
      k ∙ (λ i. height_after (instr (e i) (x i) (y i)) h) ∙ ap (λ (n : ℕ). h - n + (row_of (instr_of t w).op).pushes) pops-word

-- ---- the next place

module _ (i : Instr) {op : ℕ} (h : ℕ) (e : op ≡ i.op) where
  pub next-zero : op ≡ 28 → h ≡ 0 → 0 ≡ following (flow i.op) i h
  unfolding following
  next-zero j z = (let y : 0 ≡ h - 1 = omega arith in y) ∙ sym (ap (λ (f : Flow). following f i h) (flow-jump i.op (sym e ∙ j)))

  pub next-jump : op ≡ 28 → h - 1 ≡ following (flow i.op) i h
  unfolding following
  next-jump j = sym (ap (λ (f : Flow). following f i h) (flow-jump i.op (sym e ∙ j)))

  pub next-return : eqb (turn (flow i.op)) 0 ≡ false → (op ≡ 28 → ⊥) → 0 ≡ following (flow i.op) i h
  unfolding following chosen turn
  next-return o j =
      let f : flow i.op ≡ chosen false (eqb i.op 29) (eqb i.op 30) (eqb i.op 33) =
      flow-is i.op ∙ ap (λ (a : Bool). chosen a (eqb i.op 29) (eqb i.op 30) (eqb i.op 33)) (ne_eqb i.op 28 (λ k. j (e ∙ k))) in
      go (eqb i.op 29) (eqb i.op 30) (eqb i.op 33) (ap (λ (x : Flow). eqb (turn x) 0) (sym f) ∙ o) ∙ sym (ap (λ (x : Flow). following x i h) f)
    where
      go : (b c d : Bool) → eqb (turn (chosen false b c d)) 0 ≡ false → 0 ≡ following (chosen false b c d) i h
      go true c d o = true-false refl o
      go false true d o = true-false refl o
      go false false true o = refl
      go false false false o = true-false refl o

-- where the next place is met at the height left
pub next-onward : (i : Instr) (h : ℕ) → eqb (turn (flow i.op)) 0 ≡ true → height_after i h ≡ following (flow i.op) i h
unfolding following turn
next-onward i h o = go (flow i.op) o
  where
    go : (f : Flow) → eqb (turn f) 0 ≡ true → height_after i h ≡ following f i h
    go straight o = refl
    go jump o = true-false o refl
    go returns o = true-false o refl
    go (question b) o = refl

-- ---- all words

-- the number, by the largest height so far and the words from i on, met at height h
pub record Rising (words : List ℕ) (i h most : ℕ) : Type 0 where
  pub within : i ≤ length words
  pub low : h ≤ 2 * i
  pub so : (t : List ℕ) → height_number (instrs_of t words) ≡ max most (tallest h (instrs_of t (drop i words)))

pub rising-start : (words : List ℕ) → Rising words 0 0 0
unfolding height_number
rising-start words = record { within = omega arith; low = omega arith; so = λ t. omega arith }

pub rising-next : {words : List ℕ} {i h most left more next : ℕ} → Rising words i h most → i < length words
    → ((t : List ℕ) → left ≡ height_after (instr_of t (get_or words i 0)) h) → left ≤ h + 2 → more ≡ max most left
    → ((t : List ℕ) → next ≡ following (flow ((instr_of t (get_or words i 0)).op)) (instr_of t (get_or words i 0)) h) → next ≤ max h left → Rising words (i + 1) next more
unfolding tallest instrs_of
rising-next {words} {i} {h} {most} {left} {more} {next} R l el bl em en bn = record {
  within = omega arith;
  low = let a = R.low in omega arith;
  so = λ t.
      let x = instr_of t (get_or words i 0) in
      let d : drop i words ≡ get_or words i 0 ∷ drop (i + 1) words = drop-cons words i 0 l ∙ ap (λ (k : ℕ). get_or words i 0 ∷ drop k words) (sym (add-one i)) in
      let s : tallest h (instrs_of t (drop i words)) ≡ max (height_after x h) (tallest (following (flow x.op) x h) (instrs_of t (drop (i + 1) words))) = ap (λ (ws : List ℕ). tallest h (instrs_of t ws)) d in
      let y : max (height_after x h) (tallest (following (flow x.op) x h) (instrs_of t (drop (i + 1) words))) ≡ max left (tallest next (instrs_of t (drop (i + 1) words))) =
      ap₂ (λ (a b : ℕ). max a (tallest b (instrs_of t (drop (i + 1) words)))) (sym (el t)) (sym (en t)) in
      R.so t ∙ ap (λ (k : ℕ). max most k) (s ∙ y) ∙ join most left (tallest next (instrs_of t (drop (i + 1) words))) ∙ ap (λ (k : ℕ). max k (tallest next (instrs_of t (drop (i + 1) words)))) (sym em);
}
  where
    join : (a b c : ℕ) → max a (max b c) ≡ max (max a b) c
    join a b c = omega arith

pub rising-done : {words : List ℕ} {i h most : ℕ} → Rising words i h most → length words ≤ i → (t : List ℕ) → most ≡ height_number (instrs_of t words)
unfolding tallest instrs_of
rising-done {words} {i} {h} {most} R l t =
    sym (R.so t ∙ ap (λ (ws : List ℕ). max most (tallest h (instrs_of t ws))) (drop_of_length-le words l) ∙ (let z : max most 0 ≡ most = omega arith in z))
