-- An instruction at a position. Assumes nothing.
use Prim.Native.Nat.{ℕ, ◌+◌, ◌-◌, ◌<◌, ◌≤◌}
use mathlib.Core.Path.{◌≡◌, refl, sym, ap, ap₂, ◌∙◌, subst}
use mathlib.Core.Bool.{Bool, true, false}
use mathlib.Core.List.{List}
use mathlib.Core.Logic.{⊎_elim}
use native.Mathlib.Omega.{arith}
use lib.ListN.{length, drop, get_or, length-drop}
use borrow.Author.Tests.{le-ltb}
use Rattle.definitions.specs.Bytes.{Parsed, got, failed, Parser, ◌>>=◌, give, unread, byte, field, keep, checked}
use Rattle.definitions.specs.Instruction.{Instr, instr, instruction_table, is_instruction, first_width, second_width}
use Rattle.definitions.specs.Reader.{instruction}
use Rattle.reader.specs.View.{skipped, skip_at, instruction_parsed, found_at, number_at, Got}
use Rattle.std.specs.Prelude.{Option, Some, None}
use Rattle.reader.specs.declared.Instruction.{Instruction}
use lib.Seq.{drop-drop}
use Rattle.reader.proofs.Taken.{skip-cut, skip-next, got-bind, got-give, got-byte, got-field, skip-field, at-end}
use Rattle.definitions.proofs.Begins.{Rest, bind_is, le-or-gt, takes-instruction}
use Rattle.definitions.proofs.Rows.{is-instruction}

-- an instruction that the code found
abbrev pub found_as : ℕ → ℕ → ℕ → ℕ → Option Instruction
found_as op a b m = Some (record { op = op; a = a; b = b; next = m })

-- a tested read
pub got-checked : {A : Type 0} (test : A → Bool) (p : Parser A) (t : List ℕ) (at : ℕ) (a : A) (m : ℕ) → Got p t at a m → test a ≡ true → Got (checked test p) t at a m
unfolding checked keep give
got-checked test p t at a m g e =
    record { is = bind_is p (λ a. keep (test a) a) (drop at t) a (drop m t) g.is ∙ ap (λ (b : Bool). keep b a (drop m t)) e; from = g.from; to = g.to }

pub cut-checked : {A : Type 0} (test : A → Bool) (p : Parser A) (t : List ℕ) (at : ℕ) (a : A) (m : ℕ) → Got p t at a m → test a ≡ false → skip_at (checked test p) t at ≡ None
unfolding checked keep unread skip_at skipped
cut-checked test p t at a m g e = skip-next p (λ a. keep (test a) a) t at a m g ∙ ap (λ (b : Bool). skipped (length t) (keep b a (drop m t))) e

pub cut-unchecked : {A : Type 0} (test : A → Bool) (p : Parser A) (t : List ℕ) (at : ℕ) → skip_at p t at ≡ None → skip_at (checked test p) t at ≡ None
unfolding checked
cut-unchecked test p t at e = skip-cut p _ t at e

-- nothing is found where nothing is read
pub found-cut : (t : List ℕ) (at : ℕ) → skip_at instruction t at ≡ None → found_at t at ≡ None
unfolding skip_at found_at skipped instruction_parsed
found-cut t at e = go (instruction (drop at t)) e
  where
    go : (r : Parsed Instr) → skipped (length t) r ≡ None → instruction_parsed (length t) r ≡ None
    go (got i rest) e = let z : ◌≡◌ {A = ℕ} 0 1 = cc in absurd (omega arith)
    go (failed why) e = refl

pub cut-found : (t : List ℕ) (at : ℕ) → found_at t at ≡ None → skip_at instruction t at ≡ None
unfolding skip_at found_at skipped instruction_parsed
cut-found t at e = go (instruction (drop at t)) e
  where
    go : (r : Parsed Instr) → instruction_parsed (length t) r ≡ None → skipped (length t) r ≡ None
    go (got i rest) e = let z : ◌≡◌ {A = ℕ} 0 1 = cc in absurd (omega arith)
    go (failed why) e = refl

pub found-got : (t : List ℕ) (at : ℕ) (i : Instr) (m : ℕ) → Got instruction t at i m → found_at t at ≡ found_as i.op i.a i.b m
unfolding found_at instruction_parsed
found-got t at i m g = ap (instruction_parsed (length t)) g.is ∙ ap (λ (k : ℕ). found_as i.op i.a i.b k) (let l = length-drop m t in let h = g.to in omega arith)

-- what the code found was read
pub found-is : (t : List ℕ) (at op a b m : ℕ) → at ≤ length t → found_at t at ≡ found_as op a b m → Got instruction t at (instr op a b) m
unfolding found_at instruction_parsed
found-is t at op a b m h e = go (instruction (drop at t)) refl (takes-instruction.rest (drop at t)) e
  where
    never : None ≡ found_as op a b m → Got instruction t at (instr op a b) m
    never e = let z : ◌≡◌ {A = ℕ} 0 1 = cc in absurd (omega arith)

    go : (r : Parsed Instr) → instruction (drop at t) ≡ r → Rest instruction (drop at t) r → instruction_parsed (length t) r ≡ found_as op a b m → Got instruction t at (instr op a b) m
    go (got j rest) i w e =
        let d : rest ≡ drop (at + w.0) t = w.2 ∙ drop-drop w.0 at t in
        let l : length rest ≡ length t - (at + w.0) = ap length d ∙ length-drop (at + w.0) t in
        let b₁ : w.0 ≤ length t - at = subst (λ (n : ℕ). w.0 ≤ n) (length-drop at t) w.1 in
        let r : ◌≡◌ {A = Instruction} (record { op = j.op; a = j.a; b = j.b; next = length t - length rest }) (record { op = op; a = a; b = b; next = m }) = cc in
        let n : length t - length rest ≡ m = ap (λ (x : Instruction). x.next) r in
        let k : at + w.0 ≡ m = omega arith in
        let e₁ : j.op ≡ op = ap (λ (x : Instruction). x.op) r in let e₂ : j.a ≡ a = ap (λ (x : Instruction). x.a) r in let e₃ : j.b ≡ b = ap (λ (x : Instruction). x.b) r in
        let same : j ≡ instr op a b = λ z. record { op = e₁ z; a = e₂ z; b = e₃ z } in
        record { is = i ∙ ap (λ (x : List ℕ). got j x) (d ∙ ap (λ (n : ℕ). drop n t) k) ∙ ap (λ (x : Instr). got x (drop m t)) same; from = omega arith; to = omega arith }
    go (failed why) i w e = never e

-- an opcode past the table
no-instruction : (op : ℕ) → 45 < op → is_instruction op ≡ false
unfolding is_instruction instruction_table
no-instruction op h = le-ltb op 46 h

module _ (t : List ℕ) (at : ℕ) where
  pub no-byte : length t ≤ at → found_at t at ≡ None
  unfolding instruction skip_at skipped
  no-byte h = found-cut t at (skip-cut (checked is_instruction byte) _ t at (cut-unchecked is_instruction byte t at (ap (skipped (length t)) (at-end t at h))))

  pub no-opcode : at < length t → 45 < get_or t at 0 → found_at t at ≡ None
  unfolding instruction
  no-opcode h l = found-cut t at (skip-cut (checked is_instruction byte) _ t at
      (cut-checked is_instruction byte t at (get_or t at 0) (at + 1) (got-byte t at h) (no-instruction (get_or t at 0) l)))

  module _ (h : at < length t) (l : get_or t at 0 ≤ 45) (w v : ℕ) (ew : w ≡ first_width (get_or t at 0)) (ev : v ≡ second_width (get_or t at 0)) where
    opcode : Got (checked is_instruction byte) t at (get_or t at 0) (at + 1)
    opcode = got-checked is_instruction byte t at (get_or t at 0) (at + 1) (got-byte t at h) (is-instruction (get_or t at 0) (omega arith))

    operands : ℕ → Parser Instr
    operands op = field (first_width op) >>= λ a. field (second_width op) >>= λ b. give (instr op a b)

    known : ℕ → ℕ → Parser Instr
    known x y = field x >>= λ a. field y >>= λ b. give (instr (get_or t at 0) a b)

    known_is : operands (get_or t at 0) ≡ known w v
    unfolding operands known
    known_is = sym (ap₂ known ew ev)

    pub no-operands : length t - at - 1 < w + v → found_at t at ≡ None
    unfolding instruction operands known
    no-operands s = found-cut t at
        (skip-next (checked is_instruction byte) operands t at (get_or t at 0) (at + 1) opcode
        ∙ ap (λ (p : Parser Instr). skip_at p t (at + 1)) known_is
        ∙ ⊎_elim
        (λ (k : at + 1 + w ≤ length t).
        skip-next (field w) (λ a. field v >>= λ b. give (instr (get_or t at 0) a b)) t (at + 1) (number_at w t (at + 1)) (at + 1 + w) (got-field w t (at + 1) k)
        ∙ skip-cut (field v) _ t (at + 1 + w) (skip-field v t (at + 1 + w) k (omega arith)))
        (λ (k : length t < at + 1 + w). skip-cut (field w) _ t (at + 1) (skip-field w t (at + 1) (omega arith) k))
        (le-or-gt (at + 1 + w) (length t)))

    pub got-instruction : w + v ≤ length t - at - 1 → Got instruction t at (instr (get_or t at 0) (number_at w t (at + 1)) (number_at v t (at + 1 + w))) (at + 1 + w + v)
    unfolding instruction operands known
    got-instruction s = got-bind (checked is_instruction byte) operands t at (get_or t at 0) (at + 1) i (at + 1 + w + v) opcode
        (subst (λ (p : Parser Instr). Got p t (at + 1) i (at + 1 + w + v)) (sym known_is)
        (got-bind (field w) (λ a. field v >>= λ b. give (instr (get_or t at 0) a b)) t (at + 1) (number_at w t (at + 1)) (at + 1 + w) i (at + 1 + w + v) (got-field w t (at + 1) (omega arith))
        (got-bind (field v) (λ b. give (instr (get_or t at 0) (number_at w t (at + 1)) b)) t (at + 1 + w) (number_at v t (at + 1 + w)) (at + 1 + w + v) i (at + 1 + w + v) (got-field v t (at + 1 + w) (omega arith))
        (got-give i t (at + 1 + w + v) (omega arith)))))
      where
        i : Instr
        i = instr (get_or t at 0) (number_at w t (at + 1)) (number_at v t (at + 1 + w))

    pub yes-instruction : (op a b m : ℕ) → op ≡ get_or t at 0 → a ≡ number_at w t (at + 1) → b ≡ number_at v t (at + 1 + w) → m ≡ at + 1 + w + v →
        w + v ≤ length t - at - 1 → found_at t at ≡ found_as op a b m
    yes-instruction op a b m e f g k s = found-got t at _ (at + 1 + w + v) (got-instruction s) ∙ cc
