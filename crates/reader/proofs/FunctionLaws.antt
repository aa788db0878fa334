-- Functions that are read and tested, by position. Assumes nothing.
use Prim.Native.Nat.{ℕ, ◌+◌, ◌-◌, ◌<◌, ◌≤◌}
use mathlib.Core.Path.{◌≡◌, refl, sym, ap, ◌∙◌, subst}
use mathlib.Core.Bool.{Bool, true, false, ◌&&◌}
use mathlib.Core.List.{List, [], ◌∷◌}
use mathlib.Core.Logic.{◌⊎◌, inl, inr, ⊎_elim}
use native.Mathlib.Omega.{arith}
use borrow.Author.Tests.{ltb-true}
use lib.ListN.{length, drop}
use Rattle.definitions.specs.Bytes.{Parsed, ◌>>=◌, give, byte, field, counted, list_of, checked}
use Rattle.definitions.specs.Instruction.{Instr, instr, first_width, second_width, instruction_table, is_instruction}
use Rattle.definitions.specs.Reader.{instruction, function_record}
use Rattle.reader.specs.View.{skip_at, found_at, number_at}
use Rattle.reader.specs.Asks.{ask_op, ask_code, ask_head, ask_function}
use Rattle.reader.specs.declared.Asked.{Asked}
use Rattle.std.specs.Prelude.{Option, Some, None}
use Rattle.reader.proofs.Taken.{skip-cut, skip-field, got-field}
use Rattle.reader.proofs.InstructionLaws.{found_as, found-is, cut-found}
use Rattle.reader.proofs.Checked.{Sat, sat-bind, sat-any, sat-checked, counted-length, checked-next, checked-cut, checked-give, checked-same, checked-none, pass-next, pass-fail, pass-cut, pass-end, pass-count}
use Rattle.definitions.proofs.Begins.{le-or-gt}

-- an opcode that is read is one of the 46
instruction-few : (op : ℕ) → is_instruction op ≡ true → op ≤ 45
unfolding is_instruction instruction_table
instruction-few op e = let h = ltb-true op 46 e in omega arith

pub opcode-small : (bs : List ℕ) → Sat (λ (i : Instr). i.op ≤ 45) (instruction bs)
unfolding instruction give
opcode-small bs = sat-bind (λ op. is_instruction op ≡ true) (λ i. i.op ≤ 45) (checked is_instruction byte) _ bs (sat-checked is_instruction byte bs)
    (λ op rest e. sat-bind (λ a. Unit {0}) (λ i. i.op ≤ 45) (field (first_width op)) _ rest (sat-any (field (first_width op) rest))
    (λ a r u. sat-bind (λ b. Unit {0}) (λ i. i.op ≤ 45) (field (second_width op)) _ r (sat-any (field (second_width op) r)) (λ b s v. instruction-few op e)))

pub op-small : (t : List ℕ) (at op a b m : ℕ) → at ≤ length t → found_at t at ≡ found_as op a b m → op < 46
op-small t at op a b m h e =
    let k : op ≤ 45 = subst (λ (r : Parsed Instr). Sat (λ (i : Instr). i.op ≤ 45) r) (found-is t at op a b m h e).is (opcode-small (drop at t)) in omega arith

-- ---- code

module _ (t : List ℕ) (q : Asked) (n slots : ℕ) where
  -- the instructions from place k on, at p
  unfoldable pub code_from : ℕ → ℕ → Option ℕ
  code_from k p = skip_at (checked (ask_code q n slots k) (counted [] ◌∷◌ instruction (n - k))) t p

  pub code-all : (p : ℕ) → skip_at (checked (ask_code q n slots 0) (counted [] ◌∷◌ instruction n)) t p ≡ code_from 0 p
  unfolding code_from
  code-all p = ap (λ (j : ℕ). skip_at (checked (ask_code q n slots 0) (counted [] ◌∷◌ instruction j)) t p) (let z : n ≡ n - 0 = omega arith in z)

  module _ (k p : ℕ) (h : k < n) (l : p ≤ length t) where
    pub code-next : (op a b m : ℕ) → found_at t p ≡ found_as op a b m → ask_op q n slots k op a ≡ true → code_from k p ≡ code_from (k + 1) m
    unfolding code_from ask_code
    code-next op a b m e f =
        pass-next instruction t (ask_code q n slots k) (ask_code q n slots (k + 1)) (n - k) p (instr op a b) m (omega arith) (found-is t p op a b m l e)
        (λ is. ap (λ (x : Bool). x && ask_code q n slots (k + 1) is) f)
        ∙ ap (λ (j : ℕ). skip_at (checked (ask_code q n slots (k + 1)) (counted [] ◌∷◌ instruction j)) t m) (let z : n - k - 1 ≡ n - (k + 1) = omega arith in z)

    pub code-fail : (op a b m : ℕ) → found_at t p ≡ found_as op a b m → ask_op q n slots k op a ≡ false → code_from k p ≡ None
    unfolding code_from ask_code
    code-fail op a b m e f =
        pass-fail instruction t (ask_code q n slots k) (n - k) p (instr op a b) m (omega arith) (found-is t p op a b m l e)
        (λ is. ap (λ (x : Bool). x && ask_code q n slots (k + 1) is) f)

    pub code-cut : found_at t p ≡ None → code_from k p ≡ None
    unfolding code_from
    code-cut e = pass-cut instruction t (ask_code q n slots k) (n - k) p (omega arith) (cut-found t p e)

  pub code-end : (k p : ℕ) → n ≤ k → p ≤ length t → code_from k p ≡ Some p
  unfolding code_from ask_code
  code-end k p h l = pass-end instruction t (ask_code q n slots k) (n - k) p (omega arith) l refl

-- where the next instruction begins
pub found-next : (t : List ℕ) (at op a b m : ℕ) → at ≤ length t → found_at t at ≡ found_as op a b m → m ≤ length t
found-next t at op a b m h e = (found-is t at op a b m h e).to

or-le : (k n : ℕ) → (n < k) ⊎ (k ≤ n)
or-le k n = ⊎_elim (λ (h : k ≤ n). inr h) (λ (h : n < k). inl h) (le-or-gt k n)

-- ---- a function

module _ (t : List ℕ) (at : ℕ) (q : Asked) where
  pub short-function : at ≤ length t → length t - at < 9 → skip_at (checked (ask_function q) function_record) t at ≡ None
  unfolding function_record list_of
  short-function h l = ⊎_elim
      (λ (a : length t - at < 2). checked-cut (ask_function q) (field 2) _ t at (skip-field 2 t at h (omega arith)))
      (λ (a : 2 ≤ length t - at).
      checked-next (ask_function q) (field 2) _ t at (number_at 2 t at) (at + 2) (got-field 2 t at (omega arith))
      ∙ ⊎_elim
      (λ (b : length t - at < 3). checked-cut (ask_function q) (field 1) _ t (at + 2) (skip-field 1 t (at + 2) (omega arith) (omega arith)))
      (λ (b : 3 ≤ length t - at).
      checked-next (ask_function q) (field 1) _ t (at + 2) (number_at 1 t (at + 2)) (at + 2 + 1) (got-field 1 t (at + 2) (omega arith))
      ∙ ⊎_elim
      (λ (d : length t - at < 5). checked-cut (ask_function q) (field 2) _ t (at + 2 + 1) (skip-field 2 t (at + 2 + 1) (omega arith) (omega arith)))
      (λ (d : 5 ≤ length t - at).
      checked-next (ask_function q) (field 2) _ t (at + 2 + 1) (number_at 2 t (at + 2 + 1)) (at + 2 + 1 + 2) (got-field 2 t (at + 2 + 1) (omega arith))
      ∙ ⊎_elim
      (λ (f : length t - at < 7). checked-cut (ask_function q) (field 2) _ t (at + 2 + 1 + 2) (skip-field 2 t (at + 2 + 1 + 2) (omega arith) (omega arith)))
      (λ (f : 7 ≤ length t - at).
      checked-next (ask_function q) (field 2) _ t (at + 2 + 1 + 2) (number_at 2 t (at + 2 + 1 + 2)) (at + 2 + 1 + 2 + 2) (got-field 2 t (at + 2 + 1 + 2) (omega arith))
      ∙ checked-cut (ask_function q) (field 2 >>= λ j. counted [] ◌∷◌ instruction j) _ t (at + 2 + 1 + 2 + 2)
      (skip-cut (field 2) _ t (at + 2 + 1 + 2 + 2) (skip-field 2 t (at + 2 + 1 + 2 + 2) (omega arith) (omega arith))))
      (or-le 7 (length t - at)))
      (or-le 5 (length t - at)))
      (or-le 3 (length t - at)))
      (or-le 2 (length t - at))

  -- the code at z, its count at y, the slots at x
  code_as : ℕ → ℕ → ℕ → Option ℕ
  code_as x y z = skip_at (checked (λ is. ask_head q (number_at 2 t at) (number_at 2 t y) && ask_code q (number_at 2 t y) (number_at 2 t x) 0 is) (counted [] ◌∷◌ instruction (number_at 2 t y))) t z

  module _ (h : 9 ≤ length t - at) where
    function-code : skip_at (checked (ask_function q) function_record) t at
        ≡ code_as (at + 3) (at + 7) (at + 9)
    unfolding function_record ask_function code_as
    function-code =
        checked-next (ask_function q) (field 2) _ t at (number_at 2 t at) (at + 2) (got-field 2 t at (omega arith))
        ∙ checked-next (ask_function q) (field 1) _ t (at + 2) (number_at 1 t (at + 2)) (at + 2 + 1) (got-field 1 t (at + 2) (omega arith))
        ∙ checked-next (ask_function q) (field 2) _ t (at + 2 + 1) (number_at 2 t (at + 2 + 1)) (at + 2 + 1 + 2) (got-field 2 t (at + 2 + 1) (omega arith))
        ∙ checked-next (ask_function q) (field 2) _ t (at + 2 + 1 + 2) (number_at 2 t (at + 2 + 1 + 2)) (at + 2 + 1 + 2 + 2) (got-field 2 t (at + 2 + 1 + 2) (omega arith))
        ∙ checked-give (ask_function q) (list_of 2 instruction)
        (λ is. record { symbol = number_at 2 t at; arity = number_at 1 t (at + 2); locals = number_at 2 t (at + 2 + 1); height = number_at 2 t (at + 2 + 1 + 2); code = is }) t (at + 2 + 1 + 2 + 2)
        ∙ pass-count instruction t _ (at + 2 + 1 + 2 + 2) (omega arith)
        ∙ checked-same (λ is. length is ≡ number_at 2 t (at + 2 + 1 + 2 + 2)) _
        (λ is. ask_head q (number_at 2 t at) (number_at 2 t (at + 2 + 1 + 2 + 2)) && ask_code q (number_at 2 t (at + 2 + 1 + 2 + 2)) (number_at 2 t (at + 2 + 1)) 0 is)
        (counted [] ◌∷◌ instruction (number_at 2 t (at + 2 + 1 + 2 + 2))) t (at + 2 + 1 + 2 + 2 + 2)
        (counted-length instruction (number_at 2 t (at + 2 + 1 + 2 + 2)) (drop (at + 2 + 1 + 2 + 2 + 2) t))
        (λ is e. ap (λ (j : ℕ). ask_head q (number_at 2 t at) j && ask_code q j (number_at 2 t (at + 2 + 1)) 0 is) e)
        ∙ ap (λ (x : ℕ). code_as x (at + 2 + 1 + 2 + 2) (at + 2 + 1 + 2 + 2 + 2)) (let z : at + 2 + 1 ≡ at + 3 = omega arith in z)
        ∙ ap (λ (x : ℕ). code_as (at + 3) x (at + 2 + 1 + 2 + 2 + 2)) (let z : at + 2 + 1 + 2 + 2 ≡ at + 7 = omega arith in z)
        ∙ ap (λ (x : ℕ). code_as (at + 3) (at + 7) x) (let z : at + 2 + 1 + 2 + 2 + 2 ≡ at + 9 = omega arith in z)

    module _ (k l n : ℕ) (ek : k ≡ number_at 2 t at) (el : l ≡ number_at 2 t (at + 3)) (en : n ≡ number_at 2 t (at + 7)) where
      to-code : code_as (at + 3) (at + 7) (at + 9) ≡ skip_at (checked (λ is. ask_head q k n && ask_code q n l 0 is) (counted [] ◌∷◌ instruction n)) t (at + 9)
      unfolding code_as
      to-code = sym (ap (λ (x : ℕ). skip_at (checked (λ is. ask_head q x n && ask_code q n l 0 is) (counted [] ◌∷◌ instruction n)) t (at + 9)) ek
          ∙ ap (λ (x : ℕ). skip_at (checked (λ is. ask_head q (number_at 2 t at) n && ask_code q n x 0 is) (counted [] ◌∷◌ instruction n)) t (at + 9)) el
          ∙ ap (λ (x : ℕ). skip_at (checked (λ is. ask_head q (number_at 2 t at) x && ask_code q x (number_at 2 t (at + 3)) 0 is) (counted [] ◌∷◌ instruction x)) t (at + 9)) en)

      pub function-head : ask_head q k n ≡ true →
          skip_at (checked (ask_function q) function_record) t at ≡ skip_at (checked (ask_code q n l 0) (counted [] ◌∷◌ instruction n)) t (at + 9)
      function-head e = function-code ∙ to-code
          ∙ checked-same (λ is. Unit {0}) _ (ask_code q n l 0) (counted [] ◌∷◌ instruction n) t (at + 9) (sat-any (counted [] ◌∷◌ instruction n (drop (at + 9) t)))
          (λ is u. ap (λ (b : Bool). b && ask_code q n l 0 is) e)

      pub function-fails : ask_head q k n ≡ false → skip_at (checked (ask_function q) function_record) t at ≡ None
      function-fails e = function-code ∙ to-code
          ∙ checked-none (λ is. Unit {0}) _ (counted [] ◌∷◌ instruction n) t (at + 9) (sat-any (counted [] ◌∷◌ instruction n (drop (at + 9) t)))
          (λ is u. ap (λ (b : Bool). b && ask_code q n l 0 is) e)
