-- `and` and `or`, written by the measure of their right side.
use Prim.Native.Nat.{ℕ, suc, ◌+◌, ◌-◌, ◌≤◌, ◌<◌}
use mathlib.Core.Path.{◌≡◌, refl, sym, ap, ◌∙◌}
use mathlib.Core.Bool.{Bool, true, false}
use mathlib.Core.List.{List, [], ◌∷◌, ◌++◌}
use native.Mathlib.Omega.{arith}
use native.Mathlib.Numerals.{add-one}
use lib.Dec.{eqb}
use lib.ListN.{length, length-append}
use borrow.Author.Tests.{eqb-true, eqb-false}
use Rattle.std.specs.Prelude.{Option, Some, None}
use Rattle.definitions.specs.Bytes.{Name}
use Rattle.definitions.specs.Instruction.{instr, Jump, ConstBool}
use Rattle.definitions.specs.Tables.{Emit, emits, one, ◌⨟◌}
use Rattle.definitions.specs.Lower.{jump_on, shortcut}
use Rattle.definitions.specs.Measured.{so_far, measure_expr}
use Rattle.definitions.proofs.Measured.{measures}
use Rattle.tree_view.specs.ExprAt.{expr_at}
use Rattle.state.specs.Words.{word}
use Rattle.state.specs.State.{State, emit_at}
use Rattle.definitions.proofs.Growth.{lengthens-one, lengthens-emits, lengthens-expr, lengthens-shortcut}
use Rattle.lower_forms.specs.Lowerable.{of_names, Lowerable, expr_code}
use Rattle.lower_emit.specs.declared.emitter.Code.{Code}
use Rattle.lower_emit.specs.declared.emitter.Emitter.{Emitter}
use Rattle.lower_emit.specs.Emitting.{state_in, SoundIn, beside, LowersIn, EmitsTo, Puts, PutsOver}
use Rattle.lower_emit.proofs.Over.{code_in, over-put, over-none}
use Rattle.lower_emit.proofs.Packing.{instr-jump, instr-plain, plain-below}
use Rattle.lower_emit.proofs.Parts.{emits-words, emits-no-words, emits-stopped, words_then, emits-state}
use Rattle.lower_emit.proofs.Spelled.{names-in}
use Rattle.lower_emit.proofs.Steps.{put-lifts, sound-next, lowers_then, lowers-stopped, lowers-by}

-- ---- the instructions by the opcode of the jump

jump-is : (op n : ℕ) → 29 ≤ op → op ≤ 30 → jump_on (eqb op 30) (suc n) ≡ instr op (n + 1) 0
unfolding jump_on
jump-is op n lo hi = go (eqb op 30) refl
  where
    go : (b : Bool) → eqb op 30 ≡ b → jump_on b (suc n) ≡ instr op (n + 1) 0
    go true e = let z = eqb-true op 30 e in λ i. instr (sym z i) (sym (add-one n) i) 0
    go false e = let f = eqb-false op 30 e in let z : 29 ≡ op = omega arith in λ i. instr (z i) (sym (add-one n) i) 0

constant-is : (op : ℕ) → 29 ≤ op → op ≤ 30 → ConstBool (eqb op 30) ≡ instr (33 - op) 0 0
constant-is op lo hi = go (eqb op 30) refl
  where
    go : (b : Bool) → eqb op 30 ≡ b → ConstBool b ≡ instr (33 - op) 0 0
    go true e = let z = eqb-true op 30 e in let f : 3 ≡ 33 - op = omega arith in ap (λ (k : ℕ). instr k 0 0) f
    go false e = let z = eqb-false op 30 e in let f : 4 ≡ 33 - op = omega arith in ap (λ (k : ℕ). instr k 0 0) f

-- a jump over the constant, and the constant
abbrev end_words : Bool → Emit
end_words b = emits (Jump 1 ∷ ConstBool b ∷ [])

two-words : (b : Bool) → end_words b ≡ one (Jump 1) ⨟ one (ConstBool b)
unfolding ◌⨟◌ emits
two-words b = refl

module _ {d : ℕ} {t : List ℕ} {p op n : ℕ} {a : Emitter} (names : List Name) (S : SoundIn t a) (L : Lowerable d t p) (lo : 29 ≤ op) (hi : op ≤ 30)
    (size : n ≡ measure_expr names (so_far (state_in t a).tables) (expr_at d t p).value) where
  abbrev right : Emit
  right = expr_code d t names p

  -- the jump over it, the right side, and the jump over the constant
  abbrev short : Emit
  short = one (jump_on (eqb op 30) (suc n)) ⨟ right ⨟ end_words (eqb op 30)

  -- where the right side is about to be written
  abbrev place : ℕ
  place = length (state_in t a).stack - a.code.base

  measured : length (right (suc place) (state_in t a).tables).code ≡ n
  measured = measures.expression names (expr_at d t p).value (L.asks 7 of_names) (suc place) (state_in t a).tables (names-in S) ∙ sym size

  written : emit_at a.code.base (shortcut (eqb op 30) right) (state_in t a) ≡ emit_at a.code.base short (state_in t a)
  unfolding emit_at shortcut ◌⨟◌ emits
  written =
      let s = state_in t a in
      let around : ℕ → ℕ → State = λ m q. record {
        stack = s.stack ++ (jump_on (eqb op 30) (suc m) ∷ ((right q s.tables).code ++ (Jump 1 ∷ ConstBool (eqb op 30) ∷ [])));
        tables = (right q s.tables).tables;
      } in
      ap (λ (m : ℕ). around m (suc place)) measured ∙ ap (around n) (sym (add-one place))

  long : n < code_in t a (shortcut (eqb op 30) right)
  unfolding shortcut
  long = omega (arith, measured, length-append (right (suc place) (state_in t a).tables).code (Jump 1 ∷ ConstBool (eqb op 30) ∷ []))

  by-measure : {r : Option ℕ} {next : ℕ} {b : Emitter} → EmitsTo r short next t a b → EmitsTo r (shortcut (eqb op 30) right) next t a b
  by-measure h = emits-state h written refl

  module _ {A : Type 0} {u : Option A} {c : Code} (g : PutsOver u op n a.code c) where
    pub shortcut-none : {q : Option ℕ} {next : ℕ} → u ≡ None → q ≡ None → EmitsTo q (shortcut (eqb op 30) right) next t a (beside c a.tables)
    shortcut-none z y = over-none S g (lengthens-shortcut (eqb op 30) (lengthens-expr names (expr_at d t p).value)) long z y

    module _ {x : A} (z : u ≡ Some x) where
      jump : LowersIn u (one (jump_on (eqb op 30) (suc n))) t a (beside c a.tables)
      jump = lowers-by (over-put S g lo hi z) (ap one (jump-is op n lo hi))

      pub sound-over : SoundIn t (beside c a.tables)
      sound-over = sound-next z jump.reaches

      module _ {r : Option ℕ} {next : ℕ} {b : Emitter} (h : EmitsTo r right next t (beside c a.tables) b) where
        pub shortcut-stopped : {q : Option ℕ} → r ≡ None → q ≡ None → EmitsTo q (shortcut (eqb op 30) right) next t a b
        shortcut-stopped y w = by-measure (words_then z S jump (emits-stopped y w sound-over (lengthens-emits _) h))

        module _ {m : ℕ} (y : r ≡ Some m) {B : Type 0} {v : Option B} {f : Code} (k : Puts v (word 28 1 0) b.code f) where
          sound : SoundIn t b
          sound = sound-next y h.lowers.reaches

          first : LowersIn v (one (Jump 1)) t b (beside f b.tables)
          first = put-lifts sound refl (instr-jump t 28 1 (omega arith) (omega arith) (omega arith)) k

          pub shortcut-long : {q : Option ℕ} → v ≡ None → q ≡ None → EmitsTo q (shortcut (eqb op 30) right) next t a (beside f b.tables)
          shortcut-long {q} w e =
              by-measure (words_then z S jump (emits-no-words y w e sound-over h (lowers-by (lowers-stopped w w sound (lengthens-one (ConstBool (eqb op 30))) first) (two-words (eqb op 30)))))

          module _ {o : B} (w : v ≡ Some o) {C : Type 0} {s : Option C} {j : Code} (l : Puts s (word (33 - op) 0 0) f j) where
            second : LowersIn s (end_words (eqb op 30)) t b (beside j b.tables)
            second =
                let is = instr-plain t (33 - op) 0 0 (plain-below (33 - op) 0 0 (omega arith) (omega arith) (omega arith) (omega arith)) in
                lowers-by (lowers_then w sound first (lowers-by (put-lifts (sound-next w first.reaches) refl is l) (ap one (constant-is op lo hi)))) (two-words (eqb op 30))

            pub shortcut-over : {q : Option ℕ} → s ≡ None → q ≡ None → EmitsTo q (shortcut (eqb op 30) right) next t a (beside j b.tables)
            shortcut-over e i = by-measure (words_then z S jump (emits-no-words y e i sound-over h second))

            pub shortcut-ends : {i : C} → s ≡ Some i → EmitsTo (Some m) (shortcut (eqb op 30) right) next t a (beside j b.tables)
            shortcut-ends e = by-measure (words_then z S jump (emits-words y e sound-over h second))
