-- Assignments by the laws of the state: elements of a tuple target, constants, and values after an object.
use Prim.Native.Nat.{ℕ, ◌+◌, ◌-◌, ◌<◌, ◌≤◌}
use mathlib.Core.Path.{◌≡◌, refl, sym, ap, ◌∙◌}
use mathlib.Core.List.{List, []}
use native.Mathlib.Omega.{arith}
use lib.ListN.{length, get_or}
use Rattle.std.specs.Prelude.{Option, Some}
use Rattle.definitions.specs.Bytes.{Name}
use Rattle.definitions.specs.Instruction.{instr, ConstI64, LoadIndex, StoreAttr, StoreIndex}
use Rattle.definitions.specs.Tables.{Emit, emits, one, intern, ◌⨟◌}
use Rattle.definitions.specs.Lower.{copy, emit_target, unpack}
use Rattle.tree_view.specs.Places.{name_end}
use Rattle.tree_view.specs.ExprAt.{expr_at, ExprReads}
use Rattle.state.specs.Words.{name_at, word}
use Rattle.state.specs.State.{State, emit_at}
use Rattle.state.proofs.Answers.{base-below}
use Rattle.state.proofs.Emission.{at-nothing, at-seq}
use Rattle.lower_forms.specs.Lowerable.{Lowerable, expr_code}
use Rattle.lower_forms.specs.Elements.{elements_at, elements_end}
use Rattle.lower_forms.proofs.Constants.{arm-constant}
use Rattle.lower_forms.proofs.ExprArms.{lowerable-at}
use Rattle.lower_forms.proofs.Unpacking.{later_first, none-unpacked, one-unpacked, element-is, target-nothing}
use Rattle.lower_emit.specs.declared.emitter.Emitter.{Emitter}
use Rattle.lower_emit.specs.Emitting.{counts_of, limits_in, state_in, SoundIn, LowersIn, EmitsTo, Puts}
use Rattle.lower_emit.proofs.Packing.{instr-plain, plain-below}
use Rattle.lower_emit.proofs.Steps.{put-lifts, lowers-by}
use Rattle.lower_emit.proofs.Parts.{emits_then}
use Rattle.lower_calls.proofs.Words.{emits_at}

module _ {t : List ℕ} {a : Emitter} (S : SoundIn t a) (d : ℕ) (names : List Name) where
  abbrev b : ℕ
  b = a.code.base

  abbrev s : State
  s = state_in t a

  low : b ≤ length s.stack
  low = base-below t a.tables.names.made.now a.code.words.now a.tables.entries.words.now (counts_of a) (limits_in a) S.sound

  pub none-state : (n p i : ℕ) → n ≡ 0 → emit_at b (unpack names (elements_at d t n p) i) s ≡ emit_at b (emits []) s
  none-state n p i e = none-unpacked d t names n p i b s e ∙ sym (at-nothing b s)

  pub one_state : (n p i : ℕ) → n ≡ 1 → emit_at b (unpack names (elements_at d t n p) i) s ≡ emit_at b ((copy i ⨟ one (ConstI64 i) ⨟ one LoadIndex) ⨟ emit_target names (expr_at d t p).value) s
  one_state n p i e =
      ap (λ (f : Emit). emit_at b f s) (sym (one-unpacked d t names n p i e)) ∙ sym (element-is names (expr_at d t p).value i b s low)
      ∙ sym (at-seq b (copy i ⨟ one (ConstI64 i) ⨟ one LoadIndex) (emit_target names (expr_at d t p).value) s low)

  pub halves-state : (n a p q i : ℕ) → a ≤ n → q ≡ elements_end d t a p
      → emit_at b (unpack names (elements_at d t n p) i) s ≡ emit_at b (unpack names (elements_at d t (n - a) q) (i + a) ⨟ unpack names (elements_at d t a p) i) s
  halves-state n a p q i h e =
      later_first d t names b s low n a p i h ∙ sym (at-seq b (unpack names (elements_at d t (n - a) (elements_end d t a p)) (i + a)) (unpack names (elements_at d t a p) i) s low)
      ∙ ap (λ (x : ℕ). emit_at b (unpack names (elements_at d t (n - a) x) (i + a) ⨟ unpack names (elements_at d t a p) i) s) (sym e)

  pub target-state : (p : ℕ) → ExprReads d t p → (get_or t p 0 ≡ 6 → ⊥) → (get_or t p 0 ≡ 13 → ⊥) → emit_at b (emit_target names (expr_at d t p).value) s ≡ emit_at b (emits []) s
  target-state p r f g = target-nothing d t names p r b s f g ∙ sym (at-nothing b s)

-- the answer for the expression at p, with the position by other words
pub expr-by : {t : List ℕ} {p q : ℕ} {r : Option ℕ} {a b : Emitter} (d : ℕ) (names : List Name) → p ≡ q → EmitsTo r (expr_code d t names p) (expr_at d t p).end t a b → EmitsTo r (expr_code d t names q) (expr_at d t q).end t a b
expr-by {t} d names e h = emits_at (λ x. expr_code d t names x) (λ x. (expr_at d t x).end) e h

-- ---- None, False or True at p, by its kind byte k: its word, and where it ends, with the position by other words

module _ {t : List ℕ} {p q k op : ℕ} (d : ℕ) (v : Lowerable d t p) (e : q ≡ p) (byte : k ≡ get_or t q 0) (c : (k < 3) × (op ≡ 5 - k)) where
  small : get_or t q 0 < 3
  small = omega (arith, c.0, byte)

  by-byte : op ≡ 5 - get_or t q 0
  by-byte = omega (arith, c.1, byte)

  pub constant-lowers : {A : Type 0} {u : Option A} {a b : Emitter} (names : List Name) → SoundIn t a → b.tables ≡ a.tables → Puts u (word op 0 0) a.code b.code → LowersIn u (expr_code d t names p) t a b
  constant-lowers names S same g =
      let code = (arm-constant d t q (lowerable-at d t p q e v) (get_or t q 0) refl small).code names in
      lowers-by
      (put-lifts S same (instr-plain t op 0 0 (plain-below op 0 0 (omega (arith, c)) (omega (arith, c)) (omega arith) (omega arith))) g)
      (ap (expr_code d t names) (sym e) ∙ code ∙ ap (λ (i : ℕ). one (instr i 0 0)) (sym by-byte))

  pub constant-end : q + 1 ≡ (expr_at d t p).end
  constant-end = sym (arm-constant d t q (lowerable-at d t p q e v) (get_or t q 0) refl small).end ∙ ap (λ (x : ℕ). (expr_at d t x).end) e

-- ---- what follows an object that ends at x

abbrev pub attribute_rest : ℕ → List ℕ → List Name → ℕ → Emit
attribute_rest d t names x = expr_code d t names (name_end t x) ⨟ intern (name_at t x) (λ k. one (StoreAttr k))

abbrev pub index_rest : ℕ → List ℕ → List Name → ℕ → Emit
index_rest d t names x = expr_code (d - 1) t names x ⨟ expr_code d t names (expr_at (d - 1) t x).end ⨟ one StoreIndex

module _ {r q : Option ℕ} {n m : ℕ} {t : List ℕ} {a b c : Emitter} {e : Emit} (d : ℕ) (names : List Name) (z : r ≡ Some n) (S : SoundIn t a) (h : EmitsTo r e m t a b) where
  pub attribute_then : EmitsTo q (attribute_rest d t names n) (expr_at d t (name_end t n)).end t b c → EmitsTo q (e ⨟ attribute_rest d t names m) (expr_at d t (name_end t m)).end t a c
  attribute_then g = emits_then (λ x. attribute_rest d t names x) (λ x. (expr_at d t (name_end t x)).end) z S h g

  pub index_then : EmitsTo q (index_rest d t names n) (expr_at d t (expr_at (d - 1) t n).end).end t b c → EmitsTo q (e ⨟ index_rest d t names m) (expr_at d t (expr_at (d - 1) t m).end).end t a c
  index_then g = emits_then (λ x. index_rest d t names x) (λ x. (expr_at d t (expr_at (d - 1) t x).end).end) z S h g
