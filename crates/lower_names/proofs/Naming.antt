-- Instructions that name a symbol or a string, by the laws of the state.
use Prim.Native.Nat.{ℕ, ◌+◌, ◌≤◌, ◌<◌}
use mathlib.Core.Path.{◌≡◌, refl, sym, ap, subst, ◌∙◌}
use mathlib.Core.Bool.{Bool, false, ◌&&◌, ◌||◌}
use mathlib.Core.Option as definitions
use mathlib.Core.Option.{none, some}
use mathlib.Core.List.{List, ◌∷◌, map}
use native.Mathlib.Omega.{arith}
use lib.Dec.{leb}
use lib.ListN.{length, drop, get_or, drop_of_length-le}
use lib.Seq.{drop-cons}
use native.Mathlib.Numerals.{add-one}
use borrow.Author.Tests.{ne_eqb, lt-leb}
use Rattle.std.specs.Prelude.{Option, Some, None}
use Rattle.std.proofs.lemmas.Option.{none-some}
use Rattle.definitions.specs.Bytes.{Name, Text, same, position}
use Rattle.definitions.specs.Instruction.{Instr, instr}
use Rattle.definitions.specs.Tables.{Emit, one, intern, get_or_add_string}
use Rattle.definitions.specs.Lower.{load, store, loads}
use Rattle.definitions.specs.Reader.{is_jump}
use Rattle.definitions.proofs.Rows.{jump-is}
use Rattle.state.specs.Words.{name_at, small_int}
use Rattle.state.specs.State.{names_at, State, emit_at, WithinLimits, symbol_number, string_number}
use Rattle.state.proofs.Emission.{at-intern, at-string}
use Rattle.state.proofs.Enclosing.{at-loads-none, at-loads-more}
use Rattle.state.proofs.Within.{within-one}
use Rattle.lower_emit.specs.Ops.{special, Plain}
use Rattle.lower_emit.specs.declared.emitter.Emitter.{Emitter}
use Rattle.lower_emit.specs.Emitting.{limits_in, state_in, NumbersIn, LowersIn}
use Rattle.lower_emit.proofs.Steps.{reaches_as, reaches-after}
use Rattle.lower_names.specs.Naming.{symbol_named, quoted}
use Rattle.lower_names.specs.Variable.{variable_by, variable_among}

-- an instruction with a number, put after the step that gave the number; x is the code of both
module _ {tree : List ℕ} {a m : Emitter} {i : Option ℕ} {number : ℕ} {mid : State} {x : Emit} (f : ℕ → Instr) (h : NumbersIn i number tree a m mid)
    (at : emit_at a.code.base x (state_in tree a) ≡ emit_at a.code.base (one (f number)) mid) where
  put-numbered : {A : Type 0} {n : ℕ} {r : Option A} {b : Emitter} → i ≡ Some n → LowersIn r (one (f n)) tree m b → LowersIn r x tree a b
  put-numbered {n = n} z p =
      let k = (h.reaches.done n z).left in
      record { reaches = reaches_as ((λ j. emit_at (k.base j) (one (f (h.is n z j))) (k.state j)) ∙ sym at) (reaches-after z h.reaches p.reaches) }

  -- no room for the number, so none for the instruction with it
  over-numbered : {B : Type 0} {q : Option B} → i ≡ None → q ≡ None → LowersIn q x tree a m
  over-numbered z n = record {
    reaches = record {
      done = λ y e. absurd (none-some y (sym n ∙ e));
      full = λ e w. h.reaches.full z (within-one a.code.base (f number) mid (subst (WithinLimits (limits_in a)) at w));
      limits = h.reaches.limits;
      areas = h.reaches.areas;
    };
  }

module _ {tree : List ℕ} {a m : Emitter} {i : Option ℕ} (f : ℕ → Instr) (x : Name) where
  module _ (h : NumbersIn i (symbol_number x (state_in tree a).tables) tree a m (symbol_named x (state_in tree a))) where
    pub symbol-put : {A : Type 0} {n : ℕ} {r : Option A} {b : Emitter} → i ≡ Some n → LowersIn r (one (f n)) tree m b → LowersIn r (intern x (λ k. one (f k))) tree a b
    symbol-put z p = put-numbered f h (at-intern a.code.base x (λ k. one (f k)) (state_in tree a)) z p

    pub symbol-over : {B : Type 0} {q : Option B} → i ≡ None → q ≡ None → LowersIn q (intern x (λ k. one (f k))) tree a m
    symbol-over z n = over-numbered f h (at-intern a.code.base x (λ k. one (f k)) (state_in tree a)) z n

module _ {tree : List ℕ} {a m : Emitter} {i : Option ℕ} (f : ℕ → Instr) (x : Text) where
  module _ (h : NumbersIn i (string_number x (state_in tree a).tables) tree a m (quoted x (state_in tree a))) where
    pub string-put : {A : Type 0} {n : ℕ} {r : Option A} {b : Emitter} → i ≡ Some n → LowersIn r (one (f n)) tree m b → LowersIn r (get_or_add_string x (λ k. one (f k))) tree a b
    string-put z p = put-numbered f h (at-string a.code.base x (λ k. one (f k)) (state_in tree a)) z p

    pub string-over : {B : Type 0} {q : Option B} → i ≡ None → q ≡ None → LowersIn q (get_or_add_string x (λ k. one (f k))) tree a m
    string-over z n = over-numbered f h (at-string a.code.base x (λ k. one (f k)) (state_in tree a)) z n

-- ---- a variable

pub plain-with : (op a b : ℕ) → a < 65536 → Plain op 0 b → Plain op a b
plain-with op a b h p = record { op-byte = p.op-byte; op-plain = p.op-plain; first_short = h; second-byte = p.second-byte }

low-plain : (op : ℕ) → 9 ≤ op → op ≤ 12 → special op ≡ false
unfolding special
low-plain op h g =
    let a = ne_eqb op 0 (λ e. omega arith) in
    let b = ne_eqb op 1 (λ e. omega arith) in
    let c : is_jump op ≡ false = jump-is op ∙ ap (λ (x : Bool). x && leb op 30) (lt-leb 28 op (omega arith)) in
    let d = ne_eqb op small_int (λ e. omega arith) in
    λ j. a j || b j || c j || d j

-- loads and stores
pub plain_op : (op a : ℕ) → 9 ≤ op → op ≤ 12 → a < 65536 → Plain op a 0
plain_op op a h g k = record { op-byte = omega arith; op-plain = low-plain op h g; first_short = k; second-byte = omega arith }

module _ (op base : ℕ) (slots : List Name) (x : Name) (s : State) where
  pub at_slot : (i : ℕ) → some i ≡ position (same x) slots → emit_at base (one (instr op i 0)) s ≡ emit_at base (variable_among op slots x) s
  unfolding variable_among variable_by
  at_slot i e = ap (λ (o : definitions.Option ℕ). emit_at base (variable_by op x o) s) e

  pub at-global : none ≡ position (same x) slots → emit_at base (intern x (λ k. one (instr (op + 2) k 0))) s ≡ emit_at base (variable_among op slots x) s
  unfolding variable_among variable_by
  at-global e = ap (λ (o : definitions.Option ℕ). emit_at base (variable_by op x o) s) e

-- a load and a store are such
pub at_load : (base : ℕ) (slots : List Name) (x : Name) (s : State) → emit_at base (variable_among 9 slots x) s ≡ emit_at base (load slots x) s
unfolding variable_among variable_by load
at_load base slots x s = go (position (same x) slots)
  where
    go : (o : definitions.Option ℕ) → emit_at base (variable_by 9 x o) s ≡ emit_at base (elim o as (λ z. Emit) [ some i ↦ one (instr 9 i 0) | none ↦ intern x (λ k. one (instr 11 k 0)) ]) s
    go none = refl
    go (some i) = refl

pub at_store : (base : ℕ) (slots : List Name) (x : Name) (s : State) → emit_at base (variable_among 10 slots x) s ≡ emit_at base (store slots x) s
unfolding variable_among variable_by store
at_store base slots x s = go (position (same x) slots)
  where
    go : (o : definitions.Option ℕ) → emit_at base (variable_by 10 x o) s ≡ emit_at base (elim o as (λ z. Emit) [ some i ↦ one (instr 10 i 0) | none ↦ intern x (λ k. one (instr 12 k 0)) ]) s
    go none = refl
    go (some i) = refl

-- ---- variables at places, one after the other

module _ (base : ℕ) (slots : List Name) (tree places : List ℕ) (s : State) where
  pub loads-more : (i : ℕ) → i < length places → base ≤ length s.stack
      → emit_at base (loads slots (names_at tree (drop i places))) s
      ≡ emit_at base (loads slots (names_at tree (drop (i + 1) places))) (emit_at base (load slots (name_at tree (get_or places i 0))) s)
  unfolding names_at
  loads-more i h b =
      ap (λ (ps : List ℕ). emit_at base (loads slots (map (name_at tree) ps)) s) (drop-cons places i 0 h ∙ ap (λ (k : ℕ). get_or places i 0 ∷ drop k places) (sym (add-one i)))
      ∙ at-loads-more base slots (name_at tree (get_or places i 0)) (map (name_at tree) (drop (i + 1) places)) s b

  pub loads-end : (i : ℕ) → length places ≤ i → emit_at base (loads slots (names_at tree (drop i places))) s ≡ s
  unfolding names_at
  loads-end i h = ap (λ (ps : List ℕ). emit_at base (loads slots (map (name_at tree) ps)) s) (drop_of_length-le places h) ∙ at-loads-none base slots s
