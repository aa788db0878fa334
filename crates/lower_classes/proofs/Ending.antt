-- The object of a class; a class that has its methods, its symbol, and then its object.
use Prim.Native.Nat.{ℕ, ◌+◌, ◌≤◌, ◌<◌}
use mathlib.Core.Path.{◌≡◌, refl, sym, ap, subst, ◌∙◌}
use mathlib.Core.List.{List, map}
use native.Mathlib.Omega.{arith}
use lib.ListN.{length, set}
use Rattle.std.specs.Prelude.{Option, Some, None}
use Rattle.std.proofs.lemmas.Option.{none-some}
use Rattle.definitions.specs.Bytes.{Name}
use Rattle.definitions.specs.Instruction.{instr, LoadConst}
use Rattle.definitions.specs.Tables.{Method, one, with_classes, add_constant}
use Rattle.definitions.specs.Lower.{class_object, end_class}
use Rattle.names.proofs.Spelling.{spelled-tree}
use Rattle.state.specs.Words.{name_at, word}
use Rattle.state.specs.State.{State, emit_at, method_from, Sound, WithinLimits, Left, symbol_number, with_symbol, with_tables}
use Rattle.state.specs.declared.Counts.{Counts}
use Rattle.state.specs.declared.Limits.{Limits}
use Rattle.state.proofs.Views.{constant-count}
use Rattle.state.proofs.Enclosing.{at-end_class, at-class_object}
use Rattle.state.proofs.Within.{within-down, within-end_class, within-class_object}
use Rattle.definitions.proofs.Growth.{lengthens-class_object}
use Rattle.lower_emit.specs.Nesting.{with_methods, with_constants}
use Rattle.lower_emit.specs.declared.emitter.Code.{Code}
use Rattle.lower_emit.specs.declared.emitter.Names.{Names}
use Rattle.lower_emit.specs.declared.emitter.Entries.{Entries}
use Rattle.lower_emit.specs.declared.emitter.Tables.{Tables}
use Rattle.lower_emit.specs.declared.emitter.Emitter.{Emitter}
use Rattle.lower_emit.specs.Emitting.{counts_of, limits_in, state_in, SoundIn, beside, new_names, SameAreas, Reaches, LowersIn, NumbersIn, Puts}
use Rattle.lower_emit.proofs.Packing.{instr-plain, plain-below}
use Rattle.lower_emit.proofs.Steps.{put-lifts, sound-next, reaches-after, areas-after}
use Rattle.lower_names.specs.Naming.{Interns, symbol_named}
use Rattle.lower_names.proofs.Symbols.{interned}
use Rattle.lower_classes.specs.Ending.{FinishesIn}
use Rattle.lower_classes.specs.Classes.{CountedIn, ListsClass, AddsConstant, StoresClass, FinishesClass}

-- sound slices after a step that is counted
pub counted-sound : {k : Counts} {t : List ℕ} {a b : Emitter} {want : State} → CountedIn k t a b want → SoundIn t b
counted-sound {k} {t} {a} {b} C = record {
  sound = subst (λ (l : Limits). Sound t b.tables.names.made.now b.code.words.now b.tables.entries.words.now (counts_of b) l) (sym C.limits) C.counted.sound;
}

-- a step to the wanted state, after one that changes counts
finishes-by : {A : Type 0} {r : Option A} (n : ℕ) {t : List ℕ} {a m b : Emitter} {want want' : State} → m.code.base ≡ a.code.base
    → m.tables.methods + a.tables.functions.count ≤ a.tables.methods + n + m.tables.functions.count → m.tables.constants + a.tables.classes.count ≤ a.tables.constants + 1 + m.tables.classes.count
    → limits_in m ≡ limits_in a → SameAreas a m → want ≡ want' → Reaches r t m b want → FinishesIn r n t a b want'
finishes-by n {t} {a} {m} {b} e x y l areas q h = record {
  done = λ v z.
      let A = (h.done v z).left in
      record {
        finished = record {
          state = A.state ∙ q;
          base = A.base ∙ e;
          methods = omega (arith, A.paced.methods);
          constants = omega (arith, A.paced.constants);
          sound = subst (λ (k : Limits). Sound t b.tables.names.made.now b.code.words.now b.tables.entries.words.now (counts_of b) k) l A.sound;
        };
      };
  full = λ z w. h.full z (subst (λ (k : Type 0). k) (λ i. WithinLimits (sym l i) (sym q i)) w);
  limits = h.limits ∙ l;
  areas = areas-after areas h.areas;
}

-- ---- the class's object: a constant, the two instructions

module _ {t : List ℕ} {a : Emitter} {ts : Tables} {c i : ℕ} (symbol : ℕ) (S : SoundIn t a) (few : a.tables.constants < 64) (more : a.tables.constants < a.tables.classes.count) (A : AddsConstant c i a.tables ts) where
  abbrev m : Emitter
  m = beside a.code ts

  abbrev added : State
  added = with_tables (add_constant i (state_in t a).tables) (state_in t a)

  counted : CountedIn (with_constants (a.tables.constants + 1) (counts_of a)) t a m added
  counted = A.counted t a.code S more

  loaded-is : emit_at a.code.base (one (instr 6 c 0)) (state_in t m) ≡ emit_at a.code.base (one (LoadConst (length (state_in t a).tables.constants))) added
  loaded-is =
      let n = constant-count t a.tables.names.made.now a.code.words.now a.tables.entries.words.now (counts_of a) (limits_in a) S.sound in
      λ j. emit_at a.code.base (one (instr 6 ((A.number ∙ sym n) j) 0)) (counted.counted.state j)

  module _ {B : Type 0} {r : Option B} {d : Code} (g : Puts r (word 6 c 0) a.code d) where
    loaded : LowersIn r (one (instr 6 c 0)) t m (beside d ts)
    loaded = put-lifts (counted-sound counted) refl (instr-plain t 6 c 0 (plain-below 6 c 0 (omega arith) (omega arith) (omega (arith, A.number)) (omega arith))) g

    pub object-full : {C : Type 0} {q : Option C} → r ≡ None → q ≡ None → FinishesIn q 0 t a (beside d ts) (emit_at a.code.base (class_object i symbol) (state_in t a))
    object-full z n = record {
      done = λ v e. absurd (none-some v (sym n ∙ e));
      full = λ e w. loaded.reaches.full z
          (subst (λ (k : Type 0). k) (λ j. WithinLimits (sym counted.limits j) (sym loaded-is j)) (within-class_object a.code.base i symbol (state_in t a) w));
      limits = loaded.reaches.limits ∙ counted.limits;
      areas = areas-after counted.areas loaded.reaches.areas;
    }

    pub object-done : {x : B} {C : Type 0} {q : Option C} {f : Code} → r ≡ Some x → symbol < 65536 → Puts q (word 12 symbol 0) d f → FinishesIn q 0 t a (beside f ts) (emit_at a.code.base (class_object i symbol) (state_in t a))
    object-done {x = x} {f = f} z small h =
        let k = (loaded.reaches.done x z).left in
        let u = counted.counted.counts in
        let stored = put-lifts (sound-next z loaded.reaches) refl (instr-plain t 12 symbol 0 (plain-below 12 symbol 0 (omega arith) (omega arith) small (omega arith))) h in
        let methods = ap (λ (n : Counts). n.methods) u in
        let functions = ap (λ (n : Counts). n.functions) u in
        let constants = ap (λ (n : Counts). n.constants) u in
        let classes = ap (λ (n : Counts). n.classes) u in
        finishes-by 0 {m = m} refl (omega arith) (omega arith) counted.limits counted.areas
        ((λ j. emit_at (k.base j) (one (instr 12 symbol 0)) ((k.state ∙ loaded-is) j)) ∙ sym (at-class_object a.code.base i symbol (state_in t a)))
        (reaches-after z loaded.reaches stored.reaches)

-- ---- a class that has its methods: its symbol, and then its object

module _ {t methods : List ℕ} {a : Emitter} {ts : Tables} {i at : ℕ} (S : SoundIn t a) (short : at < 32768) (number : i < a.tables.classes.count) (fits : a.tables.methods + length methods ≤ a.tables.functions.count)
    (E : ListsClass i at methods a.tables ts) where
  abbrev x : Name
  x = name_at t at

  abbrev ms : List Method
  ms = map (method_from t) methods

  abbrev listed : State
  listed = with_tables (with_classes (set (state_in t a).tables.classes i (record { name = x; methods = ms })) (state_in t a).tables) (state_in t a)

  abbrev e : Emitter
  e = beside a.code ts

  ends : CountedIn (with_methods (a.tables.methods + length methods) (counts_of a)) t a e listed
  ends = E.counted t a.code S number fits

  pub ended-sound : SoundIn t e
  ended-sound = counted-sound ends

  module _ {n₂ : Names} {b₂ : Entries} {s : Option ℕ} (h : Interns s t ts.names n₂ ts.entries b₂ at) where
    abbrev ts₂ : Tables
    ts₂ = new_names n₂ b₂ ts

    numbered : NumbersIn s (symbol_number x (state_in t e).tables) t e (beside a.code ts₂) (symbol_named x (state_in t e))
    numbered = interned ended-sound h (sym (spelled-tree t ts.names.made.now at short))

    pub finish-over : {C : Type 0} {q : Option C} → s ≡ None → q ≡ None → FinishesClass q at i methods t a (beside a.code ts₂)
    unfolding symbol_number
    finish-over z n = record {
      finishes = record {
        done = λ v g. absurd (none-some v (sym n ∙ g));
        full = λ g w.
            let k = within-down a.code.base _ (lengthens-class_object i (symbol_number x (state_in t a).tables)) (within-end_class a.code.base x i ms (state_in t a) listed refl w) in
            numbered.reaches.full z (subst (λ (k : Type 0). k) (λ j. WithinLimits (sym ends.limits j) (symbol_named x (sym ends.counted.state j))) k);
        limits = numbered.reaches.limits ∙ ends.limits;
        areas = areas-after ends.areas numbered.reaches.areas;
      };
      made = h.made ∙ E.made;
    }

    module _ {g : ℕ} (z : s ≡ Some g) where
      abbrev p : Emitter
      p = beside a.code ts₂

      got : Left (counts_of p) t ts₂.names.made.now a.code.words.now ts₂.entries.words.now (counts_of e) (limits_in e) (symbol_named x (state_in t e))
      got = (numbered.reaches.done g z).left

      pub finish-sound : SoundIn t p
      finish-sound = sound-next z numbered.reaches

      pub finish-constants : a.tables.constants < a.tables.classes.count → ts₂.constants < ts₂.classes.count
      finish-constants y =
          let constants = ap (λ (n : Counts). n.constants) ends.counted.counts in
          let classes = ap (λ (n : Counts). n.classes) ends.counted.counts in
          omega (arith, got.paced.constants)

      class-is : emit_at a.code.base (class_object i g) (state_in t p) ≡ emit_at a.code.base (end_class x i ms) (state_in t a)
      unfolding symbol_number
      class-is =
          (λ j. emit_at a.code.base (class_object i (numbered.is g z j)) (got.state j))
          ∙ ap (λ (u : State). emit_at a.code.base (class_object i (symbol_number x u.tables)) (with_tables (with_symbol x u.tables) u)) ends.counted.state
          ∙ sym (at-end_class a.code.base x i ms (state_in t a) listed refl)

      pub finish-done : {C : Type 0} {q : Option C} {b : Emitter} → a.tables.constants < a.tables.classes.count → StoresClass q i g p b → FinishesClass q at i methods t a b
      finish-done {b = b} y X =
          let F = X.finishes t finish-sound (finish-constants y) in
          let same = numbered.reaches.limits ∙ ends.limits in
          let u = ends.counted.counts in
          let methods = ap (λ (n : Counts). n.methods) u in
          let functions = ap (λ (n : Counts). n.functions) u in
          let constants = ap (λ (n : Counts). n.constants) u in
          let classes = ap (λ (n : Counts). n.classes) u in
          record {
            finishes = record {
              done = λ v k.
                  let A = (F.done v k).finished in
                  record {
                    finished = record {
                      state = A.state ∙ class-is;
                      base = A.base;
                      methods = omega (arith, A.methods, got.paced.methods);
                      constants = omega (arith, A.constants, got.paced.constants);
                      sound = subst (λ (l : Limits). Sound t b.tables.names.made.now b.code.words.now b.tables.entries.words.now (counts_of b) l) same A.sound;
                    };
                  };
              full = λ k w. F.full k (subst (λ (k : Type 0). k) (λ j. WithinLimits (sym same j) (sym class-is j)) w);
              limits = F.limits ∙ same;
              areas = areas-after (areas-after ends.areas numbered.reaches.areas) F.areas;
            };
            made = X.made ∙ h.made ∙ E.made;
          }
