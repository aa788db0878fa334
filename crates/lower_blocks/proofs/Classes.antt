-- Classes: methods one after the other, and the class around them.
use Prim.Native.Nat.{ℕ, ◌+◌, ◌*◌, ◌-◌, ◌/◌, ◌%◌, ◌^◌, ◌<◌, ◌≤◌}
use mathlib.Core.Path.{◌≡◌, refl, sym, ap, ◌∙◌, subst}
use mathlib.Core.Bool.{Bool, true}
use mathlib.Core.List.{List, [], map}
use native.Mathlib.Omega.{arith}
use lib.ListN.{length, take, length-append}
use lib.Seq.{length-take-le}
use Rattle.std.specs.Prelude.{Option, Some, None}
use Rattle.std.proofs.lemmas.Option.{none-some}
use Rattle.definitions.specs.Bytes.{Name, same}
use Rattle.definitions.specs.Wellformed.{init}
use Rattle.definitions.specs.Tree.{Methods, []ᵐ, method}
use Rattle.definitions.specs.Tables.{Method}
use Rattle.definitions.specs.Lower.{insert_method, begin_class, end_class}
use Rattle.definitions.specs.Reader.{rising}
use Rattle.definitions.proofs.MethodOrder.{rising-insert}
use Rattle.tree_view.specs.Places.{Node, count_at, name_end, name_from, params_at}
use Rattle.tree_view.specs.StmtAt as StmtAt
use Rattle.tree_view.specs.StmtAt.{def_block_at, class_methods_at, method_at}
use Rattle.tree_view.proofs.StmtViews.{view-methods-none, view-methods-more}
use Rattle.state.specs.Words.{name_at}
use Rattle.state.specs.State.{State, method_from, emit_at, Sound, WithinLimits, with_tables}
use Rattle.state.specs.Steps.{method_function, emit_methods_at, methods_of}
use Rattle.state.specs.declared.Limits.{Limits}
use Rattle.state.proofs.Views.{function-count, class-count, constant-count}
use Rattle.state.proofs.Enclosing.{methods-none, methods-none-of, methods-more, methods-more-of, at-class}
use Rattle.definitions.proofs.Growth.{methods-lengthened}
use Rattle.state.proofs.Within.{within-method, within-methods, within-class}
use Rattle.methods.specs.Order.{Inserted}
use Rattle.lower_emit.specs.declared.emitter.Used.{Used}
use Rattle.lower_emit.specs.declared.emitter.Entries.{Entries}
use Rattle.lower_emit.specs.declared.emitter.Tables.{Tables}
use Rattle.lower_emit.specs.declared.emitter.Emitter.{Emitter}
use Rattle.lower_emit.specs.Emitting.{counts_of, limits_in, state_in, SoundIn, beside, new_classes, SameAreas, LeftIn, Reaches, NumbersIn}
use Rattle.lower_emit.proofs.Steps.{areas-none, areas-after, sound-next, left-next, some-is}
use Rattle.lower_forms.specs.Lowering.{function_code, MethodsLowerable, class_code}
use Rattle.lower_forms.proofs.StmtArms.{methods-parts}
use Rattle.lower_classes.specs.Classes.{BeginsClass, FinishesClass}
use Rattle.lower_forms.specs.Lowerable.{SoleIn}
use Rattle.lower_blocks.specs.Blocks.{FunctionsAhead, Methodical, CompilesIn, ListsIn}
use Rattle.lower_blocks.proofs.Between.{left-itself, left-own, left-by, left-sound, reached_by, reaches-full}
use Rattle.lower_blocks.proofs.Functions.{method-is}

-- ---- methods

-- the methods at p, of which there is a first
module _ (d : ℕ) (t : List ℕ) where
  methods-is : (n p : ℕ) → 0 < n → MethodsLowerable d n t p
      → (StmtAt.methods_at d n t p).value ≡ method (name_at t p) (params_at t (name_end t p)).value (def_block_at d t p).value (StmtAt.methods_at d (n - 1) t (def_block_at d t p).end).value
  unfolding method_at name_from name_at
  methods-is n p h r = ap (λ (x : Node Methods). x.value) (view-methods-more d t p n h r.reads).is

  methods-over : (n p : ℕ) → n ≤ 0 → MethodsLowerable d n t p → (StmtAt.methods_at d n t p).value ≡ []ᵐ
  methods-over n p h r = ap (λ (x : Node Methods). x.value) (view-methods-none d t p n h r.reads.start)

  methods-at : (n m p q : ℕ) → m ≡ n → q ≡ p → MethodsLowerable d n t p → MethodsLowerable d m t q
  methods-at n m p q e f r = subst (λ (x : ℕ). MethodsLowerable d x t q) (sym e) (subst (MethodsLowerable d n t) (sym f) r)

-- a is the emitter before the methods, of which n from p on are left; the words of those so far are the first of a list
pub record MethodsRest (d : ℕ) (t : List ℕ) (a : Emitter) (n₀ p₀ : ℕ) (b : Emitter) (list : List ℕ) (n p count : ℕ) : Type 0 where
  pub methods : MethodsLowerable d n t p
  pub limits : limits_in b ≡ limits_in a
  pub areas : SameAreas a b
  pub left : LeftIn t a b (state_in t b)
  pub state : emit_methods_at (StmtAt.methods_at d n t p).value (map (method_from t) (take count list)) (state_in t b) ≡ emit_methods_at (StmtAt.methods_at d n₀ t p₀).value [] (state_in t a)
  pub listed : methods_of (StmtAt.methods_at d n t p).value (map (method_from t) (take count list)) (state_in t b) ≡ methods_of (StmtAt.methods_at d n₀ t p₀).value [] (state_in t a)
  pub ordered : rising (map (method_from t) (take count list)) ≡ true
  pub ahead : FunctionsAhead count (counts_of a) (counts_of b)
  pub room : 256 ≤ length list

-- none is done yet; the count by other words
pub methods-all : {d : ℕ} {t : List ℕ} {a : Emitter} {list : List ℕ} {n p : ℕ} (m : ℕ) → n ≡ m → SoleIn t a → MethodsLowerable d n t p → 256 ≤ length list → MethodsRest d t a n p a list m p 0
unfolding rising
methods-all {d} {t} {a} {list} {n} {p} m e R r h = subst (λ (k : ℕ). MethodsRest d t a n p a list k p 0) e (record {
  methods = r;
  limits = refl;
  areas = areas-none;
  left = left-itself R.sound;
  state = refl;
  listed = refl;
  ordered = refl;
  ahead = omega arith;
  room = h;
})

module _ {d : ℕ} {t : List ℕ} {a : Emitter} {n₀ p₀ : ℕ} {b : Emitter} {list : List ℕ} {n p count : ℕ} (inv : MethodsRest d t a n₀ p₀ b list n p count) (R : SoleIn t a) where
  abbrev want : State
  want = emit_methods_at (StmtAt.methods_at d n₀ t p₀).value [] (state_in t a)

  abbrev wanted : List Method
  wanted = methods_of (StmtAt.methods_at d n₀ t p₀).value [] (state_in t a)

  abbrev acc : List Method
  acc = map (method_from t) (take count list)

  pub methods-sole : SoleIn t b
  methods-sole = record { tree-short = R.tree-short; sound = left-sound inv.left inv.limits }

  -- as many as there are functions at most
  few : count ≤ 256
  few = omega (arith, inv.ahead, R.sound.sound.methods, inv.left.left.sound.functions, inv.left.left.sound.limited.functions)

  pub methods-done : n ≤ 0 → ListsIn (Some count) want wanted t list a b
  methods-done h =
      let e = methods-over d t n p h inv.methods in
      let u = state_in t b in
      record {
        reaches = reached_by count inv.limits inv.areas (left-by inv.left (sym (ap (λ (x : Methods). emit_methods_at x acc u) e ∙ methods-none acc u) ∙ inv.state));
        listed = λ k z. subst (λ (m : ℕ). Methodical m t list (counts_of a) (counts_of b) wanted) (some-is z)
            (record { few = omega (arith, few, inv.room); ahead = inv.ahead; methods = sym (ap (λ (x : Methods). methods_of x acc u) e ∙ methods-none-of acc u) ∙ inv.listed });
      }

  module _ {c : Emitter} {r : Option ℕ} {ends-init : Bool} (h : 0 < n) (e : ends-init ≡ same (name_at t p) init)
      (x : CompilesIn r (def_block_at d t p).end (emit_at b.code.base (function_code d t p ends-init) (state_in t b)) t b c) where
    abbrev one : State
    one = emit_at b.code.base (method_function (name_at t p) (params_at t (name_end t p)).value (def_block_at d t p).value) (state_in t b)

    one-is : emit_at b.code.base (function_code d t p ends-init) (state_in t b) ≡ one
    one-is = method-is d t p ends-init b.code.base (state_in t b) e

    abbrev others : Methods
    others = (StmtAt.methods_at d (n - 1) t (def_block_at d t p).end).value

    is : (StmtAt.methods_at d n t p).value ≡ method (name_at t p) (params_at t (name_end t p)).value (def_block_at d t p).value others
    is = methods-is d t n p h inv.methods

    pub methods-stopped : {q : Option ℕ} → r ≡ None → q ≡ None → ListsIn q want wanted t list a c
    methods-stopped z y = record {
      reaches = reaches-full inv.limits inv.areas z y x.reaches
          (λ w. subst (WithinLimits (limits_in a)) (sym one-is) (within-method b.code.base (name_at t p) (params_at t (name_end t p)).value (def_block_at d t p).value others acc (state_in t b)
          (subst (WithinLimits (limits_in a)) (sym (ap (λ (y : Methods). emit_methods_at y acc (state_in t b)) (sym is) ∙ inv.state)) w)));
      listed = λ k q. absurd (none-some k (sym y ∙ q));
    }

    module _ {q : ℕ} (z : r ≡ Some q) where
      S₁ : SoundIn t c
      S₁ = sound-next z x.reaches

      pub methods-number : b.tables.functions.count < 256
      methods-number = omega (arith, x.more q z, S₁.sound.functions, S₁.sound.limited.functions)

      pub methods-room : count < 256
      methods-room = omega (arith, inv.ahead, x.ahead q z, R.sound.sound.methods, S₁.sound.functions, S₁.sound.limited.functions)

      -- the count by other words
      pub methods-next : {list₁ : List ℕ} {count₁ : ℕ} (k : ℕ) → n - 1 ≡ k
          → Inserted count₁ t list₁ list count (p * 256 + b.tables.functions.count) → length list₁ ≡ length list → MethodsRest d t a n₀ p₀ c list₁ k q count₁
      methods-next {list₁} {count₁} k f I same-length =
          let there = x.place q z in
          let done = x.reaches.done q z in
          let now = state_in t b in
          let at : (p * 256 + b.tables.functions.count) / 2 ^ 8 ≡ p = omega (arith, methods-number) in
          let number : (p * 256 + b.tables.functions.count) % 2 ^ 8 ≡ b.tables.functions.count = omega (arith, methods-number) in
          let functions : b.tables.functions.count ≡ length now.tables.functions =
          sym (function-count t b.tables.names.made.now b.code.words.now b.tables.entries.words.now (counts_of b) (limits_in a) inv.left.left.sound) in
          let listed-now : map (method_from t) (take count₁ list₁) ≡ insert_method (name_at t p) (length now.tables.functions) acc =
          I.methods ∙ (λ j. insert_method (name_at t (at j)) ((number ∙ functions) j) acc) in
          let state : state_in t c ≡ one = done.left.state ∙ one-is in
          let ps = (params_at t (name_end t p)).value in
          let body = (def_block_at d t p).value in
          subst (λ (m : ℕ). MethodsRest d t a n₀ p₀ c list₁ m q count₁) f (record {
            methods = methods-at d t (n - 1) (n - 1) (def_block_at d t p).end q refl there (methods-parts d t n p h inv.methods).1;
            limits = x.reaches.limits ∙ inv.limits;
            areas = areas-after inv.areas x.reaches.areas;
            left = left-own (left-next inv.limits inv.left done);
            state = (λ j. emit_methods_at (StmtAt.methods_at d (n - 1) t (there j)).value (listed-now j) (state j)) ∙ sym (methods-more b.code.base (name_at t p) ps body others acc now _ refl)
                ∙ ap (λ (y : Methods). emit_methods_at y acc now) (sym is) ∙ inv.state;
            listed = (λ j. methods_of (StmtAt.methods_at d (n - 1) t (there j)).value (listed-now j) (state j)) ∙ sym (methods-more-of b.code.base (name_at t p) ps body others acc now _ refl)
                ∙ ap (λ (y : Methods). methods_of y acc now) (sym is) ∙ inv.listed;
            ordered = ap rising listed-now ∙ rising-insert (name_at t p) (length now.tables.functions) acc inv.ordered;
            ahead = omega (arith, inv.ahead, x.ahead q z, I.few);
            room = omega (arith, inv.room, same-length);
          })

-- the methods of a class, with their count and their place by other words
module _ (d : ℕ) (t : List ℕ) (at : ℕ) {start n : ℕ} (e : start ≡ name_end t at) (f : n ≡ count_at t start) where
  count : n ≡ count_at t (name_end t at)
  count = f ∙ ap (count_at t) e

  place : start + 2 ≡ name_end t at + 2
  place = ap (λ (x : ℕ). x + 2) e

  pub class-methods : MethodsLowerable d (count_at t (name_end t at)) t (name_end t at + 2) → MethodsLowerable d n t (start + 2)
  class-methods r = methods-at d t (count_at t (name_end t at)) n (name_end t at + 2) (start + 2) count place r

  pub class-lists : {r : Option ℕ} {list : List ℕ} {a b : Emitter} (s : State) → ListsIn r (emit_methods_at (StmtAt.methods_at d n t (start + 2)).value [] s) (methods_of (StmtAt.methods_at d n t (start + 2)).value [] s) t list a b
      → ListsIn r (emit_methods_at (class_methods_at d t at).value [] s) (methods_of (class_methods_at d t at).value [] s) t list a b
  class-lists {r} {list} {a} {b} s h = subst (λ (x : Methods). ListsIn r (emit_methods_at x [] s) (methods_of x [] s) t list a b) (λ i. (StmtAt.methods_at d (count i) t (place i)).value) h

-- ---- a class

class-begin-within : {l : Limits} (x : Name) (ms : Methods) (base : ℕ) (s : State) → WithinLimits l (emit_at base (class_code x ms) s) → WithinLimits l (with_tables (begin_class x s.tables) s)
unfolding class_code
class-begin-within x ms base s w = within-methods ms [] _ (within-class base x ms s _ (emit_methods_at ms [] (with_tables (begin_class x s.tables) s)) refl refl w)

module _ {t : List ℕ} {a : Emitter} {used : Used 64} {entries : Entries} {p : Option ℕ} {at : ℕ} (ms : Methods) (S : SoundIn t a) (B : BeginsClass p at a.tables.classes used a.tables.entries entries) where
  abbrev ts : Tables
  ts = new_classes used entries a.tables

  abbrev a₁ : Emitter
  a₁ = beside a.code ts

  abbrev x : Name
  x = name_at t at

  abbrev s : State
  s = state_in t a

  abbrev s₁ : State
  s₁ = with_tables (begin_class x s.tables) s

  abbrev whole : State
  whole = emit_at a.code.base (class_code x ms) s

  numbered : NumbersIn p (length s.tables.classes) t a a₁ s₁
  numbered = (B.tables a.tables).numbers t a.code S

  pub class-over : {A : Type 0} {q : Option A} → p ≡ None → q ≡ None → Reaches q t a a₁ whole
  class-over z y = reaches-full refl areas-none z y numbered.reaches (class-begin-within x ms a.code.base s)

  module _ {i : ℕ} (z : p ≡ Some i) where
    number : i ≡ length s.tables.classes
    number = numbered.is i z

    first : LeftIn t a a₁ s₁
    first = numbered.reaches.done i z

    pub class-sound : SoundIn t a₁
    class-sound = sound-next z numbered.reaches

    class-is : whole ≡ emit_at a.code.base (end_class x (length s.tables.classes) (methods_of ms [] s₁)) (emit_methods_at ms [] s₁)
    unfolding class_code
    class-is = at-class a.code.base x ms s s₁ (emit_methods_at ms [] s₁) refl refl

    methods-within : WithinLimits (limits_in a) whole → WithinLimits (limits_in a) (emit_methods_at ms [] (state_in t a₁))
    unfolding class_code
    methods-within w = subst (λ (u : State). WithinLimits (limits_in a) (emit_methods_at ms [] u)) (sym first.left.state) (within-class a.code.base x ms s s₁ _ refl refl w)

    classes-now : length (state_in t a₁).tables.classes ≡ ts.classes.count
    classes-now = class-count t ts.names.made.now a.code.words.now ts.entries.words.now (counts_of a₁) (limits_in a₁) class-sound.sound

    classes-then : length s.tables.classes ≡ a.tables.classes.count
    classes-then = class-count t a.tables.names.made.now a.code.words.now a.tables.entries.words.now (counts_of a) (limits_in a) S.sound

    one-class : ts.classes.count ≡ a.tables.classes.count + 1
    unfolding begin_class
    one-class = sym classes-now ∙ ap (λ (u : State). length u.tables.classes) first.left.state ∙ length-append s.tables.classes _ ∙ ap (λ (n : ℕ). n + 1) classes-then

    same-constants : ts.constants ≡ a.tables.constants
    unfolding begin_class
    same-constants =
        sym (constant-count t ts.names.made.now a.code.words.now ts.entries.words.now (counts_of a₁) (limits_in a₁) class-sound.sound) ∙ ap (λ (u : State). length u.tables.constants) first.left.state
        ∙ constant-count t a.tables.names.made.now a.code.words.now a.tables.entries.words.now (counts_of a) (limits_in a) S.sound

    module _ {a₂ : Emitter} {list : List ℕ} {r : Option ℕ} (h : ListsIn r (emit_methods_at ms [] (state_in t a₁)) (methods_of ms [] (state_in t a₁)) t list a₁ a₂) where
      pub class-stopped : {A : Type 0} {q : Option A} → r ≡ None → q ≡ None → Reaches q t a a₂ whole
      class-stopped y u = reaches-full numbered.reaches.limits numbered.reaches.areas y u h.reaches methods-within

      module _ {k : ℕ} (y : r ≡ Some k) where
        second : LeftIn t a₁ a₂ (emit_methods_at ms [] (state_in t a₁))
        second = h.reaches.done k y

        listed : Methodical k t list (counts_of a₁) (counts_of a₂) (methods_of ms [] (state_in t a₁))
        listed = h.listed k y

        S₂ : SoundIn t a₂
        S₂ = sound-next y h.reaches

        number-in : i < a₂.tables.classes.count
        unfolding emit_methods_at
        number-in =
            let L = methods-lengthened ms [] (state_in t a₁).tables in
            omega (
              arith,
              number,
              classes-then,
              one-class,
              classes-now,
              sym (class-count t a₂.tables.names.made.now a₂.code.words.now a₂.tables.entries.words.now (counts_of a₂) (limits_in a₂) S₂.sound) ∙ ap (λ (u : State). length u.tables.classes) second.left.state,
              L.classes,
            )

        -- what the end of the class asks
        pub class-asks : SoundIn t a₂ × (i < a₂.tables.classes.count) × (k ≤ length list) × (a₂.tables.methods + k ≤ a₂.tables.functions.count) × (a₂.tables.constants < a₂.tables.classes.count)
        class-asks = (
          S₂,
          number-in,
          listed.few,
          omega (arith, listed.ahead, class-sound.sound.methods),
          omega (arith, second.left.paced.constants, one-class, same-constants, S.sound.constants),
        )

        ended_is : emit_at a₂.code.base (end_class x i (map (method_from t) (take k list))) (state_in t a₂) ≡ whole
        ended_is =
            let e : methods_of ms [] (state_in t a₁) ≡ methods_of ms [] s₁ = ap (methods_of ms []) first.left.state in
            let f : state_in t a₂ ≡ emit_methods_at ms [] s₁ = second.left.state ∙ ap (emit_methods_at ms []) first.left.state in
            (λ j. emit_at ((second.left.base ∙ first.left.base) j) (end_class x (number j) ((listed.methods ∙ e) j)) (f j)) ∙ sym class-is

        pub class-many : length (take k list) ≡ k
        class-many = length-take-le k list listed.few

        pub class-done : {A : Type 0} {q : Option A} {a₃ : Emitter} → FinishesClass q at i (take k list) t a₂ a₃ → Reaches q t a a₃ whole
        class-done {a₃ = a₃} f =
            let limits : limits_in a₂ ≡ limits_in a = h.reaches.limits ∙ numbered.reaches.limits in
            record {
              done = λ v z.
                  let F = (f.finishes.done v z).finished in
                  record {
                    left = record {
                      state = F.state ∙ ended_is;
                      base = F.base ∙ second.left.base ∙ first.left.base;
                      paced = record {
                        methods = omega (arith, F.methods, class-many, listed.ahead, first.left.paced.methods);
                        constants = omega (arith, F.constants, second.left.paced.constants, one-class, same-constants);
                      };
                      sound = subst (λ (l : Limits). Sound t a₃.tables.names.made.now a₃.code.words.now a₃.tables.entries.words.now (counts_of a₃) l) limits F.sound;
                    };
                  };
              full = λ z w. f.finishes.full z (subst (λ (l : Type 0). l) (λ j. WithinLimits (sym limits j) (sym ended_is j)) w);
              limits = f.finishes.limits ∙ limits;
              areas = areas-after (areas-after numbered.reaches.areas h.reaches.areas) f.finishes.areas;
            }
