-- A function: its name, its slots, its body, its end.
use Prim.Native.Nat.{ℕ, zero, suc, ◌+◌, ◌-◌, ◌<◌, ◌≤◌}
use mathlib.Core.Path.{◌≡◌, refl, sym, ap, ◌∙◌, subst}
use mathlib.Core.Bool.{Bool}
use mathlib.Core.List.{List, [], ◌∷◌, ◌++◌, append_assoc}
use native.Mathlib.Omega.{arith}
use lib.ListN.{length, take, length-append}
use Rattle.std.specs.Prelude.{Option, Some, None}
use Rattle.std.proofs.lemmas.Option.{none-some}
use Rattle.definitions.specs.Bytes.{Name, same}
use Rattle.definitions.specs.Wellformed.{init}
use Rattle.definitions.specs.Tree.{Block}
use Rattle.definitions.specs.Instruction.{Instr}
use Rattle.definitions.specs.Tables.{Function, Tables, Emit, emits, ◌⨟◌, begin, block_body, set_code, function, coded}
use Rattle.definitions.specs.Lower.{emit_block}
use Rattle.tree_view.specs.Places.{count_at, name_end, params_at}
use Rattle.definitions.specs.Slots.{Keeping, in_slots, Frame, with_loops, loops_block}
use Rattle.tree_view.specs.StmtAt.{block_at, def_block_at}
use Rattle.state.specs.Words.{name_at}
use Rattle.state.specs.State.{State, slots_from, slot_names, Slots, emit_at, Sound, WithinLimits, symbol_number, with_symbol, with_tables}
use Rattle.state.specs.Steps.{begun, function_ended, method_function}
use Rattle.state.specs.Kept.{keeping_of, Spare}
use Rattle.state.specs.declared.Limits.{Limits}
use Rattle.state.proofs.Kept.{keeping-slot}
use Rattle.state.proofs.Views.{function-count}
use Rattle.state.proofs.Enclosing.{at-function, symbol-functions}
use Rattle.definitions.proofs.Growth.{Lengthens, Lengthened, lengthens-seq, lengthens-emits, lengthens-block}
use Rattle.state.proofs.Within.{within-down, within-function, function-slots}
use Rattle.state.proofs.Answers.{paced-more}
use Rattle.slots.specs.declared.collect.Framed.{Framed}
use Rattle.std.specs.Prelude.{Option}
use Rattle.slots.specs.Slotted.{first_names, Indexed, Framing, Frames}
use Rattle.slots.proofs.Adding.{first-length, front-names, front-slots}
use Rattle.lower_emit.specs.Nesting.{begun_with, function_body}
use Rattle.lower_emit.specs.declared.emitter.Emitter.{Emitter}
use Rattle.lower_emit.specs.Emitting.{counts_of, limits_in, state_in, SoundIn, SameAreas, LeftIn, Reaches, MovedIn, EmitsTo, LowersIn, Ended}
use Rattle.lower_emit.proofs.Steps.{areas-none, areas-after, sound-next}
use Rattle.lower_emit.proofs.Functions.{ended-lifts}
use Rattle.lower_emit.proofs.Parts.{emits-by}
use Rattle.lower_forms.specs.Lowering.{FunctionLowerable, block_code, frame_at, end_of, function_code}
use Rattle.lower_forms.proofs.ExprArms.{params-count}
use Rattle.lower_forms.proofs.Sequences.{method-end}
use Rattle.lower_classes.specs.Classes.{StartsNamed}
use Rattle.lower_blocks.specs.Blocks.{FunctionsAhead, CompilesIn}
use Rattle.lower_blocks.proofs.Between.{stack-long, reached_by, next-none, reaches-full}

-- ---- slots

names-length : (t ps : List ℕ) (n : ℕ) (want : List Name) → slots_from + n ≤ length ps → first_names t n ps ≡ want → n ≡ length want
names-length t ps n want h e = sym (ap length (sym e) ∙ first-length t n ps h)

framed_at : {r : Option Framed} {t ps : List ℕ} {params block : ℕ} (d at : ℕ) → params ≡ name_end t at → block ≡ (params_at t (name_end t at)).end
    → Frames r t ps (with_loops (params_at t params).value (block_at d t block).value) → Frames r t ps (frame_at d t at)
framed_at {r} {t} {ps} d at e f h = subst (Frames r t ps) (λ j. with_loops (params_at t (e j)).value (block_at d t (f j)).value) h

-- the loops' slots come after the n that have a name, and there are enough
module _ {n m : ℕ} {t ps : List ℕ} (xs : List Name) (b : Block) (F : Framing n m t ps (with_loops xs b)) (room : slots_from + 255 ≤ length ps) where
  how-many : n ≡ length (with_loops xs b).names
  how-many = names-length t ps n _ (omega (arith, F.named, F.few)) F.names

  frame-keeping : keeping_of n ≡ (with_loops xs b).keep
  frame-keeping = keeping-slot n (omega (arith, F.named, F.few)) ∙ ap in_slots how-many

  frame-spare : Spare n (loops_block b)
  frame-spare = record { at = λ h. omega (arith, how-many, F.locals, F.few) }

-- the slots that are used
part-names : (t ps : List ℕ) (n : ℕ) (want : List Name) → first_names t n ps ≡ want → slots_from + n ≤ length ps → slot_names t (take (slots_from + n) ps) ≡ want
part-names t ps n want e h = front-names t ps n h ∙ e

part-slots : (t ps : List ℕ) (n : ℕ) → n ≤ 255 → Indexed t n ps → slots_from + n ≤ length ps → Slots t (take (slots_from + n) ps)
part-slots t ps n h v g = front-slots t ps n g h v

-- what is known of a function's parts once its slots are collected
pub record FunctionParts (d : ℕ) (t : List ℕ) (at arity block : ℕ) (g : Framed) (ps : List ℕ) : Type 0 where
  pub arity-is : arity ≡ length (params_at t (name_end t at)).value
  pub arity-few : arity < 256
  pub block-is : block ≡ (params_at t (name_end t at)).end
  pub framing : Framing g.named g.locals t ps (frame_at d t at)
  pub room : slots_from + g.named ≤ length ps
  pub names : slot_names t (take (slots_from + g.named) ps) ≡ (frame_at d t at).names
  pub keep : keeping_of g.named ≡ (frame_at d t at).keep
  pub spare : Spare g.named (loops_block (def_block_at d t at).value)
  pub slotted : Slots t (take (slots_from + g.named) ps)

pub function-parts : {d : ℕ} {t : List ℕ} {at arity params block : ℕ} {r : Option Framed} {g : Framed} {ps : List ℕ}
    → FunctionLowerable d t at → params ≡ name_end t at → arity ≡ count_at t params → block ≡ (params_at t params).end
    → Frames r t ps (with_loops (params_at t params).value (block_at d t block).value) → r ≡ Some g → slots_from + 255 ≤ length ps → FunctionParts d t at arity block g ps
function-parts {d} {t} {at} {arity} {params} {block} {r} {g} {ps} low e a b f z enough =
    let place = b ∙ ap (λ (x : ℕ). (params_at t x).end) e in
    let count = a ∙ ap (count_at t) e in
    let F = (framed_at d at e place f).framing g z in
    let fits : slots_from + g.named ≤ length ps = omega (arith, F.named, F.few, enough) in
    record {
      arity-is = count ∙ sym (params-count t (name_end t at));
      arity-few = omega (arith, count, low.few);
      block-is = place;
      framing = F;
      room = fits;
      names = part-names t ps g.named _ F.names fits;
      keep = frame-keeping _ _ F enough;
      spare = frame-spare _ _ F enough;
      slotted = part-slots t ps g.named (omega (arith, F.named, F.few)) F.indexed fits;
    }

-- ---- the functions' codes

set-count : (fs : List Function) (n : ℕ) (is : List Instr) → length (set_code fs n is) ≡ length fs
unfolding set_code
set-count [] n is = refl
set-count (f ∷ fs) zero is = refl
set-count (f ∷ fs) (suc n) is = ap suc (set-count fs n is)

no_body : (fs gs : List Function) (f : Function) → f.code ≡ [] → function_body (fs ++ (f ∷ gs)) (length fs) ≡ []
unfolding function_body
no_body [] gs f e = e
no_body (h ∷ fs) gs f e = no_body fs gs f e

-- ---- the whole function

module _ {t : List ℕ} {a : Emitter} (S : SoundIn t a) (x : Name) (arity n : ℕ) (ps : List Name) (inner : Frame) (ea : arity ≡ length ps) (en : n ≡ inner.locals) (b : Block) (end : List Instr) where
  abbrev s : State
  s = state_in t a

  abbrev named : State
  named = with_tables (with_symbol x s.tables) s

  abbrev symbol : ℕ
  symbol = symbol_number x s.tables

  abbrev e : Emit
  e = emit_block inner.names inner.keep b ⨟ emits end

  E : Lengthens e
  E = lengthens-seq (lengthens-block inner.names inner.keep b) (lengthens-emits end)

  abbrev whole : State
  whole = emit_at a.code.base (function x (length ps) inner (block_body b end) e) s

  abbrev began : State
  began = begun_with symbol arity n named

  began-is : began ≡ begun symbol (length ps) inner named
  unfolding begun_with begun begin
  began-is = λ j. begun_with symbol (ea j) (en j) named

  within-body : {l : Limits} → WithinLimits l whole → WithinLimits l (emit_at (length s.stack) e (begun symbol (length ps) inner named))
  within-body w = within-function a.code.base x (length ps) inner (block_body b end) s named refl E w

  pub begun-within : {l : Limits} → WithinLimits l whole → WithinLimits l began
  begun-within {l} w = subst (WithinLimits l) (sym began-is) (within-down (length s.stack) _ E (within-body w))

  -- it has begun
  module _ {f : ℕ} {a₁ : Emitter} (is : f ≡ length s.tables.functions) (B : MovedIn a.code.open t a a₁ began)
      (more : a₁.tables.methods + a.tables.functions.count < a.tables.methods + a₁.tables.functions.count) (same : limits_in a₁ ≡ limits_in a)
      (names : List Name) (keep : Keeping) (en' : names ≡ inner.names) (ek : keep ≡ inner.keep) where
    first-base : a₁.code.base ≡ length s.stack
    first-base = B.moved.base ∙ sym (stack-long S)

    body_is : emit_at a₁.code.base (emit_block names keep b ⨟ emits end) (state_in t a₁) ≡ emit_at (length s.stack) e (begun symbol (length ps) inner named)
    body_is = λ j. emit_at (first-base j) (emit_block (en' j) (ek j) b ⨟ emits end) ((B.moved.state ∙ began-is) j)

    pub body-within : {l : Limits} → WithinLimits l whole → WithinLimits l (emit_at a₁.code.base (emit_block names keep b ⨟ emits end) (state_in t a₁))
    body-within {l} w = subst (WithinLimits l) (sym body_is) (within-body w)

    -- its body is there
    module _ {a₂ : Emitter} (A : LeftIn t a₁ a₂ (emit_at a₁.code.base (emit_block names keep b ⨟ emits end) (state_in t a₁))) where
      abbrev begun_tables : Tables
      begun_tables = (begun symbol (length ps) inner named).tables

      grown : Lengthened begun_tables (state_in t a₂).tables
      unfolding emit_at
      grown = subst (λ (u : State). Lengthened begun_tables u.tables) (sym (A.left.state ∙ body_is)) (E.at (length (begun symbol (length ps) inner named).stack - length s.stack) begun_tables)

      functions-are : (state_in t a₂).tables.functions ≡ s.tables.functions ++ (coded symbol (length ps) inner.locals [] ∷ grown.new)
      unfolding begun begin
      functions-are =
          grown.functions ∙ ap (λ (fs : List Function). fs ++ coded symbol (length ps) inner.locals [] ∷ [] ++ grown.new) (symbol-functions x s.tables)
          ∙ simp append_assoc

      last-base : a₂.code.base ≡ length s.stack
      last-base = A.left.base ∙ first-base

      count : length (state_in t a₂).tables.functions ≡ a₂.tables.functions.count
      count = function-count t a₂.tables.names.made.now a₂.code.words.now a₂.tables.entries.words.now (counts_of a₂) (limits_in a₁) A.left.sound

      pub ended-number : f < a₂.tables.functions.count
      ended-number =
          omega (
            arith,
            is,
            sym count ∙ ap length functions-are,
            length-append s.tables.functions (coded symbol (length ps) inner.locals [] ∷ grown.new),
          )

      pub ended-body : function_body (state_in t a₂).tables.functions f ≡ []
      ended-body = (λ j. function_body (functions-are j) (is j)) ∙ no_body s.tables.functions grown.new _ refl

      pub ended-base : a.code.base ≤ a₂.code.base
      ended-base = omega (arith, last-base, stack-long S, S.sound.base)

      module _ {a₃ : Emitter} (D : MovedIn a.code.base t a₂ a₃ (function_ended a₂.code.base f (state_in t a₂))) where
        state-is : state_in t a₃ ≡ whole
        state-is =
            D.moved.state ∙ (λ j. function_ended (last-base j) (is j) ((A.left.state ∙ body_is) j))
            ∙ sym (at-function a.code.base x (length ps) inner (block_body b end) e s named refl)

        same_count : a₃.tables.functions.count ≡ a₂.tables.functions.count
        unfolding function_ended
        same_count =
            sym (function-count t a₃.tables.names.made.now a₃.code.words.now a₃.tables.entries.words.now (counts_of a₃) (limits_in a₂) D.moved.sound) ∙ ap (λ (u : State). length u.tables.functions) D.moved.state
            ∙ set-count (state_in t a₂).tables.functions f _ ∙ count

        pub compiled : limits_in a₂ ≡ limits_in a → LeftIn t a a₃ whole × FunctionsAhead 1 (counts_of a) (counts_of a₃) × (a.tables.functions.count < a₃.tables.functions.count)
        compiled l = (
          record {
            left = record {
              state = state-is;
              base = D.moved.base;
              paced = paced-more B.moved.paced (paced-more A.left.paced D.moved.paced);
              sound = subst (λ (k : Limits). Sound t a₃.tables.names.made.now a₃.code.words.now a₃.tables.entries.words.now (counts_of a₃) k) l D.moved.sound;
            };
          },
          omega (arith, more, A.left.paced.methods, D.moved.paced.methods),
          omega (arith, same_count, ended-number, is, function-count t a.tables.names.made.now a.code.words.now a.tables.entries.words.now (counts_of a) (limits_in a) S.sound),
        )

-- a function with more than 255 slots is over the limits
slots-over : (d : ℕ) (t : List ℕ) (p : ℕ) (b : Bool) (base : ℕ) (l : Limits) (s : State) → 255 < (frame_at d t p).locals → WithinLimits l (emit_at base (function_code d t p b) s) → ⊥
slots-over d t p b base l s h w =
    let k = function-slots base _ _ (frame_at d t p) _ s (lengthens-seq (lengthens-block (frame_at d t p).names (frame_at d t p).keep (def_block_at d t p).value) (lengthens-emits (end_of b))) w in
    omega arith

-- a method is a function with a method's end
pub method-is : (d : ℕ) (t : List ℕ) (p : ℕ) (b : Bool) (base : ℕ) (s : State) → b ≡ same (name_at t p) init
    → emit_at base (function_code d t p b) s ≡ emit_at base (method_function (name_at t p) (params_at t (name_end t p)).value (def_block_at d t p).value) s
unfolding method_function
method-is d t p b base s e =
    let ps = (params_at t (name_end t p)).value in
    let x = (def_block_at d t p).value in
    let f = ap end_of e ∙ method-end (name_at t p) in
    λ j. emit_at base (function (name_at t p) (length ps) (frame_at d t p) (block_body x (f j)) (emit_block (frame_at d t p).names (frame_at d t p).keep x ⨟ emits (f j))) s

-- ---- by the emitter's steps

compiles-stopped : {q : Option ℕ} {next : ℕ} {want : State} {t : List ℕ} {a b : Emitter} → q ≡ None → (WithinLimits (limits_in a) want → ⊥) → limits_in b ≡ limits_in a → SameAreas a b → CompilesIn q next want t a b
compiles-stopped n h l k = record {
  place = next-none n;
  reaches = record { done = λ x p. absurd (none-some x (sym n ∙ p)); full = λ p. h; limits = l; areas = k };
  ahead = λ x p. absurd (none-some x (sym n ∙ p));
  more = λ x p. absurd (none-some x (sym n ∙ p));
}

pub slots-stopped : {q : Option ℕ} {next params block : ℕ} {r : Option Framed} {t ps : List ℕ} {a : Emitter} (d at : ℕ) (init : Bool) → r ≡ None → q ≡ None → params ≡ name_end t at → block ≡ (params_at t params).end
    → Frames r t ps (with_loops (params_at t params).value (block_at d t block).value) → CompilesIn q next (emit_at a.code.base (function_code d t at init) (state_in t a)) t a a
slots-stopped {t = t} {a = a} d at init z n e b f =
    compiles-stopped n (slots-over d t at init a.code.base (limits_in a) (state_in t a) ((framed_at d at e (b ∙ ap (λ (x : ℕ). (params_at t x).end) e) f).over z)) refl areas-none

module _ {t : List ℕ} {a a₁ : Emitter} {p : Option ℕ} {at arity n : ℕ} (d : ℕ) (init : Bool) (S : SoundIn t a)
    (ea : arity ≡ length (params_at t (name_end t at)).value) (en : n ≡ (frame_at d t at).locals) (B : StartsNamed p at arity n t a a₁) where
  abbrev function-want : State
  function-want = emit_at a.code.base (function_code d t at init) (state_in t a)

  abbrev x : Name
  x = name_at t at

  abbrev params : List Name
  params = (params_at t (name_end t at)).value

  abbrev inner : Frame
  inner = frame_at d t at

  abbrev body : Block
  body = (def_block_at d t at).value

  pub function-over : {q : Option ℕ} {next : ℕ} → p ≡ None → q ≡ None → CompilesIn q next function-want t a a₁
  function-over z y = compiles-stopped y (λ w. (B.begins S).full z (begun-within S x arity n params inner ea en body (end_of init) w)) (B.begins S).limits (B.begins S).areas

  module _ {f : ℕ} (z : p ≡ Some f) where
    pub function-sound : SoundIn t a₁
    function-sound = record { sound = subst (λ (l : Limits). Sound t a₁.tables.names.made.now a₁.code.words.now a₁.tables.entries.words.now (counts_of a₁) l) (sym (B.begins S).limits) ((B.begins S).done f z).moved.sound }

    module _ {names : List Name} {keep : Keeping} (en' : names ≡ inner.names) (ek : keep ≡ inner.keep) {a₂ : Emitter} {r : Option ℕ} {next : ℕ}
        (h : EmitsTo r (emit_block names keep body ⨟ emits (end_of init)) next t a₁ a₂) where
      within-it : WithinLimits (limits_in a) function-want → WithinLimits (limits_in a) (emit_at a₁.code.base (emit_block names keep body ⨟ emits (end_of init)) (state_in t a₁))
      within-it w = body-within S x arity n params inner ea en body (end_of init) ((B.begins S).is f z) ((B.begins S).done f z) ((B.begins S).more f z) (B.begins S).limits names keep en' ek w

      pub function-stopped : {q : Option ℕ} {m : ℕ} → r ≡ None → q ≡ None → CompilesIn q m function-want t a a₂
      function-stopped {q} y u =
          let R : Reaches q t a a₂ function-want = reaches-full (B.begins S).limits (B.begins S).areas y u h.lowers.reaches within-it in
          compiles-stopped u (R.full u) R.limits R.areas

      module _ {k : ℕ} (y : r ≡ Some k) where
        number : f < a₂.tables.functions.count
        number = ended-number S x arity n params inner ea en body (end_of init) ((B.begins S).is f z) ((B.begins S).done f z) ((B.begins S).more f z) (B.begins S).limits names keep en' ek (h.lowers.reaches.done k y)

        pub function-done : {a₃ : Emitter} → Ended f a.code.base a₂ a₃ → CompilesIn (Some k) next function-want t a a₃
        function-done {a₃} e =
            let A = h.lowers.reaches.done k y in
            let empty = ended-body S x arity n params inner ea en body (end_of init) ((B.begins S).is f z) ((B.begins S).done f z) ((B.begins S).more f z) (B.begins S).limits names keep en' ek A in
            let around = ended-base S x arity n params inner ea en body (end_of init) ((B.begins S).is f z) ((B.begins S).done f z) ((B.begins S).more f z) (B.begins S).limits names keep en' ek A in
            let same : limits_in a₂ ≡ limits_in a = h.lowers.reaches.limits ∙ (B.begins S).limits in
            let c = compiled S x arity n params inner ea en body (end_of init) ((B.begins S).is f z) ((B.begins S).done f z) ((B.begins S).more f z) (B.begins S).limits names keep en' ek A
            (ended-lifts (sound-next y h.lowers.reaches) number empty around e) same in
            record {
              place = λ m q. h.place m (y ∙ q);
              reaches = reached_by k (e.limits ∙ same) (areas-after (areas-after (B.begins S).areas h.lowers.reaches.areas) e.areas) c.0;
              ahead = λ m q. c.1;
              more = λ m q. c.2;
            }

-- by another word for the position
pub body-by : {r : Option ℕ} {a b : Emitter} (d : ℕ) (t : List ℕ) (names : List Name) (keep : Keeping) (end : List Instr) {p q : ℕ} → q ≡ p
    → EmitsTo r (block_code d t names keep q ⨟ emits end) (block_at d t q).end t a b → EmitsTo r (block_code d t names keep p ⨟ emits end) (block_at d t p).end t a b
body-by d t names keep end e h = emits-by h (ap (λ (x : ℕ). block_code d t names keep x ⨟ emits end) (sym e)) (ap (λ (x : ℕ). (block_at d t x).end) e)

-- the wanted state is a step's
pub compiles-emits : {r : Option ℕ} {next : ℕ} {t : List ℕ} {a b : Emitter} (e : Emit) → CompilesIn r next (emit_at a.code.base e (state_in t a)) t a b → EmitsTo r e next t a b
compiles-emits e h = record { place = h.place; lowers = record { reaches = h.reaches } }

pub reaches-lowers : {A : Type 0} {r : Option A} {t : List ℕ} {a b : Emitter} (e : Emit) → Reaches r t a b (emit_at a.code.base e (state_in t a)) → LowersIn r e t a b
reaches-lowers e h = record { reaches = h }
