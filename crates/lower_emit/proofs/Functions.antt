-- A function that begins and one that ends, by the laws of the state.
use Prim.Native.Nat.{ℕ, ◌+◌, ◌*◌, ◌<◌, ◌≤◌}
use mathlib.Core.Path.{◌≡◌, refl, sym, ap, subst, ◌∙◌}
use mathlib.Core.List.{List, []}
use native.Mathlib.Bridge.{le_prop}
use lib.ListN.{length}
use Rattle.std.specs.Prelude.{Option, None}
use Rattle.std.proofs.lemmas.Option.{none-some}
use Rattle.state.specs.State.{State, WithinLimits}
use Rattle.state.specs.Steps.{function_ended}
use Rattle.state.specs.declared.Counts.{Counts}
use Rattle.state.specs.declared.Limits.{Limits}
use Rattle.state.specs.Answered.{At, Over}
use Rattle.lower_emit.specs.Nesting.{one_more, begun_with, function_body, Moved, Begins}
use Rattle.lower_emit.specs.declared.emitter.Code.{Code}
use Rattle.lower_emit.specs.declared.emitter.Used.{Used}
use Rattle.lower_emit.specs.declared.emitter.Entries.{Entries}
use Rattle.lower_emit.specs.declared.emitter.Tables.{Tables}
use Rattle.lower_emit.specs.declared.emitter.Emitter.{Emitter}
use Rattle.lower_emit.specs.Emitting.{counts_of, limits_in, state_in, SoundIn, beside, innermost, new_functions, new_entries, SameAreas, MovedIn, BeginsIn, Finishes, Heads, Codes, Begun, Ended}
use Rattle.lower_emit.proofs.Steps.{areas-after}
use Rattle.lower_emit.proofs.Begun.{begin-at, begin-over}
use Rattle.lower_emit.proofs.Ended.{end_moved}

module _ (t made code tables : List ℕ) (c : Counts) (l : Limits) (n : ℕ) (want : State) where
  begins-at : (i : ℕ) (k : Counts) → Begins (At i k) t made code tables c l n want → (i ≡ n) × Moved c.open k t made code tables c l want × (k.methods + c.functions < c.methods + k.functions)
  unfolding Begins
  begins-at i k h = h

  begins-over : Begins Over t made code tables c l n want → WithinLimits l want → ⊥
  unfolding Begins
  begins-over h = h

pub begun-lifts : {r : Option ℕ} {t : List ℕ} {a b : Emitter} {sy ar lo : ℕ} → SoundIn t a → sy < a.tables.names.symbols.count → ar < 256 → lo < 256 → Begun r sy ar lo a b
    → BeginsIn r (length (state_in t a).tables.functions) t a b (begun_with sy ar lo (state_in t a))
begun-lifts {r} {t} {a} {b} {sy} {ar} {lo} S x y z h =
    let c = counts_of a in
    let l = limits_in a in
    let number = length (state_in t a).tables.functions in
    let want = begun_with sy ar lo (state_in t a) in
    let at = λ (more : a.tables.functions.count < a.tables.functions.limit).
    begins-at t a.tables.names.made.now a.code.words.now _ c l number want a.tables.functions.count (one_more c)
    (begin-at t a.tables.names.made.now a.code.words.now a.tables.entries.words.now sy ar lo (sy * 65536 + ar * 256 + lo) c l S.sound more x y z refl) in
    record {
      is = λ n e. h.number n e ∙ (at (h.room n e)).0;
      done = λ n e. record { moved = subst (λ (q : Type 0). q) (λ i. Moved a.code.open (sym (h.counts n e) i) t (sym h.made i) (sym h.words i) (sym (h.entries n e) i) c l want) (at (h.room n e)).1 };
      more = λ n e. subst (λ (k : Counts). k.methods + a.tables.functions.count < a.tables.methods + k.functions) (sym (h.counts n e)) (at (h.room n e)).2;
      full = λ e. begins-over t a.tables.names.made.now a.code.words.now _ c l number want (begin-over t a.tables.names.made.now a.code.words.now a.tables.entries.words.now a.tables.entries.words.now sy ar lo number c l S.sound (h.full e));
      limits = h.limits;
      areas = h.areas;
    }

-- a head, beside the code and the other tables
pub head-begun : {r : Option ℕ} {sy ar lo : ℕ} {m k : Used 256} {x y : Entries} (code : Code) (ts : Tables) → Heads r sy ar lo m k x y
    → Begun r sy ar lo (beside code (new_functions m x ts)) (beside (innermost code) (new_functions k y ts))
head-begun {m = m} {k = k} code ts h = record {
  number = h.number;
  room = h.room;
  entries = h.entries;
  counts = λ i z. ap (λ (n : ℕ). record {
    symbols = ts.names.symbols.count;
    strings = ts.strings.count;
    functions = n;
    classes = ts.classes.count;
    methods = ts.methods;
    constants = ts.constants;
    made = ts.names.made_len;
    base = code.open;
    «open» = code.open;
    done = code.done;
  }) (h.count i z);
  full = h.full;
  made = refl;
  words = refl;
  limits = ap (λ (n : ℕ). record { functions = n; symbols = ts.names.symbols.limit; strings = ts.strings.limit; classes = ts.classes.limit; instructions = code.limit }) h.limit;
  areas = record { words = refl; made = refl; entries = h.area };
}

-- the same code, whichever way its facts are shown
pub innermost-as : (c : Code) (room : 16384 ≤ length c.words.now) (most : c.limit ≤ 8192) (size : c.open + c.done ≤ c.limit)
    → innermost c ≡ record { words = c.words; base = c.open; «open» = c.open; done = c.done; limit = c.limit; code_room = room; code_limit = most; code_size = size }
innermost-as c room most size = λ i. record {
  words = c.words;
  base = c.open;
  «open» = c.open;
  done = c.done;
  limit = c.limit;
  code_room = le_prop c.code_room room i;
  code_limit = le_prop c.code_limit most i;
  code_size = le_prop c.code_size size i;
}

-- one that doesn't begin says nothing of the counts after it
pub begins-stopped : {r q : Option ℕ} {n : ℕ} {tree : List ℕ} {a b d : Emitter} {want : State} → r ≡ None → q ≡ None → limits_in d ≡ limits_in b → SameAreas b d → BeginsIn r n tree a b want → BeginsIn q n tree a d want
begins-stopped z e l k h = record {
  is = λ m y. absurd (none-some m (sym e ∙ y));
  done = λ m y. absurd (none-some m (sym e ∙ y));
  more = λ m y. absurd (none-some m (sym e ∙ y));
  full = λ y. h.full z;
  limits = l ∙ h.limits;
  areas = areas-after h.areas k;
}

-- the code that has ended, beside the other tables
pub code-ended : {n f : ℕ} {c d : Code} {x y : Entries} (ts : Tables) → Finishes n c d → Codes f c x y → Ended f n (beside c (new_entries x ts)) (beside d (new_entries y ts))
code-ended {n} {f} {c} {d} ts h k = record {
  words = h.words;
  entries = k.entries;
  counts = λ i. record {
    symbols = ts.names.symbols.count;
    strings = ts.strings.count;
    functions = ts.functions.count;
    classes = ts.classes.count;
    methods = ts.methods;
    constants = ts.constants;
    made = ts.names.made_len;
    base = h.base i;
    «open» = h.size i;
    done = h.done i;
  };
  made = refl;
  limits = λ i. record { functions = ts.functions.limit; symbols = ts.names.symbols.limit; strings = ts.strings.limit; classes = ts.classes.limit; instructions = h.limit i };
  areas = record { words = h.area; made = refl; entries = k.area };
}

pub ended-lifts : {t : List ℕ} {a b : Emitter} {f n : ℕ} → SoundIn t a → f < a.tables.functions.count → function_body (state_in t a).tables.functions f ≡ [] → n ≤ a.code.base
    → Ended f n a b → MovedIn n t a b (function_ended a.code.base f (state_in t a))
ended-lifts {t} {a} {b} {f} {n} S known empty around h = record {
  moved = subst (λ (q : Type 0). q) (λ i. Moved n (sym h.counts i) t (sym h.made i) (sym h.words i) (sym h.entries i) (counts_of a) (limits_in a) (function_ended a.code.base f (state_in t a)))
      (end_moved t a.tables.names.made.now a.code.words.now a.tables.entries.words.now f n _ (counts_of a) (limits_in a) S.sound known refl empty around _ refl);
}
