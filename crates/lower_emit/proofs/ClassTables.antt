-- A class that begins and ends, and its constant.
use Prim.Native.Nat.{ℕ, zero, suc, ◌+◌, ◌*◌, ◌≤◌, ◌<◌}
use mathlib.Core.Path.{◌≡◌, refl, sym, ap, ◌∙◌, subst}
use mathlib.Core.List.{List, [], ◌∷◌, ◌++◌, map}
use native.Mathlib.Omega.{arith}
use native.Mathlib.Nat.{le_refl}
use lib.ListN.{length, take, drop, set, length-set, length-append}
use lib.Seq.{paste, length-paste, drop-paste}
use Rattle.definitions.specs.Tables.{Class, with_classes, add_constant}
use Rattle.definitions.specs.Lower.{begin_class}
use Rattle.state.specs.Words.{region, name_at, text_at}
use Rattle.state.specs.State.{strings_from, heads_from, codes_from, class_names_from, class_methods_from, methods_from, constants_from, done_from, place_of, count_of, spelled, functions_of}
use Rattle.state.specs.State.{method_from, class_of, classes_of, tables_of, state_of, with_tables, Every, EndsWithin, MadeWithin, NamedWithin, total, Sound, NumberGiven, symbol_index_from, symbol_buckets}
use Rattle.state.specs.State.{string_index_from, string_buckets}
use Rattle.state.specs.declared.Counts.{Counts}
use Rattle.state.specs.declared.Limits.{Limits}
use Rattle.state.specs.Answered.{At, Over}
use Rattle.state.proofs.Index.{symbols-indexed, strings-indexed}
use Rattle.state.proofs.Regions.{region-same, region-same-end, region-length, region-take, region-region, set_here, set_below, set-above, set_next, every_map, every_set}
use Rattle.state.proofs.Regions.{every-snoc, ends-within-more, classes-snoc, classes-same}
use Rattle.state.proofs.Views.{class-count}
use Rattle.state.proofs.Emission.{state-eq}
use Rattle.lower_emit.specs.Nesting.{with_methods, with_constants, CountedAs}
use Rattle.lower_emit.proofs.Setting.{paste-take, paste-here, grown-length, grown-below, grown-above, grown-first, grown-second}
use Rattle.lower_emit.proofs.Begun.{tables-eq}

-- the functions of two areas, by their regions
functions-kept : (t made code tables tables' : List ℕ) (c : Counts) (l : Limits) → Sound t made code tables c l → ((a k : ℕ) → a + k ≤ class_names_from → region a k tables' ≡ region a k tables) →
    functions_of t (drop done_from code) (region heads_from c.functions tables') (region codes_from c.functions tables')
    ≡ functions_of t (drop done_from code) (region heads_from c.functions tables) (region codes_from c.functions tables)
functions-kept t made code tables tables' c l s kept =
    let p = kept heads_from c.functions (omega (arith, s.functions, s.limited.functions)) in
    let q = kept codes_from c.functions (omega (arith, s.functions, s.limited.functions)) in
    λ i. functions_of t (drop done_from code) (p i) (q i)

-- ---- a class begins

abbrev pub one_class : Counts → Counts
one_class c = record {
  symbols = c.symbols;
  strings = c.strings;
  functions = c.functions;
  classes = c.classes + 1;
  methods = c.methods;
  constants = c.constants;
  made = c.made;
  «open» = c.open;
  base = c.base;
  done = c.done;
}

module _ (t made code tables : List ℕ) (at : ℕ) (c : Counts) (l : Limits) (s : Sound t made code tables c l) (more : c.classes < l.classes) where
  abbrev after : List ℕ
  after = set (set tables (class_names_from + c.classes) at) (class_methods_from + c.classes) 0

  apart : class_names_from + c.classes < class_methods_from
  apart = omega (arith, s.limited.classes)

  room : class_methods_from + c.classes < length tables
  room = omega (arith, s.limited.classes, s.tables-room)

  kept-below : (b k : ℕ) → b + k ≤ class_names_from → region b k after ≡ region b k tables
  kept-below = grown-below class_names_from class_methods_from c.classes at tables apart room

  kept_above : (b k : ℕ) → methods_from ≤ b → region b k after ≡ region b k tables
  kept_above b k g = grown-above class_names_from class_methods_from c.classes at tables apart room b k (let z = apart in omega arith)

  places-after : region class_methods_from (c.classes + 1) after ≡ region class_methods_from c.classes tables ++ 0 ∷ []
  places-after = grown-second class_names_from class_methods_from c.classes at tables apart room

  classes-after : classes_of t (region methods_from 256 after) (region class_names_from (c.classes + 1) after) (region class_methods_from (c.classes + 1) after)
      ≡ classes_of t (region methods_from 256 tables) (region class_names_from c.classes tables) (region class_methods_from c.classes tables) ++ record { name = name_at t at; methods = [] } ∷ []
  unfolding class_of region
  classes-after =
      let ms = kept_above methods_from 256 (omega arith) in
      let xs = grown-first class_names_from class_methods_from c.classes at tables apart room in
      let m : length (region class_names_from c.classes tables) ≡ c.classes = region-length class_names_from c.classes tables (omega (arith, s.classes, s.limited.classes, s.tables-room)) in
      let n : length (region class_methods_from c.classes tables) ≡ c.classes = region-length class_methods_from c.classes tables (omega (arith, s.classes, s.limited.classes, s.tables-room)) in
      (λ i. classes_of t (ms i) (xs i) (places-after i))
      ∙ classes-snoc t (region methods_from 256 tables) (region class_names_from c.classes tables) (region class_methods_from c.classes tables) at 0 (m ∙ sym n)

  begin-state : state_of t made code after (one_class c) ≡ with_tables (begin_class (name_at t at) (state_of t made code tables c).tables) (state_of t made code tables c)
  unfolding state_of tables_of begin_class
  begin-state = state-eq _ _ refl (tables-eq _ _
      (ap (map (spelled t made)) (kept-below 0 c.symbols (omega (arith, s.symbols, s.limited.symbols))))
      (ap (map (text_at t)) (kept-below strings_from c.strings (omega (arith, s.strings, s.limited.strings))))
      (functions-kept t made code tables after c l s kept-below)
      classes-after
      (kept_above constants_from c.constants (omega arith)))

  begin-sound : Sound t made code after (one_class c) l
  begin-sound =
      let k = kept-below codes_from c.functions (omega (arith, s.functions, s.limited.functions)) in record {
        code-room = s.code-room;
        tables-room = omega (arith, s.tables-room, grown-length class_names_from class_methods_from c.classes at tables apart room);
        made-room = s.made-room;
        limited = s.limited;
        symbols = s.symbols;
        strings = s.strings;
        functions = s.functions;
        classes = omega arith;
        constants = omega (arith, s.constants);
        methods = s.methods;
        words = s.words;
        base = s.base;
        made-count = s.made-count;
        names = subst (Every (MadeWithin made c.made)) (sym (kept-below 0 c.symbols (omega (arith, s.symbols, s.limited.symbols)))) s.names;
        heads = subst (Every (NamedWithin c.symbols)) (sym (kept-below heads_from c.functions (omega (arith, s.functions, s.limited.functions)))) s.heads;
        codes = subst (Every (EndsWithin c.done)) (sym k) s.codes;
        class-methods = subst (Every (EndsWithin c.methods)) (sym places-after) (every-snoc s.class-methods (omega arith));
        finished = s.finished ∙ sym (ap total k);
        symbol-index = symbols-indexed t made tables _ c.symbols (kept_above symbol_index_from symbol_buckets (omega arith)) (kept-below 0 c.symbols (omega (arith, s.symbols, s.limited.symbols))) s.symbol-index;
        string-index = strings-indexed t tables _ c.strings (kept_above string_index_from string_buckets (omega arith)) (kept-below strings_from c.strings (omega (arith, s.strings, s.limited.strings))) s.string-index;
      }

  pub class-begun : NumberGiven (At c.classes (one_class c)) t made code after c l (length (state_of t made code tables c).tables.classes)
      (with_tables (begin_class (name_at t at) (state_of t made code tables c).tables) (state_of t made code tables c))
  unfolding NumberGiven
  class-begun = (
    sym (class-count t made code tables c l s),
    record {
      state = begin-state;
      base = refl;
      paced = record { methods = le_refl _; constants = omega arith };
      sound = begin-sound;
    },
  )

pub class-over : (t made code tables tables' : List ℕ) (at n : ℕ) (c : Counts) (l : Limits) → Sound t made code tables c l → l.classes ≤ c.classes →
    NumberGiven Over t made code tables' c l n (with_tables (begin_class (name_at t at) (state_of t made code tables c).tables) (state_of t made code tables c))
unfolding NumberGiven begin_class
class-over t made code tables tables' at n c l s h = λ inside.
    omega (arith, inside.classes, class-count t made code tables c l s, length-append (state_of t made code tables c).tables.classes (record { name = name_at t at; methods = [] } ∷ []))

-- ---- its constant

module _ (t made code tables : List ℕ) (i : ℕ) (c : Counts) (l : Limits) (s : Sound t made code tables c l) (more : c.constants < c.classes) where
  kept : (b k : ℕ) → b + k ≤ constants_from → region b k (set tables (constants_from + c.constants) i) ≡ region b k tables
  kept b k g = set_below b k (constants_from + c.constants) i tables (omega arith)

  classes-kept : classes_of t (region methods_from 256 (set tables (constants_from + c.constants) i))
      (region class_names_from c.classes (set tables (constants_from + c.constants) i))
      (region class_methods_from c.classes (set tables (constants_from + c.constants) i))
      ≡ classes_of t (region methods_from 256 tables) (region class_names_from c.classes tables) (region class_methods_from c.classes tables)
  classes-kept =
      let p = kept methods_from 256 (omega arith) in
      let q = kept class_names_from c.classes (omega (arith, s.classes, s.limited.classes)) in
      let r = kept class_methods_from c.classes (omega (arith, s.classes, s.limited.classes)) in
      λ j. classes_of t (p j) (q j) (r j)

  constant-state : state_of t made code (set tables (constants_from + c.constants) i) (with_constants (c.constants + 1) c)
      ≡ with_tables (add_constant i (state_of t made code tables c).tables) (state_of t made code tables c)
  unfolding state_of tables_of
  constant-state = state-eq _ _ refl (tables-eq _ _
      (ap (map (spelled t made)) (kept 0 c.symbols (omega (arith, s.symbols, s.limited.symbols))))
      (ap (map (text_at t)) (kept strings_from c.strings (omega (arith, s.strings, s.limited.strings))))
      (functions-kept t made code tables _ c l s (λ b k g. kept b k (omega arith)))
      classes-kept
      (set_next constants_from c.constants i tables (omega (arith, s.classes, s.limited.classes, s.tables-room))))

  constant-sound : Sound t made code (set tables (constants_from + c.constants) i) (with_constants (c.constants + 1) c) l
  constant-sound =
      let k = kept codes_from c.functions (omega (arith, s.functions, s.limited.functions)) in record {
        code-room = s.code-room;
        tables-room = omega (arith, s.tables-room, length-set tables (constants_from + c.constants) i);
        made-room = s.made-room;
        limited = s.limited;
        symbols = s.symbols;
        strings = s.strings;
        functions = s.functions;
        classes = s.classes;
        constants = omega arith;
        methods = s.methods;
        words = s.words;
        base = s.base;
        made-count = s.made-count;
        names = subst (Every (MadeWithin made c.made)) (sym (kept 0 c.symbols (omega (arith, s.symbols, s.limited.symbols)))) s.names;
        heads = subst (Every (NamedWithin c.symbols)) (sym (kept heads_from c.functions (omega (arith, s.functions, s.limited.functions)))) s.heads;
        codes = subst (Every (EndsWithin c.done)) (sym k) s.codes;
        class-methods = subst (Every (EndsWithin c.methods)) (sym (kept class_methods_from c.classes (omega (arith, s.classes, s.limited.classes)))) s.class-methods;
        finished = s.finished ∙ sym (ap total k);
        symbol-index = symbols-indexed t made tables _ c.symbols
            (set-above symbol_index_from symbol_buckets (constants_from + c.constants) i tables (omega (arith, s.classes, s.limited.classes)))
            (kept 0 c.symbols (omega (arith, s.symbols, s.limited.symbols))) s.symbol-index;
        string-index = strings-indexed t tables _ c.strings
            (set-above string_index_from string_buckets (constants_from + c.constants) i tables (omega (arith, s.classes, s.limited.classes)))
            (kept strings_from c.strings (omega (arith, s.strings, s.limited.strings))) s.string-index;
      }

  pub constant-added : CountedAs (with_constants (c.constants + 1) c) (with_constants (c.constants + 1) c) t made code (set tables (constants_from + c.constants) i) l
      (with_tables (add_constant i (state_of t made code tables c).tables) (state_of t made code tables c))
  constant-added = record { counts = refl; state = constant-state; sound = constant-sound }

-- ---- it ends

-- a class gets its name and its methods
classes-put : (t ms xs ks : List ℕ) (i x k : ℕ) → classes_of t ms (set xs i x) (set ks i k) ≡ set (classes_of t ms xs ks) i (class_of t ms x k)
unfolding classes_of
classes-put t ms [] ks i x k = refl
classes-put t ms (y ∷ xs) [] zero x k = refl
classes-put t ms (y ∷ xs) [] (suc i) x k = refl
classes-put t ms (y ∷ xs) (j ∷ ks) zero x k = refl
classes-put t ms (y ∷ xs) (j ∷ ks) (suc i) x k = ap (λ (cs : List Class). class_of t ms y j ∷ cs) (classes-put t ms xs ks i x k)

module _ (t made code tables list : List ℕ) (i at n w : ℕ) (c : Counts) (l : Limits) (s : Sound t made code tables c l)
    (number : i < c.classes) (enough : n ≤ length list) (fits : c.methods + n ≤ c.functions) (place : w ≡ c.methods * 65536 + n) where
  abbrev copied : List ℕ
  copied = paste tables (methods_from + c.methods) list n

  abbrev named : List ℕ
  named = set copied (class_names_from + i) at

  abbrev all : List ℕ
  all = set named (class_methods_from + i) w

  abbrev xs : List ℕ
  xs = region class_names_from c.classes tables

  abbrev ks : List ℕ
  ks = region class_methods_from c.classes tables

  small : (c.classes ≤ 64) × (c.functions ≤ 256) × (16384 ≤ length tables)
  small = (omega (arith, s.classes, s.limited.classes), omega (arith, s.functions, s.limited.functions), s.tables-room)

  there : methods_from + c.methods + n ≤ length tables
  there = let z = small in omega arith

  copied-below : (b k : ℕ) → b + k ≤ methods_from + c.methods → region b k copied ≡ region b k tables
  copied-below b k g = region-same (methods_from + c.methods) b k copied tables g (paste-take tables list (methods_from + c.methods) n there enough (methods_from + c.methods) (le_refl _))

  all-below : (b k : ℕ) → b + k ≤ class_names_from → region b k all ≡ region b k tables
  all-below b k g = set_below b k (class_methods_from + i) w named (omega arith) ∙ set_below b k (class_names_from + i) at copied (omega arith) ∙ copied-below b k (omega arith)

  all_above : (b k : ℕ) → methods_from ≤ b → region b k all ≡ region b k copied
  all_above b k g = let z = small in set-above b k (class_methods_from + i) w named (omega arith) ∙ set-above b k (class_names_from + i) at copied (omega arith)

  index_kept : (b k : ℕ) → constants_from ≤ b → region b k all ≡ region b k tables
  index_kept b k g = let z = small in
      all_above b k (omega arith)
      ∙ region-same-end (methods_from + c.methods + n) b k copied tables (omega arith) (drop-paste tables (methods_from + c.methods) list n (omega arith) enough)

  constants-kept : region constants_from c.constants all ≡ region constants_from c.constants tables
  constants-kept = index_kept constants_from c.constants (omega arith)

  names-after : region class_names_from c.classes all ≡ set xs i at
  names-after = let z = small in
      set_below class_names_from c.classes (class_methods_from + i) w named (omega arith) ∙ set_here class_names_from c.classes i at copied number
      ∙ ap (λ (z : List ℕ). set z i at) (copied-below class_names_from c.classes (omega arith))

  places-all : region class_methods_from c.classes all ≡ set ks i w
  places-all = let z = small in
      set_here class_methods_from c.classes i w named number
      ∙ ap (λ (z : List ℕ). set z i w) (set-above class_methods_from c.classes (class_names_from + i) at copied (omega arith) ∙ copied-below class_methods_from c.classes (omega arith))

  abbrev ms : List ℕ
  ms = region methods_from 256 tables

  abbrev ms' : List ℕ
  ms' = region methods_from 256 all

  -- the methods so far stay, and the new ones are there
  methods-same : take c.methods ms ≡ take c.methods ms'
  methods-same = let z = small in
      region-take c.methods methods_from 256 tables (omega arith) ∙ sym (copied-below methods_from c.methods (omega arith))
      ∙ sym (all_above methods_from c.methods (omega arith)) ∙ sym (region-take c.methods methods_from 256 all (omega arith))

  place-of : place_of w ≡ c.methods
  place-of = let z = small in omega arith

  count-of : count_of w ≡ n
  count-of = let z = small in omega arith

  new-methods : region (place_of w) (count_of w) ms' ≡ take n list
  new-methods = let z = small in
      (λ j. region (place-of j) (count-of j) ms') ∙ region-region methods_from 256 c.methods n all (omega arith)
      ∙ all_above (methods_from + c.methods) n (omega arith) ∙ paste-here tables list (methods_from + c.methods) n there enough

  new-class : class_of t ms' at w ≡ record { name = name_at t at; methods = map (method_from t) (take n list) }
  unfolding class_of
  new-class = λ j. record { name = name_at t at; methods = map (method_from t) (new-methods j) }

  classes-all : classes_of t ms' (region class_names_from c.classes all) (region class_methods_from c.classes all)
      ≡ set (classes_of t ms xs ks) i (record { name = name_at t at; methods = map (method_from t) (take n list) })
  classes-all =
      (λ j. classes_of t ms' (names-after j) (places-all j)) ∙ classes-put t ms' xs ks i at w
      ∙ (λ j. set (sym (classes-same t ms ms' xs ks c.methods s.class-methods methods-same) j) i (new-class j))

  end-state : state_of t made code all (with_methods (c.methods + n) c)
      ≡ with_tables (with_classes (set (state_of t made code tables c).tables.classes i (record { name = name_at t at; methods = map (method_from t) (take n list) })) (state_of t made code tables c).tables) (state_of t made code tables c)
  unfolding state_of tables_of
  end-state = state-eq _ _ refl (tables-eq _ _
      (ap (map (spelled t made)) (all-below 0 c.symbols (omega (arith, s.symbols, s.limited.symbols))))
      (ap (map (text_at t)) (all-below strings_from c.strings (omega (arith, s.strings, s.limited.strings))))
      (functions-kept t made code tables all c l s all-below)
      classes-all
      constants-kept)

  end-sound : Sound t made code all (with_methods (c.methods + n) c) l
  end-sound =
      let k = all-below codes_from c.functions (omega (arith, s.functions, s.limited.functions)) in record {
        code-room = s.code-room;
        tables-room = omega (arith, s.tables-room, length-set named (class_methods_from + i) w, length-set copied (class_names_from + i) at, length-paste tables (methods_from + c.methods) list n there enough);
        made-room = s.made-room;
        limited = s.limited;
        symbols = s.symbols;
        strings = s.strings;
        functions = s.functions;
        classes = s.classes;
        constants = s.constants;
        methods = fits;
        words = s.words;
        base = s.base;
        made-count = s.made-count;
        names = subst (Every (MadeWithin made c.made)) (sym (all-below 0 c.symbols (omega (arith, s.symbols, s.limited.symbols)))) s.names;
        heads = subst (Every (NamedWithin c.symbols)) (sym (all-below heads_from c.functions (omega (arith, s.functions, s.limited.functions)))) s.heads;
        codes = subst (Every (EndsWithin c.done)) (sym k) s.codes;
        class-methods = subst (Every (EndsWithin (c.methods + n))) (sym places-all)
            (every_set i w (omega (arith, place-of, count-of)) (every_map (λ k h. ends-within-more c.methods (c.methods + n) k (omega arith) h) s.class-methods));
        finished = s.finished ∙ sym (ap total k);
        symbol-index = symbols-indexed t made tables _ c.symbols (index_kept symbol_index_from symbol_buckets (omega arith)) (all-below 0 c.symbols (omega (arith, s.symbols, s.limited.symbols))) s.symbol-index;
        string-index = strings-indexed t tables _ c.strings (index_kept string_index_from string_buckets (omega arith)) (all-below strings_from c.strings (omega (arith, s.strings, s.limited.strings))) s.string-index;
      }

  pub class-ended : (tables' : List ℕ) → tables' ≡ copied → CountedAs (with_methods (c.methods + n) c) (with_methods (c.methods + n) c) t made code (set (set tables' (class_names_from + i) at) (class_methods_from + i) w) l
      (with_tables (with_classes (set (state_of t made code tables c).tables.classes i (record { name = name_at t at; methods = map (method_from t) (take n list) })) (state_of t made code tables c).tables) (state_of t made code tables c))
  class-ended tables' e = rw e (record { counts = refl; state = end-state; sound = end-sound })
