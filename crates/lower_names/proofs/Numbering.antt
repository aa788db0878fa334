-- A symbol or a string gets its number: what is left where it is old, where it is new, and where there is no room for it.
use Prim.Native.Nat.{ℕ, ◌+◌, ◌≤◌, ◌<◌}
use mathlib.Core.Path.{◌≡◌, refl, sym, ap, subst, ◌∙◌}
use mathlib.Core.Option.{Option, none, some}
use mathlib.Core.List.{List, [], ◌∷◌, ◌++◌, map, map-append}
use native.Mathlib.Omega.{arith}
use lib.ListN.{length, take, drop, set, length-append, length-set, length-map}
use Rattle.definitions.specs.Bytes.{Name, Text, same, position}
use Rattle.definitions.specs.Tables.{Tables, add_symbol, add_string}
use Rattle.definitions.proofs.Resolve.{position-lt}
use Rattle.state.specs.Words.{region, text_at, instrs_of}
use Rattle.state.specs.Index.{bucket_of, Covered, noted}
use Rattle.state.specs.State.{symbol_index_from, symbol_buckets, string_index_from, string_buckets, SymbolIndex, StringIndex, strings_from, heads_from, codes_from, class_names_from}
use Rattle.state.specs.State.{class_methods_from, methods_from, constants_from, done_from, spelled, functions_of, classes_of, State, tables_of, state_of, Sound, MadeWithin, total, NumberGiven}
use Rattle.state.specs.State.{found_or, symbol_number, with_symbol, string_number, with_string, with_tables}
use Rattle.state.specs.declared.Counts.{Counts}
use Rattle.state.specs.declared.Limits.{Limits}
use Rattle.state.specs.Answered.{At, Over}
use Rattle.state.proofs.Index.{bucket-below, covered-snoc, symbols-indexed, strings-indexed}
use Rattle.state.proofs.Regions.{region-length, set_first, set_next, set-above, set_below, every-snoc, every_map, made-within-more}
use Rattle.state.proofs.Views.{symbols-length, strings-length}
use Rattle.state.proofs.Answers.{left-none, left_as}
use Rattle.lower_emit.proofs.Begun.{tables-eq}
use Rattle.names.proofs.Finding.{found-le}

-- ---- a part of n words from a on is now ys, all else is as it was

pub record Renewed (a n : ℕ) (xs zs ys : List ℕ) : Type 0 where
  pub size : length zs ≡ length xs
  pub here : region a n zs ≡ ys
  pub below : (b k : ℕ) → b + k ≤ a → region b k zs ≡ region b k xs
  pub above : (b k : ℕ) → a + n ≤ b → region b k zs ≡ region b k xs

-- ---- a place that is found, or not

module _ {R : Type 0} (n : ℕ) (a b : R) where
  choice : Option ℕ → R
  choice o = elim o [ some k ↦ a | none ↦ b ]

  choose-old : (o : Option ℕ) → found_or n o < n → choice o ≡ a
  unfolding found_or choice
  choose-old none h = absurd (omega arith)
  choose-old (some k) h = refl

  choose-new : (o : Option ℕ) → ((k : ℕ) → o ≡ some k → k < n) → n ≤ found_or n o → choice o ≡ b
  unfolding found_or choice
  choose-new none f h = refl
  choose-new (some k) f h = let z = f k refl in absurd (omega arith)

module _ (x : Name) (t : Tables) where
  pub symbol-old : symbol_number x t < length t.symbols → with_symbol x t ≡ t
  unfolding symbol_number with_symbol choice
  symbol-old h = choose-old (length t.symbols) t (add_symbol x t) (position (same x) t.symbols) h

  pub symbol-new : length t.symbols ≤ symbol_number x t → with_symbol x t ≡ add_symbol x t
  unfolding symbol_number with_symbol choice
  symbol-new h = choose-new (length t.symbols) t (add_symbol x t) (position (same x) t.symbols) (position-lt (same x) t.symbols) h

  pub string-old : string_number x t < length t.strings → with_string x t ≡ t
  unfolding string_number with_string choice
  string-old h = choose-old (length t.strings) t (add_string x t) (position (same x) t.strings) h

  pub string-new : length t.strings ≤ string_number x t → with_string x t ≡ add_string x t
  unfolding string_number with_string choice
  string-new h = choose-new (length t.strings) t (add_string x t) (position (same x) t.strings) (position-lt (same x) t.strings) h

  pub symbol-le : symbol_number x t ≤ length t.symbols
  unfolding symbol_number
  symbol-le = found-le (same x) t.symbols

  -- its number is one of the symbols with it
  pub symbol-there : symbol_number x t < length (with_symbol x t).symbols
  unfolding symbol_number with_symbol found_or
  symbol-there = go (position (same x) t.symbols) (position-lt (same x) t.symbols)
    where
      go : (o : Option ℕ) → ((k : ℕ) → o ≡ some k → k < length t.symbols) → found_or (length t.symbols) o < length (elim o as (λ z. Tables) [ some k ↦ t | none ↦ add_symbol x t ]).symbols
      go none f = omega (arith, length-append t.symbols (x ∷ []))
      go (some k) f = f k refl

  pub string-le : string_number x t ≤ length t.strings
  unfolding string_number
  string-le = found-le (same x) t.strings

-- ---- a symbol

-- the counts after a new symbol, whose made name takes `grow` bytes
abbrev pub one_symbol : ℕ → Counts → Counts
one_symbol grow c = record {
  symbols = c.symbols + 1;
  strings = c.strings;
  functions = c.functions;
  classes = c.classes;
  methods = c.methods;
  constants = c.constants;
  made = c.made + grow;
  «open» = c.open;
  base = c.base;
  done = c.done;
}

module _ (tree made code tables : List ℕ) (c : Counts) (l : Limits) (s : Sound tree made code tables c l) (w i : ℕ) where
  abbrev st : State
  st = state_of tree made code tables c

  abbrev x : Name
  x = spelled tree made w

  abbrev want : State
  want = with_tables (with_symbol x st.tables) st

  abbrev Found : Type 0
  Found = i ≡ found_or c.symbols (position (same x) (map (spelled tree made) (region 0 c.symbols tables)))

  found_number : Found → i ≡ symbol_number x st.tables
  unfolding symbol_number state_of tables_of
  found_number e = e ∙ ap (λ (n : ℕ). found_or n (position (same x) (map (spelled tree made) (region 0 c.symbols tables)))) (sym (symbols-length tree made code tables c l s))

  pub intern-old : Found → i < c.symbols → NumberGiven (At i c) tree made code tables c l (symbol_number x st.tables) want
  unfolding NumberGiven
  intern-old e h =
      let f = found_number e in
      let n = symbols-length tree made code tables c l s in
      (f, left_as (sym (ap (λ (t : Tables). with_tables t st) (symbol-old x st.tables (omega arith)))) (left-none tree s))

  new : Found → c.symbols ≤ i → with_symbol x st.tables ≡ add_symbol x st.tables
  new e h =
      let f = found_number e in
      let n = symbols-length tree made code tables c l s in
      symbol-new x st.tables (omega arith)

  pub intern-over : Found → c.symbols ≤ i → l.symbols ≤ c.symbols → NumberGiven Over tree made code tables c l (symbol_number x st.tables) want
  unfolding NumberGiven
  intern-over e h full inside =
      let n = symbols-length tree made code tables c l s in
      let k = ap (λ (t : Tables). length t.symbols) (new e h) in
      let m = length-append st.tables.symbols (x ∷ []) in
      omega (arith, inside.symbols)

  -- zs: the tables with the word w after the symbols, and its bucket noted
  module _ (zs : List ℕ) (r : Renewed symbol_index_from symbol_buckets (set tables c.symbols w) zs (noted (region symbol_index_from symbol_buckets (set tables c.symbols w)) (bucket_of symbol_buckets x) c.symbols))
      (room : c.symbols < l.symbols) where
    above : (a n : ℕ) → 1024 ≤ a → a + n ≤ symbol_index_from → region a n zs ≡ region a n tables
    above a n h k = r.below a n k ∙ set-above a n c.symbols w tables (omega (arith, s.limited))

    here : region 0 (c.symbols + 1) zs ≡ region 0 c.symbols tables ++ w ∷ []
    here = r.below 0 (c.symbols + 1) (omega (arith, s.limited)) ∙ set_first c.symbols w tables (omega (arith, s.limited))

    named : map (spelled tree made) (region 0 (c.symbols + 1) zs) ≡ map (spelled tree made) (region 0 c.symbols tables) ++ x ∷ []
    named = ap (map (spelled tree made)) here ∙ map-append (spelled tree made) (region 0 c.symbols tables) (w ∷ [])

    symbol-state : (grow : ℕ) → state_of tree made code zs (one_symbol grow c) ≡ with_tables (add_symbol x st.tables) st
    unfolding state_of tables_of
    symbol-state grow =
        let f = s.functions in
        let g = s.classes in
        let d = s.limited in
        ap (λ (t : Tables). record { stack = instrs_of tree (take c.open code); tables = t }) (tables-eq _ _
        named
        (ap (map (text_at tree)) (above strings_from c.strings (omega arith) (omega (arith, s.strings, d.strings))))
        (λ j. functions_of tree (drop done_from code) (above heads_from c.functions (omega arith) (omega (arith, f, d.functions)) j) (above codes_from c.functions (omega arith) (omega (arith, f, d.functions)) j))
        (λ j. classes_of tree (above methods_from 256 (omega arith) (omega arith) j) (above class_names_from c.classes (omega arith) (omega (
          arith,
          g,
          d.classes,
        )) j) (above class_methods_from c.classes (omega arith) (omega (arith, g, d.classes)) j))
        (above constants_from c.constants (omega arith) (omega (arith, g, s.constants, d.classes))))

    symbol-indexed : SymbolIndex tree made zs (c.symbols + 1)
    symbol-indexed =
        let b : region symbol_index_from symbol_buckets (set tables c.symbols w) ≡ region symbol_index_from symbol_buckets tables = set-above symbol_index_from symbol_buckets c.symbols w tables (omega (arith, s.limited)) in
        let e : region symbol_index_from symbol_buckets zs ≡ noted (region symbol_index_from symbol_buckets tables) (bucket_of symbol_buckets x) c.symbols = r.here ∙ ap (λ (bs : List ℕ). noted bs (bucket_of symbol_buckets x) c.symbols) b in
        let m = region-length symbol_index_from symbol_buckets tables (omega (arith, s.tables-room)) in
        let q = bucket-below symbol_buckets x (omega arith) in
        let v = covered-snoc symbol_buckets (region symbol_index_from symbol_buckets tables) x c.symbols (map (spelled tree made) (region 0 c.symbols tables)) (omega arith) s.symbol-index
        (length-map (region 0 c.symbols tables) (spelled tree made) ∙ region-length 0 c.symbols tables (omega (arith, s.tables-room, s.limited))) in
        subst (λ (bs : List ℕ). Covered symbol_buckets bs 0 (map (spelled tree made) (region 0 (c.symbols + 1) zs))) (sym e)
        (subst (Covered symbol_buckets (noted (region symbol_index_from symbol_buckets tables) (bucket_of symbol_buckets x) c.symbols) 0) (sym named) v)

    symbol-sound : (grow : ℕ) → grow ≤ 20 → MadeWithin made (c.made + grow) w → Sound tree made code zs (one_symbol grow c) l
    symbol-sound grow small within =
        let f = s.functions in
        let g = s.classes in
        let d = s.limited in record {
          code-room = s.code-room;
          tables-room = omega (arith, s.tables-room, r.size, length-set tables c.symbols w);
          made-room = s.made-room;
          limited = s.limited;
          symbols = omega arith;
          strings = s.strings;
          functions = s.functions;
          classes = s.classes;
          constants = s.constants;
          methods = s.methods;
          words = s.words;
          base = s.base;
          made-count = omega (arith, s.made-count);
          names = rw here (every-snoc (every_map (λ a. made-within-more made c.made (c.made + grow) a (omega arith)) s.names) within);
          heads = rw (above heads_from c.functions (omega arith) (omega (arith, f, d.functions))) (every_map (λ a z. omega arith) s.heads);
          codes = rw (above codes_from c.functions (omega arith) (omega (arith, f, d.functions))) s.codes;
          class-methods = rw (above class_methods_from c.classes (omega arith) (omega (arith, g, d.classes))) s.class-methods;
          finished = s.finished ∙ ap total (sym (above codes_from c.functions (omega arith) (omega (arith, f, d.functions))));
          symbol-index = symbol-indexed;
          string-index = strings-indexed tree tables zs c.strings (r.above string_index_from string_buckets (omega arith) ∙ set-above string_index_from string_buckets c.symbols w tables (omega (arith, s.limited)))
              (above strings_from c.strings (omega arith) (omega (arith, s.strings, d.strings))) s.string-index;
        }

    pub intern-new : (grow : ℕ) → grow ≤ 20 → MadeWithin made (c.made + grow) w → Found → c.symbols ≤ i →
        NumberGiven (At c.symbols (one_symbol grow c)) tree made code zs c l (symbol_number x st.tables) want
    unfolding NumberGiven
    intern-new grow small within e h =
        let f = found_number e in
        let n = symbols-length tree made code tables c l s in
        let k = symbol-le x st.tables in (
          omega arith,
          record {
            state = symbol-state grow ∙ ap (λ (t : Tables). with_tables t st) (sym (new e h));
            base = refl;
            paced = record { methods = omega arith; constants = omega arith };
            sound = symbol-sound grow small within;
          },
        )

-- ---- a string

abbrev pub one_string : Counts → Counts
one_string c = record {
  symbols = c.symbols;
  strings = c.strings + 1;
  functions = c.functions;
  classes = c.classes;
  methods = c.methods;
  constants = c.constants;
  made = c.made;
  «open» = c.open;
  base = c.base;
  done = c.done;
}

module _ (tree made code tables : List ℕ) (c : Counts) (l : Limits) (s : Sound tree made code tables c l) (p i : ℕ) where
  abbrev st₂ : State
  st₂ = state_of tree made code tables c

  abbrev text : Text
  text = text_at tree p

  abbrev want₂ : State
  want₂ = with_tables (with_string text st₂.tables) st₂

  abbrev FoundText : Type 0
  FoundText = i ≡ found_or c.strings (position (same text) (map (text_at tree) (region strings_from c.strings tables)))

  found-string : FoundText → i ≡ string_number text st₂.tables
  unfolding string_number state_of tables_of
  found-string e = e ∙ ap (λ (n : ℕ). found_or n (position (same text) (map (text_at tree) (region strings_from c.strings tables)))) (sym (strings-length tree made code tables c l s))

  pub text-old : FoundText → i < c.strings → NumberGiven (At i c) tree made code tables c l (string_number text st₂.tables) want₂
  unfolding NumberGiven
  text-old e h =
      let f = found-string e in
      let n = strings-length tree made code tables c l s in
      (f, left_as (sym (ap (λ (t : Tables). with_tables t st₂) (string-old text st₂.tables (omega arith)))) (left-none tree s))

  new-text : FoundText → c.strings ≤ i → with_string text st₂.tables ≡ add_string text st₂.tables
  new-text e h =
      let f = found-string e in
      let n = strings-length tree made code tables c l s in
      string-new text st₂.tables (omega arith)

  pub text-over : FoundText → c.strings ≤ i → l.strings ≤ c.strings → NumberGiven Over tree made code tables c l (string_number text st₂.tables) want₂
  unfolding NumberGiven
  text-over e h full inside =
      let n = strings-length tree made code tables c l s in
      let k = ap (λ (t : Tables). length t.strings) (new-text e h) in
      let m = length-append st₂.tables.strings (text ∷ []) in
      omega (arith, inside.strings)

  -- zs: the tables with the place p after the strings, and its bucket noted
  module _ (zs : List ℕ)
      (r : Renewed string_index_from string_buckets (set tables (strings_from + c.strings) p) zs
      (noted (region string_index_from string_buckets (set tables (strings_from + c.strings) p)) (bucket_of string_buckets text) c.strings))
      (room : c.strings < l.strings) where
    above-text : (a n : ℕ) → 1536 ≤ a → a + n ≤ string_index_from → region a n zs ≡ region a n tables
    above-text a n h k = r.below a n k ∙ set-above a n (strings_from + c.strings) p tables (omega (arith, s.limited))

    here-text : region strings_from (c.strings + 1) zs ≡ region strings_from c.strings tables ++ p ∷ []
    here-text = r.below strings_from (c.strings + 1) (omega (arith, s.limited)) ∙ set_next strings_from c.strings p tables (omega (arith, s.limited))

    spelt : map (text_at tree) (region strings_from (c.strings + 1) zs) ≡ map (text_at tree) (region strings_from c.strings tables) ++ text ∷ []
    spelt = ap (map (text_at tree)) here-text ∙ map-append (text_at tree) (region strings_from c.strings tables) (p ∷ [])

    symbols-kept : region 0 c.symbols zs ≡ region 0 c.symbols tables
    symbols-kept = r.below 0 c.symbols (omega (arith, s.symbols, s.limited)) ∙ set_below 0 c.symbols (strings_from + c.strings) p tables (omega (arith, s.symbols, s.limited))

    string-state : state_of tree made code zs (one_string c) ≡ with_tables (add_string text st₂.tables) st₂
    unfolding state_of tables_of
    string-state =
        let f = s.functions in
        let g = s.classes in
        let d = s.limited in
        ap (λ (t : Tables). record { stack = instrs_of tree (take c.open code); tables = t }) (tables-eq _ _
        (ap (map (spelled tree made)) symbols-kept)
        spelt
        (λ j. functions_of tree (drop done_from code) (above-text heads_from c.functions (omega arith) (omega (arith, f, d.functions)) j) (above-text codes_from c.functions (omega arith) (omega (arith, f, d.functions)) j))
        (λ j. classes_of tree (above-text methods_from 256 (omega arith) (omega arith) j) (above-text class_names_from c.classes (omega arith) (omega (
          arith,
          g,
          d.classes,
        )) j) (above-text class_methods_from c.classes (omega arith) (omega (arith, g, d.classes)) j))
        (above-text constants_from c.constants (omega arith) (omega (arith, g, s.constants, d.classes))))

    string-indexed : StringIndex tree zs (c.strings + 1)
    string-indexed =
        let b : region string_index_from string_buckets (set tables (strings_from + c.strings) p) ≡ region string_index_from string_buckets tables = set-above string_index_from string_buckets (strings_from + c.strings) p tables (omega (
          arith,
          s.limited,
        )) in
        let e : region string_index_from string_buckets zs ≡ noted (region string_index_from string_buckets tables) (bucket_of string_buckets text) c.strings = r.here
        ∙ ap (λ (bs : List ℕ). noted bs (bucket_of string_buckets text) c.strings) b in
        let m = region-length string_index_from string_buckets tables (omega (arith, s.tables-room)) in
        let q = bucket-below string_buckets text (omega arith) in
        let v = covered-snoc string_buckets (region string_index_from string_buckets tables) text c.strings (map (text_at tree) (region strings_from c.strings tables)) (omega arith) s.string-index
        (length-map (region strings_from c.strings tables) (text_at tree) ∙ region-length strings_from c.strings tables (omega (arith, s.tables-room, s.limited))) in
        subst (λ (bs : List ℕ). Covered string_buckets bs 0 (map (text_at tree) (region strings_from (c.strings + 1) zs))) (sym e)
        (subst (Covered string_buckets (noted (region string_index_from string_buckets tables) (bucket_of string_buckets text) c.strings) 0) (sym spelt) v)

    string-sound : Sound tree made code zs (one_string c) l
    string-sound =
        let f = s.functions in
        let g = s.classes in
        let d = s.limited in record {
          code-room = s.code-room;
          tables-room = omega (arith, s.tables-room, r.size, length-set tables (strings_from + c.strings) p);
          made-room = s.made-room;
          limited = s.limited;
          symbols = s.symbols;
          strings = omega arith;
          functions = s.functions;
          classes = s.classes;
          constants = s.constants;
          methods = s.methods;
          words = s.words;
          base = s.base;
          made-count = s.made-count;
          names = rw symbols-kept s.names;
          heads = rw (above-text heads_from c.functions (omega arith) (omega (arith, f, d.functions))) s.heads;
          codes = rw (above-text codes_from c.functions (omega arith) (omega (arith, f, d.functions))) s.codes;
          class-methods = rw (above-text class_methods_from c.classes (omega arith) (omega (arith, g, d.classes))) s.class-methods;
          finished = s.finished ∙ ap total (sym (above-text codes_from c.functions (omega arith) (omega (arith, f, d.functions))));
          symbol-index = symbols-indexed tree made tables zs c.symbols (above-text symbol_index_from symbol_buckets (omega arith) (omega arith)) symbols-kept s.symbol-index;
          string-index = string-indexed;
        }

    pub text-new : FoundText → c.strings ≤ i → NumberGiven (At c.strings (one_string c)) tree made code zs c l (string_number text st₂.tables) want₂
    unfolding NumberGiven
    text-new e h =
        let f = found-string e in
        let n = strings-length tree made code tables c l s in
        let k = string-le text st₂.tables in (
          omega arith,
          record {
            state = string-state ∙ ap (λ (t : Tables). with_tables t st₂) (sym (new-text e h));
            base = refl;
            paced = record { methods = omega arith; constants = omega arith };
            sound = string-sound;
          },
        )
