-- A function that ends: its words are copied after the finished ones, and its place is set.
use Prim.Native.Nat.{ℕ, zero, suc, ◌+◌, ◌*◌, ◌-◌, ◌≤◌, ◌<◌}
use mathlib.Core.Path.{◌≡◌, refl, sym, ap, ◌∙◌, subst}
use mathlib.Core.List.{List, [], ◌∷◌, map}
use native.Mathlib.Omega.{arith}
use native.Mathlib.Nat.{le_refl}
use lib.ListN.{length, take, drop, set, get_or, length-set, length-drop, length-map}
use lib.Seq.{paste, length-paste, take-take}
use Rattle.definitions.specs.Tables.{set_code}
use Rattle.state.specs.Words.{region, text_at, instr_of, instrs_of}
use Rattle.state.specs.State.{strings_from, heads_from, codes_from, class_names_from, class_methods_from, methods_from, constants_from, done_from, place_of, count_of, spelled, function_from}
use Rattle.state.specs.State.{functions_of, classes_of, tables_of, state_of, Every, every, EndsWithin, MadeWithin, NamedWithin, total, Sound, symbol_index_from, symbol_buckets, string_index_from}
use Rattle.state.specs.State.{string_buckets}
use Rattle.state.specs.Steps.{function_ended}
use Rattle.state.specs.declared.Counts.{Counts}
use Rattle.state.specs.declared.Limits.{Limits}
use Rattle.state.proofs.Index.{symbols-indexed, strings-indexed}
use Rattle.state.proofs.Regions.{region-same, region-length, region-drop, set_here, set_below, set-above, every_map, every_set, ends-within-more, functions-set, functions-same, total-set}
use Rattle.state.proofs.Emission.{state-eq}
use Rattle.lower_emit.specs.Nesting.{without, function_body, Moved}
use Rattle.lower_emit.proofs.Setting.{map-take, map-drop, drop-take, paste-take, paste-here}
use Rattle.lower_emit.proofs.Begun.{tables-eq}

-- the code of function f is as long as its count says
body-count : (t fin hs ks : List ℕ) (n f : ℕ) → length hs ≡ length ks → Every (EndsWithin n) ks → n ≤ length fin → f < length ks → length (function_body (functions_of t fin hs ks) f) ≡ count_of (get_or ks f 0)
unfolding functions_of function_from function_body instrs_of
body-count t fin hs [] n f e w h g = absurd (omega arith)
body-count t fin [] (k ∷ ks) n f e w h g = absurd (omega arith)
body-count t fin (x ∷ hs) (k ∷ ks) n zero e (every p w) h g = length-map (region (place_of k) (count_of k) fin) (instr_of t) ∙ region-length (place_of k) (count_of k) fin (omega arith)
body-count t fin (x ∷ hs) (k ∷ ks) n (suc f) e (every p w) h g = body-count t fin hs ks n f (omega arith) w h (omega arith)

module _ (t made code tables : List ℕ) (f b w : ℕ) (c : Counts) (l : Limits) (s : Sound t made code tables c l) (number : f < c.functions)
    (place : w ≡ c.done * 65536 + (c.open - c.base)) where
  abbrev n : ℕ
  n = c.open - c.base

  abbrev moved : List ℕ
  moved = paste code (done_from + c.done) (drop c.base code) n

  abbrev after : List ℕ
  after = set tables (codes_from + f) w

  abbrev hs : List ℕ
  hs = region heads_from c.functions tables

  abbrev ks : List ℕ
  ks = region codes_from c.functions tables

  small : (c.open + c.done ≤ 8192) × (c.base ≤ c.open) × (16384 ≤ length code) × (c.functions ≤ 256) × (16384 ≤ length tables)
  small = (omega (arith, s.words, s.limited.instructions), s.base, s.code-room, omega (arith, s.functions, s.limited.functions), s.tables-room)

  room : done_from + c.done + n ≤ length code
  room = let z = small in omega arith

  enough : n ≤ length (drop c.base code)
  enough = let z = small in simp length-drop (omega arith)

  place-of : place_of w ≡ c.done
  place-of = let z = small in omega arith

  count-of : count_of w ≡ n
  count-of = let z = small in omega arith

  -- the finished words so far stay, and the new ones are there
  finished-same : take c.done (drop done_from code) ≡ take c.done (drop done_from moved)
  unfolding region
  finished-same = sym (region-same (done_from + c.done) done_from c.done moved code (le_refl _) (paste-take code (drop c.base code) (done_from + c.done) n room enough (done_from + c.done) (le_refl _)))

  new-words : region (place_of w) (count_of w) (drop done_from moved) ≡ take n (drop c.base code)
  new-words = (λ i. region (place-of i) (count-of i) (drop done_from moved)) ∙ region-drop done_from c.done n moved ∙ paste-here code (drop c.base code) (done_from + c.done) n room enough

  new-code : instrs_of t (region (place_of w) (count_of w) (drop done_from moved)) ≡ drop c.base (instrs_of t (take c.open code))
  unfolding instrs_of
  new-code = let z = small in
      ap (map (instr_of t)) (new-words ∙ sym (drop-take c.base c.open code (omega arith) (omega arith))) ∙ map-drop (instr_of t) c.base (take c.open code)

  kept-below : (a k : ℕ) → a + k ≤ codes_from → region a k after ≡ region a k tables
  kept-below a k h = set_below a k (codes_from + f) w tables (omega arith)

  kept_above : (a k : ℕ) → class_names_from ≤ a → region a k after ≡ region a k tables
  kept_above a k h = let z = small in set-above a k (codes_from + f) w tables (omega arith)

  codes-after : region codes_from c.functions after ≡ set ks f w
  codes-after = set_here codes_from c.functions f w tables number

  functions-after : functions_of t (drop done_from moved) (region heads_from c.functions after) (region codes_from c.functions after)
      ≡ set_code (functions_of t (drop done_from code) hs ks) f (drop c.base (instrs_of t (take c.open code)))
  functions-after = let z = small in
      (λ i. functions_of t (drop done_from moved) (kept-below heads_from c.functions (omega arith) i) (codes-after i))
      ∙ functions-set t (drop done_from moved) hs ks f w
      ∙ (λ i. set_code (sym (functions-same t (drop done_from code) (drop done_from moved) hs ks c.done s.codes finished-same) i) f (new-code i))

  stack-after : instrs_of t (take c.base moved) ≡ take c.base (instrs_of t (take c.open code))
  unfolding instrs_of
  stack-after = let z = small in
      ap (map (instr_of t)) (paste-take code (drop c.base code) (done_from + c.done) n room enough c.base (omega arith) ∙ sym (take-take c.base c.open code (omega arith)))
      ∙ map-take (instr_of t) c.base (take c.open code)

  end-state : state_of t made moved after (without b c) ≡ function_ended c.base f (state_of t made code tables c)
  unfolding state_of tables_of function_ended
  end-state =
      let x = kept-below 0 c.symbols (omega (arith, s.symbols, s.limited.symbols)) in
      let y = kept-below strings_from c.strings (omega (arith, s.strings, s.limited.strings)) in
      let p = kept_above methods_from 256 (omega arith) in
      let q = kept_above class_names_from c.classes (omega arith) in
      let r = kept_above class_methods_from c.classes (omega arith) in
      state-eq _ _ stack-after (tables-eq _ _ (ap (map (spelled t made)) x) (ap (map (text_at t)) y) functions-after
      (λ i. classes_of t (p i) (q i) (r i)) (kept_above constants_from c.constants (omega arith)))

  module _ (started : function_body (state_of t made code tables c).tables.functions f ≡ []) (around : b ≤ c.base) where
    no_words : count_of (get_or ks f 0) ≡ 0
    unfolding state_of tables_of
    no_words = let z = small in
        let u : length hs ≡ c.functions = region-length heads_from c.functions tables (omega arith) in
        let v : length ks ≡ c.functions = region-length codes_from c.functions tables (omega arith) in
        sym (body-count t (drop done_from code) hs ks c.done f (u ∙ sym v) s.codes (simp length-drop (omega arith)) (omega arith)) ∙ ap length started

    end-sound : Sound t made moved after (without b c) l
    end-sound = let z = small in
        let v : length ks ≡ c.functions = region-length codes_from c.functions tables (omega arith) in
        record {
          code-room = let e = length-paste code (done_from + c.done) (drop c.base code) n room enough in omega arith;
          tables-room = let e = length-set tables (codes_from + f) w in omega arith;
          made-room = s.made-room;
          limited = s.limited;
          symbols = s.symbols;
          strings = s.strings;
          functions = s.functions;
          classes = s.classes;
          constants = s.constants;
          methods = s.methods;
          words = omega (arith, s.words);
          base = around;
          made-count = s.made-count;
          names = subst (Every (MadeWithin made c.made)) (sym (kept-below 0 c.symbols (omega (arith, s.symbols, s.limited.symbols)))) s.names;
          heads = subst (Every (NamedWithin c.symbols)) (sym (kept-below heads_from c.functions (omega arith))) s.heads;
          codes = subst (Every (EndsWithin (c.done + n))) (sym codes-after)
              (every_set f w (omega (arith, place-of, count-of)) (every_map (λ k h. ends-within-more c.done (c.done + n) k (omega arith) h) s.codes));
          class-methods = subst (Every (EndsWithin c.methods)) (sym (kept_above class_methods_from c.classes (omega arith))) s.class-methods;
          finished = omega (arith, s.finished, ap total codes-after, total-set ks f w (omega arith), count-of, no_words);
          symbol-index = symbols-indexed t made tables _ c.symbols (kept_above symbol_index_from symbol_buckets (omega arith)) (kept-below 0 c.symbols (omega (arith, s.symbols, s.limited.symbols))) s.symbol-index;
          string-index = strings-indexed t tables _ c.strings (kept_above string_index_from string_buckets (omega arith)) (kept-below strings_from c.strings (omega (arith, s.strings, s.limited.strings))) s.string-index;
        }

    pub end_moved : (code' : List ℕ) → code' ≡ moved → Moved b (without b c) t made code' after c l (function_ended c.base f (state_of t made code tables c))
    end_moved code' e = rw e (record { state = end-state; base = refl; paced = record { methods = le_refl _; constants = le_refl _ }; sound = end-sound })
