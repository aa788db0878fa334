-- A function that begins.
use Prim.Native.Nat.{ℕ, ◌+◌, ◌*◌, ◌/◌, ◌%◌, ◌^◌, ◌≤◌, ◌<◌}
use mathlib.Core.Path.{◌≡◌, refl, sym, ap, ◌∙◌, subst}
use mathlib.Core.List.{List, [], ◌∷◌, ◌++◌, map, append_assoc}
use native.Mathlib.Omega.{arith}
use native.Mathlib.Nat.{le_refl}
use lib.ListN.{length, drop, set, length-append}
use Rattle.definitions.specs.Slots.{Frame}
use Rattle.definitions.specs.Tables.{Function, Tables, begin, coded}
use Rattle.state.specs.Words.{region, text_at, instrs_of}
use Rattle.state.specs.State.{strings_from, heads_from, codes_from, class_names_from, class_methods_from, methods_from, constants_from, done_from, spelled, function_from, functions_of}
use Rattle.state.specs.State.{classes_of, State, tables_of, state_of, Every, EndsWithin, MadeWithin, NamedWithin, total, Sound, symbol_index_from, symbol_buckets, string_index_from, string_buckets}
use Rattle.state.specs.Steps.{begun}
use Rattle.state.specs.declared.Counts.{Counts}
use Rattle.state.specs.declared.Limits.{Limits}
use Rattle.state.specs.Answered.{At, Over}
use Rattle.state.proofs.Index.{symbols-indexed, strings-indexed}
use Rattle.state.proofs.Regions.{region-length, every-snoc, functions-snoc, total-snoc}
use Rattle.state.proofs.Views.{function-count}
use Rattle.state.proofs.Emission.{state-eq}
use Rattle.lower_emit.specs.Nesting.{one_more, begun_with, function_body, Begins}
use Rattle.lower_emit.proofs.Setting.{grown-length, grown-below, grown-above, grown-first, grown-second}

-- for any frame of so many slots
pub begun-frame : (k arity n : ℕ) (frame : Frame) (s : State) → frame.locals ≡ n → begun_with k arity n s ≡ begun k arity frame s
unfolding begun_with begun begin
begun-frame k arity n frame s e = rw (← e)

body-here : (fs gs : List Function) (f : Function) → function_body (fs ++ (f ∷ gs)) (length fs) ≡ f.code
unfolding function_body
body-here [] gs f = refl
body-here (x ∷ fs) gs f = body-here fs gs f

-- a function that has begun has no code, also when others come after it
pub begun-body : (k arity : ℕ) (frame : Frame) (s : State) (fs new : List Function) → fs ≡ (begun k arity frame s).tables.functions ++ new → function_body fs (length s.tables.functions) ≡ []
unfolding begun begin
begun-body k arity frame s fs new e =
    ap (λ (z : List Function). function_body z (length s.tables.functions)) (e ∙ append_assoc s.tables.functions _ new) ∙ body-here s.tables.functions new _

pub tables-eq : (t u : Tables) → t.symbols ≡ u.symbols → t.strings ≡ u.strings → t.functions ≡ u.functions → t.classes ≡ u.classes → t.constants ≡ u.constants → t ≡ u
tables-eq t u a b c d e = λ i. record { symbols = a i; strings = b i; functions = c i; classes = d i; constants = e i }

-- a head is the function of its parts; it has no code
head-function : (t fin : List ℕ) (sy ar lo h : ℕ) → sy < 65536 → ar < 256 → lo < 256 → h ≡ sy * 65536 + ar * 256 + lo →
    function_from t fin h 0 ≡ coded sy ar lo []
unfolding function_from region instrs_of
head-function t fin sy ar lo h a b c e =
    let p : h / 2 ^ 16 ≡ sy = omega arith in
    let q : h / 2 ^ 8 % 2 ^ 8 ≡ ar = omega arith in
    let r : h % 2 ^ 8 ≡ lo = omega arith in
    λ i. coded (p i) (q i) (r i) []

module _ (t made code tables : List ℕ) (sy ar lo h : ℕ) (c : Counts) (l : Limits) (s : Sound t made code tables c l) (more : c.functions < l.functions) where
  abbrev after : List ℕ
  after = set (set tables (heads_from + c.functions) h) (codes_from + c.functions) 0

  apart : heads_from + c.functions < codes_from
  apart = omega (arith, s.limited.functions)

  room : codes_from + c.functions < length tables
  room = omega (arith, s.limited.functions, s.tables-room)

  kept-below : (b k : ℕ) → b + k ≤ heads_from → region b k after ≡ region b k tables
  kept-below = grown-below heads_from codes_from c.functions h tables apart room

  kept_above : (b k : ℕ) → class_names_from ≤ b → region b k after ≡ region b k tables
  kept_above b k g = grown-above heads_from codes_from c.functions h tables apart room b k (let z = apart in omega arith)

  heads-after : region heads_from (c.functions + 1) after ≡ region heads_from c.functions tables ++ h ∷ []
  heads-after = grown-first heads_from codes_from c.functions h tables apart room

  codes-after : region codes_from (c.functions + 1) after ≡ region codes_from c.functions tables ++ 0 ∷ []
  codes-after = grown-second heads_from codes_from c.functions h tables apart room

  begin-state : sy < 65536 → ar < 256 → lo < 256 → h ≡ sy * 65536 + ar * 256 + lo →
      state_of t made code after (one_more c) ≡ begun_with sy ar lo (state_of t made code tables c)
  unfolding state_of tables_of begun_with
  begin-state x y z e =
      let fin = drop done_from code in
      let hs = region heads_from c.functions tables in
      let ks = region codes_from c.functions tables in
      let m : length hs ≡ c.functions = region-length heads_from c.functions tables (omega (arith, s.functions, s.limited.functions, s.tables-room)) in
      let n : length ks ≡ c.functions = region-length codes_from c.functions tables (omega (arith, s.functions, s.limited.functions, s.tables-room)) in
      let a = kept-below 0 c.symbols (omega (arith, s.symbols, s.limited.symbols)) in
      let b = kept-below strings_from c.strings (omega (arith, s.strings, s.limited.strings)) in
      let p = kept_above methods_from 256 (omega arith) in
      let q = kept_above class_names_from c.classes (omega arith) in
      let r = kept_above class_methods_from c.classes (omega arith) in
      state-eq _ _ refl (tables-eq _ _ (ap (map (spelled t made)) a) (ap (map (text_at t)) b)
      ((λ i. functions_of t fin (heads-after i) (codes-after i)) ∙ functions-snoc t fin hs ks h 0 (m ∙ sym n)
      ∙ ap (λ (f : Function). functions_of t fin hs ks ++ f ∷ []) (head-function t fin sy ar lo h x y z e))
      (λ i. classes_of t (p i) (q i) (r i)) (kept_above constants_from c.constants (omega arith)))

  begin-sound : sy < c.symbols → ar < 256 → lo < 256 → h ≡ sy * 65536 + ar * 256 + lo → Sound t made code after (one_more c) l
  begin-sound x y z e = record {
    code-room = s.code-room;
    tables-room = omega (arith, s.tables-room, grown-length heads_from codes_from c.functions h tables apart room);
    made-room = s.made-room;
    limited = s.limited;
    symbols = s.symbols;
    strings = s.strings;
    functions = omega arith;
    classes = s.classes;
    constants = s.constants;
    methods = omega (arith, s.methods);
    words = s.words;
    base = le_refl c.open;
    made-count = s.made-count;
    names = subst (Every (MadeWithin made c.made)) (sym (kept-below 0 c.symbols (omega (arith, s.symbols, s.limited.symbols)))) s.names;
    heads = subst (Every (NamedWithin c.symbols)) (sym heads-after) (every-snoc s.heads (omega arith));
    codes = subst (Every (EndsWithin c.done)) (sym codes-after) (every-snoc s.codes (omega arith));
    class-methods = subst (Every (EndsWithin c.methods)) (sym (kept_above class_methods_from c.classes (omega arith))) s.class-methods;
    finished = s.finished ∙ sym (ap total codes-after ∙ total-snoc (region codes_from c.functions tables) 0 ∙ omega arith);
    symbol-index = symbols-indexed t made tables _ c.symbols (kept_above symbol_index_from symbol_buckets (omega arith)) (kept-below 0 c.symbols (omega (arith, s.symbols, s.limited.symbols))) s.symbol-index;
    string-index = strings-indexed t tables _ c.strings (kept_above string_index_from string_buckets (omega arith)) (kept-below strings_from c.strings (omega (arith, s.strings, s.limited.strings))) s.string-index;
  }

  pub begin-at : sy < c.symbols → ar < 256 → lo < 256 → h ≡ sy * 65536 + ar * 256 + lo →
      Begins (At c.functions (one_more c)) t made code after c l (length (state_of t made code tables c).tables.functions) (begun_with sy ar lo (state_of t made code tables c))
  unfolding Begins
  begin-at x y z e = (
    sym (function-count t made code tables c l s),
    record {
      state = begin-state (omega (arith, s.symbols, s.limited.symbols)) y z e;
      base = refl;
      paced = record { methods = omega arith; constants = le_refl _ };
      sound = begin-sound x y z e;
    },
    omega arith,
  )

pub begin-over : (t made code tables tables' : List ℕ) (sy ar lo n : ℕ) (c : Counts) (l : Limits) → Sound t made code tables c l → l.functions ≤ c.functions →
    Begins Over t made code tables' c l n (begun_with sy ar lo (state_of t made code tables c))
unfolding Begins begun_with
begin-over t made code tables tables' sy ar lo n c l s h = λ inside.
    omega (arith, inside.functions, function-count t made code tables c l s, length-append (state_of t made code tables c).tables.functions (coded sy ar lo [] ∷ []))
