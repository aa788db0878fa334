-- What the numbers of names and strings ask and leave, and what a call calls.
use Rattle.std.specs.Prelude.{ℕ, ◌*◌, ◌<◌, ◌≤◌, ◌≡◌, Option, Some, List, map, get_or}
use Rattle.definitions.specs.Bytes.{Name, Text, same, position}
use Rattle.definitions.specs.Tables.{Emit}
use Rattle.definitions.specs.Lower as Lower
use Rattle.definitions.specs.Lower.{builtin_callee, function_callee, value_callee}
use Rattle.state.specs.Words.{region, text_at, word}
use Rattle.state.specs.Index.{bucket_of, seek_from}
use Rattle.state.specs.State.{State, Sound, state_of, SymbolIndex, StringIndex, Every, MadeWithin, spelled, symbol_number, with_symbol, string_number, with_string, with_tables}
use Rattle.state.specs.State.{symbol_index_from, symbol_buckets, strings_from, string_index_from, string_buckets}
use Rattle.state.specs.declared.Counts.{Counts}
use Rattle.state.specs.declared.Limits.{Limits}
use Rattle.names.specs.Sought.{place_in}
use Rattle.lower_emit.specs.declared.emitter.Code.{Code}
use Rattle.lower_emit.specs.declared.emitter.Tables.{Tables}
use Rattle.lower_emit.specs.declared.emitter.Used.{Used}
use Rattle.lower_emit.specs.declared.emitter.Names.{Names}
use Rattle.lower_emit.specs.declared.emitter.Entries.{Entries}
use Rattle.lower_emit.specs.Emitting.{state_in, SoundIn, beside, new_names, new_strings, LowersIn, NumbersIn, CodeKept}
use Rattle.lower_names.specs.declared.Callee.{Callee}
use Rattle.lower_names.specs.declared.Callee.TheVariants.{Builtin, Function, Value}
use Rattle.lower_names.specs.declared.Sought.{Sought}

-- ---- symbols

-- a symbol's made name has at most 20 bytes
pub record Naming (tree : List ℕ) (n : Names) (e : Entries) : Type 0 where
  pub size : n.symbols.count ≤ n.symbols.limit
  pub made-count : n.made_len ≤ n.symbols.count * 20
  pub names : Every (MadeWithin n.made.now n.made_len) (region 0 n.symbols.count e.words.now)
  pub symbol-index : SymbolIndex tree n.made.now e.words.now n.symbols.count

-- where the symbol of the word w is sought: its bucket, the number there, and its own number
pub record SeeksSymbol (s : Sought) (tree : List ℕ) (n : Names) (e : Entries) (w : ℕ) : Type 0 where
  pub bucket : s.bucket ≡ bucket_of symbol_buckets (spelled tree n.made.now w)
  pub small : s.bucket < symbol_buckets
  pub first : s.first ≡ seek_from (get_or (region symbol_index_from symbol_buckets e.words.now) s.bucket 0) n.symbols.count
  pub least : s.first ≤ n.symbols.count
  pub found : place_in s.found ≡ position (same (spelled tree n.made.now w)) (map (spelled tree n.made.now) (region 0 n.symbols.count e.words.now))
  pub below : (i : ℕ) → s.found ≡ Some i → i < n.symbols.count

-- the state with a symbol x
abbrev pub symbol_named : Name → State → State
symbol_named x s = with_tables (with_symbol x s.tables) s

-- the symbol x has a number, whatever the code is
pub record NumbersName (r : Option ℕ) (x : Name) (tree : List ℕ) (a b : Tables) : Type 0 where
  pub numbers : (code : Code) → SoundIn tree (beside code a) → NumbersIn r (symbol_number x (state_in tree (beside code a)).tables) tree (beside code a) (beside code b) (symbol_named x (state_in tree (beside code a)))

-- the symbol of the word w, whatever the code and the other tables are; the made names stay
pub record Interns (r : Option ℕ) (tree : List ℕ) (m n : Names) (a b : Entries) (w : ℕ) : Type 0 where
  pub below : (i : ℕ) → r ≡ Some i → i < 1024
  pub tables : (ts : Tables) → NumbersName r (spelled tree m.made.now w) tree (new_names m a ts) (new_names n b ts)
  pub made : n.made.now ≡ m.made.now
  pub limit : n.symbols.limit ≡ m.symbols.limit
  pub area : n.made.ghost_name ≡ m.made.ghost_name
  pub entries : b.words.ghost_name ≡ a.words.ghost_name

-- the symbol with the made name x
pub record InternsMade (r : Option ℕ) (x : Name) (tree : List ℕ) (m n : Names) (a b : Entries) : Type 0 where
  pub below : (i : ℕ) → r ≡ Some i → i < 1024
  pub tables : (ts : Tables) → NumbersName r x tree (new_names m a ts) (new_names n b ts)
  pub limit : n.symbols.limit ≡ m.symbols.limit
  pub area : n.made.ghost_name ≡ m.made.ghost_name
  pub entries : b.words.ghost_name ≡ a.words.ghost_name

-- ---- strings

pub record Texts (tree : List ℕ) (n : Used 512) (e : Entries) : Type 0 where
  pub size : n.count ≤ n.limit
  pub string-index : StringIndex tree e.words.now n.count

-- where the string at `at` is sought
pub record SeeksText (s : Sought) (tree : List ℕ) (n : Used 512) (e : Entries) (at : ℕ) : Type 0 where
  pub bucket : s.bucket ≡ bucket_of string_buckets (text_at tree at)
  pub small : s.bucket < string_buckets
  pub first : s.first ≡ seek_from (get_or (region string_index_from string_buckets e.words.now) s.bucket 0) n.count
  pub least : s.first ≤ n.count
  pub found : place_in s.found ≡ position (same (text_at tree at)) (map (text_at tree) (region strings_from n.count e.words.now))
  pub below : (i : ℕ) → s.found ≡ Some i → i < n.count

-- the state with a string x
abbrev pub quoted : Text → State → State
quoted x s = with_tables (with_string x s.tables) s

-- the string x has a number, whatever the code is
pub record NumbersText (r : Option ℕ) (x : Text) (tree : List ℕ) (a b : Tables) : Type 0 where
  pub numbers : (code : Code) → SoundIn tree (beside code a) → NumbersIn r (string_number x (state_in tree (beside code a)).tables) tree (beside code a) (beside code b) (quoted x (state_in tree (beside code a)))

-- the string at `at`, whatever the code and the other tables are
pub record AddsText (r : Option ℕ) (tree : List ℕ) (m n : Used 512) (a b : Entries) (at : ℕ) : Type 0 where
  pub below : (i : ℕ) → r ≡ Some i → i < 512
  pub tables : (ts : Tables) → NumbersText r (text_at tree at) tree (new_strings m a ts) (new_strings n b ts)
  pub limit : n.limit ≡ m.limit
  pub entries : b.words.ghost_name ≡ a.words.ghost_name

-- a step of strings and code, whatever the other tables are
pub record Quotes {A : Type 0} (r : Option A) (x : Emit) (tree : List ℕ) (m n : Used 512) (a b : Entries) (c d : Code) : Type 0 where
  pub lowers : (ts : Tables) → SoundIn tree (beside c (new_strings m a ts)) → LowersIn r x tree (beside c (new_strings m a ts)) (beside d (new_strings n b ts))
  pub kept : CodeKept c d
  pub limit : n.limit ≡ m.limit
  pub entries : b.words.ghost_name ≡ a.words.ghost_name

-- ---- a callee

unfoldable pub callee_of : Callee → Lower.Callee
callee_of (Builtin i) = builtin_callee i
callee_of (Function f) = function_callee f
callee_of Value = value_callee

unfoldable pub call_word : Callee → ℕ → ℕ
call_word (Builtin i) n = word 32 i n
call_word (Function f) n = word 31 f n
call_word Value n = word 34 n 0

-- of so many symbols, functions and classes; whatever the code and the other counts are
pub record ResolvesFunction (r : Callee) (x : Name) (tree made entries : List ℕ) (symbols functions : ℕ) : Type 0 where
  pub callee : (code : List ℕ) (c : Counts) (l : Limits) → c.symbols ≡ symbols → c.functions ≡ functions → Sound tree made code entries c l
      → callee_of r ≡ Lower.resolve_function x (state_of tree made code entries c).tables

pub record Resolves (r : Callee) (x : Name) (tree made entries : List ℕ) (symbols functions classes : ℕ) : Type 0 where
  pub callee : (code : List ℕ) (c : Counts) (l : Limits) → c.symbols ≡ symbols → c.functions ≡ functions → c.classes ≡ classes → Sound tree made code entries c l
      → callee_of r ≡ Lower.resolve x (state_of tree made code entries c).tables
