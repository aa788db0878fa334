-- What the beginnings and ends of functions and classes leave, whatever they don't touch is.
use Rattle.std.specs.Prelude.{ℕ, ◌+◌, ◌<◌, ◌≤◌, ◌≡◌, Option, Some, List, map, length, set}
use Rattle.definitions.specs.Tables.{with_classes, add_constant}
use Rattle.definitions.specs.Lower.{begin_class, class_object, end_class}
use Rattle.state.specs.Words.{name_at}
use Rattle.state.specs.State.{State, method_from, emit_at, symbol_number, with_tables}
use Rattle.state.specs.declared.Counts.{Counts}
use Rattle.lower_emit.specs.Nesting.{begun_with, with_methods, with_constants, CountedAs}
use Rattle.lower_emit.specs.declared.emitter.Code.{Code}
use Rattle.lower_emit.specs.declared.emitter.Used.{Used}
use Rattle.lower_emit.specs.declared.emitter.Names.{Names}
use Rattle.lower_emit.specs.declared.emitter.Entries.{Entries}
use Rattle.lower_emit.specs.declared.emitter.Tables.{Tables}
use Rattle.lower_emit.specs.declared.emitter.Emitter.{Emitter}
use Rattle.lower_emit.specs.Emitting.{counts_of, limits_in, state_in, SoundIn, beside, innermost, new_names, new_functions, new_classes, new_methods, SameAreas, NumbersIn, BeginsIn}
use Rattle.lower_names.specs.Naming.{symbol_named}
use Rattle.lower_classes.specs.Ending.{FinishesIn}

-- the next class has the name at `at`, whatever the tree and the code are
pub record NumbersClass (r : Option ℕ) (at : ℕ) (a b : Tables) : Type 0 where
  pub numbers : (tree : List ℕ) (code : Code) → SoundIn tree (beside code a)
      → NumbersIn r (length (state_in tree (beside code a)).tables.classes) tree (beside code a) (beside code b)
      (with_tables (begin_class (name_at tree at) (state_in tree (beside code a)).tables) (state_in tree (beside code a)))

-- whatever the other tables are
pub record BeginsClass (r : Option ℕ) (at : ℕ) (m n : Used 64) (a b : Entries) : Type 0 where
  pub tables : (ts : Tables) → NumbersClass r at (new_classes m a ts) (new_classes n b ts)
  pub limit : n.limit ≡ m.limit
  pub entries : b.words.ghost_name ≡ a.words.ghost_name

-- the counts k and the wanted state, and the limits as they were
pub record CountedIn (k : Counts) (tree : List ℕ) (a b : Emitter) (want : State) : Type 0 where
  pub counted : CountedAs (counts_of b) k tree b.tables.names.made.now b.code.words.now b.tables.entries.words.now (limits_in a) want
  pub limits : limits_in b ≡ limits_in a
  pub areas : SameAreas a b

-- class i has the name at `at` and these methods, whatever the tree and the code are
pub record ListsClass (i at : ℕ) (methods : List ℕ) (a b : Tables) : Type 0 where
  pub counted : (tree : List ℕ) (code : Code) → SoundIn tree (beside code a) → i < a.classes.count → a.methods + length methods ≤ a.functions.count
      → CountedIn (with_methods (a.methods + length methods) (counts_of (beside code a))) tree (beside code a) (beside code b)
      (with_tables (with_classes (set (state_in tree (beside code a)).tables.classes i (record { name = name_at tree at; methods = map (method_from tree) methods })) (state_in tree (beside code a)).tables) (state_in tree (beside code a)))
  pub made : b.names.made.now ≡ a.names.made.now

-- whatever the other tables are
pub record EndsClass (i at : ℕ) (methods : List ℕ) (m n : ℕ) (a b : Entries) : Type 0 where
  pub tables : (ts : Tables) → ListsClass i at methods (new_methods m a ts) (new_methods n b ts)

pub record AddsConstant (r i : ℕ) (a b : Tables) : Type 0 where
  pub number : r ≡ a.constants
  pub counted : (tree : List ℕ) (code : Code) → SoundIn tree (beside code a) → a.constants < a.classes.count
      → CountedIn (with_constants (a.constants + 1) (counts_of (beside code a))) tree (beside code a) (beside code b)
      (with_tables (add_constant i (state_in tree (beside code a)).tables) (state_in tree (beside code a)))
  pub made : b.names.made.now ≡ a.names.made.now

-- the function with the name at `at` begins; it has so many parameters and slots, and is the code's innermost one, whatever the code is
pub record NumbersFunction (r : Option ℕ) (at arity locals : ℕ) (tree : List ℕ) (a b : Tables) : Type 0 where
  pub begins : (code : Code) → SoundIn tree (beside code a) → BeginsIn r (length (state_in tree (beside code a)).tables.functions) tree (beside code a) (beside (innermost code) b)
      (begun_with (symbol_number (name_at tree at) (state_in tree (beside code a)).tables) arity locals (symbol_named (name_at tree at) (state_in tree (beside code a))))

-- whatever the other tables are; the made names stay
pub record BeginsNamed (r : Option ℕ) (at arity locals : ℕ) (tree : List ℕ) (m n : Names) (f g : Used 256) (a b : Entries) : Type 0 where
  pub below : (i : ℕ) → r ≡ Some i → i < 256
  pub tables : (ts : Tables) → NumbersFunction r at arity locals tree (new_functions f a (new_names m a ts)) (new_functions g b (new_names n b ts))
  pub made : n.made.now ≡ m.made.now
  pub symbols : n.symbols.limit ≡ m.symbols.limit
  pub limit : g.limit ≡ f.limit
  pub area : n.made.ghost_name ≡ m.made.ghost_name
  pub entries : b.words.ghost_name ≡ a.words.ghost_name

pub record StartsNamed (r : Option ℕ) (at arity locals : ℕ) (tree : List ℕ) (a b : Emitter) : Type 0 where
  pub below : (n : ℕ) → r ≡ Some n → n < 256
  pub begins : SoundIn tree a → BeginsIn r (length (state_in tree a).tables.functions) tree a b
      (begun_with (symbol_number (name_at tree at) (state_in tree a).tables) arity locals (symbol_named (name_at tree at) (state_in tree a)))
  pub made : b.tables.names.made.now ≡ a.tables.names.made.now
  pub words : b.code.words.now ≡ a.code.words.now
  pub limits : limits_in b ≡ limits_in a
  pub areas : SameAreas a b

-- whatever the tree is
pub record StoresClass {A : Type 0} (r : Option A) (i symbol : ℕ) (a b : Emitter) : Type 0 where
  pub finishes : (tree : List ℕ) → SoundIn tree a → a.tables.constants < a.tables.classes.count → FinishesIn r 0 tree a b (emit_at a.code.base (class_object i symbol) (state_in tree a))
  pub made : b.tables.names.made.now ≡ a.tables.names.made.now

pub record FinishesClass {A : Type 0} (r : Option A) (at i : ℕ) (methods : List ℕ) (tree : List ℕ) (a b : Emitter) : Type 0 where
  pub finishes : FinishesIn r (length methods) tree a b (emit_at a.code.base (end_class (name_at tree at) i (map (method_from tree) methods)) (state_in tree a))
  pub made : b.tables.names.made.now ≡ a.tables.names.made.now
