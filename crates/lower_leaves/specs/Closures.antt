-- What the beginning and the end of a lambda's function leave.
use Rattle.std.specs.Prelude.{ℕ, ◌<◌, ◌≡◌, Option, Some, List}
use Rattle.definitions.specs.Lower.{lambda_name}
use Rattle.state.specs.Words.{word}
use Rattle.state.specs.State.{symbol_number}
use Rattle.lower_emit.specs.Nesting.{begun_with}
use Rattle.lower_emit.specs.declared.emitter.Code.{Code}
use Rattle.lower_emit.specs.declared.emitter.Used.{Used}
use Rattle.lower_emit.specs.declared.emitter.Names.{Names}
use Rattle.lower_emit.specs.declared.emitter.Entries.{Entries}
use Rattle.lower_emit.specs.declared.emitter.Tables.{Tables}
use Rattle.lower_emit.specs.declared.emitter.Emitter.{Emitter}
use Rattle.lower_emit.specs.Emitting.{limits_in, state_in, SoundIn, beside, innermost, new_names, new_functions, SameAreas, BeginsIn, Puts, Finishes, Codes, Ended}
use Rattle.lower_names.specs.Naming.{symbol_named}

-- the next function begins under a lambda's name; it has so many parameters and slots, and is the code's innermost one, whatever the code is
pub record NumbersLambda (r : Option ℕ) (arity locals : ℕ) (tree : List ℕ) (a b : Tables) : Type 0 where
  pub begins : (code : Code) → SoundIn tree (beside code a) → BeginsIn r a.functions.count tree (beside code a) (beside (innermost code) b)
      (begun_with (symbol_number (lambda_name a.functions.count) (state_in tree (beside code a)).tables) arity locals (symbol_named (lambda_name a.functions.count) (state_in tree (beside code a))))

-- whatever the other tables are
pub record BeginsLambda (r : Option ℕ) (arity locals : ℕ) (tree : List ℕ) (m n : Names) (f g : Used 256) (a b : Entries) : Type 0 where
  pub below : (i : ℕ) → r ≡ Some i → i < 256
  pub tables : (ts : Tables) → NumbersLambda r arity locals tree (new_functions f a (new_names m a ts)) (new_functions g b (new_names n b ts))
  pub symbols : n.symbols.limit ≡ m.symbols.limit
  pub limit : g.limit ≡ f.limit
  pub area : n.made.ghost_name ≡ m.made.ghost_name
  pub entries : b.words.ghost_name ≡ a.words.ghost_name

pub record StartsLambda (r : Option ℕ) (arity locals : ℕ) (tree : List ℕ) (a b : Emitter) : Type 0 where
  pub below : (n : ℕ) → r ≡ Some n → n < 256
  pub begins : SoundIn tree a → BeginsIn r a.tables.functions.count tree a b
      (begun_with (symbol_number (lambda_name a.tables.functions.count) (state_in tree a).tables) arity locals (symbol_named (lambda_name a.tables.functions.count) (state_in tree a)))
  pub words : b.code.words.now ≡ a.code.words.now
  pub limits : limits_in b ≡ limits_in a
  pub areas : SameAreas a b

-- Return is put, and function f ends; the one around it begins at n
pub record EndsLambda {A : Type 0} (r : Option A) (f n : ℕ) (c d : Code) (a b : Entries) : Type 0 where
  pub last : Code
  pub puts : Puts r (word 33 0 0) c last
  pub finishes : (x : A) → r ≡ Some x → Finishes n last d
  pub codes : (x : A) → r ≡ Some x → Codes f last a b
  pub limit : d.limit ≡ c.limit
  pub area : d.words.ghost_name ≡ c.words.ghost_name
  pub entries : b.words.ghost_name ≡ a.words.ghost_name

-- the same in an emitter
pub record EndsFunction {A : Type 0} (r : Option A) (f n : ℕ) (a b : Emitter) : Type 0 where
  pub last : Code
  pub puts : Puts r (word 33 0 0) a.code last
  pub ends : (x : A) → r ≡ Some x → Ended f n (beside last a.tables) b
  pub limits : limits_in b ≡ limits_in a
  pub areas : SameAreas a b
