-- The state that an emitter shows, and what each of its steps leaves.
use Rattle.std.specs.Prelude.{ℕ, ◌+◌, ◌*◌, ◌-◌, ◌<◌, ◌≤◌, ◌≡◌, Option, Some, None, List, set, drop}
use Rattle.std.proofs.Math.Seq.{paste}
use Rattle.definitions.specs.Tables.{Emit}
use Rattle.state.specs.State.{State, state_of, emit_at, WithinLimits, Sound, Left, heads_from, codes_from, done_from}
use Rattle.state.specs.Words.{word}
use Rattle.state.specs.declared.Counts.{Counts}
use Rattle.state.specs.declared.Limits.{Limits}
use Rattle.lower_emit.specs.Nesting.{one_more, without, Moved}
use Rattle.lower_emit.specs.declared.emitter.Code.{Code}
use Rattle.lower_emit.specs.declared.emitter.Used.{Used}
use Rattle.lower_emit.specs.declared.emitter.Names.{Names}
use Rattle.lower_emit.specs.declared.emitter.Entries.{Entries}
use Rattle.lower_emit.specs.declared.emitter.Tables.{Tables}
use Rattle.lower_emit.specs.declared.emitter.Emitter.{Emitter}

-- ---- what an emitter shows

abbrev pub counts_of : Emitter → Counts
counts_of e = record {
  symbols = e.tables.names.symbols.count;
  strings = e.tables.strings.count;
  functions = e.tables.functions.count;
  classes = e.tables.classes.count;
  methods = e.tables.methods;
  constants = e.tables.constants;
  made = e.tables.names.made_len;
  base = e.code.base;
  «open» = e.code.open;
  done = e.code.done;
}

-- the instructions' limit is the code's own
abbrev pub limits_in : Emitter → Limits
limits_in e = record {
  functions = e.tables.functions.limit;
  symbols = e.tables.names.symbols.limit;
  strings = e.tables.strings.limit;
  classes = e.tables.classes.limit;
  instructions = e.code.limit;
}

abbrev pub state_in : List ℕ → Emitter → State
state_in tree e = state_of tree e.tables.names.made.now e.code.words.now e.tables.entries.words.now (counts_of e)

pub record SoundIn (tree : List ℕ) (e : Emitter) : Type 0 where
  pub sound : Sound tree e.tables.names.made.now e.code.words.now e.tables.entries.words.now (counts_of e) (limits_in e)

-- code beside tables
abbrev pub beside : Code → Tables → Emitter
beside c ts = record { code = c; tables = ts }

-- the code with its innermost function from the end of the open words on
abbrev pub innermost : Code → Code
innermost c = record { words = c.words; base = c.open; «open» = c.open; done = c.done; limit = c.limit; code_room = c.code_room; code_limit = c.code_limit; code_size = c.code_size }

-- tables with other ones in their places
abbrev pub new_names : Names → Entries → Tables → Tables
new_names n e ts = record { names = n; entries = e; strings = ts.strings; functions = ts.functions; classes = ts.classes; methods = ts.methods; constants = ts.constants }

abbrev pub new_strings : Used 512 → Entries → Tables → Tables
new_strings n e ts = record { names = ts.names; entries = e; strings = n; functions = ts.functions; classes = ts.classes; methods = ts.methods; constants = ts.constants }

abbrev pub new_functions : Used 256 → Entries → Tables → Tables
new_functions n e ts = record { names = ts.names; entries = e; strings = ts.strings; functions = n; classes = ts.classes; methods = ts.methods; constants = ts.constants }

abbrev pub new_classes : Used 64 → Entries → Tables → Tables
new_classes n e ts = record { names = ts.names; entries = e; strings = ts.strings; functions = ts.functions; classes = n; methods = ts.methods; constants = ts.constants }

abbrev pub new_methods : ℕ → Entries → Tables → Tables
new_methods n e ts = record { names = ts.names; entries = e; strings = ts.strings; functions = ts.functions; classes = ts.classes; methods = n; constants = ts.constants }

abbrev pub new_entries : Entries → Tables → Tables
new_entries e ts = record { names = ts.names; entries = e; strings = ts.strings; functions = ts.functions; classes = ts.classes; methods = ts.methods; constants = ts.constants }

-- ---- what a step leaves

-- the slices are those that were lent
pub record SameAreas (a b : Emitter) : Type 0 where
  pub words : b.code.words.ghost_name ≡ a.code.words.ghost_name
  pub made : b.tables.names.made.ghost_name ≡ a.tables.names.made.ghost_name
  pub entries : b.tables.entries.words.ghost_name ≡ a.tables.entries.words.ghost_name

-- b is left by a step from a, in the wanted state
pub record LeftIn (tree : List ℕ) (a b : Emitter) (want : State) : Type 0 where
  pub left : Left (counts_of b) tree b.tables.names.made.now b.code.words.now b.tables.entries.words.now (counts_of a) (limits_in a) want

-- an answer and the wanted state; or the wanted state is over the limits or has a function of more than 255 slots
pub record Reaches {A : Type 0} (r : Option A) (tree : List ℕ) (a b : Emitter) (want : State) : Type 0 where
  pub done : (x : A) → r ≡ Some x → LeftIn tree a b want
  pub full : r ≡ None → WithinLimits (limits_in a) want → ⊥
  pub limits : limits_in b ≡ limits_in a
  pub areas : SameAreas a b

-- the part with the code x is emitted
pub record LowersIn {A : Type 0} (r : Option A) (x : Emit) (tree : List ℕ) (a b : Emitter) : Type 0 where
  pub reaches : Reaches r tree a b (emit_at a.code.base x (state_in tree a))

-- the next position in the tree, if it is answered
abbrev pub NextIs : Option ℕ → ℕ → Type 0
NextIs r next = (n : ℕ) → r ≡ Some n → n ≡ next

-- the part with the code x is emitted; it ends at `next`
pub record EmitsTo (r : Option ℕ) (x : Emit) (next : ℕ) (tree : List ℕ) (a b : Emitter) : Type 0 where
  pub place : NextIs r next
  pub lowers : LowersIn r x tree a b

-- a number and the wanted state; or the same
pub record NumbersIn (r : Option ℕ) (number : ℕ) (tree : List ℕ) (a b : Emitter) (want : State) : Type 0 where
  pub is : (n : ℕ) → r ≡ Some n → n ≡ number
  pub reaches : Reaches r tree a b want

-- ---- functions

-- b is left by a step from a, in the wanted state, with the innermost function from n on
pub record MovedIn (n : ℕ) (tree : List ℕ) (a b : Emitter) (want : State) : Type 0 where
  pub moved : Moved n (counts_of b) tree b.tables.names.made.now b.code.words.now b.tables.entries.words.now (counts_of a) (limits_in a) want

-- the number of a function that has begun, and the wanted state, in which it is the innermost: a function more, and no method more; or that state is
-- over the limits
pub record BeginsIn (r : Option ℕ) (number : ℕ) (tree : List ℕ) (a b : Emitter) (want : State) : Type 0 where
  pub is : (n : ℕ) → r ≡ Some n → n ≡ number
  pub done : (n : ℕ) → r ≡ Some n → MovedIn a.code.open tree a b want
  pub more : (n : ℕ) → r ≡ Some n → b.tables.methods + a.tables.functions.count < a.tables.methods + b.tables.functions.count
  pub full : r ≡ None → WithinLimits (limits_in a) want → ⊥
  pub limits : limits_in b ≡ limits_in a
  pub areas : SameAreas a b

-- ---- the code alone

-- all but the words and how many are open
pub record CodeKept (a b : Code) : Type 0 where
  pub base : b.base ≡ a.base
  pub done : b.done ≡ a.done
  pub limit : b.limit ≡ a.limit
  pub area : b.words.ghost_name ≡ a.words.ghost_name

pub record Puts {A : Type 0} (r : Option A) (w : ℕ) (a b : Code) : Type 0 where
  pub room : (x : A) → r ≡ Some x → a.open + a.done < a.limit
  pub words : (x : A) → r ≡ Some x → b.words.now ≡ set a.words.now a.open w
  pub size : (x : A) → r ≡ Some x → b.open ≡ a.open + 1
  pub full : r ≡ None → a.limit ≤ a.open + a.done
  pub kept : CodeKept a b

-- a jump over n instructions and the jump after them
pub record PutsOver {A : Type 0} (r : Option A) (op n : ℕ) (a b : Code) : Type 0 where
  pub puts : (x : A) → r ≡ Some x → Puts r (word op (n + 1) 0) a b
  pub few : (x : A) → r ≡ Some x → n < a.limit
  pub full : r ≡ None → a.limit ≤ a.open + a.done + n
  pub kept : CodeKept a b

pub record SetsJump (j op d : ℕ) (a b : Code) : Type 0 where
  pub words : b.words.now ≡ set a.words.now j (word op d 0)
  pub size : b.open ≡ a.open
  pub kept : CodeKept a b

-- a step of the code, whatever the tree and the tables are
pub record Writes {A : Type 0} (r : Option A) (x : Emit) (a b : Code) : Type 0 where
  pub lowers : (tree : List ℕ) (ts : Tables) → SoundIn tree (beside a ts) → LowersIn r x tree (beside a ts) (beside b ts)
  pub kept : CodeKept a b

-- the innermost function's words are finished; the one around it begins at n
pub record Finishes (n : ℕ) (a b : Code) : Type 0 where
  pub words : b.words.now ≡ paste a.words.now (done_from + a.done) (drop a.base a.words.now) (a.open - a.base)
  pub size : b.open ≡ a.base
  pub base : b.base ≡ n
  pub done : b.done ≡ a.done + (a.open - a.base)
  pub limit : b.limit ≡ a.limit
  pub area : b.words.ghost_name ≡ a.words.ghost_name

-- ---- functions begun and ended

-- the head of the next function, and that it has no code
pub record Heads (r : Option ℕ) (symbol arity locals : ℕ) (m n : Used 256) (a b : Entries) : Type 0 where
  pub number : (i : ℕ) → r ≡ Some i → i ≡ m.count
  pub room : (i : ℕ) → r ≡ Some i → m.count < m.limit
  pub entries : (i : ℕ) → r ≡ Some i → b.words.now ≡ set (set a.words.now (heads_from + m.count) (symbol * 65536 + arity * 256 + locals)) (codes_from + m.count) 0
  pub count : (i : ℕ) → r ≡ Some i → n.count ≡ m.count + 1
  pub full : r ≡ None → m.limit ≤ m.count
  pub limit : n.limit ≡ m.limit
  pub area : b.words.ghost_name ≡ a.words.ghost_name

-- where the code of function f stands, once it has ended
pub record Codes (f : ℕ) (c : Code) (a b : Entries) : Type 0 where
  pub entries : b.words.now ≡ set a.words.now (codes_from + f) (c.done * 65536 + (c.open - c.base))
  pub area : b.words.ghost_name ≡ a.words.ghost_name

pub record Begun (r : Option ℕ) (symbol arity locals : ℕ) (a b : Emitter) : Type 0 where
  pub number : (n : ℕ) → r ≡ Some n → n ≡ a.tables.functions.count
  pub room : (n : ℕ) → r ≡ Some n → a.tables.functions.count < a.tables.functions.limit
  pub entries : (n : ℕ) → r ≡ Some n → b.tables.entries.words.now
      ≡ set (set a.tables.entries.words.now (heads_from + a.tables.functions.count) (symbol * 65536 + arity * 256 + locals)) (codes_from + a.tables.functions.count) 0
  pub counts : (n : ℕ) → r ≡ Some n → counts_of b ≡ one_more (counts_of a)
  pub full : r ≡ None → a.tables.functions.limit ≤ a.tables.functions.count
  pub made : b.tables.names.made.now ≡ a.tables.names.made.now
  pub words : b.code.words.now ≡ a.code.words.now
  pub limits : limits_in b ≡ limits_in a
  pub areas : SameAreas a b

pub record Ended (f n : ℕ) (a b : Emitter) : Type 0 where
  pub words : b.code.words.now ≡ paste a.code.words.now (done_from + a.code.done) (drop a.code.base a.code.words.now) (a.code.open - a.code.base)
  pub entries : b.tables.entries.words.now ≡ set a.tables.entries.words.now (codes_from + f) (a.code.done * 65536 + (a.code.open - a.code.base))
  pub counts : counts_of b ≡ without n (counts_of a)
  pub made : b.tables.names.made.now ≡ a.tables.names.made.now
  pub limits : limits_in b ≡ limits_in a
  pub areas : SameAreas a b
