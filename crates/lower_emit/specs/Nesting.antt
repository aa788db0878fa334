-- What the beginning and the end of a function leave, and of a class.
use Rattle.std.specs.Prelude.{ℕ, zero, suc, ◌+◌, ◌-◌, ◌<◌, ◌≡◌, List, [], ◌∷◌, ◌++◌}
use Rattle.definitions.specs.Instruction.{Instr}
use Rattle.definitions.specs.Tables.{Function, with_functions, coded}
use Rattle.state.specs.State.{State, state_of, with_tables, WithinLimits, Sound, Paced}
use Rattle.state.specs.declared.Counts.{Counts}
use Rattle.state.specs.declared.Limits.{Limits}
use Rattle.state.specs.Answered.{Numbered, At, Over}

-- a function of n slots has begun: `begun`, where the rest of its frame doesn't matter
unfoldable pub begun_with : ℕ → ℕ → ℕ → State → State
begun_with k arity n s =
    with_tables (with_functions (s.tables.functions ++ coded k arity n [] ∷ []) s.tables) s

-- the code of function n
unfoldable pub function_body : List Function → ℕ → List Instr
function_body [] n = []
function_body (f ∷ fs) zero = f.code
function_body (f ∷ fs) (suc n) = function_body fs n

-- the wanted state, with the innermost function from b on
pub record Moved (b : ℕ) (k : Counts) (tree made code tables : List ℕ) (c : Counts) (l : Limits) (want : State) : Type 0 where
  pub state : state_of tree made code tables k ≡ want
  pub base : k.base ≡ b
  pub paced : Paced c k
  pub sound : Sound tree made code tables k l

-- the number of a function that has begun, and the wanted state, in which it is the innermost: a function more, and no method more; or that state is
-- over the limits
unfoldable pub Begins : Numbered → List ℕ → List ℕ → List ℕ → List ℕ → Counts → Limits → ℕ → State → Type 0
Begins (At i k) tree made code tables c l number want = (i ≡ number) × Moved c.open k tree made code tables c l want × (k.methods + c.functions < c.methods + k.functions)
Begins Over tree made code tables c l number want = WithinLimits l want → ⊥

-- the counts with another number of open words
abbrev pub with_open : ℕ → Counts → Counts
with_open n c = record {
  symbols = c.symbols;
  strings = c.strings;
  functions = c.functions;
  classes = c.classes;
  methods = c.methods;
  constants = c.constants;
  made = c.made;
  «open» = n;
  base = c.base;
  done = c.done;
}

-- the counts with other numbers of methods and of constants
abbrev pub with_methods : ℕ → Counts → Counts
with_methods n c = record {
  symbols = c.symbols;
  strings = c.strings;
  functions = c.functions;
  classes = c.classes;
  methods = n;
  constants = c.constants;
  made = c.made;
  «open» = c.open;
  base = c.base;
  done = c.done;
}

abbrev pub with_constants : ℕ → Counts → Counts
with_constants n c = record {
  symbols = c.symbols;
  strings = c.strings;
  functions = c.functions;
  classes = c.classes;
  methods = c.methods;
  constants = n;
  made = c.made;
  «open» = c.open;
  base = c.base;
  done = c.done;
}

-- the counts with one function more, which is the innermost
abbrev pub one_more : Counts → Counts
one_more c = record {
  symbols = c.symbols;
  strings = c.strings;
  functions = c.functions + 1;
  classes = c.classes;
  methods = c.methods;
  constants = c.constants;
  made = c.made;
  «open» = c.open;
  base = c.open;
  done = c.done;
}

-- the counts without the innermost function, whose words are finished; the one around it begins at b
abbrev pub without : ℕ → Counts → Counts
without b c = record {
  symbols = c.symbols;
  strings = c.strings;
  functions = c.functions;
  classes = c.classes;
  methods = c.methods;
  constants = c.constants;
  made = c.made;
  «open» = c.base;
  base = b;
  done = c.done + (c.open - c.base);
}

-- the counts k and the wanted state
pub record CountedAs (r k : Counts) (tree made code tables : List ℕ) (l : Limits) (want : State) : Type 0 where
  pub counts : r ≡ k
  pub state : state_of tree made code tables r ≡ want
  pub sound : Sound tree made code tables r l
