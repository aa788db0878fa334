-- The lowering's state, seen in the slices lent to it; and what a step leaves.
use Rattle.std.specs.Prelude.{ℕ, ◌+◌, ◌-◌, ◌*◌, ◌/◌, ◌%◌, ◌^◌, ◌≤◌, ◌<◌, ◌≡◌, true, false, List, [], ◌∷◌, ◌++◌, map, length, take, drop, get_or, ltb}
use Rattle.std.proofs.Math.Option.{Option, none, some}
use Rattle.definitions.specs.Bytes.{Name, Text, same, position}
use Rattle.definitions.specs.Instruction.{Instr}
use Rattle.definitions.specs.Tables.{Function, Method, Class, Tables, Emit, add_symbol, add_string, coded}
use Rattle.definitions.specs.Module as Module
use Rattle.definitions.specs.Module.{instructions, slots_fit}
use Rattle.state.specs.Words.{region, name_at, text_at, instrs_of}
use Rattle.state.specs.Index.{Covered}
use Rattle.state.specs.declared.Counts.{Counts}
use Rattle.state.specs.declared.Limits.{Limits}
use Rattle.state.specs.Answered.{PartEmitted, Done, Full, Numbered, At, Over}

-- ---- the tables of the second area: where each begins
-- symbols 1024, strings 512, heads of functions 256, places of their code 256, names of classes 64, places of their methods 64, methods 256, constants 64, the index of symbols 8192, that of strings 4096

abbrev pub strings_from : ℕ
strings_from = 1024

abbrev pub heads_from : ℕ
heads_from = 1536

abbrev pub codes_from : ℕ
codes_from = 1792

abbrev pub class_names_from : ℕ
class_names_from = 2048

abbrev pub class_methods_from : ℕ
class_methods_from = 2112

abbrev pub methods_from : ℕ
methods_from = 2176

abbrev pub constants_from : ℕ
constants_from = 2432

abbrev pub symbol_index_from : ℕ
symbol_index_from = 2496

abbrev pub symbol_buckets : ℕ
symbol_buckets = 8192

abbrev pub string_index_from : ℕ
string_index_from = 10688

abbrev pub string_buckets : ℕ
string_buckets = 4096

-- the code area: open functions from 0, finished ones from here
abbrev pub done_from : ℕ
done_from = 8192

-- ---- entries

-- a symbol's spelling: a name of the tree below 32,768, a made name above
unfoldable pub spelled : List ℕ → List ℕ → ℕ → Name
spelled tree made w = elim (ltb w 32768) [ true ↦ name_at tree w | false ↦ name_at made (w - 32768) ]

-- the names that stand at places of the tree
unfoldable pub names_at : List ℕ → List ℕ → List Name
names_at tree ps = map (name_at tree) ps

-- slots: an index of so many words, then the places of their names
abbrev pub slots_from : ℕ
slots_from = 2048

abbrev pub slot_names : List ℕ → List ℕ → List Name
slot_names tree slots = names_at tree (drop slots_from slots)

pub record Slots (tree slots : List ℕ) : Type 0 where
  pub room : slots_from ≤ length slots
  pub few : length slots ≤ slots_from + 255
  pub indexed : Covered slots_from slots 0 (slot_names tree slots)

-- a place and a count in one word
abbrev pub place_of : ℕ → ℕ
place_of w = w / 2 ^ 16

abbrev pub count_of : ℕ → ℕ
count_of w = w % 2 ^ 16

-- a function: symbol, arity and slots in its head; its code among the finished words, none while it is open
unfoldable pub function_from : List ℕ → List ℕ → ℕ → ℕ → Function
function_from tree finished h k = coded (h / 2 ^ 16) (h / 2 ^ 8 % 2 ^ 8) (h % 2 ^ 8) (instrs_of tree (region (place_of k) (count_of k) finished))

unfoldable pub functions_of : List ℕ → List ℕ → List ℕ → List ℕ → List Function
functions_of tree finished [] ks = []
functions_of tree finished (h ∷ hs) [] = []
functions_of tree finished (h ∷ hs) (k ∷ ks) = function_from tree finished h k ∷ functions_of tree finished hs ks

-- a method: the place of its name in the tree, and its function
unfoldable pub method_from : List ℕ → ℕ → Method
method_from tree w = record { name = name_at tree (w / 2 ^ 8); function = w % 2 ^ 8 }

-- a class: the place of its name in the tree; its methods among the methods
unfoldable pub class_of : List ℕ → List ℕ → ℕ → ℕ → Class
class_of tree methods x k = record { name = name_at tree x; methods = map (method_from tree) (region (place_of k) (count_of k) methods) }

unfoldable pub classes_of : List ℕ → List ℕ → List ℕ → List ℕ → List Class
classes_of tree methods [] ks = []
classes_of tree methods (x ∷ xs) [] = []
classes_of tree methods (x ∷ xs) (k ∷ ks) = class_of tree methods x k ∷ classes_of tree methods xs ks

-- ---- the state

-- the code of the functions not done yet, one after the other, and the tables
pub record State : Type 0 where
  pub stack : List Instr
  pub tables : Tables

unfoldable pub tables_of : List ℕ → List ℕ → List ℕ → List ℕ → Counts → Tables
tables_of tree made code tables c = record {
  symbols = map (spelled tree made) (region 0 c.symbols tables);
  strings = map (text_at tree) (region strings_from c.strings tables);
  functions = functions_of tree (drop done_from code) (region heads_from c.functions tables) (region codes_from c.functions tables);
  classes = classes_of tree (region methods_from 256 tables) (region class_names_from c.classes tables) (region class_methods_from c.classes tables);
  constants = region constants_from c.constants tables;
}

unfoldable pub state_of : List ℕ → List ℕ → List ℕ → List ℕ → Counts → State
state_of tree made code tables c = record { stack = instrs_of tree (take c.open code); tables = tables_of tree made code tables c }

-- a part's code after the stack, at its place in the innermost function, and the tables after it
unfoldable pub emit_at : ℕ → Emit → State → State
emit_at base e s =
    let o = e (length s.stack - base) s.tables in
    record { stack = s.stack ++ o.code; tables = o.tables }

-- ---- limits

unfoldable pub limits_of : Limits → Module.Limits
limits_of l = record { functions = l.functions; symbols = l.symbols; strings = l.strings; classes = l.classes; instructions = l.instructions }

-- the state is within the limits, and each of its functions has at most 255 slots (questions 15 and 14)
pub record WithinLimits (l : Limits) (s : State) : Type 0 where
  pub functions : length s.tables.functions ≤ l.functions
  pub symbols : length s.tables.symbols ≤ l.symbols
  pub strings : length s.tables.strings ≤ l.strings
  pub classes : length s.tables.classes ≤ l.classes
  pub instructions : length s.stack + instructions s.tables.functions ≤ l.instructions
  pub slots : slots_fit s.tables ≡ true

-- the limits are within the tables
pub record Limited (l : Limits) : Type 0 where
  pub functions : l.functions ≤ 256
  pub symbols : l.symbols ≤ 1024
  pub strings : l.strings ≤ 512
  pub classes : l.classes ≤ 64
  pub instructions : l.instructions ≤ 8192

-- ---- what holds of the slices

-- the index of the names of so many symbols, and that of strings
abbrev pub SymbolIndex : List ℕ → List ℕ → List ℕ → ℕ → Type 0
SymbolIndex tree made tables n = Covered symbol_buckets (region symbol_index_from symbol_buckets tables) 0 (map (spelled tree made) (region 0 n tables))

abbrev pub StringIndex : List ℕ → List ℕ → ℕ → Type 0
StringIndex tree tables n = Covered string_buckets (region string_index_from string_buckets tables) 0 (map (text_at tree) (region strings_from n tables))

-- each element, by a test of it
pub data Every (P : ℕ → Type 0) : List ℕ → Type 0 where
  no_every : Every P []
  every : {a : ℕ} {xs : List ℕ} → P a → Every P xs → Every P (a ∷ xs)

-- a made name ends within the made bytes
abbrev pub MadeWithin : List ℕ → ℕ → ℕ → Type 0
MadeWithin made n w = 32768 ≤ w → w - 32768 + 1 + get_or made (w - 32768) 0 ≤ n

-- a place and count end within n
abbrev pub EndsWithin : ℕ → ℕ → Type 0
EndsWithin n k = place_of k + count_of k ≤ n

-- a head names its function by one of n symbols
abbrev pub NamedWithin : ℕ → ℕ → Type 0
NamedWithin n h = h / 2 ^ 16 < n

-- the words of all finished functions
unfoldable pub total : List ℕ → ℕ
total [] = 0
total (k ∷ ks) = count_of k + total ks

pub record Sound (tree made code tables : List ℕ) (c : Counts) (l : Limits) : Type 0 where
  pub code-room : 16384 ≤ length code
  pub tables-room : 16384 ≤ length tables
  pub made-room : 20500 ≤ length made
  pub limited : Limited l
  pub symbols : c.symbols ≤ l.symbols
  pub strings : c.strings ≤ l.strings
  pub functions : c.functions ≤ l.functions
  pub classes : c.classes ≤ l.classes
  -- a class has its constant, a method its function
  pub constants : c.constants ≤ c.classes
  pub methods : c.methods ≤ c.functions
  pub words : c.open + c.done ≤ l.instructions
  pub base : c.base ≤ c.open
  -- 20 bytes are enough for any made name
  pub made-count : c.made ≤ c.symbols * 20
  pub names : Every (MadeWithin made c.made) (region 0 c.symbols tables)
  pub heads : Every (NamedWithin c.symbols) (region heads_from c.functions tables)
  pub codes : Every (EndsWithin c.done) (region codes_from c.functions tables)
  pub class-methods : Every (EndsWithin c.methods) (region class_methods_from c.classes tables)
  -- the finished words are those of the functions
  pub finished : c.done ≡ total (region codes_from c.functions tables)
  pub symbol-index : SymbolIndex tree made tables c.symbols
  pub string-index : StringIndex tree tables c.strings

-- ---- what a step leaves

-- methods have not grown more than functions, nor constants more than classes
pub record Paced (c k : Counts) : Type 0 where
  pub methods : k.methods + c.functions ≤ c.methods + k.functions
  pub constants : k.constants + c.classes ≤ c.constants + k.classes

-- what a step asks: a short tree, slots that are few and indexed, sound slices
pub record StepReady (tree slots made code tables : List ℕ) (c : Counts) (l : Limits) : Type 0 where
  pub tree-short : length tree ≤ 32768
  pub slotted : Slots tree slots
  pub sound : Sound tree made code tables c l

-- what it leaves: the wanted state, the innermost function as it was, and sound slices
pub record Left (k : Counts) (tree made code tables : List ℕ) (c : Counts) (l : Limits) (want : State) : Type 0 where
  pub state : state_of tree made code tables k ≡ want
  pub base : k.base ≡ c.base
  pub paced : Paced c k
  pub sound : Sound tree made code tables k l

-- the next position and the wanted state; or the wanted state is over the limits or has a function of more than 255 slots
unfoldable pub Emits : PartEmitted → List ℕ → List ℕ → List ℕ → List ℕ → Counts → Limits → ℕ → State → Type 0
Emits (Done n k) tree made code tables c l next want = (n ≡ next) × Left k tree made code tables c l want
Emits Full tree made code tables c l next want = WithinLimits l want → ⊥

-- the number and the wanted state; or the wanted state is over the limits or has a function of more than 255 slots
unfoldable pub NumberGiven : Numbered → List ℕ → List ℕ → List ℕ → List ℕ → Counts → Limits → ℕ → State → Type 0
NumberGiven (At i k) tree made code tables c l number want = (i ≡ number) × Left k tree made code tables c l want
NumberGiven Over tree made code tables c l number want = WithinLimits l want → ⊥

-- ---- symbols and strings, by their numbers

-- the place where it is found, else the count
unfoldable pub found_or : ℕ → Option ℕ → ℕ
found_or n none = n
found_or n (some k) = k

unfoldable pub symbol_number : Name → Tables → ℕ
symbol_number x t = found_or (length t.symbols) (position (same x) t.symbols)

unfoldable pub with_symbol : Name → Tables → Tables
with_symbol x t = elim (position (same x) t.symbols) [ some k ↦ t | none ↦ add_symbol x t ]

unfoldable pub string_number : Text → Tables → ℕ
string_number x t = found_or (length t.strings) (position (same x) t.strings)

unfoldable pub with_string : Text → Tables → Tables
with_string x t = elim (position (same x) t.strings) [ some k ↦ t | none ↦ add_string x t ]

-- the state with other tables
abbrev pub with_tables : Tables → State → State
with_tables t s = record { stack = s.stack; tables = t }
