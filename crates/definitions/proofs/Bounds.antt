-- The bounds that the tables of a lowered tree keep, where questions 14 and 15 are answered yes.
use mathlib.Core.Path.{◌≡◌, refl, sym, subst}
use mathlib.Core.Bool.{Bool, true, false}
use mathlib.Core.List.{List, ◌∷◌, []}
use Prim.Native.Nat.{ℕ, ◌+◌, ◌^◌, ◌≤◌, ◌<◌}
use native.Mathlib.Nat.{one-le-pow}
use native.Mathlib.Omega.{arith}
use lib.ListN.{length}
use lib.Dec.{T, leb}
use Rattle.definitions.specs.Bytes.{Text}
use Rattle.definitions.specs.Utf8.{is_utf8}
use Rattle.definitions.specs.Wellformed.{is_name}
use Rattle.definitions.specs.Builtins.{registry}
use Rattle.definitions.specs.Instruction.{Instr, instr, Jump, ConstBool, first_width, second_width}
use Rattle.definitions.specs.Instruction.{Numbers, nothing, a_string, a_constant, a_slot, a_symbol, a_function, a_builtin, numbers_of}
use Rattle.definitions.specs.Stack.{height_number}
use Rattle.definitions.specs.Tables.{Function, Method, Class, Tables}
use Rattle.definitions.specs.Lower.{jump_on}
use Rattle.definitions.specs.Reader.{is_builtin, rising}
use Rattle.definitions.specs.Open.{all_instruction}
use Rattle.definitions.proofs.Every.{Every}
use Rattle.definitions.proofs.Names.{Short}

-- ---- instructions

-- an operand of w bytes, in a function of n slots: a number that stands for something exists, any other fits its bytes
abbrev pub Operand : Numbers → Tables → ℕ → ℕ → ℕ → Type 0
Operand nothing t n w a = a < 256 ^ w
Operand a_string t n w a = a < length t.strings
Operand a_constant t n w a = a < length t.constants
Operand a_slot t n w a = a < n
Operand a_symbol t n w a = a < length t.symbols
Operand a_function t n w a = a < length t.functions
Operand a_builtin t n w a = T (is_builtin registry a)

-- an instruction of a function of n slots, or a pending break or continue: its operands are so, and its second one fits its bytes
pub record Sound (t : Tables) (n : ℕ) (i : Instr) : Type 0 where
  pub op : leb i.op 47 ≡ true
  pub first : Operand (numbers_of i.op) t n (first_width i.op) i.a
  pub second : i.b < 256 ^ second_width i.op

-- in a function of more slots
operand-wider : (k : Numbers) (t : Tables) (m n w a : ℕ) → m ≤ n → Operand k t m w a → Operand k t n w a
operand-wider nothing t m n w a h o = o
operand-wider a_string t m n w a h o = o
operand-wider a_constant t m n w a h o = o
operand-wider a_slot t m n w a h o = omega arith
operand-wider a_symbol t m n w a h o = o
operand-wider a_function t m n w a h o = o
operand-wider a_builtin t m n w a h o = o

pub sound-wider : {t : Tables} {m n : ℕ} {i : Instr} → m ≤ n → Sound t m i → Sound t n i
sound-wider {t} {m} {n} {i} h S = record { op = S.op; first = operand-wider (numbers_of i.op) t m n (first_width i.op) i.a h S.first; second = S.second }

-- an instruction without operands, with one, and with a count of arguments for the second one
pub bare : {t : Tables} {n op : ℕ} → leb op 47 ≡ true → numbers_of op ≡ nothing → Sound t n (instr op 0 0)
bare {t} {n} {op} e h = record { op = e; first = subst (λ (c : Numbers). Operand c t n (first_width op) 0) (sym h) (one-le-pow _ 256 (omega arith)); second = one-le-pow _ 256 (omega arith) }

pub single : {t : Tables} {n op a : ℕ} → leb op 47 ≡ true → Operand (numbers_of op) t n (first_width op) a → Sound t n (instr op a 0)
single e h = record { op = e; first = h; second = one-le-pow _ 256 (omega arith) }

pub counted : {t : Tables} {n op a m : ℕ} → leb op 47 ≡ true → second_width op ≡ 1 → Operand (numbers_of op) t n (first_width op) a → m ≤ 255 → Sound t n (instr op a m)
counted e w h k = record { op = e; first = h; second = rw w (omega arith) }

pub jump-sound : {t : Tables} {n k : ℕ} → k < 4294967296 → Sound t n (Jump k)
unfolding all_instruction
jump-sound h = single refl h

pub jump_on-sound : {t : Tables} {n : ℕ} (b : Bool) (k : ℕ) → k < 4294967296 → Sound t n (jump_on b k)
unfolding all_instruction jump_on
jump_on-sound false k h = single refl h
jump_on-sound true k h = single refl h

pub bool-sound : {t : Tables} {n : ℕ} (b : Bool) → Sound t n (ConstBool b)
unfolding all_instruction
bool-sound false = bare refl refl
bool-sound true = bare refl refl

-- ---- tables

-- bytes of strings, of methods, of the methods of classes
abbrev pub texts : List Text → ℕ
texts [] = 0
texts (s ∷ ss) = 2 + length s + texts ss

abbrev pub names : List Method → ℕ
names [] = 0
names (m ∷ ms) = 3 + length m.name + names ms

abbrev pub members : List Class → ℕ
members [] = 0
members (c ∷ cs) = names c.methods + members cs

-- bytes of the tables' strings and methods
abbrev pub burden : Tables → ℕ
burden t = texts t.strings + members t.classes

-- What questions 14 and 15 say of a function, and of the tables with a place p in a code
pub record Lean (f : Function) : Type 0 where
  pub slots : f.locals ≤ 255
  pub code : length f.code ≤ 8192

pub record Small (t : Tables) (p : ℕ) : Type 0 where
  pub place : p ≤ 8192
  pub count : length t.functions ≤ 256
  pub lean : Every Lean t.functions

-- What is shown of a function: its name's symbol exists, its parameters are few, its height is that of its code, its instructions are sound
pub record Tight (t : Tables) (f : Function) : Type 0 where
  pub symbol : f.symbol < length t.symbols
  pub arity : f.arity ≤ 255
  pub height : f.height ≡ height_number f.code
  pub code : Every (Sound t f.locals) f.code

-- of a method: it has a name, and its function exists
pub record Named (t : Tables) (m : Method) : Type 0 where
  pub named : is_name m.name ≡ true
  pub function : m.function < length t.functions

-- of a class: it has a name, and so have its methods, which rise
pub record Ordered (t : Tables) (c : Class) : Type 0 where
  pub named : is_name c.name ≡ true
  pub methods : Every (Named t) c.methods
  pub rises : rising c.methods ≡ true

-- of a constant: its class exists
pub record OfClass (t : Tables) (k : ℕ) : Type 0 where
  pub class : k < length t.classes

-- of a string: it is well-formed UTF-8
pub record Utf8 (s : Text) : Type 0 where
  pub utf8 : is_utf8 s ≡ true

-- of the tables
pub record Trim (t : Tables) : Type 0 where
  pub symbols : Every Short t.symbols
  pub strings : Every Utf8 t.strings
  pub functions : Every (Tight t) t.functions
  pub classes : Every (Ordered t) t.classes
  pub constants : Every (OfClass t) t.constants
