-- Question 20 for tables in bounds: every number exists.
use mathlib.Core.Path.{◌≡◌, refl}
use mathlib.Core.Bool.{true}
use Prim.Native.Nat.{ℕ}
use lib.ListN.{length}
use lib.Dec.{ltb, lt→ltb}
use Rattle.definitions.specs.Builtins.{registry}
use Rattle.definitions.specs.Instruction.{Numbers, nothing, a_string, a_constant, a_slot, a_symbol, a_function, a_builtin, first_width, numbers_of}
use Rattle.definitions.specs.Tables.{Function, Method, Class, Tables}
use Rattle.definitions.specs.Reader.{is_builtin, number_exists, operand_exists, function_exists, methods_exist, constant_exists, numbers_exist}
use Rattle.definitions.proofs.Truth.{is_true}
use Rattle.definitions.proofs.Every.{every-all}
use Rattle.definitions.proofs.Bounds.{Operand, Sound, Tight, Named, Ordered, OfClass, Trim}

operand-exists : (c : Numbers) (t : Tables) (n w a : ℕ) → Operand c t n w a → number_exists c t n a ≡ true
unfolding number_exists
operand-exists nothing t n w a h = refl
operand-exists a_string t n w a h = is_true (ltb a (length t.strings)) (lt→ltb _ _ h)
operand-exists a_constant t n w a h = is_true (ltb a (length t.constants)) (lt→ltb _ _ h)
operand-exists a_slot t n w a h = is_true (ltb a n) (lt→ltb _ _ h)
operand-exists a_symbol t n w a h = is_true (ltb a (length t.symbols)) (lt→ltb _ _ h)
operand-exists a_function t n w a h = is_true (ltb a (length t.functions)) (lt→ltb _ _ h)
operand-exists a_builtin t n w a h = is_true (is_builtin registry a) h

function-exists : (t : Tables) (f : Function) → Tight t f → function_exists t f ≡ true
unfolding function_exists operand_exists number_exists
function-exists t f h =
    rw (operand-exists a_symbol t 0 2 f.symbol h.symbol, every-all {P = Sound t f.locals} (operand_exists t f.locals) (λ i k. operand-exists (numbers_of i.op) t f.locals (first_width i.op) i.a k.first) h.code)

class-exists : (t : Tables) (c : Class) → Ordered t c → methods_exist t c ≡ true
unfolding methods_exist number_exists
class-exists t c h = every-all {P = Named t} (λ (m : Method). number_exists a_function t 0 m.function) (λ m k. operand-exists a_function t 0 2 m.function k.function) h.methods

constant-exists : (t : Tables) (c : ℕ) → OfClass t c → constant_exists t c ≡ true
unfolding constant_exists
constant-exists t c h = is_true (ltb c (length t.classes)) (lt→ltb _ _ h.class)

pub trim-exist : (t : Tables) → Trim t → numbers_exist t ≡ true
unfolding numbers_exist
trim-exist t k = rw (every-all (function_exists t) (function-exists t) k.functions, every-all (methods_exist t) (class-exists t) k.classes, every-all (constant_exists t) (constant-exists t) k.constants)
