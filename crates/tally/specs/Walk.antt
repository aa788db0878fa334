-- Records that are read one after the other, and the functions of an accepted module.
use Rattle.std.specs.Prelude.{ℕ, ◌-◌, ◌≤◌, ◌≡◌, List, [], ◌∷◌, length, drop}
use Rattle.definitions.specs.Bytes.{Parsed, got, failed, Parser, counted, list_of, accepted}
use Rattle.definitions.specs.Instruction.{Instr}
use Rattle.definitions.specs.Reader.{instruction, function_record, read_module}
use Rattle.definitions.specs.Tables.{Function}
use Rattle.reader.specs.View.{Got, module_tables}
use Rattle.reader.specs.declared.Part.{Part}

-- the values that were read, and where the bytes after them begin, of n
unfoldable pub read_list : {A : Type 0} → Parsed (List A) → List A
read_list (got xs rest) = xs
read_list (failed q) = []

unfoldable pub read_end : {A : Type 0} → ℕ → Parsed (List A) → ℕ
read_end n (got xs rest) = n - length rest
read_end n (failed q) = n

-- k values from `at` on, and where the bytes after them begin
unfoldable pub values_from : {A : Type 0} → Parser A → ℕ → List ℕ → ℕ → List A
values_from p k t at = read_list (counted [] ◌∷◌ p k (drop at t))

unfoldable pub values_end : {A : Type 0} → Parser A → ℕ → List ℕ → ℕ → ℕ
values_end p k t at = read_end (length t) (counted [] ◌∷◌ p k (drop at t))

-- they are there
pub record Values {A : Type 0} (p : Parser A) (k : ℕ) (t : List ℕ) (at : ℕ) : Type 0 where
  pub here : at ≤ length t
  pub read : Got (counted [] ◌∷◌ p k) t at (values_from p k t at) (values_end p k t at)

-- n instructions from `at` on; n functions
abbrev pub code_from : ℕ → List ℕ → ℕ → List Instr
code_from n t at = values_from instruction n t at

abbrev pub functions_from : ℕ → List ℕ → ℕ → List Function
functions_from n t at = values_from function_record n t at

-- an accepted module, and the part that its functions are, with their count
pub record FunctionsAt (t : List ℕ) (p : Part) : Type 0 where
  pub module-is : read_module t ≡ accepted (module_tables t)
  pub here : p.start ≤ length t
  pub ends : ℕ
  pub read : Got (list_of 2 function_record) t p.start (module_tables t).functions ends
  pub count : p.count ≡ length (module_tables t).functions
