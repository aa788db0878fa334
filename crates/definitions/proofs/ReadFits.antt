-- What the reader takes fits its fields, and an accepted module is short.
use mathlib.Core.Path.{◌≡◌, refl, sym, ap, subst}
use mathlib.Core.Bool.{Bool, true, false}
use mathlib.Core.List.{List, [], ◌∷◌}
use Prim.Native.Nat.{ℕ, zero, suc, ◌+◌, ◌^◌, ◌≤◌, ◌<◌}
use native.Mathlib.Omega.{arith}
use lib.ListN.{length, length-append, get_or}
use lib.Dec.{leb}
use lib.Pow.{are_bytes}
use borrow.Author.Tests.{lt-ltb, leb-true}
use Rattle.definitions.specs.Bytes.{Answer, refused, accepted, Parser, counted, list_of, be, concat, housed, unhouse}
use Rattle.definitions.specs.Utf8.{is_utf8}
use Rattle.definitions.specs.Instruction.{Instr, encode, encodes, is_instruction, first_width, second_width}
use Rattle.definitions.specs.Tables.{Function, Tables}
use Rattle.definitions.specs.Module.{name_bytes, text_bytes, function_bytes, class_bytes, table_bytes, module_version, module_bytes, instructions}
use Rattle.definitions.specs.Reader.{instruction, function_record, module_record, whole_module, read_module}
use Rattle.definitions.proofs.Every.{Every, no_every, every}
use Rattle.definitions.proofs.Lengths.{length-encode, length-function}
use Rattle.definitions.proofs.ModuleLength.{length-tables}
use Rattle.definitions.proofs.Readback.{InstrFits}
use Rattle.definitions.proofs.Writes.{Writes, writes-give, writes-bind, writes-weak, writes_byte, writes-field, writes-number, writes-list, writes-name, writes-text, writes-tested, writes-checked}
use Rattle.definitions.proofs.Handed.{within, read_is_written, writes-class}

-- a list whose elements are below 256
pub small_bytes : (xs : List ℕ) → ((i : ℕ) → get_or xs i 0 < 256) → are_bytes xs ≡ true
small_bytes [] small = refl
small_bytes (x ∷ xs) small = rw (lt-ltb x 256 (small 0)) (small_bytes xs (λ i. small (suc i)))

pub module-short : (m : List ℕ) (t : Tables) → read_module m ≡ accepted t → length m ≤ 524288
unfolding read_module
module-short m t e = go (leb (length m) 524288) refl e
  where
    go : (b : Bool) → leb (length m) 524288 ≡ b → (elim b as (λ z. Answer Tables) [ true ↦ unhouse module_version 17 18 (λ rest. whole_module (module_record rest)) m | false ↦ refused 17 ]) ≡ accepted t → length m ≤ 524288
    go true k e = leb-true (length m) 524288 k
    go false k e = let z : ◌≡◌ {A = ℕ} 0 1 = cc in absurd (omega arith)

-- ---- a fact of each element

fits-counted : {A : Type 0} {P : A → Type 0} {p : Parser A} → Writes (λ a xs. P a) p → (n : ℕ) → Writes (λ zs xs. Every P zs × (length zs ≡ n)) (counted [] ◌∷◌ p n)
unfolding counted
fits-counted W zero = writes-give [] (no_every, refl)
fits-counted W (suc n) =
    writes-bind _ W (λ a xs h.
    writes-bind _ (fits-counted W n) (λ zs ys k.
    writes-give _ (every h k.0, ap suc k.1)))

fits-list : {A : Type 0} {P : A → Type 0} {p : Parser A} (w : ℕ) → Writes (λ a xs. P a) p → Writes (λ zs xs. Every P zs × (length zs < 256 ^ w)) (list_of w p)
unfolding list_of
fits-list w W =
    writes-bind _ (writes-field w) (λ n xs h.
    writes-weak (λ zs ys k. (k.0, subst (λ (x : ℕ). x < 256 ^ w) (sym k.1) h.1)) (fits-counted W n))

-- ---- the module's records

fits-instruction : Writes (λ i xs. InstrFits i) instruction
unfolding instruction
fits-instruction =
    writes-bind _ (writes-tested is_instruction writes_byte) (λ op xs h.
    writes-bind _ (writes-field (first_width op)) (λ a ys k.
    writes-bind _ (writes-field (second_width op)) (λ b zs l.
    writes-give _ (record { op = h.1; a = k.1; b = l.1 }))))

-- a function's code
pub record CodeFits (f : Function) : Type 0 where
  pub height : f.height < 65536
  pub few : length f.code < 65536
  pub code : Every InstrFits f.code

fits-function : Writes (λ f xs. CodeFits f) function_record
unfolding function_record
fits-function =
    writes-bind _ (writes-number 2) (λ k ks hk.
    writes-bind _ (writes-number 1) (λ n ns hn.
    writes-bind _ (writes-number 2) (λ l ls hl.
    writes-bind _ (writes-field 2) (λ g gs hg.
    writes-bind _ (fits-list 2 fits-instruction) (λ is xs h.
    writes-give _ (record { height = hg.1; few = h.1; code = h.0 }))))))

-- the functions, and how many instructions they have
pub record FunctionsFit (t : Tables) : Type 0 where
  pub few : length t.functions < 65536
  pub each : Every CodeFits t.functions
  pub short : instructions t.functions ≤ 524288

fits-tables : Writes (λ t xs. (length t.functions < 65536) × Every CodeFits t.functions) module_record
unfolding module_record
fits-tables =
    writes-bind _ (writes-list 2 name_bytes writes-name) (λ xs zs a.
    writes-bind _ (writes-list 2 text_bytes (writes-checked is_utf8 writes-text)) (λ ss bs b.
    writes-bind _ (fits-list 2 fits-function) (λ fs cs c.
    writes-bind _ (writes-list 2 class_bytes writes-class) (λ ls ds d.
    writes-bind _ (writes-list 2 (be 2) (writes-number 2)) (λ ks es e.
    writes-give _ (c.1, c.0))))))

-- ---- an instruction has a byte or more

code-bytes : (is : List Instr) → length is ≤ length (concat encode is)
unfolding concat
code-bytes [] = omega arith
code-bytes (i ∷ is) = omega (arith, code-bytes is, length-append (encode i) (concat encode is), length-encode i)

functions-bytes : (fs : List Function) → instructions fs ≤ length (concat function_bytes fs)
unfolding concat instructions encodes
functions-bytes [] = omega arith
functions-bytes (f ∷ fs) =
    let k : length (function_bytes f) ≡ 9 + length (concat encode f.code) = length-function f in
    omega (arith, functions-bytes fs, code-bytes f.code, length-append (function_bytes f) (concat function_bytes fs), k)

module-bytes : (t : Tables) → instructions t.functions ≤ length (module_bytes t)
unfolding module_bytes housed
module-bytes t =
    let l = length-append (be 4 (suc (length (table_bytes t)))) (module_version ∷ table_bytes t) in
    omega (arith, functions-bytes t.functions, length-tables t, l)

-- the functions of an accepted module
pub functions-fit : (m : List ℕ) (t : Tables) → are_bytes m ≡ true → read_module m ≡ accepted t → FunctionsFit t
functions-fit m t o e =
    let W = within m t o e in
    let K = fits-tables.at W.rest W.bytes t [] W.read in
    record { few = K.fact.0; each = K.fact.1; short = omega (arith, module-bytes t, ap length (read_is_written m t o e), module-short m t e) }
