-- Calls and closures of parts in bounds are in bounds.
use mathlib.Core.Path.{◌≡◌, refl}
use mathlib.Core.Bool.{true}
use mathlib.Core.List.{List, ◌++◌}
use Prim.Native.Nat.{ℕ, ◌+◌, ◌≤◌, ◌<◌}
use native.Mathlib.Omega.{arith}
use lib.ListN.{length, length-append}
use Rattle.definitions.specs.Bytes.{Name}
use Rattle.definitions.specs.Tree.{View, as_var, as_attr, as_index, as_tuple, as_other}
use Rattle.definitions.specs.Wellformed.{is_name}
use Rattle.definitions.specs.Instruction
use Rattle.definitions.specs.Instruction.{Return}
use Rattle.definitions.specs.Slots.{names_only}
use Rattle.definitions.specs.Tables.{Tables, Body, Emit, emits, one, ◌⨟◌, function}
use Rattle.definitions.specs.Lower.{Callee, builtin_callee, function_callee, value_callee, resolve, call_named, call_by, loads, closure, lambda_name}
use Rattle.definitions.specs.Open.{all_instruction}
use Rattle.definitions.proofs.Every.{Every, no_every, every}
use Rattle.definitions.proofs.Resolve.{CalleeIn, resolve-in}
use Rattle.definitions.proofs.Names.{name-short, lambda-short}
use Rattle.definitions.proofs.Bounds.{Small, single, counted}
use Rattle.definitions.proofs.LongerTables.{Longer, longer-none, small-down}
use Rattle.definitions.proofs.BoundedPart.{Fits, Step, fits_by, fits-later, fits_one, fits-seq, fits-within, step-seq, step-within}
use Rattle.definitions.proofs.BoundedNames.{fits-symbol}
use Rattle.definitions.proofs.BoundedFunction.{function-in}
use Rattle.definitions.proofs.BoundedVariables.{Held, fits-load, fits-loads}

fits-named : {b : Tables} {n : ℕ} {args : Emit} (c : Callee) (slots : List Name) (x : Name) (m : ℕ) → CalleeIn b c → is_name x ≡ true → m ≤ 255
    → Fits n (length slots) b args → Fits n (length slots) b (call_named c slots x args m)
unfolding call_named all_instruction
fits-named (builtin_callee i) slots x m l h k A = fits-within (fits-seq A (fits_one (counted refl refl l k))) (omega arith)
fits-named (function_callee i) slots x m l h k A = fits-within (fits-seq A (fits_one (counted refl refl l k))) (omega arith)
fits-named value_callee slots x m l h k A = fits-within (fits-seq (fits-load slots x (name-short x h)) (fits-seq A (fits_one (single refl (omega arith))))) (omega arith)

-- the name that the form of a callee gives to its call is well formed
abbrev pub Spelled : View → Type 0
Spelled (as_var x) = is_name x ≡ true
Spelled (as_attr o x) = is_name x ≡ true
Spelled (as_index o i) = Unit {0}
Spelled (as_tuple es) = Unit {0}
Spelled as_other = Unit {0}

fits-value : {b : Tables} {i j s : ℕ} {callee args : Emit} (m : ℕ) → m ≤ 255 → Fits i s b callee → Fits j s b args → Fits (i + j) s b (callee ⨟ args ⨟ one (Instruction.CallValue m))
unfolding all_instruction
fits-value m k C A = fits-within (fits-seq C (fits-seq A (fits_one (single refl (omega arith))))) (omega arith)

pub fits-call : {b : Tables} {i j : ℕ} {callee object args : Emit} (v : View) (slots : List Name) (m : ℕ) → Spelled v → m ≤ 255
    → Fits i (length slots) b callee → Fits i (length slots) b object → Fits j (length slots) b args
    → Fits (i + j) (length slots) b (call_by v slots callee object args m)
unfolding call_by all_instruction
fits-call {args} (as_var x) slots m h k C O A =
    let named = fits_by (λ t. call_named (resolve x t) slots x args m) (λ t u. fits-named (resolve x t) slots x m (resolve-in x t) h k (fits-later u A)) in
    record { at = λ p t u. step-within (named.at p t u) (omega arith) }
fits-call (as_attr o x) slots m h k C O A =
    let by-method = fits-seq O (fits-seq A (fits-symbol x (name-short x h) (λ j t u l. fits_one (counted refl refl l k)))) in
    record { at = λ p t u. step-within (by-method.at p t u) (omega arith) }
fits-call (as_index o i) slots m h k C O A = record { at = (fits-value m k C A).at }
fits-call (as_tuple es) slots m h k C O A = record { at = (fits-value m k C A).at }
fits-call as_other slots m h k C O A = record { at = (fits-value m k C A).at }

-- the count of a closure's captured slots is at most its function's slots
step-closure : (ps cs : List Name) (s k q : ℕ) (t o : Tables) → ((i : ℕ) → Small o i → length (ps ++ cs) ≤ 255) → k < length o.functions → Longer o t → Step 0 s q t (one (Instruction.MakeClosure k (length cs)) q t)
unfolding emits all_instruction
step-closure ps cs s k q t o few l L = record {
  longer = longer-none;
  weight = omega arith;
  keeps = λ m r. record { trim = r; code = every (counted {op = 45} {a = k} {m = length cs} refl refl (omega (arith, L.sizes.functions)) (omega (arith, few q (small-down L (omega arith) m), length-append ps cs))) no_every };
}

pub fits-closure : {b : Tables} {n : ℕ} (e : Emit) (slots : List Name) (m : ℕ) (ps cs : List Name) (body : Body)
    → m ≤ 255 → Every (Held slots) cs → Fits n (length (ps ++ cs)) b (e ⨟ one Return) → Fits n (length slots) b (closure slots m (ps ++ cs) cs body e)
unfolding closure
fits-closure {n} e slots m ps cs body h held E = record {
  at = λ p t v.
      let k = length t.functions in
      let g = function (lambda_name k) m (names_only (ps ++ cs)) body (e ⨟ one Return) in
      let F = function-in {s = length slots} (lambda_name k) m (names_only (ps ++ cs)) body p t v (λ c. lambda-short k c) h E in
      let q = p + length (g p t).code in
      let u = (g p t).tables in
      let L = (fits-loads slots held).at q u longer-none in
      let r = loads slots cs in
      let c = one (Instruction.MakeClosure k (length cs)) in
      step-within (step-seq g (r ⨟ c) p t F.step (step-seq r c q u L (step-closure ps cs (length slots) k (q + length (r q u).code) (r q u).tables u F.few F.number L.longer))) (omega arith);
}
