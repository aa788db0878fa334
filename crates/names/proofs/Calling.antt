-- Built-ins by their names, classes and functions by theirs, and what a call by name calls.
use Prim.Native.Nat.{ℕ, ◌/◌, ◌^◌, ◌<◌}
use denote.Ref.{Bor}
use mathlib.Core.Path.{◌≡◌, refl, sym, ap, ◌∙◌}
use mathlib.Core.Bool.{Bool, true, false, cond}
use mathlib.Core.Option.{Option, none, some}
use mathlib.Core.List.{List, [], ◌∷◌, map}
use native.Mathlib.Omega.{arith}
use lib.Dec.{eqb, ltb}
use lib.ListN.{length, drop}
use borrow.Author.Tests.{ltb-true}
use Rattle.std.specs.Prelude as Found
use Rattle.std.specs.Option.{option_map}
use Rattle.std.specs.List.{find}
use Rattle.definitions.specs.Bytes.{Name, all, same, position}
use Rattle.definitions.specs.Tables.{Function, Class, Tables}
use Rattle.definitions.specs.Builtins.{Builtin, registry, builtin_in, builtin}
use Rattle.definitions.specs.Lower.{Callee, builtin_callee, function_callee, value_callee, resolve_function, resolve}
use Rattle.state.specs.Words.{region, name_at}
use Rattle.state.specs.State.{heads_from, codes_from, class_names_from, class_methods_from, methods_from, done_from, spelled, names_at, functions_of, function_from, classes_of, class_of}
use Rattle.state.specs.State.{tables_of, state_of, Sound}
use Rattle.state.specs.declared.Counts.{Counts}
use Rattle.state.specs.declared.Limits.{Limits}
use Rattle.state.proofs.Regions.{region-length}
use Rattle.names.specs.Sought.{place_in}
use Rattle.names.proofs.Finding.{step, position-cons}
use Rattle.definitions.proofs.Truth.{left, right}

-- ---- built-ins

builtin-by : (b : Builtin) (bs : List Builtin) (x : Name) (t : Bool) → same b.name x ≡ t → builtin_in (b ∷ bs) x ≡ elim t as (λ z. Option ℕ) [ true ↦ some b.id | false ↦ builtin_in bs x ]
unfolding builtin_in
builtin-by b bs x t e = ap (λ (t : Bool). elim t as (λ z. Option ℕ) [ true ↦ some b.id | false ↦ builtin_in bs x ]) e

-- a built-in of the code's table
abbrev pub row : Bor (List ℕ) × ℕ → Builtin
row b = record { name = b.0.now; id = b.1 }

found-row : (x : Name) (bs : List (Bor (List ℕ) × ℕ)) → place_in (option_map (λ (b : Bor (List ℕ) × ℕ). b.1) (find (λ (b : Bor (List ℕ) × ℕ). same b.0.now x) bs)) ≡ builtin_in (map row bs) x
unfolding builtin_in
found-row x [] = refl
found-row x (b ∷ bs) = go (same b.0.now x) (found-row x bs)
  where
    go : (t : Bool) → place_in (option_map (λ (b : Bor (List ℕ) × ℕ). b.1) (find (λ (b : Bor (List ℕ) × ℕ). same b.0.now x) bs)) ≡ builtin_in (map row bs) x
        → place_in (option_map (λ (b : Bor (List ℕ) × ℕ). b.1) (cond t (Found.Some b) (find (λ (b : Bor (List ℕ) × ℕ). same b.0.now x) bs))) ≡ elim t as (λ z. Option ℕ) [ true ↦ some b.1 | false ↦ builtin_in (map row bs) x ]
    go true e = refl
    go false e = e

pub found-builtin : (x : Name) (bs : List (Bor (List ℕ) × ℕ)) (r : Found.Option (Bor (Bor (List ℕ) × ℕ))) → map row bs ≡ registry → option_map (λ (b : Bor (Bor (List ℕ) × ℕ)). b.now) r ≡ find (λ (b : Bor (List ℕ) × ℕ). same b.0.now x) bs
    → place_in (option_map (λ (b : Bor (Bor (List ℕ) × ℕ)). b.now.1) r) ≡ builtin x
unfolding builtin
found-builtin x bs r e f = by_row r ∙ ap (λ (o : Found.Option (Bor (List ℕ) × ℕ)). place_in (option_map (λ (b : Bor (List ℕ) × ℕ). b.1) o)) f ∙ found-row x bs ∙ ap (λ (bs : List Builtin). builtin_in bs x) e
  where
    by_row : (r : Found.Option (Bor (Bor (List ℕ) × ℕ))) → place_in (option_map (λ (b : Bor (Bor (List ℕ) × ℕ)). b.now.1) r) ≡ place_in (option_map (λ (b : Bor (List ℕ) × ℕ). b.1) (option_map (λ (b : Bor (Bor (List ℕ) × ℕ)). b.now) r))
    by_row Found.None = refl
    by_row (Found.Some b) = refl

-- each id is below 15
ids-below : (bs : List Builtin) (x : Name) (i : ℕ) → all (λ (b : Builtin). ltb b.id 15) bs ≡ true → builtin_in bs x ≡ some i → i < 15
unfolding builtin_in all
ids-below [] x i t e = let z : ◌≡◌ {A = ℕ} 0 1 = cc in absurd (omega arith)
ids-below (b ∷ bs) x i t e = go (same b.name x) refl (ids-below bs x i (right (ltb b.id 15) _ t)) (ltb-true b.id 15 (left (ltb b.id 15) _ t))
  where
    go : (t : Bool) → same b.name x ≡ t → (builtin_in bs x ≡ some i → i < 15) → b.id < 15 → i < 15
    go true q f h = let r : some b.id ≡ some i = sym (builtin-by b bs x true q) ∙ e in let s : b.id ≡ i = cc in omega arith
    go false q f h = f (sym (builtin-by b bs x false q) ∙ e)

pub builtin-below : (x : Name) (i : ℕ) → builtin x ≡ some i → i < 15
unfolding builtin registry all
builtin-below x i e = ids-below registry x i refl e

-- ---- classes and functions, by their words

pub classes-place : (x : Name) (tree ms ws ks : List ℕ) → length ws ≡ length ks
    → position (λ (c : Class). same x c.name) (classes_of tree ms ws ks) ≡ position (same x) (names_at tree ws)
unfolding classes_of class_of names_at position
classes-place x tree ms [] ks e = refl
classes-place x tree ms (w ∷ ws) [] e = absurd (omega arith)
classes-place x tree ms (w ∷ ws) (k ∷ ks) e =
    position-cons (λ (c : Class). same x c.name) (class_of tree ms w k) (classes_of tree ms ws ks)
    ∙ ap (step (same x (name_at tree w))) (classes-place x tree ms ws ks (omega arith)) ∙ sym (position-cons (same x) (name_at tree w) (names_at tree ws))

pub functions-place : (k : ℕ) (tree fin hs ks : List ℕ) → length hs ≡ length ks
    → position (λ (f : Function). eqb k f.symbol) (functions_of tree fin hs ks) ≡ position (λ h. eqb k (h / 2 ^ 16)) hs
unfolding functions_of function_from position
functions-place k tree fin [] ks e = refl
functions-place k tree fin (h ∷ hs) [] e = absurd (omega arith)
functions-place k tree fin (h ∷ hs) (w ∷ ks) e =
    position-cons (λ (f : Function). eqb k f.symbol) (function_from tree fin h w) (functions_of tree fin hs ks)
    ∙ ap (step (eqb k (h / 2 ^ 16))) (functions-place k tree fin hs ks (omega arith)) ∙ sym (position-cons (λ h. eqb k (h / 2 ^ 16)) h hs)

-- ---- what a call by name calls

module _ (x : Name) (t : Tables) where
  by-builtin : Option ℕ → Option ℕ → Callee
  by-builtin o p = elim o as (λ z. Callee) [ some i ↦ builtin_callee i | none ↦ elim p as (λ z. Callee) [ some i ↦ value_callee | none ↦ resolve_function x t ] ]

  is-by : (o p : Option ℕ) → builtin x ≡ o → position (λ (c : Class). same x c.name) t.classes ≡ p → resolve x t ≡ by-builtin o p
  unfolding resolve by-builtin
  is-by o p e f = λ j. by-builtin (e j) (f j)

  by-function : Option ℕ → Callee
  by-function o = elim o as (λ z. Callee) [ none ↦ value_callee | some i ↦ function_callee i ]

  by-symbol : Option ℕ → Callee
  by-symbol o = elim o as (λ z. Callee) [ none ↦ value_callee | some k ↦ by-function (position (λ (f : Function). eqb k f.symbol) t.functions) ]

  is-function : (o : Option ℕ) → position (same x) t.symbols ≡ o → resolve_function x t ≡ by-symbol o
  unfolding resolve_function by-symbol by-function
  is-function o e = ap by-symbol e

module _ (tree made code tables : List ℕ) (c : Counts) (l : Limits) (s : Sound tree made code tables c l) (x : Name) where
  abbrev t : Tables
  t = (state_of tree made code tables c).tables

  -- the place of the name among the words of the classes, and of the symbols; and that of the symbol k among the heads
  abbrev class-of : Option ℕ
  class-of = position (same x) (names_at tree (region class_names_from c.classes tables))

  abbrev symbol-of : Option ℕ
  symbol-of = position (same x) (map (spelled tree made) (region 0 c.symbols tables))

  abbrev head-of : ℕ → Option ℕ
  head-of k = position (λ h. eqb k (h / 2 ^ 16)) (region heads_from c.functions tables)

  class-place : position (λ (c : Class). same x c.name) t.classes ≡ class-of
  unfolding state_of tables_of
  class-place = classes-place x tree (region methods_from 256 tables) (region class_names_from c.classes tables) (region class_methods_from c.classes tables)
      (region-length class_names_from c.classes tables (omega (arith, s.limited)) ∙ sym (region-length class_methods_from c.classes tables (omega (arith, s.limited))))

  function-place : (k : ℕ) → position (λ (f : Function). eqb k f.symbol) t.functions ≡ position (λ h. eqb k (h / 2 ^ 16)) (region heads_from c.functions tables)
  unfolding state_of tables_of
  function-place k = functions-place k tree (drop done_from code) (region heads_from c.functions tables) (region codes_from c.functions tables)
      (region-length heads_from c.functions tables (omega (arith, s.limited)) ∙ sym (region-length codes_from c.functions tables (omega (arith, s.limited))))

  symbol-place : position (same x) t.symbols ≡ symbol-of
  unfolding state_of tables_of
  symbol-place = refl

  pub calls-builtin : (i : ℕ) → builtin x ≡ some i → builtin_callee i ≡ resolve x t
  unfolding by-builtin
  calls-builtin i e = sym (is-by x t (some i) _ e refl)

  pub calls-class : (j : ℕ) → builtin x ≡ none → class-of ≡ some j → value_callee ≡ resolve x t
  unfolding by-builtin
  calls-class j e f = sym (is-by x t none (some j) e (class-place ∙ f))

  pub calls-other : builtin x ≡ none → class-of ≡ none → resolve_function x t ≡ resolve x t
  unfolding by-builtin
  calls-other e f = sym (is-by x t none none e (class-place ∙ f))

  pub calls-unknown : symbol-of ≡ none → value_callee ≡ resolve_function x t
  unfolding by-symbol
  calls-unknown e = sym (is-function x t none (symbol-place ∙ e))

  by-head : (k : ℕ) → symbol-of ≡ some k → (o : Option ℕ) → head-of k ≡ o → resolve_function x t ≡ by-function x t o
  unfolding by-symbol
  by-head k e o f = is-function x t (some k) (symbol-place ∙ e) ∙ ap (by-function x t) (function-place k ∙ f)

  pub calls-value : (k : ℕ) → symbol-of ≡ some k → head-of k ≡ none → value_callee ≡ resolve_function x t
  unfolding by-function
  calls-value k e f = sym (by-head k e none f)

  pub calls-function : (k f : ℕ) → symbol-of ≡ some k → head-of k ≡ some f → function_callee f ≡ resolve_function x t
  unfolding by-function
  calls-function k f e g = sym (by-head k e (some f) g)
