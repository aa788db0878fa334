-- Methods in bounds are lowered to what is in bounds.
use mathlib.Core.Path.{◌≡◌, refl}
use mathlib.Core.Bool.{Bool, true, false}
use mathlib.Core.List.{List, ◌∷◌, []}
use Prim.Native.Nat.{ℕ, ◌+◌, ◌≤◌}
use native.Mathlib.Omega.{arith}
use lib.ListN.{length}
use Rattle.definitions.specs.Bytes.{Name, same, below}
use Rattle.definitions.specs.Tree.{Block, Methods, []ᵐ, method}
use Rattle.definitions.specs.Wellformed.{is_name, init, ask_method}
use Rattle.definitions.specs.Slots.{with_loops}
use Rattle.definitions.specs.Instruction.{Instr, Return, LoadLocal}
use Rattle.definitions.specs.Tables.{Method, Tables, block_body, emits, ◌⨟◌, function}
use Rattle.definitions.specs.Lower.{method_end, insert_method, Members, emit_block, emit_methods}
use Rattle.definitions.specs.Reader.{rising}
use Rattle.definitions.specs.Open.{all_instruction}
use Rattle.definitions.proofs.Every.{Every, no_every, every}
use Rattle.definitions.proofs.Names.{name-short}
use Rattle.definitions.proofs.MethodOrder.{rising-insert, inserted}
use Rattle.definitions.proofs.InitSlot.{init-slot}
use Rattle.definitions.proofs.Bounds.{Named, Small, Trim, bare, burden, names, single}
use Rattle.definitions.proofs.LongerTables.{Longer, longer-more, longer-none, small-down, named-up}
use Rattle.definitions.proofs.BoundedPart.{Fits, fits-emits, fits_one, fits-seq}
use Rattle.definitions.proofs.BoundedFunction.{function-in}

names-insert : (x : Name) (k : ℕ) (ms : List Method) → names (insert_method x k ms) ≤ names ms + (3 + length x)
unfolding insert_method
names-insert x k [] = omega arith
names-insert x k (m ∷ ms) = go (same x m.name) (below x m.name) (names-insert x k ms)
  where
    go : (c d : Bool) → names (insert_method x k ms) ≤ names ms + (3 + length x)
        → names (inserted x k m ms c d) ≤ (3 + length m.name + names ms) + (3 + length x)
    go true d h = omega arith
    go false true h = omega arith
    go false false h = omega arith

named-insert : {t : Tables} (x : Name) (k : ℕ) → Named t (record { name = x; function = k }) → {ms : List Method} → Every (Named t) ms → Every (Named t) (insert_method x k ms)
unfolding insert_method
named-insert x k h no_every = every h no_every
named-insert {t} x k h (every {a = m} {xs = ms} p r) = go (same x m.name) (below x m.name) (named-insert x k h r)
  where
    go : (c d : Bool) → Every (Named t) (insert_method x k ms) → Every (Named t) (inserted x k m ms c d)
    go true d i = every h r
    go false true i = every h (every p r)
    go false false i = every p i

pub record KeptMethods (m : Members) : Type 0 where
  pub trim : Trim m.tables
  pub named : Every (Named m.tables) m.methods
  pub rises : rising m.methods ≡ true

pub record StepMethods (n : ℕ) (t : Tables) (ms : List Method) (m : Members) : Type 0 where
  pub longer : Longer t m.tables
  pub weight : burden m.tables + names m.methods ≤ (burden t + names ms) + n
  pub keeps : Small m.tables 0 → Trim t → Every (Named t) ms → rising ms ≡ true → KeptMethods m

pub record FitsMethods (n : ℕ) (b : Tables) (m : Methods) : Type 0 where
  pub at : (ms : List Method) (t : Tables) → Longer b t → StepMethods n t ms (emit_methods m ms t)

pub fits-no_methods : {n : ℕ} {b : Tables} → FitsMethods n b []ᵐ
unfolding emit_methods
fits-no_methods = record {
  at = λ ms t u. record {
    longer = longer-none;
    weight = omega arith;
    keeps = λ s r h k. record { trim = r; named = h; rises = k };
  };
}

fits-end : {b : Tables} {s : ℕ} (x : Name) → (same x init ≡ true → 1 ≤ s) → Fits 0 s b (emits (method_end x))
unfolding method_end all_instruction
fits-end {b} {s} x h = go (same x init) h
  where
    go : (c : Bool) → (c ≡ true → 1 ≤ s) → Fits 0 s b (emits (elim c as (λ z. List Instr) [ true ↦ LoadLocal 0 ∷ Return ∷ [] | false ↦ Return ∷ [] ]))
    go true h = fits-emits (every (single {op = 9} {a = 0} refl (omega (arith, h refl))) (every (bare refl refl) no_every))
    go false h = fits_one (bare refl refl)

pub fits-method : {i j n : ℕ} {b : Tables} (x : Name) (ps : List Name) (d : Block) (m : Methods)
    → is_name x ≡ true → length ps ≤ 255 → ask_method 12 x ps ≡ true → 3 + length x + (i + j) ≤ n
    → Fits i (with_loops ps d).locals b (emit_block (with_loops ps d).names (with_loops ps d).keep d)
    → FitsMethods j b m → FitsMethods n b (method x ps d m)
unfolding emit_methods
fits-method x ps d m h few a k D M = record {
  at = λ ms t u.
      let inner = with_loops ps d in
      let l = length t.functions in
      let o = function x (length ps) inner (block_body d (method_end x)) (emit_block inner.names inner.keep d ⨟ emits (method_end x)) 0 t in
      let F = function-in {s = 0} x (length ps) inner (block_body d (method_end x)) 0 t u (λ c. name-short x h) few (fits-seq D (fits-end x (λ e. omega (arith, init-slot x ps d a e)))) in
      let N = M.at (insert_method x l ms) o.tables (longer-more u F.step.longer) in
      record {
        longer = longer-more F.step.longer N.longer;
        weight = omega (arith, F.step.weight, N.weight, names-insert x l ms);
        keeps = λ s r c b.
            let T = (F.step.keeps (small-down N.longer (omega (arith, F.silent)) s) r).trim in
            let K = N.keeps s T (named-insert x l (record { named = h; function = F.number }) (named-up F.step.longer.sizes c)) (rising-insert x l ms b) in
            record { trim = K.trim; named = K.named; rises = K.rises };
      };
}
