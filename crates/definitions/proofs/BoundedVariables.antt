-- Loads and stores of variables are in bounds; what a lambda captures has a slot.
use mathlib.Core.Path.{◌≡◌, refl}
use mathlib.Core.Bool.{Bool, true, false}
use mathlib.Core.Option.{Option, none, some}
use mathlib.Core.List.{List, ◌∷◌, []}
use Prim.Native.Nat.{ℕ, ◌<◌}
use native.Mathlib.Omega.{arith}
use lib.ListN.{length}
use Rattle.definitions.specs.Bytes.{Name, position, same, below, member}
use Rattle.definitions.specs.Tree.{Expr}
use Rattle.definitions.specs.Slots.{within, insert, sort, captures}
use Rattle.definitions.specs.Instruction
use Rattle.definitions.specs.Instruction.{LoadLocal}
use Rattle.definitions.specs.Tables.{Tables, Emit, one, intern}
use Rattle.definitions.specs.Lower.{load, store, loads}
use Rattle.definitions.specs.Open.{all_instruction}
use Rattle.definitions.proofs.Every.{Every, no_every, every}
use Rattle.definitions.proofs.Resolve.{position-lt}
use Rattle.definitions.proofs.Names.{Short}
use Rattle.definitions.proofs.Bounds.{single}
use Rattle.definitions.proofs.BoundedPart.{Fits, fits-emits, fits_one, fits-seq}
use Rattle.definitions.proofs.BoundedNames.{fits-symbol}

pub fits-load : {b : Tables} (slots : List Name) (x : Name) → Short x → Fits 0 (length slots) b (load slots x)
unfolding load all_instruction
fits-load {b} slots x h = go (position (same x) slots) (position-lt (same x) slots)
  where
    go : (o : Option ℕ) → ((j : ℕ) → o ≡ some j → j < length slots) → Fits 0 (length slots) b (elim o as (λ z. Emit) [ some i ↦ one (LoadLocal i) | none ↦ intern x (λ k. one (Instruction.LoadGlobal k)) ])
    go (some i) l = fits_one (single refl (l i refl))
    go none l = fits-symbol x h (λ k t u e. fits_one (single refl e))

pub fits-store : {b : Tables} (slots : List Name) (x : Name) → Short x → Fits 0 (length slots) b (store slots x)
unfolding store all_instruction
fits-store {b} slots x h = go (position (same x) slots) (position-lt (same x) slots)
  where
    go : (o : Option ℕ) → ((j : ℕ) → o ≡ some j → j < length slots) → Fits 0 (length slots) b (elim o as (λ z. Emit) [ some i ↦ one (Instruction.StoreLocal i) | none ↦ intern x (λ k. one (Instruction.StoreGlobal k)) ])
    go (some i) l = fits_one (single refl (l i refl))
    go none l = fits-symbol x h (λ k t u e. fits_one (single refl e))

-- a name with a slot is loaded from it
pub record Held (slots : List Name) (x : Name) : Type 0 where
  pub held : member x slots ≡ true

fits-held : {b : Tables} (slots : List Name) (x : Name) → Held slots x → Fits 0 (length slots) b (load slots x)
unfolding load member all_instruction
fits-held {b} slots x h = go (position (same x) slots) (position-lt (same x) slots) h.held
  where
    go : (o : Option ℕ) → ((j : ℕ) → o ≡ some j → j < length slots)
        → ◌≡◌ {A = Bool} (elim o as (λ z. Bool) [ none ↦ false | some i ↦ true ]) true
        → Fits 0 (length slots) b (elim o as (λ z. Emit) [ some i ↦ one (LoadLocal i) | none ↦ intern x (λ k. one (Instruction.LoadGlobal k)) ])
    go (some i) l e = fits_one (single refl (l i refl))
    go none l e = let z : ◌≡◌ {A = ℕ} 0 1 = cc in absurd (omega arith)

pub fits-loads : {b : Tables} (slots : List Name) {xs : List Name} → Every (Held slots) xs → Fits 0 (length slots) b (loads slots xs)
unfolding loads
fits-loads slots no_every = fits-emits no_every
fits-loads slots (every {a = x} h r) = fits-seq (fits-held slots x h) (fits-loads slots r)

every-insert : {P : Name → Type 0} (x : Name) {xs : List Name} → P x → Every P xs → Every P (insert x xs)
unfolding insert
every-insert x p no_every = every p no_every
every-insert {P} x p (every {a = y} {xs = ys} q r) = go (below x y) (every-insert x p r)
  where
    go : (c : Bool) → Every P (insert x ys) → Every P (elim c as (λ z. List Name) [ true ↦ x ∷ y ∷ ys | false ↦ y ∷ insert x ys ])
    go true e = every p (every q r)
    go false e = every q e

every-sort : {P : Name → Type 0} {xs : List Name} → Every P xs → Every P (sort xs)
unfolding sort
every-sort no_every = no_every
every-sort (every {a = x} p r) = every-insert x p (every-sort r)

held-within : (slots xs : List Name) → Every (Held slots) (within slots xs)
unfolding within
held-within slots [] = no_every
held-within slots (x ∷ xs) = go (member x slots) refl (held-within slots xs)
  where
    go : (c : Bool) → member x slots ≡ c → Every (Held slots) (within slots xs) → Every (Held slots) (elim c as (λ z. List Name) [ true ↦ x ∷ within slots xs | false ↦ within slots xs ])
    go true e r = every (record { held = e }) r
    go false e r = r

pub held-captures : (slots ps : List Name) (e : Expr) → Every (Held slots) (captures slots ps e)
unfolding captures
held-captures slots ps e = every-sort (held-within slots _)
