-- The number that tells where loops keep their iterators.
use Prim.Native.Nat.{ℕ, ◌+◌, ◌≤◌, ◌<◌}
use mathlib.Core.Path.{◌≡◌, refl, sym, ap, ◌∙◌, subst}
use Rattle.std.specs.Prelude.{Option, Some, None}
use Rattle.std.proofs.lemmas.Option.{none-some}
use mathlib.Core.Bool.{Bool, true, false}
use native.Mathlib.Omega.{arith}
use lib.Dec.{ltb}
use borrow.Author.Tests.{lt-ltb, le-ltb, ltb-true, ltb-false}
use Rattle.definitions.specs.Slots.{in_globals, in_slots, past}
use Rattle.state.specs.Kept.{keeping_of, after_loops, Spare, Passes}

-- ---- by cases

pub keeping-slot : (i : ℕ) → i < 256 → keeping_of i ≡ in_slots i
unfolding keeping_of
keeping-slot i h = rw (lt-ltb i 256 h, keeping_of)

pub keeping-global : (i : ℕ) → 256 ≤ i → keeping_of i ≡ in_globals
unfolding keeping_of
keeping-global i h = rw (le-ltb i 256 h, keeping_of)

pub after-slot : (i n : ℕ) → i < 256 → after_loops i n ≡ i + n
unfolding after_loops
after-slot i n h = rw (lt-ltb i 256 h, after_loops)

pub after-global : (i n : ℕ) → 256 ≤ i → after_loops i n ≡ i
unfolding after_loops
after-global i n h = rw (le-ltb i 256 h, after_loops)

-- a slot, or globals
either : {P : Type 0} (i : ℕ) → (i < 256 → P) → (256 ≤ i → P) → P
either {P} i F G = go (ltb i 256) refl
  where
    go : (b : Bool) → ltb i 256 ≡ b → P
    go true e = F (ltb-true i 256 e)
    go false e = G (ltb-false i 256 e)

-- ---- loops one after another

pub after_none : (i : ℕ) → after_loops i 0 ≡ i
after_none i = either i (λ h. after-slot i 0 h ∙ (let e : i + 0 ≡ i = omega arith in e)) (λ h. after-global i 0 h)

module _ (i m n : ℕ) (s : Spare i (m + n)) where
  pub spare-first : Spare i m
  spare-first = record { at = λ h. omega (arith, s.at h) }

  pub spare-rest : Spare (after_loops i m) n
  spare-rest = either i
      (λ h. record { at = λ g. omega (arith, s.at h, after-slot i m h) })
      (λ h. record { at = λ g. absurd (omega (arith, after-global i m h)) })

  pub after-sum : after_loops (after_loops i m) n ≡ after_loops i (m + n)
  after-sum = either i
      (λ h. let e = after-slot i m h in
      ap (λ (j : ℕ). after_loops j n) e ∙ after-slot (i + m) n (omega (arith, s.at h)) ∙ (let q : i + m + n ≡ i + (m + n) = omega arith in q) ∙ sym (after-slot i (m + n) h))
      (λ h. ap (λ (j : ℕ). after_loops j n) (after-global i m h) ∙ after-global i n h ∙ sym (after-global i (m + n) h))

pub keeping-past : (i n : ℕ) → Spare i n → keeping_of (after_loops i n) ≡ past n (keeping_of i)
unfolding past
keeping-past i n s = either i
    (λ h. ap keeping_of (after-slot i n h) ∙ keeping-slot (i + n) (s.at h) ∙ ap (past n) (sym (keeping-slot i h)))
    (λ h. ap keeping_of (after-global i n h) ∙ keeping-global i h ∙ ap (past n) (sym (keeping-global i h)))

-- ---- parts

pub passes_none : {A : Type 0} {r : Option A} {i : ℕ} → Passes r i i 0
passes_none {i = i} = record { at = λ x z. sym (after_none i) }

-- over the limits
pub passes_over : {A : Type 0} {r : Option A} {i i' n : ℕ} → r ≡ None → Passes r i i' n
passes_over e = record { at = λ x z. absurd (none-some x (sym e ∙ z)) }

-- one part after another
pub passes_then : {A B : Type 0} {r : Option A} {x : A} {r' : Option B} {i i₁ i₂ m n : ℕ} → Spare i (m + n) → r ≡ Some x → Passes r i i₁ m → Passes r' i₁ i₂ n → Passes r' i i₂ (m + n)
passes_then {x = x} {i = i} {m = m} {n = n} s z p q = record { at = λ y e. q.at y e ∙ ap (λ (j : ℕ). after_loops j n) (p.at x z) ∙ after-sum i m n s }

-- the same of a later answer, once the first is known not to be over the limits
pub passes-done : {A B : Type 0} {r : Option A} {x : A} {r' : Option B} {i i' m n : ℕ} → r ≡ Some x → m ≡ n → Passes r i i' m → Passes r' i i' n
passes-done {x = x} {i = i} z e p = record { at = λ y q. p.at x z ∙ ap (after_loops i) e }

-- what follows a part
module _ {A : Type 0} {r : Option A} {x : A} {i i' m : ℕ} (z : r ≡ Some x) (p : Passes r i i' m) where
  pub keeping-then : Spare i m → keeping_of i' ≡ past m (keeping_of i)
  keeping-then s = ap keeping_of (p.at x z) ∙ keeping-past i m s

  pub spare-then : {n n' : ℕ} → Spare i (m + n) → n ≡ n' → Spare i' n'
  spare-then {n} s e = subst (Spare i') e (subst (λ (j : ℕ). Spare j n) (sym (p.at x z)) (spare-rest i m n s))
