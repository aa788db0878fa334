-- What is taken out, one part after another, and one element of a list after another.
use Prim.Native.Nat.{ℕ, ◌+◌, ◌-◌, ◌≤◌}
use mathlib.Core.Path.{◌≡◌, refl, sym, ap, ◌∙◌, subst}
use native.Mathlib.Omega.{arith}
use Rattle.rests.specs.Taking.{Takes}
use Rattle.rests.specs.declared.Taken.{Taken}

pub takes-as : {r : Taken} {a e e' n n' : ℕ} → Takes r a e n → e ≡ e' → n ≡ n' → Takes r a e' n'
takes-as T h k = record { next = T.next ∙ h; bytes = T.bytes ∙ k; small = T.small }

-- from an earlier byte on
pub takes-from : {r : Taken} {a b e n : ℕ} → Takes r a e n → b ≤ a → Takes r b e n
takes-from T h = record { next = T.next; bytes = T.bytes; small = omega (arith, T.small) }

-- two parts, the second from where the first ends, or later
pub takes_two : {r o : Taken} {a b e f m n : ℕ} → Takes r a e m → Takes o b f n → r.next ≤ b → Takes (record { next = o.next; bytes = r.bytes + o.bytes }) a f (m + n)
takes_two T U h = record { next = U.next; bytes = omega (arith, T.bytes, U.bytes); small = omega (arith, T.small, U.small) }

-- ---- lists: what was taken out so far, and what is left

pub record Left (R : ℕ → ℕ → Type 0) (E N : ℕ → ℕ → ℕ) (n₀ p₀ n p sum : ℕ) : Type 0 where
  pub reads : R n p
  pub end : E n₀ p₀ ≡ E n p
  pub bytes : N n₀ p₀ ≡ sum + N n p
  pub small : p₀ + sum ≤ p

-- the first of n elements ends at m, and k bytes are taken out of it
pub record Step (R : ℕ → ℕ → Type 0) (E N : ℕ → ℕ → ℕ) (n p m k : ℕ) : Type 0 where
  pub rest : R (n - 1) m
  pub end : E n p ≡ E (n - 1) m
  pub bytes : N n p ≡ k + N (n - 1) m

pub left-start : {R : ℕ → ℕ → Type 0} {E N : ℕ → ℕ → ℕ} {n p k : ℕ} → n ≡ k → R n p → Left R E N n p k p 0
left-start {R} {E} {N} {n} {p} e r = subst (λ (j : ℕ). Left R E N n p j p 0) e (record { reads = r; end = refl; bytes = omega arith; small = omega arith })

module _ {R : ℕ → ℕ → Type 0} {E N : ℕ → ℕ → ℕ} {n₀ p₀ n p sum : ℕ} (l : Left R E N n₀ p₀ n p sum) where
  pub left-next : {m k j : ℕ} {r : Taken} → Step R E N n p m k → Takes r p m k → n - 1 ≡ j → Left R E N n₀ p₀ j r.next (sum + r.bytes)
  left-next {m} {k} {j} {r} s T f = subst (λ (i : ℕ). Left R E N n₀ p₀ i r.next (sum + r.bytes)) f (record {
    reads = subst (R (n - 1)) (sym T.next) s.rest;
    end = l.end ∙ s.end ∙ ap (E (n - 1)) (sym T.next);
    bytes = let z : N (n - 1) m ≡ N (n - 1) r.next = ap (N (n - 1)) (sym T.next) in omega (arith, l.bytes, s.bytes, T.bytes);
    small = omega (arith, l.small, T.small);
  })

  pub left-done : E n p ≡ p → N n p ≡ 0 → Takes (record { next = p; bytes = sum }) p₀ (E n₀ p₀) (N n₀ p₀)
  left-done h k = record { next = sym (l.end ∙ h); bytes = omega (arith, l.bytes, k); small = l.small }

  -- where something follows the elements
  pub left-last : {r : Taken} → Takes r p (E n p) (N n p) → Takes (record { next = r.next; bytes = sum + r.bytes }) p₀ (E n₀ p₀) (N n₀ p₀)
  left-last T = record { next = T.next ∙ sym l.end; bytes = omega (arith, l.bytes, T.bytes); small = omega (arith, l.small, T.small) }
