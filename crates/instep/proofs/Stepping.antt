-- Steps one after another.
use Prim.Native.Nat.{ℕ, ◌<◌}
use mathlib.Core.Path.{◌≡◌, sym, ap, ◌∙◌, subst}
use mathlib.Core.List.{List, [], ◌∷◌, ◌++◌}
use native.Mathlib.Omega.{arith}
use Rattle.instep.specs.Stepping.{Differs, Lower, lower, higher, both_at, SideBySide, same, apart, Ranked, equal_numbers, lower_number, higher_number}
use Rattle.std.specs.Prelude.{Result, Ok, Err}
use Rattle.std.specs.declared.cmp.Ordering.{Ordering}
use Rattle.std.specs.declared.cmp.Ordering.TheVariants.{Less, Equal, Greater}
use Rattle.instep.specs.declared.Spot.{Spot}
use Rattle.std.specs.Ordering.{MatchOrdering, nat_cmp}
use Rattle.std.proofs.lemmas.Cmp.{ranked}
use Rattle.instep.proofs.Differing.{differs_more, differs-after}

pub lower-more : {c : Ordering} {xs ys : List ℕ} (us vs : List ℕ) → Lower c xs ys → Lower c (xs ++ us) (ys ++ vs)
lower-more us vs (lower D) = lower (differs_more us vs D)
lower-more us vs (higher D) = higher (differs_more vs us D)

pub lower-after : {c : Ordering} {xs ys : List ℕ} (zs : List ℕ) → Lower c xs ys → Lower c (zs ++ xs) (zs ++ ys)
lower-after zs (lower D) = lower (differs-after zs D)
lower-after zs (higher D) = higher (differs-after zs D)

-- ---- the two answers

pub steps-as : {r : Result Spot Ordering} {xs xs' ys ys' : List ℕ} {e e' f f' : ℕ} → SideBySide r xs ys e f → xs ≡ xs' → ys ≡ ys' → e ≡ e' → f ≡ f' → SideBySide r xs' ys' e' f'
steps-as {r} {xs} {xs'} {ys} {ys'} {e} {e'} {f} {f'} S a b c d =
    subst (λ (z : ℕ). SideBySide r xs' ys' e' z) d (subst (λ (z : ℕ). SideBySide r xs' ys' z f) c (subst (λ (z : List ℕ). SideBySide r xs' z e f) b (subst (λ (z : List ℕ). SideBySide r z ys e f) a S)))

-- what the same bytes say
pub record Alike (xs ys : List ℕ) (x e y f : ℕ) : Type 0 where
  pub bytes : xs ≡ ys
  pub first : x ≡ e
  pub second : y ≡ f

pub steps-same : {r : Result Spot Ordering} {xs ys : List ℕ} {e f x y : ℕ} → SideBySide r xs ys e f → r ≡ Ok (both_at x y) → Alike xs ys x e y f
steps-same {x} {y} (same {at} a b c) h =
    let u : at ≡ both_at x y = cc in
    record { bytes = a; first = sym (ap (λ (z : Spot). z.first) u) ∙ b; second = sym (ap (λ (z : Spot). z.second) u) ∙ c }
steps-same (apart L) h = let z : ◌≡◌ {A = ℕ} 0 1 = cc in absurd (omega arith)

pub steps_apart : {r : Result Spot Ordering} {xs ys : List ℕ} {e f : ℕ} {c : Ordering} → SideBySide r xs ys e f → r ≡ Err c → Lower c xs ys
steps_apart (same a b c) h = let z : ◌≡◌ {A = ℕ} 0 1 = cc in absurd (omega arith)
steps_apart {xs = xs} {ys = ys} {c = c} (apart {o = d} L) h = let u : d ≡ c = cc in subst (λ (z : Ordering). Lower z xs ys) u L

pub less-steps : {xs ys : List ℕ} {e f : ℕ} → Differs xs ys → SideBySide (Err Less) xs ys e f
less-steps D = apart (lower D)

pub greater-steps : {xs ys : List ℕ} {e f : ℕ} → Differs ys xs → SideBySide (Err Greater) xs ys e f
greater-steps D = apart (higher D)

-- what a call that stops hands on
pub stopped : {r o : Result Spot Ordering} {xs ys : List ℕ} {e f : ℕ} → r ≡ o → SideBySide o xs ys e f → SideBySide r xs ys e f
stopped {xs = xs} {ys = ys} {e = e} {f = f} h S = subst (λ (z : Result Spot Ordering). SideBySide z xs ys e f) (sym h) S

-- what `cmp` says of two numbers
module _ (m n : ℕ) {o : Ordering} (e : o ≡ nat_cmp m n) where
  as-said : {c : Ordering} → o ≡ c → MatchOrdering c (m < n) (m ≡ n) (n < m)
  as-said {c} h = subst (λ (z : Ordering). MatchOrdering z (m < n) (m ≡ n) (n < m)) h (ranked m n o e)

  pub ranked-less : o ≡ Less → Ranked (Err Less) m n
  ranked-less h = lower_number (as-said h)

  pub ranked-equal : {u : Unit {0}} → o ≡ Equal → Ranked (Ok u) m n
  ranked-equal h = equal_numbers (as-said h)

  pub ranked-greater : o ≡ Greater → Ranked (Err Greater) m n
  ranked-greater h = higher_number (as-said h)

-- numbers that are not the same, by which is lower
pub by-rank : {r : Result (Unit {0}) Ordering} {m n : ℕ} {xs ys : List ℕ} {e f : ℕ} {c : Ordering} → Ranked r m n → r ≡ Err c
    → (m < n → SideBySide (Err Less) xs ys e f) → (n < m → SideBySide (Err Greater) xs ys e f) → SideBySide (Err c) xs ys e f
by-rank (equal_numbers k) h l g = let z : ◌≡◌ {A = ℕ} 0 1 = cc in absurd (omega arith)
by-rank {xs = xs} {ys = ys} {e = e} {f = f} {c = c} (lower_number k) h l g = let u : Less ≡ c = cc in subst (λ (z : Ordering). SideBySide (Err z) xs ys e f) u (l k)
by-rank {xs = xs} {ys = ys} {e = e} {f = f} {c = c} (higher_number k) h l g = let u : Greater ≡ c = cc in subst (λ (z : Ordering). SideBySide (Err z) xs ys e f) u (g k)

pub ranked-same : {r : Result (Unit {0}) Ordering} {m n : ℕ} {u : Unit {0}} → Ranked r m n → r ≡ Ok u → m ≡ n
ranked-same (equal_numbers k) h = k
ranked-same (lower_number k) h = let z : ◌≡◌ {A = ℕ} 0 1 = cc in absurd (omega arith)
ranked-same (higher_number k) h = let z : ◌≡◌ {A = ℕ} 0 1 = cc in absurd (omega arith)

-- ---- two parts

-- the first parts differ, and so do the wholes
pub first-apart : {r : Result Spot Ordering} {xs ys : List ℕ} {e f e' f' : ℕ} {c : Ordering} (us vs : List ℕ) → SideBySide r xs ys e f → r ≡ Err c → SideBySide r (xs ++ us) (ys ++ vs) e' f'
first-apart {xs = xs} {ys = ys} {e' = e'} {f' = f'} us vs S h = subst (λ (s : Result Spot Ordering). SideBySide s (xs ++ us) (ys ++ vs) e' f') (sym h) (apart (lower-more us vs (steps_apart S h)))

-- after the same bytes the rests of the wholes decide
pub steps-after : {r : Result Spot Ordering} {us vs : List ℕ} {e f : ℕ} (zs : List ℕ) → SideBySide r us vs e f → SideBySide r (zs ++ us) (zs ++ vs) e f
steps-after zs (same a b c) = same (ap (λ (z : List ℕ). zs ++ z) a) b c
steps-after zs (apart L) = apart (lower-after zs L)

pub then-steps : {r o : Result Spot Ordering} {xs ys us vs : List ℕ} {e f e' f' x y : ℕ} → SideBySide r xs ys e f → r ≡ Ok (both_at x y) → SideBySide o us vs e' f' → SideBySide o (xs ++ us) (ys ++ vs) e' f'
then-steps {o = o} {xs = xs} {us = us} {vs = vs} {e' = e'} {f' = f'} S h T = subst (λ (z : List ℕ). SideBySide o (xs ++ us) (z ++ vs) e' f') (steps-same S h).bytes (steps-after xs T)

-- a byte, which is the same on both sides
pub byte-steps : {r : Result Spot Ordering} {us vs : List ℕ} {e f : ℕ} (k : ℕ) → SideBySide r us vs e f → SideBySide r (k ∷ us) (k ∷ vs) e f
byte-steps k S = steps-after (k ∷ []) S
