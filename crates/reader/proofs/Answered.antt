-- What an option's answer was, from the result that is made of it. Assumes nothing.
use mathlib.Core.Path.{◌≡◌, refl, subst}
use native.Mathlib.Omega.{arith}
use Prim.Native.Nat.{ℕ}
use Rattle.std.specs.Prelude.{Option, Some, None, Ok, Err, MatchOption}
use Rattle.std.specs.Option.{ok_or}

pub refused-none : {A E : Type 0} (o : Option A) (q f : E) → Err q ≡ ok_or o f → (o ≡ None) × (q ≡ f)
refused-none None q f e = (refl, (cc))
refused-none (Some a) q f e = let z : ◌≡◌ {A = ℕ} 0 1 = cc in absurd (omega arith)

pub passed-some : {A E : Type 0} (o : Option A) (a : A) (f : E) → Ok a ≡ ok_or o f → o ≡ Some a
passed-some None a f e = let z : ◌≡◌ {A = ℕ} 0 1 = cc in absurd (omega arith)
passed-some (Some b) a f e = cc

pub none-so : {A : Type 0} (o : Option A) (P : Type 0) (Q : A → Type 0) → MatchOption o P Q → o ≡ None → P
none-so o P Q h e = subst (λ (x : Option _). MatchOption x P Q) e h

pub some-so : {A : Type 0} (o : Option A) (P : Type 0) (Q : A → Type 0) (a : A) → MatchOption o P Q → o ≡ Some a → Q a
some-so o P Q a h e = subst (λ (x : Option _). MatchOption x P Q) e h
