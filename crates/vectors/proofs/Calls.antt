-- How the lines go on from a call for a case.
use mathlib.Core.Path.{◌≡◌, refl, ap, sym, subst}
use denote.Param.Members.{Called}
use denote.Ref.{MutBor}
use Rattle.std.specs.Prelude.{ℕ, ◌+◌, true, false, Option, is_none, Result, Ok, Err, IsErrAnd}
use Rattle.std.specs.Fn.{Mut}
use Rattle.vectors.specs.Lines.{is_tab, Skipped, Cases, spent, reads, fails}

error-is : {T E : Type 0} (r : Result T E) (e : E) → IsErrAnd r (λ x. x ≡ e) → r ≡ Err e
error-is (Ok x) e h = absurd h
error-is (Err x) e h = ap Err h

module _ {F L E : Type 0} (last : L → Option ℕ) (g : Mut F (MutBor L × Unit {0}) (Result (Unit {0}) E × (MutBor L × Unit {0}))) (most n : ℕ) (f f' : F) (x : L) (lines : MutBor L) (left : MutBor L × Unit {0}) where
  pub reads-on : (w z : L) (r : Result (Unit {0}) E) → is_none (last x) ≡ false → is_tab (last lines.now) ≡ true → Called g f (lines, tt) (Ok tt, left) f'
      → Skipped last left.0.now w → Cases last g most (n + 1) f' w r z → Cases last g most n f x r z
  reads-on w z r more field called = reads lines.now left.0.now w more field (record { shown = lines; shows = refl; left = left.0; called = called; leaves = refl })

  pub fails-so : (r : Result (Unit {0}) E) (e : E) → IsErrAnd r (λ u. u ≡ e) → is_none (last x) ≡ false → is_tab (last lines.now) ≡ true → Called g f (lines, tt) (Err e, left) f' → Cases last g most n f x r left.0.now
  fails-so r e is more field called = subst (λ q. Cases last g most n f x q left.0.now) (sym (error-is r e is))
      (fails lines.now more field (record { shown = lines; shows = refl; left = left.0; called = called; leaves = refl }))

module _ {F L E : Type 0} (last : L → Option ℕ) (g : Mut F (MutBor L × Unit {0}) (Result (Unit {0}) E × (MutBor L × Unit {0}))) (most : ℕ) where
  pub from-there : (n n' : ℕ) (f f' : F) (x x' z : L) (r : Result (Unit {0}) E) → n ≡ n' → f ≡ f' → x ≡ x' → Cases last g most n f x r z → Cases last g most n' f' x' r z
  from-there n n' f f' x x' z r o p q h = subst (λ m. Cases last g most m f' x' r z) o (subst (λ u. Cases last g most n u x' r z) p (subst (λ u. Cases last g most n f u r z) q h))

  pub spent-at : (n : ℕ) (f : F) (x z : L) → n ≡ most → is_none (last z) ≡ true → Cases last g most n f x (Ok tt) z
  spent-at n f x z o h = subst (λ m. Cases last g most m f x (Ok tt) z) (sym o) (spent h)
