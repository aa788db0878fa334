-- The library's numerals, in the words of the definitions. Assumes nothing.
use Prim.Native.Nat.{ℕ, ◌-◌, ◌^◌, ◌<◌, zero, suc}
use mathlib.Core.Path.{◌≡◌, refl, sym, ap, subst}
use mathlib.Core.Bool.{Bool, true, false, cond, ◌&&◌}
use mathlib.Core.List.{List, [], ◌∷◌}
use native.Mathlib.Omega.{arith}
use lib.ListN.{length, get_or}
use lib.Dec.{ltb}
use borrow.Author.Tests.{leb-true, ltb-true, le-leb, lt-ltb, lt-leb, le-ltb}
use Rattle.std.specs.Prelude.{Some, None, Result, Ok, Err, MatchResult}
use Rattle.std.specs.Result.{result_ok, OkIff}
use Rattle.std.specs.Int.{IsInRange}
use Rattle.std.specs.Str.{IsUtf8}
use Rattle.std.specs.Str.Parse.{ParsesUnsigned}
use Rattle.std.proofs.lemmas.Str.{IsUtf8-from_ascii}
use Rattle.std.proofs.lemmas.Str.Parse.{IsDigitsTest, FoldsDigits, IsNumeralModel, numerals_by_fold, parse_plain}
use Rattle.digits.specs.Text.{digit_value, all_decimal, value_from, decimal_from, decimal_spelled}
use Rattle.std.proofs.lemmas.Bool.{and_parts}

-- ---- decimal digits

ten : (c : ℕ) → ltb (digit_value c) 10 ≡ true → IsInRange 48 57 c
unfolding digit_value
ten c e = grind (arith, ltb-true, leb-true, le-leb, lt-ltb, lt-leb, le-ltb)

is_ten : (c : ℕ) → IsInRange 48 57 c → digit_value c ≡ c - 48
unfolding digit_value
is_ten c h = simp (le-leb 48 c (omega arith), lt-ltb c 58 (omega arith))

tells : IsDigitsTest (λ ds. all_decimal ds ≡ true)
unfolding all_decimal
tells = record {
  empty = refl;
  parts = λ c cs e. let m = and_parts (ltb (digit_value c) 10) (all_decimal cs) e in (ten c m.0, m.1);
  more = λ c cs k e. rw (is_ten c k, lt-ltb (c - 48) 10 (omega arith)) e;
}

folds : FoldsDigits value_from
unfolding value_from
folds = record { empty = λ n. refl; more = λ n c cs k. rw (is_ten c k) }

own : IsNumeralModel (λ ds. all_decimal ds ≡ true) (value_from 0)
own = numerals_by_fold _ tells value_from folds

-- decimal digits are ASCII
ascii : (ds : List ℕ) → all_decimal ds ≡ true → (i : ℕ) → get_or ds i 0 < 128
ascii [] e i = omega arith
ascii (c ∷ cs) e zero = omega (arith, (tells.parts c cs e).0)
ascii (c ∷ cs) e (suc i) = ascii cs (tells.parts c cs e).1 i

-- ---- a decimal number

no_value : (a b : Bool) (v : ℕ) → (a ≡ true → b ≡ true → ⊥) → cond (a && b) (Some v) None ≡ None
no_value true true v h = absurd (h refl refl)
no_value true false v h = refl
no_value false b v h = refl

-- a text of other bytes too spells none
spells_none : (t : List ℕ) → (all_decimal t ≡ true → ⊥) → None ≡ decimal_spelled t
unfolding decimal_spelled decimal_from
spells_none [] h = refl
spells_none (c ∷ cs) h = sym (no_value _ _ _ (λ a b. h b))

pub not_utf8-none : (t : List ℕ) → ¬ (IsUtf8 t) → None ≡ decimal_spelled t
not_utf8-none t h = spells_none t (λ e. h (IsUtf8-from_ascii t (ascii t e)))

pub plus-none : (t : List ℕ) → get_or t 0 0 ≡ 43 → None ≡ decimal_spelled t
plus-none [] e = absurd (omega arith)
plus-none (c ∷ cs) e = spells_none (c ∷ cs) (λ h. omega (arith, (tells.parts c cs h).0))

module _ {E : Type 0} where
  from_parsed : (t : List ℕ) (r : Result ℕ E) → OkIff r ((all_decimal t ≡ true) × (0 < length t) × (value_from 0 t < 2 ^ 64)) (value_from 0 t) → result_ok r ≡ decimal_spelled t
  unfolding decimal_spelled decimal_from
  from_parsed [] (Ok x) p = absurd (omega arith)
  from_parsed [] (Err e) p = refl
  from_parsed (c ∷ cs) (Ok x) p = rw (lt-ltb (value_from 0 (c ∷ cs)) (2 ^ 64) p.0.2, p.0.0) (ap Some p.1)
  from_parsed (c ∷ cs) (Err e) p = sym (no_value _ _ _ (λ a b. p (b, omega arith, ltb-true _ _ a)))

  pub parsed : (t : List ℕ) (r : Result ℕ E) → ParsesUnsigned 64 10 t r → (get_or t 0 0 ≡ 43 → ⊥) → result_ok r ≡ decimal_spelled t
  parsed t r h n = from_parsed t r (parse_plain own 64 t r h n)

-- what is no text, and what is one
module _ {A E : Type 0} (P : A → Type 0) (Q : E → Type 0) where
  pub no_text : (r : Result A E) → result_ok r ≡ None → MatchResult r P Q → (e : E) × Q e
  no_text (Ok x) e h = cc
  no_text (Err x) e h = (x, h)

  pub some_text : (r : Result A E) (x : A) → result_ok r ≡ Some x → MatchResult r P Q → P x
  some_text (Ok y) x e h = let k : y ≡ x = cc in subst P k h
  some_text (Err y) x e h = cc
