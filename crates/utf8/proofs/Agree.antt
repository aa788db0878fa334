-- The library's UTF-8 is that of the definitions: both are the bytes of scalar values, one after the other.
use Prim.Native.Nat.{ℕ}
use mathlib.Core.Path.{◌≡◌, refl, sym, ap, ap₂, ◌∙◌}
use mathlib.Core.Bool.{Bool, true, false, cond, ◌&&◌}
use mathlib.Core.List.{List, [], ◌∷◌, ◌++◌}
use native.Mathlib.Omega.{arith}
use lib.Dec.{ltb}
use lib.Utf8.{scalar, scalars, encode, encodes}
use Rattle.std.proofs.Common.{Result, Ok, Err}
use Rattle.std.specs.Result.{MatchResult, is_ok}
use Rattle.std.specs.Str.{IsUtf8}
use Rattle.std.proofs.lemmas.Bool.Decides.{nat_tests}
use Rattle.definitions.specs.Bytes.{all, concat}
use Rattle.definitions.specs.Utf8.{is_utf8, is_scalar, encode_char}
use Rattle.definitions.proofs.Utf8Scalars.{utf8_scalars}

scalar_same : (c : ℕ) → is_scalar c ≡ scalar c
unfolding is_scalar
scalar_same c = grind (arith, nat_tests)

by_tests : (x y z : Bool) (a b d e : List ℕ) →
    elim x as (λ _. List ℕ) [ true ↦ a | false ↦ elim y as (λ _. List ℕ) [ true ↦ b | false ↦ elim z as (λ _. List ℕ) [ true ↦ d | false ↦ e ] ] ] ≡ cond x a (cond y b (cond z d e))
by_tests true y z a b d e = refl
by_tests false true z a b d e = refl
by_tests false false true a b d e = refl
by_tests false false false a b d e = refl

encode_same : (c : ℕ) → encode_char c ≡ encode c
unfolding encode_char encode
encode_same c = by_tests (ltb c 0x80) (ltb c 0x800) (ltb c 0x10000) _ _ _ _

scalars_same : (cs : List ℕ) → all is_scalar cs ≡ scalars cs
unfolding all
scalars_same [] = refl
scalars_same (c ∷ cs) = ap₂ (λ (x y : Bool). x && y) (scalar_same c) (scalars_same cs)

encodes_same : (cs : List ℕ) → concat encode_char cs ≡ encodes cs
unfolding concat
encodes_same [] = refl
encodes_same (c ∷ cs) = ap₂ (λ (x y : List ℕ). x ++ y) (encode_same c) (encodes_same cs)

passes : (s : List ℕ) → IsUtf8 s → is_utf8 s ≡ true
passes s u = sym (ap is_utf8 (encodes_same u.0 ∙ u.1.1)) ∙ utf8_scalars.encodes u.0 (scalars_same u.0 ∙ u.1.0)

is_text : (s : List ℕ) → is_utf8 s ≡ true → IsUtf8 s
is_text s e = let d = utf8_scalars.decodes s e in (d.0, (sym (scalars_same d.0) ∙ d.1, sym (d.2 ∙ encodes_same d.0)))

-- what the library reads as text passes, and nothing else does
pub read_passes : {A E : Type 0} (P : A → Type 0) (Q : E → Type 0) (s : List ℕ) → ((a : A) → P a → IsUtf8 s) → ((e : E) → Q e → ¬ (IsUtf8 s)) → (r : Result A E) → MatchResult r P Q → is_ok r ≡ is_utf8 s
read_passes P Q s f g (Ok a) m = sym (passes s (f a m))
read_passes P Q s f g (Err e) m = go (is_utf8 s) refl
  where
    go : (b : Bool) → is_utf8 s ≡ b → false ≡ is_utf8 s
    go true q = absurd (g e m (is_text s q))
    go false q = sym q
