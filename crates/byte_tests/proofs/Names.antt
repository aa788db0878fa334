-- A test of each byte, and the form of a name.
use Prim.Native.Nat.{ℕ, ◌-◌, ◌<◌, ◌≤◌}
use mathlib.Core.Path.{◌≡◌, refl, ap, ◌∙◌}
use mathlib.Core.Bool.{Bool, true, false, ◌&&◌, ◌||◌}
use mathlib.Core.List.{List, [], ◌∷◌}
use native.Mathlib.Omega.{arith}
use lib.ListN.{length, take, drop, get_or}
use lib.Seq.{take_all}
use borrow.Author.Tests.{le-leb, lt-leb}
use Rattle.std.specs.List.{list_all}
use Rattle.std.proofs.lemmas.List.Recursion.{same_from_clauses}
use Rattle.definitions.specs.Bytes.{all}
use Rattle.definitions.specs.Wellformed.{letter, digit, is_name}
use Rattle.byte_tests.proofs.Same.{and_no}

-- ---- what `all` of the library answers

pub all_listed : (f : ℕ → Bool) (bs : List ℕ) → list_all f bs ≡ all f bs
unfolding all
all_listed f = same_from_clauses (list_all f) (all f) (λ x b. f x && b) refl (λ x xs. refl) (λ x xs. refl)

-- ---- names

abbrev pub inner : ℕ → Bool
inner d = letter d || digit d

and_yes : (x : Bool) → x ≡ (x && true)
and_yes true = refl
and_yes false = refl

-- the bytes after the first
abbrev pub after_first : List ℕ → List ℕ
after_first bs = take (length bs - 1) (drop 1 bs)

after_first-is : (c : ℕ) (cs : List ℕ) → after_first (c ∷ cs) ≡ cs
after_first-is c cs = take_all (length (c ∷ cs) - 1) cs (omega arith)

pub name_by_rest : (bs : List ℕ) (b : Bool) → 1 ≤ length bs → length (after_first bs) < 64 → letter (get_or bs 0 0) ≡ true → b ≡ list_all inner (after_first bs) → b ≡ is_name bs
unfolding is_name
name_by_rest [] b h g e a = absurd (omega arith)
name_by_rest (c ∷ cs) b h g e a =
    let t = after_first-is c cs in
    let n : length cs ≤ 63 = omega (arith, ap length t) in
    a ∙ ap (list_all inner) t ∙ all_listed inner cs ∙ rw (e, le-leb (length cs) 63 n) (and_yes (all inner cs))

pub name_empty : (bs : List ℕ) → length bs < 1 → false ≡ is_name bs
unfolding is_name
name_empty [] h = refl
name_empty (c ∷ cs) h = absurd (omega arith)

pub name_long : (bs : List ℕ) → 1 ≤ length bs → 64 ≤ length (after_first bs) → false ≡ is_name bs
unfolding is_name
name_long [] h g = absurd (omega arith)
name_long (c ∷ cs) h g =
    let n : 63 < length cs = omega (arith, ap length (after_first-is c cs)) in
    rw (lt-leb (length cs) 63 n) (and_no (letter c && all inner cs))

pub name_bad_first : (bs : List ℕ) → 1 ≤ length bs → letter (get_or bs 0 0) ≡ false → false ≡ is_name bs
unfolding is_name
name_bad_first [] h e = absurd (omega arith)
name_bad_first (c ∷ cs) h e = rw e
