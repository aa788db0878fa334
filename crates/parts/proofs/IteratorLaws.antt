-- The name of a loop's iterator, by its three parts. Assumes nothing.
use Prim.Native.Nat.{ℕ, ◌+◌, ◌-◌, ◌<◌, ◌≤◌}
use mathlib.Core.Path.{◌≡◌, refl, sym, ap, ◌∙◌}
use mathlib.Core.Bool.{Bool, true, false, ◌&&◌, not, ◌||◌}
use mathlib.Core.List.{List, [], ◌∷◌}
use native.Mathlib.Omega.{arith}
use lib.Dec.{eqb, ltb}
use lib.ListN.{length, take, drop, length-drop}
use lib.Pointwise.{pointwise}
use borrow.Author.Tests.{lt-ltb, le-ltb}
use Rattle.std.specs.List.{list_all}
use Rattle.std.proofs.Math.Bool.{and-true}
use Rattle.definitions.specs.Bytes.{Name, ascii, all, same}
use Rattle.definitions.specs.Wellformed.{digit, is_iterator, init}
use Rattle.byte_tests.proofs.Same.{and_no, pointwise_same}

pub all-digits : (xs : List ℕ) → list_all digit xs ≡ all digit xs
unfolding all
all-digits [] = refl
all-digits (x ∷ xs) = ap (λ (b : Bool). digit x && b) (all-digits xs)

pub digits-none : (xs : List ℕ) (b : Bool) → b ≡ false → length xs ≤ 0 → b ≡ (ltb 0 (length xs) && all digit xs)
digits-none xs b e h = rw (e, le-ltb 0 (length xs) h)

pub digits-some : (xs : List ℕ) (b : Bool) → 0 < length xs → b ≡ list_all digit xs → b ≡ (ltb 0 (length xs) && all digit xs)
digits-some xs b h e = rw (lt-ltb 0 (length xs) h) (e ∙ all-digits xs)

-- the tests of the definition
abbrev begins : Name → Bool
begins x = same (take 11 x) (ascii "__for_iter_")

abbrev counts : Name → Bool
counts x = all digit (take (length x - 13) (drop 11 x))

abbrev ends : Name → Bool
ends x = same (drop (length x - 13) (drop 11 x)) (ascii "__")

by_parts : (x : Name) → is_iterator x ≡ (begins x && ltb 0 (length x - 13) && counts x && ends x)
unfolding is_iterator
by_parts x = refl

pub iterator-begins : (x : Name) → pointwise eqb (take 11 x) (ascii "__for_iter_") ≡ false → false ≡ is_iterator x
iterator-begins x e = let n : begins x ≡ false = sym (pointwise_same _ _) ∙ e in rw (by_parts x, n)

rest-size : (x rest : Name) → rest ≡ drop 11 x → length rest - 2 ≡ length x - 13
rest-size x rest e = let l : length rest ≡ length (drop 11 x) = ap length e in omega (arith, length-drop 11 x)

end-same : (x rest : Name) (b : Bool) → rest ≡ drop 11 x → pointwise eqb (drop (length rest - 2) rest) (ascii "__") ≡ b → ends x ≡ b
end-same x rest b e f =
    ap (λ (n : ℕ). same (drop n (drop 11 x)) (ascii "__")) (sym (rest-size x rest e)) ∙ ap (λ (r : Name). same (drop (length rest - 2) r) (ascii "__")) (sym e)
    ∙ sym (pointwise_same (drop (length rest - 2) rest) (ascii "__")) ∙ f

pub iterator-ends : (x rest : Name) → rest ≡ drop 11 x → pointwise eqb (drop (length rest - 2) rest) (ascii "__") ≡ false → false ≡ is_iterator x
iterator-ends x rest e f = rw (by_parts x, end-same x rest false e f) (and_no (begins x && ltb 0 (length x - 13) && counts x))

pub iterator-digits : (x rest part : Name) (b : Bool) → pointwise eqb (take 11 x) (ascii "__for_iter_") ≡ true → rest ≡ drop 11 x → pointwise eqb (drop (length rest - 2) rest) (ascii "__") ≡ true
    → part ≡ take (length rest - 2) rest → length part + 2 ≡ length rest → b ≡ (ltb 0 (length part) && all digit part) → b ≡ is_iterator x
iterator-digits x rest part b e f g h l d =
    let n : begins x ≡ true = sym (pointwise_same _ _) ∙ e in
    let z = rest-size x rest f in
    let k : length part ≡ length x - 13 = omega arith in
    let p : part ≡ take (length x - 13) (drop 11 x) = h ∙ ap (λ (m : ℕ). take m rest) z ∙ ap (take (length x - 13)) f in
    rw (by_parts x, n, end-same x rest true f g)
    (d ∙ ap (λ (m : ℕ). ltb 0 m && all digit part) k ∙ ap (λ (y : Name). ltb 0 (length x - 13) && all digit y) p ∙ sym (and-true (ltb 0 (length x - 13) && counts x)))

-- 12, of a method's name that is or isn't `__init__`
pub other-name : (x y : Name) (n : ℕ) (b : Bool) → b ≡ not (pointwise eqb x y) → y ≡ init → b ≡ true → b ≡ (not (same x init) || ltb 0 n)
other-name x y n b e f g = let z : true ≡ not (same x init) = sym g ∙ e ∙ ap not (pointwise_same x y) ∙ ap (λ (y : Name). not (same x y)) f in rw (g, sym z)

pub init-name : (x y : Name) (n : ℕ) (b : Bool) → b ≡ not (pointwise eqb x y) → y ≡ init → b ≡ false → ltb 0 n ≡ (not (same x init) || ltb 0 n)
init-name x y n b e f g = let z : false ≡ not (same x init) = sym g ∙ e ∙ ap not (pointwise_same x y) ∙ ap (λ (y : Name). not (same x y)) f in rw (sym z)
