-- Regions of an area: what a word that is set, or a part that came back, changes; and what the views of regions make of it.
use Prim.Native.Nat.{ℕ, zero, suc, ◌+◌, ◌-◌, ◌/◌, ◌%◌, ◌^◌, ◌≤◌, ◌<◌}
use mathlib.Core.Path.{◌≡◌, refl, sym, ap, ◌∙◌}
use mathlib.Core.Bool.{Bool, true, false}
use mathlib.Core.List.{List, [], ◌∷◌, ◌++◌, map}
use native.Mathlib.Omega.{arith}
use native.Mathlib.Nat.{zero-add, suc-add}
use native.Mathlib.Numerals.{add-one}
use lib.ListN.{length, take, drop, get_or, set, length-drop, length-map}
use lib.Seq.{length-take-le, take-take, take-nil, drop-nil, take-set-lt, take-set-le, drop-set-lt, drop-set-add, take-suc-set, get_or-take, drop-drop}
use lib.Dec.{ltb, leb}
use borrow.Author.Tests.{ltb-false, le-leb, lt-ltb}
use Rattle.definitions.specs.Bytes.{Name, all}
use Rattle.definitions.specs.Tables.{Function, Class, set_code, coded}
use Rattle.definitions.specs.Module.{instructions}
use Rattle.state.specs.Words.{region, name_at, instr_of, instrs_of}
use Rattle.state.specs.State.{spelled, function_from, functions_of, method_from, class_of, classes_of, place_of, count_of, Every, no_every, every, MadeWithin, EndsWithin, NamedWithin, total}

-- ---- regions

swap : (b k : ℕ) (xs : List ℕ) → take k (drop b xs) ≡ drop b (take (b + k) xs)
swap zero k xs = rw zero-add
swap (suc b) k [] = take-nil k ∙ sym (ap (drop (suc b)) (take-nil (suc b + k)) ∙ drop-nil (suc b))
swap (suc b) k (x ∷ xs) = rw suc-add (swap b k xs)

-- a region that lies in a beginning that two areas share
pub region-same : (a b k : ℕ) (xs ys : List ℕ) → b + k ≤ a → take a xs ≡ take a ys → region b k xs ≡ region b k ys
unfolding region
region-same a b k xs ys h e = swap b k xs ∙ ap (drop b) (sym (take-take (b + k) a xs h) ∙ ap (take (b + k)) e ∙ take-take (b + k) a ys h) ∙ sym (swap b k ys)

-- a region that lies in an end that two areas share
pub region-same-end : (a b k : ℕ) (xs ys : List ℕ) → a ≤ b → drop a xs ≡ drop a ys → region b k xs ≡ region b k ys
unfolding region
region-same-end a b k xs ys h e =
    let s : a + (b - a) ≡ b = omega arith in
    ap (take k) (ap (λ (n : ℕ). drop n xs) (sym s) ∙ sym (drop-drop (b - a) a xs) ∙ ap (drop (b - a)) e ∙ drop-drop (b - a) a ys ∙ ap (λ (n : ℕ). drop n ys) s)

pub region-length : (a n : ℕ) (xs : List ℕ) → a + n ≤ length xs → length (region a n xs) ≡ n
unfolding region
region-length a n xs h = length-take-le n (drop a xs) (simp length-drop (omega arith))

-- a region of a region, and of what is left of an area
pub region-region : (a m b n : ℕ) (xs : List ℕ) → b + n ≤ m → region b n (region a m xs) ≡ region (a + b) n xs
unfolding region
region-region a m b n xs h =
    swap b n (take m (drop a xs)) ∙ ap (drop b) (take-take (b + n) m (drop a xs) h) ∙ sym (swap b n (drop a xs)) ∙ ap (take n) (drop-drop b a xs)

pub region-drop : (a b n : ℕ) (xs : List ℕ) → region b n (drop a xs) ≡ region (a + b) n xs
unfolding region
region-drop a b n xs = ap (take n) (drop-drop b a xs)

pub region-take : (m a n : ℕ) (xs : List ℕ) → m ≤ n → take m (region a n xs) ≡ region a m xs
unfolding region
region-take m a n xs h = take-take m n (drop a xs) h

-- what is left of a region
pub region-rest : (a s n : ℕ) (xs : List ℕ) → s ≤ n → region (a + s) (n - s) xs ≡ drop s (region a n xs)
unfolding region
region-rest a s n xs h =
    let e : s + (n - s) ≡ n = omega arith in
    ap (take (n - s)) (sym (drop-drop s a xs)) ∙ swap s (n - s) (drop a xs) ∙ ap (λ (k : ℕ). drop s (take k (drop a xs))) e

-- ---- a word is set

pub set_here : (a n j w : ℕ) (xs : List ℕ) → j < n → region a n (set xs (a + j) w) ≡ set (region a n xs) j w
unfolding region
set_here a n j w xs h = ap (take n) (drop-set-add a xs j w) ∙ take-set-lt n (drop a xs) j w h

-- regions before its place, and after it
pub set_below : (b k i w : ℕ) (xs : List ℕ) → b + k ≤ i → region b k (set xs i w) ≡ region b k xs
set_below b k i w xs h = region-same i b k _ xs h (take-set-le i xs i w (omega arith))

pub set-above : (b k i w : ℕ) (xs : List ℕ) → i < b → region b k (set xs i w) ≡ region b k xs
unfolding region
set-above b k i w xs h = ap (take k) (drop-set-lt b xs i w h)

-- one word more
pub set_next : (a n w : ℕ) (xs : List ℕ) → a + n < length xs → region a (n + 1) (set xs (a + n) w) ≡ region a n xs ++ w ∷ []
unfolding region
set_next a n w xs h =
    ap (λ (k : ℕ). take k (drop a (set xs (a + n) w))) (add-one n) ∙ ap (take (suc n)) (drop-set-add a xs n w)
    ∙ take-suc-set (drop a xs) n w (simp length-drop (omega arith))

-- the same at the beginning of the area
pub set_first : (n w : ℕ) (xs : List ℕ) → n < length xs → region 0 (n + 1) (set xs n w) ≡ region 0 n xs ++ w ∷ []
unfolding region
set_first n w xs h = ap (λ (k : ℕ). take k (set xs n w)) (add-one n) ∙ take-suc-set xs n w h

-- ---- a fact of each word

pub every_append : {P : ℕ → Type 0} {xs ys : List ℕ} → Every P xs → Every P ys → Every P (xs ++ ys)
every_append no_every b = b
every_append (every p a) b = every p (every_append a b)

pub every-snoc : {P : ℕ → Type 0} {xs : List ℕ} {w : ℕ} → Every P xs → P w → Every P (xs ++ w ∷ [])
every-snoc a p = every_append a (every p no_every)

pub every_map : {P Q : ℕ → Type 0} {xs : List ℕ} → ((a : ℕ) → P a → Q a) → Every P xs → Every Q xs
every_map f no_every = no_every
every_map f (every {a} p b) = every (f a p) (every_map f b)

pub every_set : {P : ℕ → Type 0} {xs : List ℕ} (i w : ℕ) → P w → Every P xs → Every P (set xs i w)
every_set i w p no_every = no_every
every_set zero w p (every q r) = every p r
every_set (suc i) w p (every q r) = every q (every_set i w p r)

-- ---- the heads and the places of code: functions

pub functions-length : (tree fin hs ks : List ℕ) → length hs ≡ length ks → length (functions_of tree fin hs ks) ≡ length hs
unfolding functions_of
functions-length tree fin [] ks e = refl
functions-length tree fin (h ∷ hs) [] e = sym e
functions-length tree fin (h ∷ hs) (k ∷ ks) e = ap suc (functions-length tree fin hs ks (omega arith))

-- a head keeps the number of slots in 8 bits
pub functions-slots : (tree fin hs ks : List ℕ) → all (λ (f : Function). leb f.locals 255) (functions_of tree fin hs ks) ≡ true
unfolding all functions_of function_from
functions-slots tree fin [] ks = refl
functions-slots tree fin (h ∷ hs) [] = refl
functions-slots tree fin (h ∷ hs) (k ∷ ks) = rw (le-leb (h % 2 ^ 8) 255 (omega arith)) (functions-slots tree fin hs ks)

-- a head's function has its symbol
pub functions-named : (tree fin : List ℕ) (n : ℕ) {hs : List ℕ} (ks : List ℕ) → Every (NamedWithin n) hs → all (λ (f : Function). ltb f.symbol n) (functions_of tree fin hs ks) ≡ true
unfolding all functions_of function_from
functions-named tree fin n ks no_every = refl
functions-named tree fin n [] (every p w) = refl
functions-named tree fin n (k ∷ ks) (every {a} p w) = rw (lt-ltb (a / 2 ^ 16) n p) (functions-named tree fin n ks w)

-- one function more
pub functions-snoc : (tree fin hs ks : List ℕ) (h k : ℕ) → length hs ≡ length ks
    → functions_of tree fin (hs ++ h ∷ []) (ks ++ k ∷ []) ≡ functions_of tree fin hs ks ++ function_from tree fin h k ∷ []
unfolding functions_of
functions-snoc tree fin [] [] h k e = refl
functions-snoc tree fin [] (y ∷ ks) h k e = absurd (omega arith)
functions-snoc tree fin (x ∷ hs) [] h k e = absurd (omega arith)
functions-snoc tree fin (x ∷ hs) (y ∷ ks) h k e = ap (λ (fs : List Function). function_from tree fin x y ∷ fs) (functions-snoc tree fin hs ks h k (omega arith))

-- a function gets its code
pub functions-set : (tree fin hs ks : List ℕ) (i k : ℕ)
    → functions_of tree fin hs (set ks i k) ≡ set_code (functions_of tree fin hs ks) i (instrs_of tree (region (place_of k) (count_of k) fin))
unfolding functions_of function_from set_code
functions-set tree fin [] ks i k = refl
functions-set tree fin (h ∷ hs) [] i k = refl
functions-set tree fin (h ∷ hs) (x ∷ ks) zero k = refl
functions-set tree fin (h ∷ hs) (x ∷ ks) (suc i) k = ap (λ (fs : List Function). function_from tree fin h x ∷ fs) (functions-set tree fin hs ks i k)

-- functions whose code lies in a beginning that the finished words share
pub functions-same : (tree fin fin' hs ks : List ℕ) (n : ℕ) → Every (EndsWithin n) ks → take n fin ≡ take n fin' → functions_of tree fin hs ks ≡ functions_of tree fin' hs ks
unfolding functions_of function_from
functions-same tree fin fin' [] ks n w e = refl
functions-same tree fin fin' (h ∷ hs) [] n w e = refl
functions-same tree fin fin' (h ∷ hs) (k ∷ ks) n (every p w) e =
    let r = region-same n (place_of k) (count_of k) fin fin' p e in
    let s = functions-same tree fin fin' hs ks n w e in
    λ j. coded (h / 2 ^ 16) (h / 2 ^ 8 % 2 ^ 8) (h % 2 ^ 8) (instrs_of tree (r j)) ∷ s j

-- ---- the names and the places of methods: classes

pub classes-length : (tree ms xs ks : List ℕ) → length xs ≡ length ks → length (classes_of tree ms xs ks) ≡ length xs
unfolding classes_of
classes-length tree ms [] ks e = refl
classes-length tree ms (x ∷ xs) [] e = sym e
classes-length tree ms (x ∷ xs) (k ∷ ks) e = ap suc (classes-length tree ms xs ks (omega arith))

pub classes-snoc : (tree ms xs ks : List ℕ) (x k : ℕ) → length xs ≡ length ks → classes_of tree ms (xs ++ x ∷ []) (ks ++ k ∷ []) ≡ classes_of tree ms xs ks ++ class_of tree ms x k ∷ []
unfolding classes_of
classes-snoc tree ms [] [] x k e = refl
classes-snoc tree ms [] (y ∷ ks) x k e = absurd (omega arith)
classes-snoc tree ms (h ∷ xs) [] x k e = absurd (omega arith)
classes-snoc tree ms (h ∷ xs) (y ∷ ks) x k e = ap (λ (cs : List Class). class_of tree ms h y ∷ cs) (classes-snoc tree ms xs ks x k (omega arith))

-- classes whose methods lie in a beginning that two tables of methods share
pub classes-same : (tree ms ms' xs ks : List ℕ) (n : ℕ) → Every (EndsWithin n) ks → take n ms ≡ take n ms' → classes_of tree ms xs ks ≡ classes_of tree ms' xs ks
unfolding classes_of class_of
classes-same tree ms ms' [] ks n w e = refl
classes-same tree ms ms' (x ∷ xs) [] n w e = refl
classes-same tree ms ms' (x ∷ xs) (k ∷ ks) n (every p w) e =
    let r = region-same n (place_of k) (count_of k) ms ms' p e in
    let s = classes-same tree ms ms' xs ks n w e in
    λ j. record { name = name_at tree x; methods = map (method_from tree) (r j) } ∷ s j

-- ---- how many finished words

pub total-snoc : (ks : List ℕ) (k : ℕ) → total (ks ++ k ∷ []) ≡ total ks + count_of k
unfolding total
total-snoc [] k = omega arith
total-snoc (x ∷ ks) k = omega (arith, total-snoc ks k)

pub total-set : (ks : List ℕ) (i k : ℕ) → i < length ks → total (set ks i k) + count_of (get_or ks i 0) ≡ total ks + count_of k
unfolding total
total-set [] i k h = omega arith
total-set (x ∷ ks) zero k h = omega arith
total-set (x ∷ ks) (suc i) k h = omega (arith, total-set ks i k (omega arith))

-- they are the instructions of the functions
pub instructions-total : (tree fin hs ks : List ℕ) (n : ℕ) → length hs ≡ length ks → Every (EndsWithin n) ks → n ≤ length fin → instructions (functions_of tree fin hs ks) ≡ total ks
unfolding functions_of function_from instructions total instrs_of
instructions-total tree fin [] [] n e w h = refl
instructions-total tree fin [] (k ∷ ks) n e w h = omega arith
instructions-total tree fin (x ∷ hs) [] n e w h = omega arith
instructions-total tree fin (x ∷ hs) (k ∷ ks) n e (every p w) h =
    omega (arith, instructions-total tree fin hs ks n (omega arith) w h, length-map (region (place_of k) (count_of k) fin) (instr_of tree), region-length (place_of k) (count_of k) fin (omega arith))

-- ---- made names

get_d-same : (n i : ℕ) (xs ys : List ℕ) → i < n → take n xs ≡ take n ys → get_or xs i 0 ≡ get_or ys i 0
get_d-same n i xs ys h e = sym (get_or-take n xs i 0 h) ∙ ap (λ (l : List ℕ). get_or l i 0) e ∙ get_or-take n ys i 0 h

pub made-within-same : (made made' : List ℕ) (n w : ℕ) → take n made ≡ take n made' → MadeWithin made n w → MadeWithin made' n w
made-within-same made made' n w s p h = let k = p h in omega (arith, get_d-same n (w - 32768) made made' (omega arith) s)

pub made-within-more : (made : List ℕ) (m n w : ℕ) → m ≤ n → MadeWithin made m w → MadeWithin made n w
made-within-more made m n w l p h = let k = p h in omega arith

pub ends-within-more : (m n k : ℕ) → m ≤ n → EndsWithin m k → EndsWithin n k
ends-within-more m n k l p = omega arith

name-same : (made made' : List ℕ) (n p : ℕ) → p + 1 + get_or made p 0 ≤ n → take n made ≡ take n made' → name_at made p ≡ name_at made' p
unfolding name_at region
name-same made made' n p h s =
    let e = get_d-same n p made made' (omega arith) s in
    region-same n (p + 1) (get_or made p 0) made made' h s ∙ ap (λ (k : ℕ). take k (drop (p + 1) made')) e

spell-same : (tree made made' : List ℕ) (n w : ℕ) → MadeWithin made n w → take n made ≡ take n made' → spelled tree made w ≡ spelled tree made' w
unfolding spelled
spell-same tree made made' n w p s = go (ltb w 32768) refl
  where
    go : (b : Bool) → ltb w 32768 ≡ b → ◌≡◌ {A = Name} (elim b as (λ c. Name) [ true ↦ name_at tree w | false ↦ name_at made (w - 32768) ]) (elim b as (λ c. Name) [ true ↦ name_at tree w | false ↦ name_at made' (w - 32768) ])
    go true e = refl
    go false e = name-same made made' n (w - 32768) (p (ltb-false w 32768 e)) s

-- names that lie in a beginning that the made bytes share
pub spelled_same : (tree made made' : List ℕ) (n : ℕ) (ws : List ℕ) → Every (MadeWithin made n) ws → take n made ≡ take n made' → map (spelled tree made) ws ≡ map (spelled tree made') ws
spelled_same tree made made' n [] e s = refl
spelled_same tree made made' n (w ∷ ws) (every p e) s = rw (spell-same tree made made' n w p s, spelled_same tree made made' n ws e s)
