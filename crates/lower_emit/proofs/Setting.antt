-- A list that is replaced in place, element by element; words that are set.
use Prim.Native.Nat.{ℕ, zero, suc, ◌+◌, ◌-◌, ◌≤◌, ◌<◌}
use mathlib.Core.Path.{◌≡◌, refl, sym, ap, ◌∙◌}
use mathlib.Core.List.{List, [], ◌∷◌, ◌++◌, map, append-nil, append_assoc}
use native.Mathlib.Omega.{arith}
use native.Mathlib.Numerals.{add-one}
use lib.ListN.{length, take, drop, set, get_or, length-set, drop_of_length-le}
use lib.Seq.{paste, take-take, take_all, take_at, drop_at, take-add, drop-nil, drop-drop, length-take-le}
use Rattle.state.specs.Words.{region}
use Rattle.state.proofs.Regions.{set_below, set-above, set_next}

-- the first i are those of P, the others those of xs
abbrev pub mixed : ℕ → List ℕ → List ℕ → List ℕ
mixed i P xs = take i P ++ drop i xs

get_d-none : (i : ℕ) → ◌≡◌ {A = ℕ} (get_or [] i 0) 0
get_d-none zero = refl
get_d-none (suc i) = refl

pub mixed-read : (i : ℕ) (P xs : List ℕ) → i ≤ length P → get_or (mixed i P xs) i 0 ≡ get_or xs i 0
mixed-read zero P xs h = refl
mixed-read (suc i) [] xs h = absurd (omega arith)
mixed-read (suc i) (p ∷ P) [] h = ap (λ (l : List ℕ). get_or (take i P ++ l) i 0) (sym (drop-nil i)) ∙ mixed-read i P [] (omega arith) ∙ get_d-none i
mixed-read (suc i) (p ∷ P) (x ∷ xs) h = mixed-read i P xs (omega arith)

mixed-suc : (i : ℕ) (P xs : List ℕ) → i < length P → i < length xs → set (mixed i P xs) i (get_or P i 0) ≡ mixed (suc i) P xs
mixed-suc i [] xs h k = absurd (omega arith)
mixed-suc i (p ∷ P) [] h k = absurd (omega arith)
mixed-suc zero (p ∷ P) (x ∷ xs) h k = refl
mixed-suc (suc i) (p ∷ P) (x ∷ xs) h k = ap (λ (l : List ℕ). p ∷ l) (mixed-suc i P xs (omega arith) (omega arith))

pub mixed-set : (i : ℕ) (P xs : List ℕ) (v : ℕ) → i < length P → i < length xs → v ≡ get_or P i 0 → set (mixed i P xs) i v ≡ mixed (i + 1) P xs
mixed-set i P xs v h k e = rw (e, add-one) (mixed-suc i P xs h k)

pub mixed-all : (P xs : List ℕ) (i : ℕ) → length P ≤ i → length xs ≤ i → mixed i P xs ≡ P
mixed-all P xs i h k = rw (take_all i P h, drop_of_length-le xs k) (append-nil P)

pub map-set : {A : Type 0} (f : ℕ → A) (ws : List ℕ) (j w : ℕ) → map f (set ws j w) ≡ set (map f ws) j (f w)
map-set f [] j w = refl
map-set f (x ∷ ws) zero w = refl
map-set f (x ∷ ws) (suc j) w = ap (λ l. f x ∷ l) (map-set f ws j w)

pub map-take : {A : Type 0} (f : ℕ → A) (n : ℕ) (ws : List ℕ) → map f (take n ws) ≡ take n (map f ws)
map-take f zero ws = refl
map-take f (suc n) [] = refl
map-take f (suc n) (x ∷ ws) = ap (λ l. f x ∷ l) (map-take f n ws)

pub map-drop : {A : Type 0} (f : ℕ → A) (n : ℕ) (ws : List ℕ) → map f (drop n ws) ≡ drop n (map f ws)
map-drop f zero ws = refl
map-drop f (suc n) [] = refl
map-drop f (suc n) (x ∷ ws) = map-drop f n ws

-- two areas that end alike from a on do so from b on
pub drop-later : (a b : ℕ) (xs ys : List ℕ) → a ≤ b → drop a xs ≡ drop a ys → drop b xs ≡ drop b ys
drop-later a b xs ys h e =
    let s : a + (b - a) ≡ b = omega arith in
    ap (λ (n : ℕ). drop n xs) (sym s) ∙ sym (drop-drop (b - a) a xs) ∙ ap (drop (b - a)) e ∙ drop-drop (b - a) a ys ∙ ap (λ (n : ℕ). drop n ys) s

-- what a list has from a on, up to b
pub drop-take : (a b : ℕ) (xs : List ℕ) → a ≤ b → a ≤ length xs → drop a (take b xs) ≡ take (b - a) (drop a xs)
drop-take a b xs h k =
    let s : b ≡ a + (b - a) = omega arith in
    ap (λ (n : ℕ). drop a (take n xs)) s ∙ ap (drop a) (take-add a (b - a) xs) ∙ drop_at (take a xs) (take (b - a) (drop a xs)) a (length-take-le a xs k)

-- an area after a copy: before it, and at it
module _ (d s : List ℕ) (at n : ℕ) (room : at + n ≤ length d) (enough : n ≤ length s) where
  pub paste-take : (m : ℕ) → m ≤ at → take m (paste d at s n) ≡ take m d
  paste-take m h =
      sym (take-take m at (paste d at s n) h)
      ∙ ap (take m) (ap (take at) (append_assoc (take at d) (take n s) (drop (at + n) d)) ∙ take_at (take at d) (take n s ++ drop (at + n) d) at (length-take-le at d (omega arith)))
      ∙ take-take m at d h

  pub paste-here : region at n (paste d at s n) ≡ take n s
  unfolding region
  paste-here =
      ap (take n) (ap (drop at) (append_assoc (take at d) (take n s) (drop (at + n) d)) ∙ drop_at (take at d) (take n s ++ drop (at + n) d) at (length-take-le at d (omega arith)))
      ∙ take_at (take n s) (drop (at + n) d) n (length-take-le n s enough)

-- one word more in each of two tables, of which the second's is 0
module _ (a b n h : ℕ) (xs : List ℕ) (apart : a + n < b) (room : b + n < length xs) where
  abbrev grown : List ℕ
  grown = set (set xs (a + n) h) (b + n) 0

  pub grown-length : length grown ≡ length xs
  grown-length = length-set (set xs (a + n) h) (b + n) 0 ∙ length-set xs (a + n) h

  pub grown-below : (p k : ℕ) → p + k ≤ a → region p k grown ≡ region p k xs
  grown-below p k g = set_below p k (b + n) 0 (set xs (a + n) h) (omega arith) ∙ set_below p k (a + n) h xs (omega arith)

  pub grown-above : (p k : ℕ) → b + n < p → region p k grown ≡ region p k xs
  grown-above p k g = set-above p k (b + n) 0 (set xs (a + n) h) g ∙ set-above p k (a + n) h xs (omega arith)

  pub grown-first : region a (n + 1) grown ≡ region a n xs ++ h ∷ []
  grown-first = set_below a (n + 1) (b + n) 0 (set xs (a + n) h) (omega arith) ∙ set_next a n h xs (omega arith)

  pub grown-second : region b (n + 1) grown ≡ region b n xs ++ 0 ∷ []
  grown-second =
      set_next b n 0 (set xs (a + n) h) (omega (arith, length-set xs (a + n) h))
      ∙ ap (λ (z : List ℕ). z ++ 0 ∷ []) (set-above b n (a + n) h xs apart)
