-- An index of names: what a bucket tells of a name, and what a bucket that is set leaves. Assumes nothing.
use Prim.Native.Nat.{ℕ, zero, suc, ◌+◌, ◌-◌, ◌%◌, ◌≤◌, ◌<◌}
use mathlib.Core.Path.{◌≡◌, refl, sym, ap, subst, ◌∙◌}
use mathlib.Core.Bool.{Bool, true, false}
use mathlib.Core.Option.{Option, some}
use mathlib.Core.List.{List, [], ◌∷◌, ◌++◌, map}
use native.Mathlib.Omega.{arith}
use lib.Dec.{ltb, eqb}
use lib.ListN.{length, take, drop, get_or, set, length-take, length-drop}
use lib.Seq.{take_all, get_or-set_same, get_or-set_other, get_or-take}
use borrow.Author.Tests.{eqb-true, eqb-false, ltb-true, ltb-false, lt-ltb}
use Rattle.definitions.specs.Bytes.{Name, same, position}
use Rattle.definitions.proofs.Resolve.{position-lt}
use Rattle.state.specs.Words.{name_at}
use Rattle.state.specs.Index.{hash_of, bucket_of, Covered, none_covered, covered, seek_from}
use Rattle.state.specs.State.{names_at, slots_from, slot_names, Slots}
use Rattle.names.specs.Sought.{shifted, sought_from}
use Rattle.names.proofs.Finding.{step, position-cons, shifted-zero, step_shifted, names-length}
use Rattle.state.proofs.Index.{bucket-below}
use Rattle.definitions.proofs.MethodOrder.{same-eq}

-- ---- the hash

pub bucket-of : (size h : ℕ) (x : Name) → h ≡ hash_of x → h % size ≡ bucket_of size x
unfolding bucket_of
bucket-of size h x e = ap (λ (k : ℕ). k % size) e

-- ---- a name sought

place-other : (x y : Name) (ys : List Name) → same x y ≡ false → position (same x) (y ∷ ys) ≡ step false (position (same x) ys)
place-other x y ys e = position-cons (same x) y ys ∙ ap (λ (b : Bool). step b (position (same x) ys)) e

module _ (size : ℕ) (bs : List ℕ) (x : Name) where
  abbrev bucket : ℕ
  bucket = get_or bs (bucket_of size x) 0

  -- it is not among those whose numbers are all below its bucket's word, nor among any where that is 0
  passed_over : (s j : ℕ) (xs : List Name) → Covered size bs j xs → ((m : ℕ) → m < s → 0 < bucket → bucket ≤ j + m + 1 → ⊥) → s ≤ length xs → position (same x) xs ≡ shifted s (position (same x) (drop s xs))
  passed_over zero j xs v h l = shifted-zero (position (same x) xs)
  passed_over (suc s) j [] v h l = absurd (omega arith)
  passed_over (suc s) j (y ∷ ys) (covered more most rest) h l = go (same x y) refl (passed_over s (j + 1) ys rest (λ m g a b. h (suc m) (omega arith) a (omega arith)) (omega arith))
    where
      go : (b : Bool) → same x y ≡ b → position (same x) ys ≡ shifted s (position (same x) (drop s ys)) → position (same x) (y ∷ ys) ≡ shifted (suc s) (position (same x) (drop s ys))
      go true f r =
          let e = same-eq x y f in
          let a : 0 < bucket = subst (λ (z : Name). 0 < get_or bs (bucket_of size z) 0) (sym e) more in
          let b : bucket ≤ j + 1 = subst (λ (z : Name). get_or bs (bucket_of size z) 0 ≤ j + 1) (sym e) most in
          absurd (h 0 (omega arith) a (omega arith))
      go false f r = place-other x y ys f ∙ ap (step false) r ∙ step_shifted s (position (same x) (drop s ys))

  start-passes : (k n : ℕ) (xs : List Name) → Covered size bs 0 xs → length xs ≡ n → bucket ≡ k → (seek_from k n ≤ n) × ((m : ℕ) → m < seek_from k n → 0 < bucket → bucket ≤ 0 + m + 1 → ⊥)
  unfolding seek_from
  start-passes zero n xs v l e = (omega arith, λ m h a b. omega arith)
  start-passes (suc k) n xs v l e = go (ltb k n) refl
    where
      go : (b : Bool) → ltb k n ≡ b → (elim b as (λ z. ℕ) [ true ↦ k | false ↦ n ] ≤ n) × ((m : ℕ) → m < elim b as (λ z. ℕ) [ true ↦ k | false ↦ n ] → 0 < bucket → bucket ≤ 0 + m + 1 → ⊥)
      go true f = let p = ltb-true k n f in (omega arith, λ m h a b. omega arith)
      go false f = let p = ltb-false k n f in (omega arith, λ m h a b. omega arith)

  pub sought-found : (k : ℕ) (xs : List Name) → bucket ≡ k → Covered size bs 0 xs → sought_from k x xs ≡ position (same x) xs
  unfolding sought_from
  sought-found k xs e v = let s = start-passes k (length xs) xs v refl e in sym (passed_over (seek_from k (length xs)) 0 xs v s.1 s.0)

-- ---- the search of the code

map-drop : {A B : Type 0} (f : A → B) (n : ℕ) (xs : List A) → map f (drop n xs) ≡ drop n (map f xs)
map-drop f zero xs = refl
map-drop f (suc n) [] = refl
map-drop f (suc n) (x ∷ xs) = map-drop f n xs

-- among the places from s on
pub sought-at : (t ps : List ℕ) (k s : ℕ) (x : Name) (o : Option ℕ) → s ≡ seek_from k (length ps) → o ≡ position (same x) (names_at t (take (length ps - s) (drop s ps))) → shifted s o ≡ sought_from k x (names_at t ps)
unfolding sought_from names_at
sought-at t ps k s x o e f =
    let r : o ≡ position (same x) (drop s (names_at t ps)) = f
    ∙ ap (λ (w : List ℕ). position (same x) (names_at t w)) (take_all (length ps - s) (drop s ps) (omega (arith, length-drop s ps)))
    ∙ ap (position (same x)) (map-drop (name_at t) s ps) in
    ap (shifted s) r ∙ ap (λ (j : ℕ). shifted j (position (same x) (drop j (names_at t ps)))) (e ∙ ap (seek_from k) (sym (names-length t ps)))

pub sought-lt : (t ps : List ℕ) (s k : ℕ) (x : Name) → some k ≡ position (same x) (names_at t (take (length ps - s) (drop s ps))) → s + k < length ps
sought-lt t ps s k x f =
    let h = position-lt (same x) (names_at t (take (length ps - s) (drop s ps))) k (sym f) in
    omega (arith, names-length t (take (length ps - s) (drop s ps)), length-take (length ps - s) (drop s ps), length-drop s ps)

-- ---- buckets that are set

start-at : (k n : ℕ) → 0 < k → k - 1 < n → k - 1 ≡ seek_from k n
unfolding seek_from
start-at zero n h g = absurd (omega arith)
start-at (suc k) n h g = let e : suc k - 1 ≡ k = omega arith in let b = lt-ltb k n (omega arith) in e ∙ sym (rw (b, seek_from))

module _ (size : ℕ) (bs bs' : List ℕ) (some : 0 < size) (f : (i : ℕ) → i < size → get_or bs' i 0 ≡ get_or bs i 0) where
  pub covered-as : (j : ℕ) (xs : List Name) → Covered size bs j xs → Covered size bs' j xs
  covered-as j [] none_covered = none_covered
  covered-as j (x ∷ xs) (covered more most rest) = let e = f (bucket_of size x) (bucket-below size x some) in covered {j = j} {x = x} (omega arith) (omega arith) (covered-as (j + 1) xs rest)

-- a word after the buckets
pub covered_out : (size : ℕ) (bs : List ℕ) (i w : ℕ) (xs : List Name) → 0 < size → size ≤ i → Covered size bs 0 xs → Covered size (set bs i w) 0 xs
covered_out size bs i w xs z h v = covered-as size bs (set bs i w) z (λ k g. get_or-set_other bs i k w 0 (λ e. omega arith)) 0 xs v

-- a part with all buckets
pub covered-part : (size : ℕ) (bs : List ℕ) (m : ℕ) (xs : List Name) → 0 < size → size ≤ m → Covered size bs 0 xs → Covered size (take m bs) 0 xs
covered-part size bs m xs z h v = covered-as size bs (take m bs) z (λ k g. get_or-take m bs k 0 (omega arith)) 0 xs v

module _ (size : ℕ) (bs : List ℕ) (b : ℕ) (inside : b < length bs) where
  set_there : (x : Name) (v : ℕ) → bucket_of size x ≡ b → get_or (set bs b v) (bucket_of size x) 0 ≡ v
  set_there x v e = ap (λ (i : ℕ). get_or (set bs b v) i 0) e ∙ get_or-set_same bs b v 0 inside

  -- no word that is less than a number is too late
  pub covered-set : (v j : ℕ) (xs : List Name) → 0 < v → v ≤ j + 1 → Covered size bs j xs → Covered size (set bs b v) j xs
  covered-set v j [] h k none_covered = none_covered
  covered-set v j (x ∷ xs) h k (covered more most rest) = go (eqb (bucket_of size x) b) refl (covered-set v (j + 1) xs h (omega arith) rest)
    where
      go : (c : Bool) → eqb (bucket_of size x) b ≡ c → Covered size (set bs b v) (j + 1) xs → Covered size (set bs b v) j (x ∷ xs)
      go true f r = let e = set_there x v (eqb-true _ _ f) in covered {j = j} {x = x} (omega arith) (omega arith) r
      go false f r = let e = get_or-set_other bs b (bucket_of size x) v 0 (eqb-false _ _ f) in covered {j = j} {x = x} (omega arith) (omega arith) r

  -- a name before the others
  pub covered-cons : (x : Name) (j : ℕ) (xs : List Name) → bucket_of size x ≡ b → Covered size bs (j + 1) xs → Covered size (set bs b (j + 1)) j (x ∷ xs)
  covered-cons x j xs e v = let g = set_there x (j + 1) e in covered {j = j} {x = x} (omega arith) (omega arith) (covered-set (j + 1) (j + 1) xs (omega arith) (omega arith) v)

  -- a name after the others
  pub covered-snoc : (x : Name) (n s j : ℕ) (xs : List Name) → bucket_of size x ≡ b → s ≡ seek_from (get_or bs b 0) n → s ≤ n → j + length xs ≡ n → Covered size bs j xs → Covered size (set bs b (s + 1)) j (xs ++ x ∷ [])
  covered-snoc x n s j [] e f l h none_covered = let g = set_there x (s + 1) e in covered {j = j} {x = x} (omega arith) (omega arith) none_covered
  covered-snoc x n s j (y ∷ ys) e f l h (covered more most rest) = go (eqb (bucket_of size y) b) refl (covered-snoc x n s (j + 1) ys e f l (omega arith) rest)
    where
      go : (c : Bool) → eqb (bucket_of size y) b ≡ c → Covered size (set bs b (s + 1)) (j + 1) (ys ++ x ∷ []) → Covered size (set bs b (s + 1)) j ((y ∷ ys) ++ x ∷ [])
      go true i r =
          let d = eqb-true _ _ i in
          let w : get_or bs (bucket_of size y) 0 ≡ get_or bs b 0 = ap (λ (q : ℕ). get_or bs q 0) d in
          let u = start-at (get_or bs b 0) n (omega arith) (omega arith) in
          let g = set_there y (s + 1) d in
          covered {j = j} {x = y} (omega arith) (omega arith) r
      go false i r = let g = get_or-set_other bs b (bucket_of size y) (s + 1) 0 (eqb-false _ _ i) in covered {j = j} {x = y} (omega arith) (omega arith) r

-- ---- slots

-- a name among places, by the word in its bucket
pub place_found : (t slots ps : List ℕ) (x y : Name) (b : ℕ) (o : Option ℕ) → Covered slots_from slots 0 (names_at t ps) → y ≡ x → b ≡ bucket_of slots_from y → o ≡ sought_from (get_or slots b 0) y (names_at t ps)
    → o ≡ position (same x) (names_at t ps)
place_found t slots ps x y b o v e f g =
    g ∙ sought-found slots_from slots y (get_or slots b 0) (names_at t ps) (ap (λ (i : ℕ). get_or slots i 0) (sym f)) v ∙ ap (λ (z : Name). position (same z) (names_at t ps)) e

pub slot-found : (t slots : List ℕ) (x y : Name) (b : ℕ) (o : Option ℕ) → Slots t slots → y ≡ x → b ≡ bucket_of slots_from y
    → o ≡ sought_from (get_or slots b 0) y (names_at t (take (length slots - slots_from) (drop slots_from slots))) → o ≡ position (same x) (slot_names t slots)
slot-found t slots x y b o s e f g =
    place_found t slots (drop slots_from slots) x y b o s.indexed e f
    (g ∙ ap (λ (ps : List ℕ). sought_from (get_or slots b 0) y (names_at t ps)) (take_all (length slots - slots_from) (drop slots_from slots) (omega (arith, length-drop slots_from slots))))

-- how many there are
pub slots-count : (t slots : List ℕ) → Slots t slots → (length (slot_names t slots) ≡ length slots - slots_from) × (length slots - slots_from ≤ 255)
slots-count t slots s = let r = s.room in let f = s.few in (names-length t (drop slots_from slots) ∙ length-drop slots_from slots, omega arith)
