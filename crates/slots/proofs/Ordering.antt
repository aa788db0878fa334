-- Names compared and put in byte order, step by step. Assumes nothing.
use Prim.Native.Nat.{ℕ, zero, suc, ◌+◌, ◌-◌, ◌<◌, ◌≤◌}
use mathlib.Core.Path.{◌≡◌, refl, sym, ap, ◌∙◌, subst, ap₂}
use mathlib.Core.Bool.{true, false}
use mathlib.Core.List.{List, [], ◌∷◌, ◌++◌, append-nil}
use native.Mathlib.Omega.{arith}
use native.Mathlib.Numerals.{add-one}
use lib.ListN.{length, take, drop, get_or, length-drop, length-append, drop_of_length-le}
use lib.Seq.{take_all, drop-length, drop-cons, drop-drop, get_or-drop, get_or-take, take-take, length-take-le, take_at, drop_at}
use borrow.Rule.Slice.PartMut.{put_mid, post_of}
use Rattle.definitions.specs.Bytes.{Name, below}
use Rattle.definitions.specs.Slots.{insert, sort}
use Rattle.state.specs.Words.{name_at}
use Rattle.state.specs.State.{names_at}
use Rattle.slots.specs.Order.{SpotInOrder}

-- ---- insertion

pub insert-here : (x y : Name) (ys : List Name) → below x y ≡ true → insert x (y ∷ ys) ≡ x ∷ y ∷ ys
unfolding insert
insert-here x y ys e = rw (e, insert)

pub insert-after : (x y : Name) (ys : List Name) → below x y ≡ false → insert x (y ∷ ys) ≡ y ∷ insert x ys
unfolding insert
insert-after x y ys e = rw (e, insert)

names-cons : (t : List ℕ) (p : ℕ) (ps : List ℕ) → names_at t (p ∷ ps) ≡ name_at t p ∷ names_at t ps
unfolding names_at
names-cons t p ps = refl

names-none : (t : List ℕ) → names_at t [] ≡ []
unfolding names_at
names-none t = refl

names-from : (t ps : List ℕ) (j : ℕ) → j < length ps → names_at t (drop j ps) ≡ name_at t (get_or ps j 0) ∷ names_at t (drop (j + 1) ps)
names-from t ps j h = ap (names_at t) (drop-cons ps j 0 h) ∙ names-cons t (get_or ps j 0) (drop (suc j) ps) ∙ ap (λ (k : ℕ). name_at t (get_or ps j 0) ∷ names_at t (drop k ps)) (sym (add-one j))

-- x comes after the first r, which it does not come before, and before the next
inserted : (t : List ℕ) (x : ℕ) (qs : List ℕ) (r : ℕ) → r ≤ length qs → ((i : ℕ) → i < r → below (name_at t x) (name_at t (get_or qs i 0)) ≡ false) → (r < length qs → below (name_at t x) (name_at t (get_or qs r 0)) ≡ true)
    → names_at t ((take r qs ++ x ∷ []) ++ drop r qs) ≡ insert (name_at t x) (names_at t qs)
unfolding insert names_at
inserted t x [] zero h f g = refl
inserted t x (q ∷ qs) zero h f g = sym (insert-here (name_at t x) (name_at t q) (names_at t qs) (g (omega arith)))
inserted t x [] (suc r) h f g = absurd (omega arith)
inserted t x (q ∷ qs) (suc r) h f g =
    ap (λ (l : List Name). name_at t q ∷ l) (inserted t x qs r (omega arith) (λ i e. f (suc i) (omega arith)) (λ e. g (omega arith)))
    ∙ sym (insert-after (name_at t x) (name_at t q) (names_at t qs) (f 0 (omega arith)))

rotated : (ps : List ℕ) (r : ℕ) → 0 < length ps → (drop 1 (take (r + 1) ps) ++ take 1 (take (r + 1) ps)) ++ drop (r + 1) ps ≡ (take r (drop 1 ps) ++ get_or ps 0 0 ∷ []) ++ drop r (drop 1 ps)
rotated [] r h = absurd (omega arith)
rotated (p ∷ ps) r h = ap (λ (k : ℕ). (drop 1 (take k (p ∷ ps)) ++ take 1 (take k (p ∷ ps))) ++ drop k (p ∷ ps)) (add-one r)

after_first : (ps : List ℕ) (i : ℕ) → get_or (drop 1 ps) i 0 ≡ get_or ps (i + 1) 0
after_first ps i = get_or-drop 1 ps i 0 ∙ ap (λ (k : ℕ). get_or ps k 0) (let e : 1 + i ≡ i + 1 = omega arith in e)

-- the first place at its spot
pub insert-first : (t ps : List ℕ) (r : ℕ) → SpotInOrder t (get_or ps 0 0) ps r → names_at t ((drop 1 (take (r + 1) ps) ++ take 1 (take (r + 1) ps)) ++ drop (r + 1) ps) ≡ insert (name_at t (get_or ps 0 0)) (names_at t (drop 1 ps))
insert-first t ps r s =
    let h = s.inside in
    let n = length-drop 1 ps in
    let x = name_at t (get_or ps 0 0) in
    ap (names_at t) (rotated ps r (omega arith))
    ∙ inserted t (get_or ps 0 0) (drop 1 ps) r (omega arith)
    (λ i e. ap (λ (w : ℕ). below x (name_at t w)) (after_first ps i) ∙ s.before i e)
    (λ e. ap (λ (w : ℕ). below x (name_at t w)) (after_first ps r) ∙ s.after (omega arith))

-- ---- sorting: from i on the names are in order

pub record Sorting (t ps₀ ps : List ℕ) (i : ℕ) : Type 0 where
  pub front : take i ps ≡ take i ps₀
  pub names : names_at t (drop i ps) ≡ sort (names_at t (drop i ps₀))
  pub most : i ≤ length ps
  pub kept : length ps ≡ length ps₀

pub sort-start : (t ps : List ℕ) → Sorting t ps ps (length ps)
unfolding sort
sort-start t ps = let e : names_at t (drop (length ps) ps) ≡ [] = ap (names_at t) (drop-length ps) ∙ names-none t in
    record { front = refl; names = e ∙ sym (ap sort e); most = omega arith; kept = refl }

pub sort-done : (t ps₀ ps : List ℕ) (i : ℕ) → Sorting t ps₀ ps i → i ≤ 0 → names_at t ps ≡ sort (names_at t ps₀)
sort-done t ps₀ ps i l h = let e : i ≡ 0 = omega arith in
    sym (ap (λ (k : ℕ). names_at t (drop k ps)) e) ∙ l.names ∙ ap (λ (k : ℕ). sort (names_at t (drop k ps₀))) e

module _ (t ps₀ ps : List ℕ) (i j : ℕ) (l : Sorting t ps₀ ps i) (h : 0 < i) (e : j ≡ i - 1) where
  same_first : get_or (drop j ps) 0 0 ≡ get_or ps₀ j 0
  same_first =
      let z : j + 0 ≡ j = omega arith in
      get_or-drop j ps 0 0 ∙ ap (λ (k : ℕ). get_or ps k 0) z ∙ sym (get_or-take i ps j 0 (omega arith)) ∙ ap (λ (q : List ℕ). get_or q j 0) l.front ∙ get_or-take i ps₀ j 0 (omega arith)

  pub sort-next : (part : List ℕ) → length part ≡ length (drop j ps) → names_at t part ≡ insert (name_at t (get_or (drop j ps) 0 0)) (names_at t (drop 1 (drop j ps))) → Sorting t ps₀ (take j ps ++ part) j
  unfolding sort
  sort-next part w g =
      let m = l.most in
      let k = l.kept in
      let len : length (take j ps) ≡ j = length-take-le j ps (omega arith) in
      let z : j + 1 ≡ i = omega arith in
      record {
        front = take_at (take j ps) part j len ∙ sym (take-take j i ps (omega arith)) ∙ ap (take j) l.front ∙ take-take j i ps₀ (omega arith);
        names = ap (names_at t) (drop_at (take j ps) part j len) ∙ g
            ∙ ap₂ (λ (a : ℕ) (b : List ℕ). insert (name_at t a) (names_at t b)) same_first (drop-drop 1 j ps ∙ ap (λ (q : ℕ). drop q ps) z)
            ∙ ap (insert (name_at t (get_or ps₀ j 0))) (l.names ∙ ap (λ (q : ℕ). sort (names_at t (drop q ps₀))) (sym z))
            ∙ sym (ap sort (names-from t ps₀ j (omega arith)));
        most = omega (arith, length-append (take j ps) part, length-drop j ps);
        kept = let q = length-drop j ps in let r : length (take j ps ++ part) ≡ length ps = omega (arith, length-append (take j ps) part) in r ∙ l.kept;
      }

  -- the part from j on, lent and put back
  the-part : take (length ps - j) (drop j ps) ≡ drop j ps
  the-part = take_all (length ps - j) (drop j ps) (let q = length-drop j ps in omega arith)

  pub sort-first : 0 < length (take (length ps - j) (drop j ps))
  sort-first = let m = l.most in let q = length-drop j ps in let r = ap length the-part in omega arith

  put_back : (part : List ℕ) → take j ps ++ part ≡ put_mid j (length ps - j) ps part
  put_back part =
      let m = l.most in
      let e : post_of j (length ps - j) ps ≡ [] = drop_of_length-le (drop j ps) {i = length ps - j} (let q = length-drop j ps in omega arith) in
      sym (ap (λ (z : List ℕ). take j ps ++ (part ++ z)) e ∙ ap (λ (z : List ℕ). take j ps ++ z) (append-nil part))

  pub sort-put : (part : List ℕ) → length part ≡ length (take (length ps - j) (drop j ps)) →
      names_at t part ≡ insert (name_at t (get_or (take (length ps - j) (drop j ps)) 0 0)) (names_at t (drop 1 (take (length ps - j) (drop j ps)))) → Sorting t ps₀ (put_mid j (length ps - j) ps part) j
  sort-put part w g = subst (λ (z : List ℕ). Sorting t ps₀ z j) (put_back part)
      (sort-next part (w ∙ ap length the-part) (g ∙ ap (λ (z : List ℕ). insert (name_at t (get_or z 0 0)) (names_at t (drop 1 z))) the-part))
