-- Names in byte order, and the place of a method.
use Prim.Native.Nat.{ℕ, zero, suc, ◌+◌, ◌-◌, ◌/◌, ◌%◌, ◌^◌, ◌≤◌, ◌<◌}
use mathlib.Core.Path.{◌≡◌, refl, sym, ap, ◌∙◌, subst}
use mathlib.Core.Bool.{Bool, true, false}
use mathlib.Core.List.{List, [], ◌∷◌, ◌++◌, map, append_assoc}
use native.Mathlib.Omega.{arith}
use native.Mathlib.Numerals.{add-one}
use lib.ListN.{length, take, drop, set, get_or, length-append, length-drop}
use lib.Seq.{take-set-lt, take_at, set_at, take-suc, take-take, length-take-le}
use Rattle.definitions.specs.Bytes.{Name, same, below}
use Rattle.definitions.specs.Tables.{Method}
use Rattle.definitions.specs.Lower.{insert_method}
use Rattle.definitions.specs.Reader.{rising}
use Rattle.definitions.proofs.Truth.{right, both}
use Rattle.byte_tests.proofs.Below.{below_flip, below-past, below_other, below-else}
use Rattle.state.specs.Words.{name_at}
use Rattle.state.specs.State.{method_from}
use Rattle.std.specs.Prelude.{Result, Ok, Err}
use Rattle.std.specs.List.{insert, copy_within}
use Rattle.std.specs.List.Sorted.{IsPartitionedBy, IsPartitionPoint}
use Rattle.std.proofs.lemmas.List.{get_or_default}
use Rattle.lower_emit.proofs.Setting.{map-set, drop-take}
use Rattle.methods.specs.Order.{Slotted, Inserted}

-- ---- the place of a method

-- the first i names are below x
data Past (t : List ℕ) (x : Name) : ℕ → List ℕ → Type 0 where
  start : {ws : List ℕ} → Past t x 0 ws
  past : {i w : ℕ} {ws : List ℕ} → below (name_at t (w / 2 ^ 8)) x ≡ true → Past t x i ws → Past t x (suc i) (w ∷ ws)

passed : (t : List ℕ) (x : Name) (i : ℕ) (ws : List ℕ) → i ≤ length ws → ((j : ℕ) → j < i → below (name_at t (get_or ws j 0 / 2 ^ 8)) x ≡ true) → Past t x i ws
passed t x zero ws h f = start
passed t x (suc i) [] h f = absurd (omega arith)
passed t x (suc i) (w ∷ ws) h f = past (f 0 (omega arith)) (passed t x i ws (omega arith) (λ j k. f (suc j) (omega arith)))

insert-same : (x : Name) (f : ℕ) (m : Method) (ms : List Method) → same x m.name ≡ true → insert_method x f (m ∷ ms) ≡ record { name = x; function = f } ∷ ms
unfolding insert_method
insert-same x f m ms e = rw (e, insert_method)

insert-below : (x : Name) (f : ℕ) (m : Method) (ms : List Method) → same x m.name ≡ false → below x m.name ≡ true → insert_method x f (m ∷ ms) ≡ record { name = x; function = f } ∷ m ∷ ms
unfolding insert_method
insert-below x f m ms e d = rw (e, insert_method, d)

insert-past : (x : Name) (f : ℕ) (m : Method) (ms : List Method) → below m.name x ≡ true → insert_method x f (m ∷ ms) ≡ m ∷ insert_method x f ms
unfolding insert_method
insert-past x f m ms e = rw (below_other m.name x e, insert_method, below_flip m.name x e)

module _ (t : List ℕ) (x : Name) (f : ℕ) where
  replaces : (i : ℕ) (ws : List ℕ) → Past t x i ws → i < length ws → same x (name_at t (get_or ws i 0 / 2 ^ 8)) ≡ true →
      insert_method x f (map (method_from t) ws) ≡ set (map (method_from t) ws) i (record { name = x; function = f })
  unfolding method_from
  replaces zero [] start h e = absurd (omega arith)
  replaces zero (w ∷ ws) start h e = insert-same x f _ _ e
  replaces (suc i) (w ∷ ws) (past c p) h e = insert-past x f _ _ c ∙ ap (λ (ms : List Method). method_from t w ∷ ms) (replaces i ws p (omega arith) e)
  replaces (suc i) [] x5 h e = elim x5 [ ]

  precedes : (i : ℕ) (ws : List ℕ) → Past t x i ws → i < length ws → same x (name_at t (get_or ws i 0 / 2 ^ 8)) ≡ false → below x (name_at t (get_or ws i 0 / 2 ^ 8)) ≡ true →
      insert_method x f (map (method_from t) ws) ≡ insert (map (method_from t) ws) i (record { name = x; function = f })
  unfolding method_from
  precedes zero [] start h e g = absurd (omega arith)
  precedes zero (w ∷ ws) start h e g = insert-below x f _ _ e g
  precedes (suc i) (w ∷ ws) (past c p) h e g = insert-past x f _ _ c ∙ ap (λ (ms : List Method). method_from t w ∷ ms) (precedes i ws p (omega arith) e g)
  precedes (suc i) [] x6 h e g = elim x6 [ ]

  follows : (i : ℕ) (ws : List ℕ) → Past t x i ws → i ≡ length ws → insert_method x f (map (method_from t) ws) ≡ insert (map (method_from t) ws) i (record { name = x; function = f })
  unfolding method_from insert_method
  follows zero [] start e = refl
  follows zero (w ∷ ws) start e = absurd (omega arith)
  follows (suc i) (w ∷ ws) (past c p) e = insert-past x f (method_from t w) (map (method_from t) ws) c ∙ ap (λ (ms : List Method). method_from t w ∷ ms) (follows i ws p (omega arith))
  follows (suc i) [] x4 e = elim x4 [ ]

-- ---- methods by rising names

rising-rest : (m : Method) (ms : List Method) → rising (m ∷ ms) ≡ true → rising ms ≡ true
unfolding rising
rising-rest m [] e = refl
rising-rest m (n ∷ ms) e = right (below m.name n.name) (rising (n ∷ ms)) e

module _ (t : List ℕ) where
  -- the first name is below each other
  first_below : (w : ℕ) (ws : List ℕ) → rising (map (method_from t) (w ∷ ws)) ≡ true → (j : ℕ) → j < length ws → below (name_at t (w / 2 ^ 8)) (name_at t (get_or ws j 0 / 2 ^ 8)) ≡ true
  unfolding rising method_from
  first_below w [] e j h = absurd (omega arith)
  first_below w (v ∷ ws) e j h =
      let next = both (below (name_at t (w / 2 ^ 8)) (name_at t (v / 2 ^ 8))) (rising (map (method_from t) (v ∷ ws))) e in
      go j h next.0 (first_below v ws next.1)
    where
      go : (j : ℕ) → j < length (v ∷ ws) → below (name_at t (w / 2 ^ 8)) (name_at t (v / 2 ^ 8)) ≡ true
          → ((i : ℕ) → i < length ws → below (name_at t (v / 2 ^ 8)) (name_at t (get_or ws i 0 / 2 ^ 8)) ≡ true) → below (name_at t (w / 2 ^ 8)) (name_at t (get_or (v ∷ ws) j 0 / 2 ^ 8)) ≡ true
      go zero h b f = b
      go (suc i) h b f = below-past _ (name_at t (v / 2 ^ 8)) _ b (below_flip _ _ (f i (omega arith)))

  -- names before one that is below x are below x
  below-before : (x : Name) (ws : List ℕ) → rising (map (method_from t) ws) ≡ true → (i j : ℕ) → i ≤ j → j < length ws
      → below (name_at t (get_or ws j 0 / 2 ^ 8)) x ≡ true → below (name_at t (get_or ws i 0 / 2 ^ 8)) x ≡ true
  below-before x [] o i j h k e = absurd (omega arith)
  below-before x (w ∷ ws) o zero zero h k e = e
  below-before x (w ∷ ws) o zero (suc j) h k e = below-past _ (name_at t (get_or ws j 0 / 2 ^ 8)) _ (first_below w ws o j (omega arith)) (below_flip _ _ e)
  below-before x (w ∷ ws) o (suc i) zero h k e = absurd (omega arith)
  below-before x (w ∷ ws) o (suc i) (suc j) h k e = below-before x ws (rising-rest (method_from t w) (map (method_from t) ws) o) i j (omega arith) (omega arith) e

-- the names below x are the first of a list that rises
module _ (t : List ℕ) (x : Name) where
  abbrev pub is_below : ℕ → Bool
  is_below w = below (name_at t (w / 2 ^ 8)) x

module _ (t : List ℕ) (x : Name) (list : List ℕ) where
  pub parted : rising (map (method_from t) list) ≡ true → IsPartitionedBy (is_below t x) list
  parted o i j d h k e =
      let f = ap (is_below t x) (get_or_default list j 0 d k) ∙ e in
      ap (is_below t x) (get_or_default list i d 0 (omega arith)) ∙ below-before t x list o i j h k f

  module _ (r : ℕ) (bound : r ≤ length list) (q : IsPartitionPoint (λ w. is_below t x w ≡ true) (λ w. is_below t x w ≡ false) list r) where
    before : Past t x r list
    before = passed t x r list bound (λ j h. q.0 j 0 (omega arith) h)

    at-point : r < length list → below (name_at t (get_or list r 0 / 2 ^ 8)) x ≡ false
    at-point h = q.1 r 0 (omega arith) h

    pub slot-here : r < length list → same x (name_at t (get_or list r 0 / 2 ^ 8)) ≡ true → Slotted (Ok r) t x list
    unfolding Slotted
    slot-here h e = (h, λ f. replaces t x f r list before h e)

    pub slot-before : r < length list → same x (name_at t (get_or list r 0 / 2 ^ 8)) ≡ false → Slotted (Err r) t x list
    unfolding Slotted
    slot-before h e = (bound, λ f. precedes t x f r list before h e (below-else x _ e (at-point h)))

    pub slot-last : length list ≤ r → Slotted (Err r) t x list
    unfolding Slotted
    slot-last h = (bound, λ f. follows t x f r list before (omega arith))

-- ---- a word is inserted

map-insert : {A : Type 0} (f : ℕ → A) (i w : ℕ) (xs : List ℕ) → map f (insert xs i w) ≡ insert (map f xs) i (f w)
map-insert f zero w xs = refl
map-insert f (suc i) w [] = refl
map-insert f (suc i) w (x ∷ xs) = ap (λ l. f x ∷ l) (map-insert f i w xs)

-- the words from i on make room for w
pub room-made : (i n w : ℕ) (xs : List ℕ) → i ≤ n → n < length xs → take (n + 1) (set (copy_within xs i n (i + 1)) i w) ≡ insert (take n xs) i w
room-made i n w xs h k =
    let whole = take i xs ++ w ∷ take (n - i) (drop i xs) in
    let front : take (i + 1) xs ≡ take i xs ++ get_or xs i 0 ∷ [] = ap (λ (m : ℕ). take m xs) (add-one i) ∙ take-suc xs i 0 (omega arith) in
    let size : length (take i xs) ≡ i = length-take-le i xs (omega arith) in
    let words : set (copy_within xs i n (i + 1)) i w ≡ whole ++ drop (i + 1 + (n - i)) xs =
    ap (λ (l : List ℕ). set l i w) (append_assoc (take (i + 1) xs) (take (n - i) (drop i xs)) (drop (i + 1 + (n - i)) xs))
    ∙ ap (λ (l : List ℕ). set (l ++ (take (n - i) (drop i xs) ++ drop (i + 1 + (n - i)) xs)) i w) front
    ∙ ap (λ (l : List ℕ). set l i w) (append_assoc (take i xs) (get_or xs i 0 ∷ []) (take (n - i) (drop i xs) ++ drop (i + 1 + (n - i)) xs))
    ∙ set_at (take i xs) (get_or xs i 0) (take (n - i) (drop i xs) ++ drop (i + 1 + (n - i)) xs) w i size
    ∙ sym (append_assoc (take i xs) (w ∷ take (n - i) (drop i xs)) (drop (i + 1 + (n - i)) xs)) in
    ap (take (n + 1)) words
    ∙ take_at whole (drop (i + 1 + (n - i)) xs) (n + 1) (length-append (take i xs) (w ∷ take (n - i) (drop i xs)) ∙ omega (arith, size, length-take-le (n - i) (drop i xs) (omega (arith, length-drop i xs))))
    ∙ (λ j. sym (take-take i n xs h) j ++ w ∷ sym (drop-take i n xs h (omega arith)) j)

-- ---- a method is inserted

module _ (t list : List ℕ) (n w : ℕ) (room : n < length list) where
  pub insert-here : (i : ℕ) → Slotted (Ok i) t (name_at t (w / 2 ^ 8)) (take n list) → Inserted n t (set list i w) list n w
  unfolding Slotted method_from
  insert-here i s = record {
    few = omega arith;
    methods = ap (map (method_from t)) (take-set-lt n list i w (let e = length-take-le n list (omega arith) in omega (arith, s.0))) ∙ map-set (method_from t) (take n list) i w ∙ sym (s.1 (w % 2 ^ 8));
  }

  pub insert-before : (i : ℕ) (list' : List ℕ) → Slotted (Err i) t (name_at t (w / 2 ^ 8)) (take n list) → take (n + 1) list' ≡ insert (take n list) i w → Inserted (n + 1) t list' list n w
  unfolding Slotted method_from
  insert-before i list' s e = record {
    few = omega arith;
    methods = ap (map (method_from t)) e ∙ map-insert (method_from t) i w (take n list) ∙ sym (s.1 (w % 2 ^ 8));
  }

-- the words lent rise
pub rising-lent : (n : ℕ) (t list : List ℕ) → rising (map (method_from t) (take n list)) ≡ true → rising (map (method_from t) (take (n - 0) (drop 0 list))) ≡ true
rising-lent n t list o = let e : n - 0 ≡ n = omega arith in subst (λ (k : ℕ). rising (map (method_from t) (take k list)) ≡ true) (sym e) o

-- what the answer of the search says, of a name of the same bytes
module _ (i n : ℕ) (t list : List ℕ) (x y : Name) (room : n < length list) (name : x ≡ y) where
  pub slotted-as : (r : Result ℕ ℕ) → Slotted r t x (take (n - 0) (drop 0 list)) → Slotted r t y (take n list)
  slotted-as r s = let e : n - 0 ≡ n = omega arith in subst (λ (k : ℕ). Slotted r t y (take k list)) e (subst (λ (z : Name). Slotted r t z (take (n - 0) (drop 0 list))) name s)

  pub here-below : Slotted (Ok i) t x (take (n - 0) (drop 0 list)) → i < n
  unfolding Slotted
  here-below s = omega (arith, (slotted-as (Ok i) s).0, length-take-le n list (omega arith))

  pub before-below : Slotted (Err i) t x (take (n - 0) (drop 0 list)) → i ≤ n
  unfolding Slotted
  before-below s = omega (arith, (slotted-as (Err i) s).0, length-take-le n list (omega arith))
