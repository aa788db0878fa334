-- A name among slots, and added to them. Assumes nothing.
use Prim.Native.Nat.{ℕ, ◌+◌, ◌-◌, ◌<◌, ◌≤◌}
use mathlib.Core.Path.{◌≡◌, refl, sym, ap, ◌∙◌, subst}
use mathlib.Core.Bool.{Bool, true, false, true≢false}
use mathlib.Core.Option.{Option, none, some}
use mathlib.Core.List.{List, [], ◌∷◌, ◌++◌, map}
use native.Mathlib.Omega.{arith}
use native.Mathlib.Numerals.{add-one}
use lib.ListN.{length, take, drop, get_or, set, length-drop, length-set, drop_of_length-le}
use lib.Seq.{take-suc-set, length-take-le, drop-set-add, drop-set-lt, drop_at, take-add, take-append-le}
use borrow.Rule.Slice.PartMut.{put_mid, post_of}
use Rattle.names.proofs.Finding.{names-length}
use Rattle.definitions.specs.Bytes.{Name, same, position, member}
use Rattle.definitions.specs.Slots.{add}
use Rattle.definitions.proofs.Named.{add-grows}
use Rattle.state.specs.Words.{name_at}
use Rattle.state.specs.Index.{bucket_of, Covered, none_covered, covered, seek_from}
use Rattle.state.specs.State.{names_at, slots_from, slot_names, Slots}
use Rattle.tree_view.specs.Places.{name_from}
use Rattle.std.specs.Prelude as std
use Rattle.std.specs.Prelude.{Some, None, is_some}
use Rattle.names.specs.Sought.{place_in, sought_from}
use Rattle.names.proofs.Indexing.{place_found, slot-found, covered_out, covered-part, covered-snoc}
use Rattle.slots.specs.Slotted.{leading, first_names, Indexed, IsBucket, Added}

-- the two views of a name in the tree are one
pub name-bytes : (t : List ℕ) (p : ℕ) → name_at t p ≡ name_from t p
unfolding name_at name_from
name-bytes t p = refl

-- ---- the names of the first slots

map-append : {A B : Type 0} (f : A → B) (xs ys : List A) → map f (xs ++ ys) ≡ map f xs ++ map f ys
map-append f [] ys = refl
map-append f (x ∷ xs) ys = ap (λ (l : List _). f x ∷ l) (map-append f xs ys)

pub names-append : (t : List ℕ) (ps qs : List ℕ) → names_at t (ps ++ qs) ≡ names_at t ps ++ names_at t qs
unfolding names_at
names-append t ps qs = map-append (name_at t) ps qs

pub names-one : (t : List ℕ) (p : ℕ) → names_at t (p ∷ []) ≡ name_from t p ∷ []
unfolding names_at
names-one t p = ap (λ (x : Name). x ∷ []) (name-bytes t p)

pub leading_length : (t : List ℕ) (n : ℕ) (ps : List ℕ) → n ≤ length ps → length (leading t n ps) ≡ n
unfolding leading
leading_length t n ps h = names-length t (take n ps) ∙ length-take-le n ps h

pub leading-set : (t : List ℕ) (n p : ℕ) (ps : List ℕ) → n < length ps → leading t (n + 1) (set ps n p) ≡ leading t n ps ++ name_from t p ∷ []
unfolding leading
leading-set t n p ps h =
    ap (λ (k : ℕ). names_at t (take k (set ps n p))) (add-one n) ∙ ap (names_at t) (take-suc-set ps n p h) ∙ names-append t (take n ps) (p ∷ [])
    ∙ ap (λ (l : List Name). names_at t (take n ps) ++ l) (names-one t p)

pub first-leading : (t : List ℕ) (n : ℕ) (ps : List ℕ) → first_names t n ps ≡ leading t n (drop slots_from ps)
unfolding first_names leading
first-leading t n ps = refl

-- places are those after the index
pub places-length : (ps : List ℕ) → length (drop slots_from ps) ≡ length ps - slots_from
places-length ps = length-drop slots_from ps

pub first-length : (t : List ℕ) (n : ℕ) (ps : List ℕ) → slots_from + n ≤ length ps → length (first_names t n ps) ≡ n
first-length t n ps h = ap length (first-leading t n ps) ∙ leading_length t n (drop slots_from ps) (let e = places-length ps in omega arith)

pub first-set : (t : List ℕ) (n p : ℕ) (ps : List ℕ) → slots_from + n < length ps → first_names t (n + 1) (set ps (slots_from + n) p) ≡ first_names t n ps ++ name_from t p ∷ []
first-set t n p ps h =
    first-leading t (n + 1) (set ps (slots_from + n) p) ∙ ap (leading t (n + 1)) (drop-set-add slots_from ps n p) ∙ leading-set t n p (drop slots_from ps) (let e = places-length ps in omega arith)
    ∙ ap (λ (l : List Name). l ++ name_from t p ∷ []) (sym (first-leading t n ps))

pub first-bucket : (t : List ℕ) (n b v : ℕ) (ps : List ℕ) → b < slots_from → first_names t n (set ps b v) ≡ first_names t n ps
unfolding first_names
first-bucket t n b v ps h = ap (λ (l : List ℕ). names_at t (take n l)) (drop-set-lt slots_from ps b v h)

-- the first of indexed slots are indexed
covered-first : (size : ℕ) (bs : List ℕ) (j : ℕ) (xs ys : List Name) → Covered size bs j (xs ++ ys) → Covered size bs j xs
covered-first size bs j [] ys v = none_covered
covered-first size bs j (x ∷ xs) ys (covered more most rest) = covered {j = j} {x = x} more most (covered-first size bs (j + 1) xs ys rest)

pub indexed-fewer : (t : List ℕ) (k n : ℕ) (ps : List ℕ) → k ≤ n → Indexed t n ps → Indexed t k ps
unfolding first_names
indexed-fewer t k n ps h v =
    let places = drop slots_from ps in
    let e : k + (n - k) ≡ n = omega arith in
    let split : first_names t n ps ≡ first_names t k ps ++ names_at t (take (n - k) (drop k places)) =
    ap (λ (m : ℕ). names_at t (take m places)) (sym e) ∙ ap (names_at t) (take-add k (n - k) places) ∙ names-append t (take k places) (take (n - k) (drop k places)) in
    record { at = covered-first slots_from ps 0 (first_names t k ps) _ (subst (Covered slots_from ps 0) split v.at) }

-- ---- a name added

pub add-there : (x : Name) (xs : List Name) → member x xs ≡ true → add x xs ≡ xs
unfolding add
add-there x xs e = rw (e, add)

pub add-new : (x : Name) (xs : List Name) → member x xs ≡ false → add x xs ≡ xs ++ x ∷ []
unfolding add
add-new x xs e = rw (e, add)

-- the part before n
pub part-before : (n : ℕ) (ps : List ℕ) → take (n - 0) (drop 0 ps) ≡ take n ps
part-before n ps = ap (λ (k : ℕ). take k ps) (let e : n - 0 ≡ n = omega arith in e)

-- the number of the slot that has the name, by the search of the code
pub slot-told : (t slots : List ℕ) (p b : ℕ) (o : Option ℕ) (y : Name) → Slots t slots → IsBucket b t p → y ≡ name_at t p → o ≡ sought_from (get_or slots b 0) y (names_at t (take (length slots - slots_from) (drop slots_from slots)))
    → o ≡ position (same (name_from t p)) (slot_names t slots)
slot-told t slots p b o y s q e f = slot-found t slots (name_at t p) y b o s e (q.is ∙ ap (bucket_of slots_from) (sym e)) f ∙ ap (λ (x : Name). position (same x) (slot_names t slots)) (name-bytes t p)

-- the slot among the first n that has the name, by the search of the code
module _ (t ps : List ℕ) (n p b : ℕ) (o : Option ℕ) (y : Name) (v : Indexed t n ps) (room : slots_from + n ≤ length ps) (q : IsBucket b t p) (e : y ≡ name_at t p)
    (f : o ≡ sought_from (get_or ps b 0) y (names_at t (take (slots_from + n - slots_from) (drop slots_from ps)))) where
  part : take (slots_from + n - slots_from) (drop slots_from ps) ≡ take n (drop slots_from ps)
  part = ap (λ (k : ℕ). take k (drop slots_from ps)) (let z : slots_from + n - slots_from ≡ n = omega arith in z)

  kept-told : o ≡ position (same (name_from t p)) (first_names t n ps)
  unfolding first_names
  kept-told = place_found t ps (take n (drop slots_from ps)) (name_at t p) y b o v.at e (q.is ∙ ap (bucket_of slots_from) (sym e)) (f ∙ ap (λ (l : List ℕ). sought_from (get_or ps b 0) y (names_at t l)) part)
      ∙ ap (λ (x : Name). position (same x) (first_names t n ps)) (name-bytes t p)

  told-there : (i : ℕ) → o ≡ some i → member (name_from t p) (first_names t n ps) ≡ true
  unfolding member
  told-there i h = ap (λ (o : Option ℕ). elim o as (λ _. Bool) [ none ↦ false | some i ↦ true ]) (sym kept-told ∙ h)

  told-new : o ≡ none → member (name_from t p) (first_names t n ps) ≡ false
  unfolding member
  told-new h = ap (λ (o : Option ℕ). elim o as (λ _. Bool) [ none ↦ false | some i ↦ true ]) (sym kept-told ∙ h)

module _ (t ps : List ℕ) (n p b : ℕ) (o : Option ℕ) (y : Name) (v : Indexed t n ps) (room : slots_from + n < length ps) (q : IsBucket b t p) (e : y ≡ name_at t p)
    (f : o ≡ sought_from (get_or ps b 0) y (names_at t (take (slots_from + n - slots_from) (drop slots_from ps)))) where
  abbrev x : Name
  x = name_from t p

  pub added-there : (i : ℕ) → o ≡ some i → Added n t ps n (add (name_from t p) (first_names t n ps))
  added-there i h = record { names = sym (add-there x (first_names t n ps) (told-there t ps n p b o y v (omega arith) q e f i h)); most = omega arith; indexed = v }

  module _ (s : ℕ) (g : s ≡ seek_from (get_or ps b 0) n) (l : s ≤ n) where
    abbrev noted : List ℕ
    noted = set ps b (s + 1)

    abbrev more : List ℕ
    more = set noted (slots_from + n) p

    more-names : first_names t (n + 1) more ≡ first_names t n ps ++ name_from t p ∷ []
    more-names = first-set t n p noted (let z = length-set ps b (s + 1) in omega arith) ∙ ap (λ (w : List Name). w ++ x ∷ []) (first-bucket t n b (s + 1) ps q.below)

    more-indexed : Covered slots_from more 0 (first_names t n ps ++ name_from t p ∷ [])
    more-indexed =
        let z = q.below in
        covered_out slots_from noted (slots_from + n) p (first_names t n ps ++ x ∷ []) (omega arith) (omega arith)
        (covered-snoc slots_from ps b (omega arith) x n s 0 (first_names t n ps) (sym (q.is ∙ ap (bucket_of slots_from) (name-bytes t p))) g l (let w = first-length t n ps (omega arith) in omega arith) v.at)

    pub added_new : o ≡ none → Added (n + 1) t (set (set ps b (s + 1)) (slots_from + n) p) n (add (name_from t p) (first_names t n ps))
    added_new h = record {
      names = more-names ∙ sym (add-new x (first_names t n ps) (told-new t ps n p b o y v (omega arith) q e f h));
      most = omega arith;
      indexed = record { at = subst (Covered slots_from more 0) (sym more-names) more-indexed };
    }

-- whether the search of the code has found it
pub place-found : (o : std.Option ℕ) → is_some o ≡ true → (i : ℕ) × (place_in o ≡ some i)
place-found (Some i) e = (i, refl)
place-found None e = absurd (true≢false (sym e))

pub place-missed : (o : std.Option ℕ) → is_some o ≡ false → place_in o ≡ none
place-missed (Some i) e = absurd (true≢false e)
place-missed None e = refl

-- ---- how many there are then

module _ (t ps qs : List ℕ) (n k p : ℕ) (a : Added k t qs n (add (name_from t p) (first_names t n ps))) (room : slots_from + n < length ps) (kept : length qs ≡ length ps) where
  pub added-most : length (add (name_from t p) (first_names t n ps)) ≡ k
  added-most = let m = a.most in sym (ap length a.names) ∙ first-length t k qs (omega arith)

  -- no fewer than before, and the first ones are indexed, too
  pub added-first : Indexed t n qs
  added-first = indexed-fewer t n k qs (omega (arith, added-most, add-grows (name_from t p) (first_names t n ps), first-length t n ps (omega arith))) a.indexed

-- ---- parts of slots

-- a part that is put back, from its start
pub mid-front : (a m n : ℕ) (ps part : List ℕ) → a ≤ length ps → n ≤ length part → take n (drop a (put_mid a m ps part)) ≡ take n part
mid-front a m n ps part h k = ap (take n) (drop_at (take a ps) (part ++ post_of a m ps) a (length-take-le a ps h)) ∙ take-append-le n part (post_of a m ps) k

-- the slots up to the n-th, as places
pub front-places : (n : ℕ) (ps : List ℕ) → slots_from ≤ length ps → drop slots_from (take (slots_from + n) ps) ≡ take n (drop slots_from ps)
front-places n ps h = ap (drop slots_from) (take-add slots_from n ps) ∙ drop_at (take slots_from ps) (take n (drop slots_from ps)) slots_from (length-take-le slots_from ps h)

-- they are slots
module _ (t ps : List ℕ) (n : ℕ) (room : slots_from + n ≤ length ps) where
  pub front-names : slot_names t (take (slots_from + n) ps) ≡ first_names t n ps
  unfolding first_names
  front-names = ap (names_at t) (front-places n ps (omega arith))

  pub front-slots : n ≤ 255 → Indexed t n ps → Slots t (take (slots_from + n) ps)
  front-slots h v =
      let e = length-take-le (slots_from + n) ps room in
      record {
        room = omega arith;
        few = omega arith;
        indexed = subst (Covered slots_from (take (slots_from + n) ps) 0) (sym front-names) (covered-part slots_from ps (slots_from + n) (first_names t n ps) (omega arith) (omega arith) v.at);
      }

-- slots that are none: an index alone
pub none-names : (t ps : List ℕ) → length ps ≡ slots_from → slot_names t ps ≡ []
unfolding names_at
none-names t ps e = let h : length ps ≤ slots_from = omega arith in ap (names_at t) (drop_of_length-le ps h)

pub none-slots : (t ps : List ℕ) → length ps ≡ slots_from → Slots t ps
none-slots t ps e = record { room = omega arith; few = omega arith; indexed = subst (Covered slots_from ps 0) (sym (none-names t ps e)) none_covered }
