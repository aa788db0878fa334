-- The search tree over names: what a step down it finds, and what a name put into an empty slot changes. Assumes nothing.
use Prim.Native.Nat.{ℕ, zero, suc, ◌+◌, ◌-◌, ◌/◌, ◌%◌, ◌^◌, ◌<◌, ◌≤◌}
use mathlib.Core.Path.{◌≡◌, refl, sym, ap, ◌∙◌, subst}
use mathlib.Core.Bool.{Bool, true, false, not, ◌&&◌, ◌||◌, true≢false}
use mathlib.Core.List.{List, [], ◌∷◌, ◌++◌}
use mathlib.Core.Logic.{◌⊎◌, inl, inr, ⊎_elim}
use native.Mathlib.Omega.{arith}
use native.Mathlib.Numerals.{add-one}
use native.Mathlib.Nat.{zero-div}
use lib.ListN.{length, get_or, set, length-set, replicate, length-replicate, get_or-replicate, get_or-eq_default}
use lib.Seq.{get_or-set_same, get_or-set_other}
use borrow.Author.Tests.{eq-eqb, ne_eqb}
use Rattle.definitions.specs.Bytes.{Name, same, member, all}
use Rattle.definitions.specs.Wellformed.{distinct}
use Rattle.tree_view.specs.Places.{name_from, name_end, There, names_from, names_end, AllThere}
use Rattle.parts.specs.Search.{turn_of, position_below, reach, Entry, NameMet, Searches, PutsName}
use Rattle.parts.specs.declared.distinct.Put.{Put}
use Rattle.parts.specs.declared.distinct.Put.TheVariants.{Twice, New}
use Rattle.tree_view.proofs.NameLaws.{there-first, there-rest, from_more, from-none}
use Rattle.definitions.proofs.Begins.{le-or-gt}
use Rattle.definitions.proofs.Captured.{member-cons, member-nil, same_refl}
use Rattle.definitions.proofs.MethodOrder.{same-eq}
use Rattle.std.proofs.Math.Bool.{or_assoc, or-false}
use Rattle.std.proofs.lemmas.Bool.{cases_eq}

-- ---- turns

pub turn-past : (x y : Name) (k : ℕ) → x ≡ y → length x ≤ k / 8 → (0 ≡ turn_of y k) × (0 < 2)
unfolding turn_of
turn-past x y k e h = (let d : get_or y (k / 8) 0 ≡ 0 = ap (λ (z : Name). get_or z (k / 8) 0) (sym e) ∙ get_or-eq_default x 0 h in sym (ap (λ (b : ℕ). b / 2 ^ (k % 8) % 2) d ∙ ap (λ (b : ℕ). b % 2) (zero-div (2 ^ (k % 8)))), omega arith)

pub turn_in : (x y : Name) (k w : ℕ) → x ≡ y → w ≡ get_or x (k / 8) 0 → (w / 2 ^ (k % 8) % 2 ≡ turn_of y k) × (w / 2 ^ (k % 8) % 2 < 2)
unfolding turn_of
turn_in x y k w e h = (ap (λ (b : ℕ). b / 2 ^ (k % 8) % 2) (h ∙ ap (λ (z : Name). get_or z (k / 8) 0) e), omega arith)

-- ---- equal names

same-sym : (a b : List ℕ) → same a b ≡ same b a
same-sym a b = go (same a b) (same b a) refl refl
  where
    go : (x y : Bool) → same a b ≡ x → same b a ≡ y → same a b ≡ same b a
    go true y e f = let u = same-eq a b e in ap (λ (z : List ℕ). same z b) u ∙ sym (ap (same b) u)
    go false true e f = let u = same-eq b a f in ap (same a) u ∙ sym (ap (λ (z : List ℕ). same z a) u)
    go false false e f = e ∙ sym f

-- ---- members of a list with one more at its end

pub member-end : (y x : Name) (xs : List Name) → member y (xs ++ x ∷ []) ≡ (member y xs || same y x)
member-end y x [] = member-cons y x [] ∙ ap (λ (b : Bool). same y x || b) (member-nil y) ∙ or-false (same y x) ∙ sym (ap (λ (b : Bool). b || same y x) (member-nil y))
member-end y x (z ∷ zs) = member-cons y z (zs ++ x ∷ []) ∙ ap (λ (b : Bool). same y z || b) (member-end y x zs) ∙ sym (or_assoc (same y z) (member y zs) (same y x)) ∙ sym (ap (λ (b : Bool). b || same y x) (member-cons y z zs))

member-kept : (y x : Name) (xs : List Name) → member y xs ≡ true → member y (xs ++ x ∷ []) ≡ true
member-kept y x xs h = member-end y x xs ∙ ap (λ (b : Bool). b || same y x) h

member-new : (x : Name) (xs : List Name) → member x (xs ++ x ∷ []) ≡ true
member-new x xs = member-end x x xs ∙ ap (λ (b : Bool). member x xs || b) (same_refl x) ∙ go (member x xs)
  where
    go : (b : Bool) → (b || true) ≡ true
    go true = refl
    go false = refl

member-either : (y x : Name) (xs : List Name) → member y (xs ++ x ∷ []) ≡ true → (member y xs ≡ true) ⊎ (y ≡ x)
member-either y x xs h = go (member y xs) refl (sym (member-end y x xs) ∙ h)
  where
    go : (b : Bool) → member y xs ≡ b → (b || same y x) ≡ true → (member y xs ≡ true) ⊎ (y ≡ x)
    go true e f = inl e
    go false e f = inr (same-eq y x f)

-- ---- steps down

pub below-is : (T : List ℕ) (x : Name) (k p : ℕ) → 0 < p → position_below T x k p ≡ get_or T (p + turn_of x k) 0
unfolding position_below
below-is T x k p h = ap (λ (b : Bool). elim b as (λ _. ℕ) [ true ↦ 0 | false ↦ get_or T (p + turn_of x k) 0 ]) (ne_eqb p 0 (λ e. omega arith))

below-zero : (T : List ℕ) (x : Name) (k p : ℕ) → p ≡ 0 → position_below T x k p ≡ 0
unfolding position_below
below-zero T x k p h = ap (λ (b : Bool). elim b as (λ _. ℕ) [ true ↦ 0 | false ↦ get_or T (p + turn_of x k) 0 ]) (eq-eqb p 0 h)

module _ (T : List ℕ) (root : ℕ) (x : Name) where
  reach-next : (k : ℕ) → 0 < reach T root x k → reach T root x (suc k) ≡ get_or T (reach T root x k + turn_of x k) 0
  unfolding reach
  reach-next k h = below-is T x k (reach T root x k) h

  reach-some : (k : ℕ) → 0 < reach T root x (suc k) → 0 < reach T root x k
  unfolding reach
  reach-some k h = ⊎_elim (λ (z : reach T root x k ≤ 0). let e = below-zero T x k (reach T root x k) (omega arith) in absurd (omega arith)) (λ (z : 0 < reach T root x k). z) (le-or-gt (reach T root x k) 0)

  -- all below a position met is met from there
  reach-before : (k j : ℕ) → j ≤ k → 0 < reach T root x k → 0 < reach T root x j
  reach-before zero j h s = rw (let z : j ≡ 0 = omega arith in z) s
  reach-before (suc k) j h s = ⊎_elim
      (λ (l : j ≤ k). reach-before k j l (reach-some k s))
      (λ (l : k < j). rw (let z : j ≡ suc k = omega arith in z) s)
      (le-or-gt j k)

  -- an empty slot filled changes no position met
  reach-set : (slot v : ℕ) → get_or T slot 0 ≡ 0 → (k : ℕ) → 0 < reach T root x k → reach (set T slot v) root x k ≡ reach T root x k
  unfolding reach
  reach-set slot v e zero s = refl
  reach-set slot v e (suc k) s =
      let r = reach-some k s in
      let q = reach T root x k + turn_of x k in
      ap (position_below (set T slot v) x k) (reach-set slot v e k r) ∙ below-is (set T slot v) x k (reach T root x k) r
      ∙ get_or-set_other T slot q v 0 (λ z. let a = below-is T x k (reach T root x k) r in let b : get_or T q 0 ≡ 0 = ap (λ (i : ℕ). get_or T i 0) z ∙ e in omega arith)
      ∙ sym (below-is T x k (reach T root x k) r)

-- ---- the search for a name

-- after k turns the search for x is at p, and has not met x before
pub record Seeking (t T : List ℕ) (root : ℕ) (seen : List Name) (x : Name) (k p : ℕ) : Type 0 where
  pub at : reach T root x k ≡ p
  pub entry : Entry t seen p
  pub before : (j : ℕ) → j < k → same (name_from t (reach T root x j)) x ≡ false

pub seek-start : (t T : List ℕ) (root : ℕ) (seen : List Name) (x : Name) → Searches t T root seen → Seeking t T root seen x 0 root
unfolding reach
seek-start t T root seen x h = record { at = refl; entry = h.first; before = λ j l. absurd (omega arith) }

pub put-twice : (t : List ℕ) (seen : List Name) (x : Name) (p : ℕ) → Entry t seen p → same (name_from t p) x ≡ true → member x seen ≡ true
put-twice t seen x p h e = ap (λ (y : Name). member y seen) (sym (same-eq (name_from t p) x e)) ∙ h.known

module _ (t T : List ℕ) (root : ℕ) (seen : List Name) (x : Name) (k p : ℕ) (h : Searches t T root seen) (g : Seeking t T root seen x k p) (other : same (name_from t p) x ≡ false) where
  next-is : reach T root x (suc k) ≡ get_or T (p + turn_of x k) 0
  next-is = let n = g.entry.some in let a = g.at in reach-next T root x k (omega arith) ∙ ap (λ (q : ℕ). get_or T (q + turn_of x k) 0) a

  not-before : (j : ℕ) → j < k + 1 → same (name_from t (reach T root x j)) x ≡ false
  not-before j l = ⊎_elim
      (λ (a : k ≤ j). ap (λ (q : ℕ). same (name_from t q) x) (ap (reach T root x) (let z : j ≡ k = omega arith in z) ∙ g.at) ∙ other)
      (λ (a : j < k). g.before j a)
      (le-or-gt k j)

  pub seek-next : (q : ℕ) → q ≡ get_or T (p + turn_of x k) 0 → 0 < q → Seeking t T root seen x (k + 1) q
  seek-next q e s = record {
    at = ap (reach T root x) (add-one k) ∙ next-is ∙ sym e;
    entry = subst (Entry t seen) (sym e) (h.entries (p + turn_of x k) (let z = e in omega arith));
    before = not-before;
  }

  module _ (empty : get_or T (p + turn_of x k) 0 ≡ 0) where
    none-met : NameMet t T root x → ⊥
    none-met m = ⊎_elim
        (λ (a : suc k ≤ m.depth). let u = reach-before T root x m.depth (suc k) a m.some in let v = next-is in omega arith)
        (λ (a : m.depth < suc k). true≢false (sym (ap (λ (y : Name). same y x) m.is ∙ same_refl x) ∙ not-before m.depth (omega arith)))
        (le-or-gt (suc k) m.depth)

    put-absent : member x seen ≡ false
    put-absent = go (member x seen) refl
      where
        go : (b : Bool) → member x seen ≡ b → member x seen ≡ false
        go true e = absurd (none-met (h.met x e))
        go false e = e

    module _ (at : ℕ) (there : There t at) (low : at < 32768) (some : 0 < at) (is : name_from t at ≡ x) (inside : p + turn_of x k < length T) where
      abbrev slot : ℕ
      slot = p + turn_of x k

      entry_kept : (q : ℕ) → Entry t seen q → Entry t (seen ++ x ∷ []) q
      entry_kept q e = record { some = e.some; low = e.low; there = e.there; known = member-kept (name_from t q) x seen e.known }

      entry_new : Entry t (seen ++ x ∷ []) at
      entry_new = record { some = some; low = low; there = there; known = ap (λ (y : Name). member y (seen ++ x ∷ [])) is ∙ member-new x seen }

      entries-new : (s : ℕ) → 0 < get_or (set T slot at) s 0 → Entry t (seen ++ x ∷ []) (get_or (set T slot at) s 0)
      entries-new s l = ⊎_elim
          (λ (e : s ≡ slot). subst (Entry t (seen ++ x ∷ [])) (sym (ap (λ (i : ℕ). get_or (set T slot at) i 0) e ∙ get_or-set_same T slot at 0 inside)) entry_new)
          (λ (e : s ≡ slot → ⊥). let o = get_or-set_other T slot s at 0 e in subst (Entry t (seen ++ x ∷ [])) (sym o) (entry_kept (get_or T s 0) (h.entries s (let z = o in omega arith))))
          (cases_eq s slot)

      met-kept : (y : Name) → NameMet t T root y → NameMet t (set T slot at) root y
      met-kept y m = let e = reach-set T root y slot at empty m.depth m.some in
          record { depth = m.depth; some = (let s = m.some in omega arith); is = ap (name_from t) e ∙ m.is }

      new-met : reach (set T slot at) root x (suc k) ≡ at
      new-met = let n = g.entry.some in let a = g.at in
          let e : reach (set T slot at) root x k ≡ p = reach-set T root x slot at empty k (omega arith) ∙ a in
          reach-next (set T slot at) root x k (omega arith) ∙ ap (λ (q : ℕ). get_or (set T slot at) (q + turn_of x k) 0) e ∙ get_or-set_same T slot at 0 inside

      met-new : (y : Name) → member y (seen ++ x ∷ []) ≡ true → NameMet t (set T slot at) root y
      met-new y e = ⊎_elim
          (λ (u : member y seen ≡ true). met-kept y (h.met y u))
          (λ (u : y ≡ x). subst (NameMet t (set T slot at) root) (sym u) (record { depth = suc k; some = (let z = new-met in omega arith); is = ap (name_from t) new-met ∙ is }))
          (member-either y x seen e)

      put-new : Searches t (set T slot at) root (seen ++ x ∷ [])
      put-new = record { size = simp length-set h.size; first = entry_kept root h.first; entries = entries-new; met = met-new }

-- an entry is a position in a tree
pub entry-low : (t T : List ℕ) (root : ℕ) (seen : List Name) (s : ℕ) → Searches t T root seen → get_or T s 0 < 32768
entry-low t T root seen s h = ⊎_elim (λ (z : get_or T s 0 ≤ 0). omega arith) (λ (z : 0 < get_or T s 0). (h.entries s z).low) (le-or-gt (get_or T s 0) 0)

-- the two ways on from p, v being the turn there
module _ (t T : List ℕ) (root : ℕ) (seen : List Name) (x : Name) (k p v : ℕ) (h : Searches t T root seen) (g : Seeking t T root seen x k p) (other : same (name_from t p) x ≡ false) (turns : v ≡ turn_of x k) where
  pub put_next : 0 < get_or T (p + v) 0 → Searches t T root seen × Seeking t T root seen x (k + 1) (get_or T (p + v) 0)
  put_next s = (h, seek-next t T root seen x k p h g other (get_or T (p + v) 0) (ap (λ (i : ℕ). get_or T (p + i) 0) turns) s)

  pub put-here : (at : ℕ) → get_or T (p + v) 0 ≡ 0 → There t at → at < 32768 → 0 < at → name_from t at ≡ x → p + v < 32769 → (member x seen ≡ false) × Searches t (set T (p + v) at) root (seen ++ x ∷ [])
  put-here at e a b c d i =
      let f : get_or T (p + turn_of x k) 0 ≡ 0 = ap (λ (i : ℕ). get_or T (p + i) 0) (sym turns) ∙ e in (
        put-absent t T root seen x k p h g other f,
        subst (λ (w : ℕ). Searches t (set T (p + w) at) root (seen ++ x ∷ [])) (sym turns) (put-new t T root seen x k p h g other f at a b c d (let z = h.size in omega arith)),
      )

-- ---- the table of one name

pub one_name : (t T : List ℕ) (p : ℕ) → length T ≡ 32769 → ((s : ℕ) → get_or T s 0 ≡ 0) → There t p → p < 32768 → 0 < p → Searches t T p (name_from t p ∷ [])
unfolding reach
one_name t T p n z h l s = record {
  size = n;
  first = record { some = s; low = l; there = h; known = known };
  entries = λ i g. let e = z i in absurd (omega arith);
  met = λ x e. record { depth = 0; some = s; is = sym (same-eq x (name_from t p) (sym (member-cons x (name_from t p) [] ∙ ap (λ (b : Bool). same x (name_from t p) || b) (member-nil x) ∙ or-false (same x (name_from t p))) ∙ e)) };
}
  where
    known : member (name_from t p) (name_from t p ∷ []) ≡ true
    known = member-cons (name_from t p) (name_from t p) [] ∙ ap (λ (b : Bool). b || member (name_from t p) []) (same_refl (name_from t p))

-- ---- names that are all new, one by one

-- no name of xs is in seen or twice in xs
unfoldable pub apart : List Name → List Name → Bool
apart seen xs = all (λ y. not (member y seen)) xs && distinct xs

all_true : (xs : List Name) (f : Name → Bool) → ((y : Name) → f y ≡ true) → all f xs ≡ true
unfolding all
all_true [] f h = refl
all_true (x ∷ xs) f h = ap (λ (b : Bool). b && all f xs) (h x) ∙ all_true xs f h

pub apart_none : (xs : List Name) → apart [] xs ≡ distinct xs
unfolding apart
apart_none xs = ap (λ (b : Bool). b && distinct xs) (all_true xs (λ y. not (member y [])) (λ y. ap not (member-nil y)))

-- the same names are unlike x and unseen
all_more : (x : Name) (seen xs : List Name) → all (λ y. not (member y (seen ++ x ∷ []))) xs ≡ (all (λ y. not (member y seen)) xs && not (member x xs))
unfolding all
all_more x seen [] = sym (ap not (member-nil x))
all_more x seen (y ∷ ys) =
    ap (λ (b : Bool). not b && all (λ y. not (member y (seen ++ x ∷ []))) ys) (member-end y x seen ∙ ap (λ (b : Bool). member y seen || b) (same-sym y x))
    ∙ ap (λ (b : Bool). not (member y seen || same x y) && b) (all_more x seen ys)
    ∙ go (member y seen) (same x y) (all (λ y. not (member y seen)) ys) (member x ys)
    ∙ sym (ap (λ (b : Bool). (not (member y seen) && all (λ y. not (member y seen)) ys) && not b) (member-cons x y ys))
  where
    go : (a b c d : Bool) → (not (a || b) && (c && not d)) ≡ ((not a && c) && not (b || d))
    go true b c d = refl
    go false true true d = refl
    go false true false d = refl
    go false false c d = refl

pub apart_more : (x : Name) (seen xs : List Name) → apart seen (x ∷ xs) ≡ (not (member x seen) && apart (seen ++ x ∷ []) xs)
unfolding apart all distinct
apart_more x seen xs =
    go (not (member x seen)) (all (λ y. not (member y seen)) xs) (not (member x xs)) (distinct xs)
    ∙ sym (ap (λ (b : Bool). not (member x seen) && (b && distinct xs)) (all_more x seen xs))
  where
    go : (a b c d : Bool) → ((a && b) && (c && d)) ≡ (a && ((b && c) && d))
    go true true c d = refl
    go true false c d = refl
    go false b c d = refl

-- one name more
end-suc : (t : List ℕ) (n p : ℕ) → names_end t (suc n) p ≡ name_end t (names_end t n p)
unfolding names_end
end-suc t zero p = refl
end-suc t (suc n) p = end-suc t n (name_end t p)

from_suc : (t : List ℕ) (n p : ℕ) → names_from t (suc n) p ≡ names_from t n p ++ name_from t (names_end t n p) ∷ []
unfolding names_from names_end
from_suc t zero p = refl
from_suc t (suc n) p = ap (λ (xs : List Name). name_from t p ∷ xs) (from_suc t n (name_end t p))

-- ---- the n names at `at`, of which `count` are in the table T, and the rest stand at p

pub record Sifting (t : List ℕ) (n at count p : ℕ) (T : List ℕ) : Type 0 where
  pub table : Searches t T at (names_from t count at)
  pub end : p ≡ names_end t count at
  pub some : 0 < p
  pub left : AllThere t (n - count) p
  pub fine : distinct (names_from t n at) ≡ apart (names_from t count at) (names_from t (n - count) p)

no-entry : (n s : ℕ) → ◌≡◌ {A = ℕ} (get_or (replicate n 0) s 0) 0
no-entry n s = ⊎_elim
    (λ (h : n ≤ s). get_or-eq_default (replicate n 0) 0 (simp length-replicate h))
    (λ (h : s < n). get_or-replicate n s 0 0 h)
    (le-or-gt n s)

module _ (t : List ℕ) (n at : ℕ) (every : AllThere t n at) (more : 0 < n) (some : 0 < at) (small : length t ≤ 32768) where
  first-there : There t at
  first-there = there-first t n at more every

  pub sift-start : (p : ℕ) → p ≡ name_end t at → Sifting t n at 1 p (replicate 32769 0)
  unfolding names_from names_end name_end
  sift-start p e = record {
    table = one_name t (replicate 32769 0) at (length-replicate {A = ℕ} 32769 0) (no-entry 32769) first-there (let h = first-there.byte in omega arith) some;
    end = e;
    some = omega arith;
    left = subst (AllThere t (n - 1)) (sym e) (there-rest t n at more every);
    fine = sym (apart_none (names_from t n at)) ∙ ap (apart []) (from_more t n at more) ∙ apart_more (name_from t at) [] (names_from t (n - 1) (name_end t at))
        ∙ ap (λ (b : Bool). not b && apart (name_from t at ∷ []) (names_from t (n - 1) (name_end t at))) (member-nil (name_from t at))
        ∙ ap (λ (q : ℕ). apart (name_from t at ∷ []) (names_from t (n - 1) q)) (sym e);
  }

  module _ (count p : ℕ) (T : List ℕ) (h : Sifting t n at count p T) where
    abbrev seen : List Name
    seen = names_from t count at

    abbrev x : Name
    x = name_from t p

    pub sift-end : n ≤ count → true ≡ distinct (names_from t n at)
    unfolding apart all distinct
    sift-end l = sym (h.fine ∙ ap (apart seen) (from-none t (n - count) p (omega arith)))

    module _ (l : count < n) where
      pub sift-there : There t p
      sift-there = there-first t (n - count) p (omega arith) h.left

      pub sift-asks : Searches t T at seen × There t p × (p < 32768) × (0 < p)
      sift-asks = (h.table, sift-there, (let b = sift-there.byte in omega arith), h.some)

      stepped : distinct (names_from t n at) ≡ (not (member x seen) && apart (seen ++ x ∷ []) (names_from t (n - count - 1) (name_end t p)))
      stepped = h.fine ∙ ap (apart seen) (from_more t (n - count) p (omega arith)) ∙ apart_more x seen (names_from t (n - count - 1) (name_end t p))

      pub sift-twice : member x seen ≡ true → false ≡ distinct (names_from t n at)
      sift-twice e = sym (stepped ∙ ap (λ (b : Bool). not b && apart (seen ++ x ∷ []) (names_from t (n - count - 1) (name_end t p))) e)

      more-seen : names_from t (count + 1) at ≡ seen ++ x ∷ []
      more-seen = ap (λ (k : ℕ). names_from t k at) (add-one count) ∙ from_suc t count at ∙ ap (λ (q : ℕ). seen ++ name_from t q ∷ []) (sym h.end)

      less : n - count - 1 ≡ n - (count + 1)
      less = omega arith

      pub sift-next : (q : ℕ) (T' : List ℕ) → q ≡ name_end t p → (member x seen ≡ false) × Searches t T' at (seen ++ x ∷ []) → Sifting t n at (count + 1) q T'
      unfolding name_end
      sift-next q T' e f = record {
        table = subst (Searches t T' at) (sym more-seen) f.1;
        end = e ∙ ap (name_end t) h.end ∙ sym (ap (λ (k : ℕ). names_end t k at) (add-one count) ∙ end-suc t count at);
        some = omega arith;
        left = subst (λ (k : ℕ). AllThere t k q) less (subst (AllThere t (n - count - 1)) (sym e) (there-rest t (n - count) p (omega arith) h.left));
        fine = stepped ∙ ap (λ (b : Bool). not b && apart (seen ++ x ∷ []) (names_from t (n - count - 1) (name_end t p))) f.0
            ∙ ap (λ (k : ℕ). apart (seen ++ x ∷ []) (names_from t k (name_end t p))) less ∙ ap (λ (q : ℕ). apart (seen ++ x ∷ []) (names_from t (n - (count + 1)) q)) (sym e)
            ∙ ap (λ (s : List Name). apart s (names_from t (n - (count + 1)) q)) (sym more-seen);
      }

-- what the code's answer says
pub puts-new : (r : Put) (t T : List ℕ) (root : ℕ) (seen : List Name) (x : Name) → PutsName r t T root seen x → r ≡ New → (member x seen ≡ false) × Searches t T root (seen ++ x ∷ [])
unfolding PutsName
puts-new r t T root seen x h e = subst (λ (r : Put). PutsName r t T root seen x) e h

pub puts-twice : (r : Put) (t T : List ℕ) (root : ℕ) (seen : List Name) (x : Name) → PutsName r t T root seen x → r ≡ Twice → member x seen ≡ true
unfolding PutsName
puts-twice r t T root seen x h e = subst (λ (r : Put). PutsName r t T root seen x) e h
