-- An index of names: from where on a name is sought, and what one more name leaves.
use Prim.Native.Nat.{ℕ, zero, suc, ◌+◌, ◌*◌, ◌%◌, ◌≤◌, ◌<◌}
use mathlib.Core.Path.{◌≡◌, refl, sym, ap, ◌∙◌}
use mathlib.Core.Bool.{Bool, true, false}
use mathlib.Core.List.{List, [], ◌∷◌, ◌++◌}
use native.Mathlib.Omega.{arith}
use native.Mathlib.Nat.{zero-add, mod-lt}
use native.Mathlib.Numerals.{add-one}
use lib.ListN.{length, drop, get_or, drop_of_length-le}
use lib.Seq.{get_or-set_same, get_or-set_other, drop-cons}
use lib.Dec.{ltb, eqb, eqb→eq}
use Rattle.definitions.specs.Bytes.{Name}
use Rattle.state.specs.Index.{hash_from, hash_of, bucket_of, Covered, none_covered, covered, seek_from, noted}
use borrow.Author.Tests.{ltb-true, ltb-false}
use Rattle.definitions.proofs.Truth.{holds, not_equal}
use Rattle.state.specs.Words.{region}
use Rattle.state.specs.State.{strings_from, symbol_index_from, symbol_buckets, string_index_from, string_buckets, SymbolIndex, StringIndex}

-- ---- the number from which on a name is sought

pub start-le : (k n : ℕ) → seek_from k n ≤ n
unfolding seek_from
start-le zero n = omega arith
start-le (suc k) n = go (ltb k n) refl
  where
    go : (b : Bool) → ltb k n ≡ b → (elim b as (λ z. ℕ) [ true ↦ k | false ↦ n ]) ≤ n
    go true f = let h = ltb-true k n f in omega arith
    go false f = omega arith

pub start_none : (n : ℕ) → seek_from 0 n ≡ n
unfolding seek_from
start_none n = refl

pub start-over : (k n : ℕ) → n < k → seek_from k n ≡ n
unfolding seek_from
start-over zero n h = refl
start-over (suc k) n h = go (ltb k n) refl
  where
    go : (b : Bool) → ltb k n ≡ b → (elim b as (λ z. ℕ) [ true ↦ k | false ↦ n ]) ≡ n
    go true f = let m = ltb-true k n f in absurd (omega arith)
    go false f = refl

-- a number that is there is kept
pub start-kept : (k n : ℕ) → 0 < k → k ≤ n → seek_from k n + 1 ≡ k
unfolding seek_from
start-kept zero n h l = absurd (omega arith)
start-kept (suc k) n h l = go (ltb k n) refl
  where
    go : (b : Bool) → ltb k n ≡ b → (elim b as (λ z. ℕ) [ true ↦ k | false ↦ n ]) + 1 ≡ suc k
    go true f = omega arith
    go false f = let m = ltb-false k n f in absurd (omega arith)

-- ---- one more name

module _ (size : ℕ) (buckets : List ℕ) (x : Name) (n : ℕ) (inside : bucket_of size x < length buckets) where
  abbrev after : List ℕ
  after = noted buckets (bucket_of size x) n

  -- the bucket of a name before it
  old-bucket : (y : Name) → 0 < get_or buckets (bucket_of size y) 0 → get_or buckets (bucket_of size y) 0 ≤ n → get_or after (bucket_of size y) 0 ≡ get_or buckets (bucket_of size y) 0
  unfolding noted
  old-bucket y more most = go (eqb (bucket_of size y) (bucket_of size x)) refl
    where
      go : (b : Bool) → eqb (bucket_of size y) (bucket_of size x) ≡ b → get_or after (bucket_of size y) 0 ≡ get_or buckets (bucket_of size y) 0
      go true e =
          let f : bucket_of size y ≡ bucket_of size x = eqb→eq (bucket_of size y) (bucket_of size x) (holds (eqb (bucket_of size y) (bucket_of size x)) e) in
          let k = start-kept (get_or buckets (bucket_of size y) 0) n more most in
          ap (λ (b : ℕ). get_or after b 0) f ∙ get_or-set_same buckets (bucket_of size x) _ 0 inside ∙ ap (λ (b : ℕ). seek_from (get_or buckets b 0) n + 1) (sym f) ∙ k
      go false e = get_or-set_other buckets (bucket_of size x) (bucket_of size y) _ 0 (not_equal (bucket_of size y) (bucket_of size x) e)

  new-bucket : get_or after (bucket_of size x) 0 ≡ seek_from (get_or buckets (bucket_of size x) 0) n + 1
  unfolding noted
  new-bucket = get_or-set_same buckets (bucket_of size x) _ 0 inside

  covered_more : (j : ℕ) (xs : List Name) → Covered size buckets j xs → j + length xs ≡ n → Covered size after j (xs ++ x ∷ [])
  covered_more j [] none_covered e =
      let b = new-bucket in
      let l = start-le (get_or buckets (bucket_of size x) 0) n in
      covered {j = j} {x = x} (omega arith) (omega arith) none_covered
  covered_more j (y ∷ ys) (covered more most rest) e =
      let b = old-bucket y more (omega arith) in
      covered {j = j} {x = y} (omega arith) (omega arith) (covered_more (j + 1) ys rest (omega arith))

pub covered-snoc : (size : ℕ) (buckets : List ℕ) (x : Name) (n : ℕ) (xs : List Name) → bucket_of size x < length buckets → Covered size buckets 0 xs → length xs ≡ n →
    Covered size (noted buckets (bucket_of size x) n) 0 (xs ++ x ∷ [])
covered-snoc size buckets x n xs inside v e = covered_more size buckets x n inside 0 xs v (zero-add (length xs) ∙ e)

pub bucket-below : (size : ℕ) (x : Name) → 0 < size → bucket_of size x < size
unfolding bucket_of
bucket-below size x h = mod-lt (hash_of x) h

-- ---- the hash

pub hash-next : (h : ℕ) (x : List ℕ) (i : ℕ) → i < length x → hash_from h (drop i x) ≡ hash_from ((h * 30011 + get_or x i 0) % 65536) (drop (i + 1) x)
unfolding hash_from
hash-next h x i l = ap (hash_from h) (drop-cons x i 0 l) ∙ ap (λ (k : ℕ). hash_from ((h * 30011 + get_or x i 0) % 65536) (drop k x)) (sym (add-one i))

pub hash-end : (h : ℕ) (x : List ℕ) (i : ℕ) → length x ≤ i → hash_from h (drop i x) ≡ h
unfolding hash_from
hash-end h x i l = ap (hash_from h) (drop_of_length-le x l)

-- ---- the indexes of the tables stay where their words do

pub symbols-indexed : (tree made tables tables' : List ℕ) (n : ℕ) → region symbol_index_from symbol_buckets tables' ≡ region symbol_index_from symbol_buckets tables → region 0 n tables' ≡ region 0 n tables →
    SymbolIndex tree made tables n → SymbolIndex tree made tables' n
symbols-indexed tree made tables tables' n e f v = rw (e, f) v

pub strings-indexed : (tree tables tables' : List ℕ) (n : ℕ) → region string_index_from string_buckets tables' ≡ region string_index_from string_buckets tables → region strings_from n tables' ≡ region strings_from n tables →
    StringIndex tree tables n → StringIndex tree tables' n
strings-indexed tree tables tables' n e f v = rw (e, f) v
