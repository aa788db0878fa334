-- A table in a work area: how a search begins, and what a place that is met changes. Assumes nothing.
use Prim.Native.Nat.{ℕ, ◌+◌, ◌<◌}
use mathlib.Core.Path.{◌≡◌, sym, ap, ◌∙◌, subst}
use mathlib.Core.Bool.{Bool, true, false}
use mathlib.Core.List.{List, ◌++◌}
use native.Mathlib.Omega.{arith}
use lib.Dec.{eqb}
use lib.ListN.{length, take, drop, get_or, set, replicate, length-replicate, length-drop}
use lib.Seq.{length-take-le, get_or-take, get_or-drop, take-set-lt, take-set-le, drop-set-lt, drop-set-add, take-append-le, take_at, drop_at, take-take}
use borrow.Author.Tests.{eq-eqb, ne_eqb}
use borrow.Rule.Slice.PartMut.{mid_of, post_of, put_mid}
use Rattle.definitions.specs.Calls.{zeros}
use Rattle.definitions.specs.Search.{Table, meet}
use Rattle.search.specs.View.{marks_of, table_in, at_start, Meets, Beginning}

-- the mark of a place
pub mark-at : (n : ℕ) (area : List ℕ) (q : ℕ) → q < n → get_or (marks_of n area) q 0 ≡ get_or area (65536 + q) 0
unfolding marks_of
mark-at n area q h = get_or-take n (drop 65536 area) q 0 h ∙ get_or-drop 65536 area q 0

-- ---- a search begins

module _ (area zs : List ℕ) (n : ℕ) (B : Beginning area n) (e : zs ≡ zeros (mid_of 65536 n area)) where
  mid-long : length (mid_of 65536 n area) ≡ n
  mid-long = length-take-le n (drop 65536 area) (let d = length-drop 65536 area in let f = B.few in let l = B.long in omega arith)

  zeros-are : zs ≡ replicate {A = ℕ} n 0
  unfolding zeros
  zeros-are = e ∙ ap (λ (k : ℕ). replicate {A = ℕ} k 0) mid-long

  zeros-long : length zs ≡ n
  zeros-long = ap length zeros-are ∙ length-replicate {A = ℕ} n 0

  unmarked : take n (drop 65536 (put_mid 65536 n area zs)) ≡ replicate {A = ℕ} n 0
  unmarked =
      ap (take n) (drop_at (take 65536 area) (zs ++ post_of 65536 n area) 65536 (length-take-le 65536 area (let l = B.long in omega arith)))
      ∙ take_at zs (post_of 65536 n area) n zeros-long ∙ zeros-are

  queued : take n (put_mid 65536 n area zs) ≡ take n area
  queued =
      let f = B.few in let l = B.long in
      take-append-le n (take 65536 area) (zs ++ post_of 65536 n area) (let z = length-take-le 65536 area (omega arith) in omega arith)
      ∙ take-take n 65536 area (omega arith)

  begins-with : (root : ℕ) → table_in n (set (set (put_mid 65536 n area zs) 0 0) 65536 root) 1 ≡ at_start n root area
  unfolding table_in at_start marks_of
  begins-with root =
      let f = B.few in let s = B.some in
      let mid = put_mid 65536 n area zs in
      let x : take n (set (set mid 0 0) 65536 root) ≡ set (take n area) 0 0 =
      take-set-le n (set mid 0 0) 65536 root (omega arith) ∙ take-set-lt n mid 0 0 s ∙ ap (λ (l : List ℕ). set l 0 0) queued in
      let y : take n (drop 65536 (set (set mid 0 0) 65536 root)) ≡ set (replicate {A = ℕ} n 0) 0 root =
      ap (take n) (drop-set-add 65536 (set mid 0 0) 0 root ∙ ap (λ (l : List ℕ). set l 0 root) (drop-set-lt 65536 mid 0 0 (omega arith)))
      ∙ take-set-lt n (drop 65536 mid) 0 root s ∙ ap (λ (l : List ℕ). set l 0 root) unmarked in
      λ i. record { queue = x i; marks = y i; tail = 1 }

-- the part of the area that was lent has k words
pub begins : (area zs : List ℕ) (n k root : ℕ) → Beginning area n → k ≡ n → zs ≡ zeros (mid_of 65536 k area)
    → table_in n (set (set (put_mid 65536 k area zs) 0 0) 65536 root) 1 ≡ at_start n root area
begins area zs n k root B e f =
    subst (λ (j : ℕ). zs ≡ zeros (mid_of 65536 j area) → table_in n (set (set (put_mid 65536 j area zs) 0 0) 65536 root) 1 ≡ at_start n root area) (sym e)
    (λ g. begins-with area zs n B g root) f

-- ---- a place is met

module _ (area : List ℕ) (tail v q : ℕ) where
  -- by its mark in the table
  by-mark : (n : ℕ) (b : Bool) → eqb (get_or (marks_of n area) q 0) 0 ≡ b
      → meet v q (table_in n area tail) ≡ (elim b as (λ z. Table) [ true ↦ record { queue = set (take n area) tail q; marks = set (marks_of n area) q v; tail = tail + 1 } | false ↦ table_in n area tail ])
  unfolding meet table_in
  by-mark n b e =
      ap (λ (x : Bool). elim x as (λ z. Table) [ true ↦ record { queue = set (take n area) tail q; marks = set (marks_of n area) q v; tail = tail + 1 } | false ↦ table_in n area tail ]) e

  pub met-before : (get_or area (65536 + q) 0 ≡ 0 → ⊥) → Meets tail area area tail v q
  met-before h = record { in_table = λ n few to room. sym (by-mark n false (ne_eqb (get_or (marks_of n area) q 0) 0 (λ e. h (sym (mark-at n area q to) ∙ e)))) }

  pub met-now : get_or area (65536 + q) 0 ≡ 0 → Meets (tail + 1) area (set (set area tail q) (65536 + q) v) tail v q
  unfolding table_in marks_of
  met-now e = record {
    in_table = λ n few to room.
        let t = room e in
        let x : take n (set (set area tail q) (65536 + q) v) ≡ set (take n area) tail q =
        take-set-le n (set area tail q) (65536 + q) v (omega arith) ∙ take-set-lt n area tail q t in
        let y : take n (drop 65536 (set (set area tail q) (65536 + q) v)) ≡ set (take n (drop 65536 area)) q v =
        ap (take n) (drop-set-add 65536 (set area tail q) q v ∙ ap (λ (l : List ℕ). set l q v) (drop-set-lt 65536 area tail q (omega arith)))
        ∙ take-set-lt n (drop 65536 area) q v to in
        (λ i. record { queue = x i; marks = y i; tail = tail + 1 }) ∙ sym (by-mark n true (eq-eqb (get_or (marks_of n area) q 0) 0 (mark-at n area q to ∙ e)));
  }
