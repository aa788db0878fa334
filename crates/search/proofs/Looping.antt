-- The loop of a search. Assumes nothing.
use Prim.Native.Nat.{ℕ, ◌+◌, ◌<◌, ◌≤◌}
use mathlib.Core.Path.{◌≡◌, sym, ap, ◌∙◌, subst}
use mathlib.Core.List.{List}
use native.Mathlib.Omega.{arith}
use lib.ListN.{length, take, get_or, replicate, length-replicate}
use lib.Seq.{length-take-le, get_or-take}
use Rattle.definitions.specs.Search.{Table, Marks, expand, Rule, Swept, Tabled}
use Rattle.definitions.proofs.Sweeping.{Sweeping, Given, marked-in, tabled, sweep-on, sweep-start, swept}
use Rattle.definitions.proofs.Reached.{zeros-at}
use Rattle.reader.specs.View.{instructions_of}
use Rattle.run.proofs.Coding.{nonempty}
use Rattle.search.specs.View.{marks_of, table_in, at_start, Beginning, Expandable, Searchable}
use Rattle.search.proofs.Expanding.{coded-lands}

-- the first `head` places of the queue are done, by any rule of what marks say
pub record Going (R : Rule) (code : List ℕ) (n : ℕ) (area₀ area : List ℕ) (head tail : ℕ) : Type 0 where
  pub long : length area ≡ length area₀
  pub wide : 131072 ≤ length area
  pub sweeping : Sweeping R (instructions_of code) head (table_in n area tail)

module _ {c table start : List ℕ} {n : ℕ} (S : Searchable c table start n) where
  pub beginning : Beginning start n
  beginning =
      let k = S.count in let f = S.coded.few in let s = nonempty c S.coded in
      record { long = S.long; few = omega arith; some = omega arith }

  module _ (R : Rule) where
    -- place 0
    pub going_start : (area : List ℕ) → length area ≡ length start → table_in n area 1 ≡ at_start n R.root start → Going R c n start area 0 1
    unfolding at_start
    going_start area same e =
        let k = S.count in let f = S.coded.few in let l = S.long in
        record {
          long = same;
          wide = omega arith;
          sweeping = subst (λ (t : Table). Sweeping R (instructions_of c) 0 t) (sym e)
              (sweep-start R (instructions_of c) (take n start) (replicate {A = ℕ} n 0) (length-take-le n start (omega arith) ∙ k) (length-replicate {A = ℕ} n 0 ∙ k) (nonempty c S.coded) (zeros-at n));
        }

    module _ {area₀ area : List ℕ} {head tail : ℕ} (G : Going R c n area₀ area head tail) where
      pub head_few : head < tail → head < n
      unfolding table_in
      head_few l = let a = G.sweeping.searching.within in let b = S.count in omega arith

      module _ (l : head < tail) (p : ℕ) (e : p ≡ get_or area head 0) where
        queued : p ≡ get_or (take n area) head 0
        queued = e ∙ sym (get_or-take n area head 0 (head_few l))

        pub place-few : p < n
        unfolding table_in
        place-few =
            let W = G.sweeping.searching in
            let q = marked-in R (instructions_of c) (table_in n area tail) W p (subst (λ (x : ℕ). get_or (marks_of n area) x 0 ≡ 0 → ⊥) (sym queued) (W.listed head l)) in
            let b = S.count in omega arith

        -- the next place of the queue
        pub expandable : (m : Marks) → (m.no₀ ≡ 0 → ⊥) → Expandable c table area tail p m
        expandable m some = record {
          coded = S.coded;
          starts = S.starts;
          long = G.wide;
          tabled = subst (λ (k : ℕ). Tabled (length (instructions_of c)) (table_in k area tail)) S.count (tabled R (instructions_of c) (table_in n area tail) G.sweeping.searching);
          place = let a = place-few in let b = S.count in omega arith;
          some = some;
        }

        pub going_on : (m : Marks) → Given R (instructions_of c) m (get_or (marks_of n area) p 0) p → {area' : List ℕ} {tail' : ℕ} → length area' ≡ length area
            → table_in (length (instructions_of c)) area' tail' ≡ expand (instructions_of c) m p (table_in (length (instructions_of c)) area tail) → Going R c n area₀ area' (head + 1) tail'
        unfolding table_in
        going_on m given {area'} {tail'} k v = record {
          long = k ∙ G.long;
          wide = let w = G.wide in omega arith;
          sweeping = subst (λ (t : Table). Sweeping R (instructions_of c) (head + 1) t)
              (ap (λ (x : ℕ). expand (instructions_of c) m x (table_in n area tail)) (sym queued) ∙ sym viewed)
              (sweep-on R (instructions_of c) (coded-lands c S.coded) head (table_in n area tail) G.sweeping l m
              (subst (λ (x : ℕ). Given R (instructions_of c) m (get_or (marks_of n area) x 0) x) queued given));
        }
          where
            viewed : table_in n area' tail' ≡ expand (instructions_of c) m p (table_in n area tail)
            viewed = subst (λ (j : ℕ). table_in j area' tail' ≡ expand (instructions_of c) m p (table_in j area tail)) (sym S.count) v

      pub going_end : tail ≤ head → Swept R (instructions_of c) (marks_of n area)
      unfolding table_in
      going_end l = swept R (instructions_of c) head (table_in n area tail) G.sweeping l
