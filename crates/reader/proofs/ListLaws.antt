-- Counted lists whose records are passed over one by one. Assumes nothing.
use Prim.Native.Nat.{ℕ, zero, suc, ◌+◌, ◌-◌, ◌<◌, ◌≤◌}
use mathlib.Core.Path.{◌≡◌, refl, sym, ap, ◌∙◌}
use mathlib.Core.Bool.{Bool}
use mathlib.Core.List.{List}
use mathlib.Core.Logic.{⊎_elim}
use native.Mathlib.Omega.{arith}
use lib.ListN.{length}
use borrow.Author.Tests.{le-leb, lt-leb}
use Rattle.std.specs.Prelude.{Option, Some, None, cond}
use Rattle.definitions.specs.Bytes.{Parser, list_of, checked, all}
use Rattle.definitions.proofs.Begins.{Takes, le-or-gt}
use Rattle.reader.specs.View.{skip_at, number_at, steps_by, list_by}
use Rattle.reader.proofs.Taken.{some_from, some-begins, some_next, some-stops, some-ends, next_le, count_cut}
use Rattle.reader.proofs.Checked.{each_from, list-short, list-begins, list-next, list-stops, list-ends, each-le}

-- ---- the loop

module _ (step : ℕ → Option ℕ) where
  pub steps-end : (n p : ℕ) → n ≤ 0 → steps_by step n p ≡ Some p
  unfolding steps_by
  steps-end zero p h = refl
  steps-end (suc n) p h = absurd (omega arith)

  pub steps-next : (n p m : ℕ) → 0 < n → step p ≡ Some m → steps_by step n p ≡ steps_by step (n - 1) m
  unfolding steps_by
  steps-next zero p m h e = absurd (omega arith)
  steps-next (suc n) p m h e = ap the e ∙ ap (λ (k : ℕ). steps_by step k m) (let z : n ≡ suc n - 1 = omega arith in z)
    where
      the : Option ℕ → Option ℕ
      the o = elim o [ Some m ↦ steps_by step n m | None ↦ None ]

  pub steps-stop : (n p : ℕ) → 0 < n → step p ≡ None → steps_by step n p ≡ None
  unfolding steps_by
  steps-stop zero p h e = absurd (omega arith)
  steps-stop (suc n) p h e = ap the e
    where
      the : Option ℕ → Option ℕ
      the o = elim o [ Some m ↦ steps_by step n m | None ↦ None ]

  pub list-cut : (t : List ℕ) (at : ℕ) → length t < at + 2 → list_by step t at ≡ None
  unfolding list_by
  list-cut t at h = ap (λ (b : Bool). cond b (steps_by step (number_at 2 t at) (at + 2)) None) (lt-leb (at + 2) (length t) h)

  pub list-starts : (t : List ℕ) (at n : ℕ) → at + 2 ≤ length t → n ≡ number_at 2 t at → list_by step t at ≡ steps_by step n (at + 2)
  unfolding list_by
  list-starts t at n h e = ap (λ (b : Bool). cond b (steps_by step (number_at 2 t at) (at + 2)) None) (le-leb (at + 2) (length t) h)
      ∙ sym (ap (λ (k : ℕ). steps_by step k (at + 2)) e)

-- ---- the lists of a module, passed over record by record

module _ {A : Type 0} (p : Parser A) (tp : Takes p) (t : List ℕ) where
  some-steps : (n at : ℕ) → at ≤ length t → some_from p t n at ≡ steps_by (skip_at p t) n at
  some-steps zero at h = some-ends p t 0 at (omega arith) h ∙ sym (steps-end (skip_at p t) 0 at (omega arith))
  some-steps (suc n) at h = go (λ m l. some-steps n m l) (skip_at p t at) refl
    where
      one : suc n - 1 ≡ n
      one = omega arith

      go : ((m : ℕ) → m ≤ length t → some_from p t n m ≡ steps_by (skip_at p t) n m) → (r : Option ℕ) → skip_at p t at ≡ r → some_from p t (suc n) at ≡ steps_by (skip_at p t) (suc n) at
      go again (Some m) e =
          some_next p t tp (suc n) at m (omega arith) h e ∙ ap (λ (k : ℕ). some_from p t k m) one ∙ again m (next_le p tp t at m h e)
          ∙ sym (steps-next (skip_at p t) (suc n) at m (omega arith) e ∙ ap (λ (k : ℕ). steps_by (skip_at p t) k m) one)
      go again None e = some-stops p t (suc n) at (omega arith) e ∙ sym (steps-stop (skip_at p t) (suc n) at (omega arith) e)

  pub plain-list : (at : ℕ) → at ≤ length t → skip_at (list_of 2 p) t at ≡ list_by (skip_at p t) t at
  plain-list at h = ⊎_elim
      (λ (l : at + 2 ≤ length t). some-begins p t at (number_at 2 t at) h (omega arith) refl ∙ some-steps (number_at 2 t at) (at + 2) l ∙ sym (list-starts (skip_at p t) t at (number_at 2 t at) l refl))
      (λ (l : length t < at + 2). count_cut p t 2 at h (omega arith) ∙ sym (list-cut (skip_at p t) t at l))
      (le-or-gt (at + 2) (length t))

module _ {A : Type 0} (e : A → Bool) (p : Parser A) (tp : Takes p) (t : List ℕ) where
  each-steps : (n at : ℕ) → at ≤ length t → each_from e p t n at ≡ steps_by (skip_at (checked e p) t) n at
  each-steps zero at h = list-ends e p t 0 at (omega arith) h ∙ sym (steps-end (skip_at (checked e p) t) 0 at (omega arith))
  each-steps (suc n) at h = go (λ m l. each-steps n m l) (skip_at (checked e p) t at) refl
    where
      one : suc n - 1 ≡ n
      one = omega arith

      go : ((m : ℕ) → m ≤ length t → each_from e p t n m ≡ steps_by (skip_at (checked e p) t) n m) → (r : Option ℕ) → skip_at (checked e p) t at ≡ r → each_from e p t (suc n) at ≡ steps_by (skip_at (checked e p) t) (suc n) at
      go again (Some m) k =
          list-next e p t tp (suc n) at m (omega arith) h k ∙ ap (λ (j : ℕ). each_from e p t j m) one ∙ again m (each-le e p t tp at m h k)
          ∙ sym (steps-next (skip_at (checked e p) t) (suc n) at m (omega arith) k ∙ ap (λ (j : ℕ). steps_by (skip_at (checked e p) t) j m) one)
      go again None k = list-stops e p t tp (suc n) at (omega arith) h k ∙ sym (steps-stop (skip_at (checked e p) t) (suc n) at (omega arith) k)

  pub tested-list : (at : ℕ) → at ≤ length t → skip_at (checked (all e) (list_of 2 p)) t at ≡ list_by (skip_at (checked e p) t) t at
  tested-list at h = ⊎_elim
      (λ (l : at + 2 ≤ length t). list-begins e p t at (number_at 2 t at) (omega arith) refl ∙ each-steps (number_at 2 t at) (at + 2) l ∙ sym (list-starts (skip_at (checked e p) t) t at (number_at 2 t at) l refl))
      (λ (l : length t < at + 2). list-short e p t at h (omega arith) ∙ sym (list-cut (skip_at (checked e p) t) t at l))
      (le-or-gt (at + 2) (length t))
