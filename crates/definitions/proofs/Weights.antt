-- Weights of places: over the marked ones, and over a queue.
use mathlib.Core.Path.{◌≡◌, refl, sym, ap, ◌∙◌}
use mathlib.Core.Bool.{Bool, true, false}
use mathlib.Core.List.{List, [], ◌∷◌, ◌++◌}
use Prim.Native.Nat.{ℕ, zero, suc, ◌+◌, ◌≤◌, ◌<◌}
use native.Mathlib.Nat.{zero-add}
use native.Mathlib.Omega.{arith}
use lib.ListN.{length, get_or, set, take}
use lib.Dec.{eqb}
use borrow.Author.Tests.{eq-eqb, ne_eqb, eqb-true}
use Rattle.definitions.specs.Instruction.{Instr, Return}
use Rattle.definitions.specs.Sheet.{is_question, one_if, tally}
use Rattle.definitions.specs.Search.{weigh}
use Rattle.definitions.proofs.Truth.{not_equal}
use Rattle.definitions.proofs.Sheet.{tally-more}

-- the weights of the places of a queue
unfoldable pub total : (ℕ → ℕ) → List ℕ → ℕ
total f [] = 0
total f (q ∷ qs) = f q + total f qs

module _ (f : ℕ → ℕ) where
  pub total-append : (xs ys : List ℕ) → total f (xs ++ ys) ≡ total f xs + total f ys
  unfolding total
  total-append [] ys = sym (zero-add (total f ys))
  total-append (x ∷ xs) ys = let h = total-append xs ys in omega arith

  -- a place more
  pub total-more : (xs : List ℕ) (q : ℕ) → total f (xs ++ (q ∷ [])) ≡ total f xs + f q
  unfolding total
  total-more xs q = let h = total-append xs (q ∷ []) in omega arith

  pub total-take : (xs : List ℕ) (i j : ℕ) → i ≤ j → total f (take i xs) ≤ total f (take j xs)
  unfolding total
  total-take [] i j h = omega (arith, ap (total f) (take-nils i), ap (total f) (take-nils j))
    where
      take-nils : (n : ℕ) → ◌≡◌ {A = List ℕ} (take n []) []
      take-nils zero = refl
      take-nils (suc n) = refl
  total-take (x ∷ xs) zero j h = omega arith
  total-take (x ∷ xs) (suc i) zero h = absurd (omega arith)
  total-take (x ∷ xs) (suc i) (suc j) h = let z = total-take xs i j (omega arith) in omega arith

  pub weigh-none : (p m : ℕ) (ms : List ℕ) → m ≡ 0 → weigh f p (m ∷ ms) ≡ weigh f (suc p) ms
  unfolding weigh
  weigh-none p m ms e = ap (λ (b : Bool). elim b as (λ z. ℕ) [ true ↦ weigh f (suc p) ms | false ↦ f p + weigh f (suc p) ms ]) (eq-eqb m 0 e)

  weigh-one : (p m : ℕ) (ms : List ℕ) → (m ≡ 0 → ⊥) → weigh f p (m ∷ ms) ≡ f p + weigh f (suc p) ms
  unfolding weigh
  weigh-one p m ms e = ap (λ (b : Bool). elim b as (λ z. ℕ) [ true ↦ weigh f (suc p) ms | false ↦ f p + weigh f (suc p) ms ]) (ne_eqb m 0 e)

  -- a mark more
  pub weigh-set : (ms : List ℕ) (p q v : ℕ) → q < length ms → get_or ms q 0 ≡ 0 → (v ≡ 0 → ⊥) → weigh f p (set ms q v) ≡ f (p + q) + weigh f p ms
  weigh-set [] p q v l e n = absurd (omega arith)
  weigh-set (m ∷ ms) p zero v l e n =
      weigh-one p v ms n ∙ (let z : f p ≡ f (p + 0) = ap f (omega arith) in let y = weigh-none p m ms e in omega arith)
  weigh-set (m ∷ ms) p (suc q) v l e n = go (eqb m 0) refl (weigh-set ms (suc p) q v (omega arith) e n)
    where
      go : (b : Bool) → eqb m 0 ≡ b → weigh f (suc p) (set ms q v) ≡ f (suc p + q) + weigh f (suc p) ms → weigh f p (m ∷ set ms q v) ≡ f (p + suc q) + weigh f p (m ∷ ms)
      go true h i =
          let x = weigh-none p m (set ms q v) (eqb-true m 0 h) in let y = weigh-none p m ms (eqb-true m 0 h) in
          let z : f (suc p + q) ≡ f (p + suc q) = ap f (omega arith) in omega arith
      go false h i =
          let x = weigh-one p m (set ms q v) (not_equal m 0 h) in let y = weigh-one p m ms (not_equal m 0 h) in
          let z : f (suc p + q) ≡ f (p + suc q) = ap f (omega arith) in omega arith

  -- no more than the marks tell of each place
  weigh-most : (ms : List ℕ) (p m : ℕ) → weigh f p (m ∷ ms) ≤ f p + weigh f (suc p) ms
  weigh-most ms p m = go (eqb m 0) refl
    where
      go : (b : Bool) → eqb m 0 ≡ b → weigh f p (m ∷ ms) ≤ f p + weigh f (suc p) ms
      go true h = let x = weigh-none p m ms (eqb-true m 0 h) in omega arith
      go false h = let x = weigh-one p m ms (not_equal m 0 h) in omega arith

-- each place weighs one
pub weigh-length : (ms : List ℕ) (p : ℕ) → weigh (λ q. 1) p ms ≤ length ms
unfolding weigh
weigh-length [] p = omega arith
weigh-length (m ∷ ms) p = let h = weigh-most (λ q. 1) ms p m in let i = weigh-length ms (suc p) in omega arith

pub total-length : (xs : List ℕ) → total (λ q. 1) xs ≡ length xs
unfolding total
total-length [] = refl
total-length (x ∷ xs) = let i = total-length xs in omega arith

-- questions weigh no more than there are
pub weigh-questions : (f : ℕ → ℕ) (is : List Instr) (ms : List ℕ) (p : ℕ) → ((j : ℕ) → f (p + j) ≡ one_if (is_question (get_or is j Return).op)) → length ms ≤ length is → weigh f p ms ≤ tally is_question is
unfolding weigh
weigh-questions f is [] p h l = omega arith
weigh-questions f [] (m ∷ ms) p h l = absurd (omega arith)
weigh-questions f (i ∷ is) (m ∷ ms) p h l =
    let a = weigh-most f ms p m in
    let b = weigh-questions f is ms (suc p) (λ j. ap f (let z : suc p + j ≡ p + suc j = omega arith in z) ∙ h (suc j)) (omega arith) in
    let c : f p ≡ one_if (is_question i.op) = ap f (let z : p ≡ p + 0 = omega arith in z) ∙ h 0 in
    let d = tally-more is_question i is in
    omega arith

-- nothing is marked
pub weigh-zeros : (f : ℕ → ℕ) (ms : List ℕ) (p : ℕ) → ((q : ℕ) → get_or ms q 0 ≡ 0) → weigh f p ms ≡ 0
unfolding weigh
weigh-zeros f [] p h = refl
weigh-zeros f (m ∷ ms) p h = weigh-none f p m ms (h 0) ∙ weigh-zeros f ms (suc p) (λ q. h (suc q))
