-- The steps of a run, its budget, and what more budget changes.
use mathlib.Core.Path.{◌≡◌, refl, ap, ◌∙◌}
use mathlib.Core.List.{List, [], ◌∷◌}
use Prim.Native.Nat.{ℕ, zero, suc, ◌+◌}
use native.Mathlib.Nat.{suc-add}
use native.Mathlib.Omega.{arith}
use lib.ListN.{get_or}
use Rattle.definitions.specs.Instruction.{Instr, Return, encode, Flow, straight, jump, returns, question, flow}
use Rattle.definitions.specs.Run.{Ran, ended, after, obey, run}
use Rattle.definitions.specs.Statements.{Budgeted, Steps}

-- one step before a run
counts-after : (n u : ℕ) (ev : List ℕ) (r : Ran) (more : ℕ → Ran) → Budgeted n r more → Budgeted (suc n) (after 1 u ev r) (λ m. after 1 u ev (more m))
counts-after n u ev r more C = record {
  most = omega (arith, C.most);
  spent = λ e. omega (arith, C.spent e);
  enough = λ e m. ap (after 1 u ev) (C.enough e m);
}

-- a run that ends at once, by a return or for want of an answer
counts-ended : (n k : ℕ) (e : k ≡ 3 → ⊥) → Budgeted n (ended k) (λ m. ended k)
unfolding ended
counts-ended n k e = record { most = omega arith; spent = λ h. absurd (e h); enough = λ h m. refl }

counts-obey : (n : ℕ) (f : Flow) (i : Instr) (p : ℕ) (xs : List ℕ) (go : ℕ → List ℕ → Ran) (more : ℕ → ℕ → List ℕ → Ran) → ((q : ℕ) (ys : List ℕ) → Budgeted n (go q ys) (λ m. more m q ys))
    → Budgeted (suc n) (obey f i p xs go) (λ m. obey f i p xs (more m))
unfolding obey
counts-obey n straight i p xs go more C = counts-after n 0 (encode i) _ _ (C _ xs)
counts-obey n jump i p xs go more C = counts-after n 0 [] _ _ (C _ xs)
counts-obey n returns i p xs go more C = counts-after n 0 (encode i) _ _ (counts-ended n 1 (λ e. omega arith))
counts-obey n (question b) i p [] go more C = counts-ended (suc n) 2 (λ e. omega arith)
counts-obey n (question b) i p (x ∷ xs) go more C = counts-after n 1 (i.op ∷ x ∷ []) _ _ (C _ xs)

pub steps : Steps
unfolding run ended
steps zero code p xs = record { most = omega arith; spent = λ e. refl; enough = λ e m. absurd (e refl) }
steps (suc n) code p xs =
    let i = get_or code p Return in
    let C = counts-obey n (flow i.op) i p xs (run n code) (λ m. run (n + m) code) (steps n code) in
    record { most = C.most; spent = C.spent; enough = λ e m. ap (λ (k : ℕ). run k code p xs) (suc-add n m) ∙ C.enough e m }
