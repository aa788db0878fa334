-- The first top statement that fails a question other than 15.
use Prim.Native.Nat.{ℕ, suc, ◌+◌, ◌<◌, ◌≤◌}
use mathlib.Core.Path.{◌≡◌, refl, sym, ap, ap₂, ◌∙◌, subst}
use mathlib.Core.Bool.{Bool, true, false, not}
use mathlib.Core.Option.{Option, none, some}
use mathlib.Core.List.{List, []}
use native.Mathlib.Omega.{arith}
use lib.Dec.{eqb, eqb_refl}
use borrow.Author.Tests.{eqb-true, eqb-false, ne_eqb}
use Rattle.definitions.specs.Bytes.{Answer, refused, accepted}
use Rattle.definitions.specs.Tree.{Stmt, Block, []ᵇ, ◌∷ᵇ◌}
use Rattle.definitions.specs.Wellformed.{ask_stmt, block_questions, first_no}
use Rattle.definitions.specs.Tables.{Tables}
use Rattle.definitions.specs.Lower.{compile}
use Rattle.definitions.specs.Module.{Limits, slots_fit, tables_fit, fits, lower_block}
use Rattle.definitions.specs.Fits.{fits_stmt}
use Rattle.definitions.specs.Cut.{skip, failing, passes}
use Rattle.definitions.proofs.Truth.{is_true, true-false}
use Rattle.definitions.proofs.RestAsked.{verdict, first_of, lower-is}
use Rattle.definitions.proofs.CutSingle.{first-no, first-fails}
use Rattle.std.specs.Prelude.{Result, Ok, Err, nat_eq}
use Rattle.questions.specs.declared.Question.{Question}
use Rattle.questions.specs.declared.Question.TheVariants.{Slots}
use Rattle.questions.specs.Numbers.{number}
use Rattle.questions.proofs.Named.{number-same}
use Rattle.tree_view.specs.Places.{count_at}
use Rattle.tree.specs.Settled.{FirstNo}
use Rattle.tree_view.specs.StmtAt.{stmt_at, BlockReads}
use Rattle.compile.specs.Compiled.{tree_block}
use Rattle.cut.specs.Tops.{TopAt, is_no, alone}
use Rattle.cut.proofs.Stretches.{skip-next, top-start, top-stmt, top-next, top-end}

-- ---- the search

-- the statements before the i-th pass, which stands at p
pub record Sifted (test : Stmt → Bool) (t : List ℕ) (i p : ℕ) : Type 0 where
  pub top : TopAt t (tree_block t) i p
  pub passed : failing test (tree_block t) ≡ i + failing test (skip i (tree_block t))

pub sifted-none : (test : Stmt → Bool) {t : List ℕ} → BlockReads 32 t 5 → Sifted test t 0 7
unfolding skip
sifted-none test r = record { top = top-start r; passed = omega arith }

failing-more : (test : Stmt → Bool) (s : Stmt) (b : Block) → test s ≡ true → failing test (s ∷ᵇ b) ≡ suc (failing test b)
unfolding failing
failing-more test s b e = rw (e, failing)

failing-here : (test : Stmt → Bool) (s : Stmt) (b : Block) → test s ≡ false → failing test (s ∷ᵇ b) ≡ 0
unfolding failing
failing-here test s b e = rw (e, failing)

failing-none : (test : Stmt → Bool) → failing test []ᵇ ≡ 0
unfolding failing
failing-none test = refl

-- by other words
pub sifted-by : {test : Stmt → Bool} {t : List ℕ} {i j p q : ℕ} → j ≡ i → q ≡ p → Sifted test t i p → Sifted test t j q
sifted-by {test} {t} {i} {j} {p} {q} e f S = subst (λ (x : ℕ). Sifted test t x q) (sym e) (subst (λ (x : ℕ). Sifted test t i x) (sym f) S)

module _ {test : Stmt → Bool} {t : List ℕ} {i p : ℕ} (S : Sifted test t i p) where
  found-at : {n : ℕ} → failing test (skip i (tree_block t)) ≡ n → n ≡ 0 → TopAt t (tree_block t) (failing test (tree_block t)) p
  found-at e z = let k : i ≡ failing test (tree_block t) = omega (arith, S.passed) in subst (λ (j : ℕ). TopAt t (tree_block t) j p) k S.top

  -- the first that fails, or none
  pub sifted-found : i < count_at t 5 → test (stmt_at 32 t p).value ≡ false → TopAt t (tree_block t) (failing test (tree_block t)) p
  sifted-found h e = found-at (ap (failing test) (top-stmt S.top h) ∙ failing-here test _ _ e) refl

  pub sifted-end : count_at t 5 ≤ i → TopAt t (tree_block t) (failing test (tree_block t)) p
  sifted-end h = found-at (ap (failing test) (top-end S.top h) ∙ failing-none test) refl

  pub sifted-next : (h : i < count_at t 5) → test (stmt_at 32 t p).value ≡ true → Sifted test t (suc i) (stmt_at 32 t p).end
  sifted-next h e =
      let T = top-next S.top h in
      record {
        top = T;
        passed =
            omega (arith, S.passed, ap (failing test) (top-stmt S.top h) ∙ failing-more test _ _ e, ap (failing test) (skip-next i (tree_block t) _ _ (top-stmt S.top h)));
      }

-- ---- by itself, as the code asks it

pub alone-slots : (q : Question) (s : Stmt) {o : Bool} → q ≡ Slots → o ≡ fits_stmt [] s → o ≡ alone (number q) s
unfolding alone number
alone-slots q s e f = f ∙ sym (ap (λ (p : Question). alone (number p) s) e)

module _ (q : Question) (s : Stmt) (n : q ≡ Slots → ⊥) where
  abbrev first : Option ℕ
  first = first_no (λ k. ask_stmt k false s) block_questions

  by-first : alone (number q) s ≡ not (is_no (number q) first)
  unfolding alone number
  by-first = rw (ne_eqb (number q) 14 (λ z. n (number-same q Slots z)), alone) refl

  pub alone-fine : {r : Result (Unit {0}) Question} {u : Unit {0}} → FirstNo r s → r ≡ Ok u → true ≡ alone (number q) s
  unfolding FirstNo is_no
  alone-fine {u = u} F e = let z = subst (λ (o : Result (Unit {0}) Question). FirstNo o s) e F in sym (by-first ∙ ap (λ (o : Option ℕ). not (is_no (number q) o)) z)

  pub alone-no : {r : Result (Unit {0}) Question} {p : Question} {i j : ℕ} → FirstNo r s → r ≡ Err p → i ≡ number p → j ≡ number q → not (nat_eq i j) ≡ alone (number q) s
  unfolding FirstNo is_no
  alone-no F e f g =
      let z = subst (λ (o : Result (Unit {0}) Question). FirstNo o s) e F in
      (λ k. not (nat_eq (f k) (g k))) ∙ sym (by-first ∙ ap (λ (o : Option ℕ). not (is_no (number q) o)) z)

-- ---- and as the definitions ask it

is-no : (q : ℕ) (o : Option ℕ) → o ≡ some q → is_no q o ≡ true
unfolding is_no
is-no q o e = rw e (is_true (eqb q q) (eqb_refl q))

no-is : (q : ℕ) (o : Option ℕ) → is_no q o ≡ true → o ≡ some q
unfolding is_no
no-is q none e = true-false e refl
no-is q (some k) e = ap some (eqb-true k q e)

failing-same : (f g : Stmt → Bool) (b : Block) → ((i : ℕ) (s : Stmt) (c : Block) → skip i b ≡ s ∷ᵇ c → f s ≡ g s) → failing f b ≡ failing g b
unfolding failing skip
failing-same f g []ᵇ h = refl
failing-same f g (s ∷ᵇ b) h = ap₂ (λ (x : Bool) (n : ℕ). elim x as (λ z. ℕ) [ true ↦ suc n | false ↦ 0 ]) (h 0 s b refl) (failing-same f g b (λ i. h (suc i)))

-- of a tree whose first no is q: a statement is refused by q first just where q is answered no of it
first-asked : (b : Block) (q i : ℕ) (s : Stmt) (c : Block) → first_of b ≡ some q → skip i b ≡ s ∷ᵇ c
    → not (is_no q (first_no (λ k. ask_stmt k false s) block_questions)) ≡ ask_stmt q false s
first-asked b q i s c e r = go (ask_stmt q false s) refl (is_no q o) refl
  where
    o : Option ℕ
    o = first_no (λ k. ask_stmt k false s) block_questions

    go : (x : Bool) → ask_stmt q false s ≡ x → (y : Bool) → is_no q o ≡ y → not y ≡ x
    go false h true k = refl
    go false h false k = true-false (is-no q o (first-fails b q i s c e r h)) k
    go true h true k = true-false h (first-no (λ k. ask_stmt k false s) block_questions q (no-is q o k))
    go true h false k = refl

refused-same : {p q : ℕ} → ◌≡◌ {A = Answer Tables} (refused p) (refused q) → p ≡ q
refused-same e = cc

-- a refusal by neither 14 nor 15 is by the first no
pub first-refused : (l : Limits) (q : ℕ) (b : Block) → lower_block l b ≡ refused q → (q ≡ 14 → ⊥) → (q ≡ 15 → ⊥) → first_of b ≡ some q
unfolding verdict fits
first-refused l q b e h g = go (first_of b) refl (slots_fit (compile b).tables) (tables_fit l (compile b).tables) (sym (lower-is l b) ∙ e)
  where
    go : (o : Option ℕ) → first_of b ≡ o → (c d : Bool)
        → verdict o (elim c as (λ z. Answer Tables) [ false ↦ refused 14 | true ↦ elim d as (λ z. Answer Tables) [ false ↦ refused 15 | true ↦ accepted (compile b).tables ] ]) ≡ refused q
        → first_of b ≡ some q
    go (some k) n c d r = n ∙ ap some (refused-same r)
    go none n false d r = absurd (h (sym (refused-same r)))
    go none n true false r = absurd (g (sym (refused-same r)))
    go none n true true r = let z : ◌≡◌ {A = ℕ} 0 1 = cc in absurd (omega arith)

pub alone-failing : (l : Limits) (q : ℕ) (b : Block) → lower_block l b ≡ refused q → (q ≡ 15 → ⊥) → failing (alone q) b ≡ failing (passes q) b
unfolding alone passes
alone-failing l q b e h = failing-same (alone q) (passes q) b (λ i s c r. go i s c r (eqb q 14) refl)
  where
    go : (i : ℕ) (s : Stmt) (c : Block) → skip i b ≡ s ∷ᵇ c → (x : Bool) → eqb q 14 ≡ x
        → ◌≡◌ {A = Bool} (elim x as (λ z. Bool) [ true ↦ fits_stmt [] s | false ↦ not (is_no q (first_no (λ k. ask_stmt k false s) block_questions)) ]) (elim x as (λ z. Bool) [ true ↦ fits_stmt [] s | false ↦ ask_stmt q false s ])
    go i s c r true k = refl
    go i s c r false k = first-asked b q i s c (first-refused l q b e (eqb-false q 14 k) h) r
