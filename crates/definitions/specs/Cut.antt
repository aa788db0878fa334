-- R-13: a refused tree cut down to the fewest consecutive top statements that are refused with the same number.
use Rattle.std.specs.Prelude.{ℕ, zero, suc, ◌-◌, Bool, true, false, not, List, [], length, eqb, leb}
use Rattle.definitions.specs.Bytes.{Answer, refused, accepted, when_accepted}
use Rattle.definitions.specs.Tree.{Stmt, Block, []ᵇ, ◌∷ᵇ◌}
use Rattle.definitions.specs.Parse.{read_tree}
use Rattle.definitions.specs.Wellformed.{ask_stmt}
use Rattle.definitions.specs.Tables.{Tables}
use Rattle.definitions.specs.Lower.{compile}
use Rattle.definitions.specs.Module.{Limits, tables_fit, lower_block}
use Rattle.definitions.specs.Fits.{fits_stmt}
use Rattle.definitions.specs.Calls.{areas_fit, area_after, written}
use Rattle.definitions.specs.TreeBytes.{size, tree_bytes}

-- ---- stretches of top statements

-- the block without its first i statements; its first n statements
unfoldable pub skip : ℕ → Block → Block
skip zero b = b
skip (suc i) []ᵇ = []ᵇ
skip (suc i) (s ∷ᵇ b) = skip i b

unfoldable pub front : ℕ → Block → Block
front zero b = []ᵇ
front (suc n) []ᵇ = []ᵇ
front (suc n) (s ∷ᵇ b) = s ∷ᵇ front n b

-- the stretch of n statements from the i-th on
unfoldable pub stretch_of : ℕ → ℕ → Block → Block
stretch_of i n b = front n (skip i b)

-- ---- the fewest, the earliest of equals

-- the answer is a refusal with q
unfoldable pub refused_with : {A : Type 0} → ℕ → Answer A → Bool
refused_with q (refused k) = eqb k q
refused_with q (accepted a) = false

-- so is that of the stretch of n statements from the i-th on
unfoldable pub refused_stretch : Limits → ℕ → Block → ℕ → ℕ → Bool
refused_stretch l q b n i = refused_with q (lower_block l (stretch_of i n b))

-- the first number from i on, of k, that passes the test; where none does, the one after them
unfoldable pub first_from : (ℕ → Bool) → ℕ → ℕ → ℕ
first_from test zero i = i
first_from test (suc k) i = elim (test i) [ true ↦ i | false ↦ first_from test k (suc i) ]

-- the earliest start of a stretch of n statements that is refused with q; where there is none, the last start
unfoldable pub first_start : Limits → ℕ → Block → ℕ → ℕ
first_start l q b n = first_from (refused_stretch l q b n) (size b - n) 0

-- the fewest statements of a stretch that is refused with q; where there is none, all
unfoldable pub fewest : Limits → ℕ → Block → ℕ
fewest l q b = first_from (λ n. refused_stretch l q b n (first_start l q b n)) (size b) 0

unfoldable pub cut_block : Limits → ℕ → Block → Block
cut_block l q b = stretch_of (first_start l q b (fewest l q b)) (fewest l q b) b

-- ---- by the question: every one but 15 is asked of each top statement by itself

-- what question q asks of a top statement
unfoldable pub passes : ℕ → Stmt → Bool
passes q s = elim (eqb q 14) [ true ↦ fits_stmt [] s | false ↦ ask_stmt q false s ]

-- the place of the first statement that fails the test
unfoldable pub failing : (Stmt → Bool) → Block → ℕ
failing test []ᵇ = 0
failing test (s ∷ᵇ b) = elim (test s) [ true ↦ suc (failing test b) | false ↦ 0 ]

-- 15: the stretch of n statements from the i-th on is over the limits
unfoldable pub over_stretch : Limits → Block → ℕ → ℕ → Bool
over_stretch l b i n = not (tables_fit l (compile (stretch_of i n b)).tables)

-- ---- the call

-- the tree has no refusal; or the tree cut down: its bytes, or their count
pub data Cut (A : Type 0) : Type 0 where
  not_refused : Cut A
  cut_to : A → Cut A

-- a tree that was read, by what questions 7 to 15 say of it
unfoldable pub cut_by : Limits → Block → Answer Tables → Cut (List ℕ)
cut_by l b (accepted t) = not_refused
cut_by l b (refused q) = cut_to (tree_bytes (cut_block l q b))

-- 1, then 38: the output is at least as long as the tree; then 2 to 6. By the lengths of the areas and of the output
unfoldable pub cut_answer : Limits → ℕ → ℕ → ℕ → List ℕ → Answer (Cut (List ℕ))
cut_answer l m n room tree =
    elim (areas_fit m n) [
      | false ↦ refused 1
      | true ↦
          elim (leb (length tree) room) [
            | false ↦ refused 38
            | true ↦ when_accepted (read_tree tree) (λ b. accepted (cut_by l b (lower_block l b)))
          ]
    ]

-- what is answered
unfoldable pub count_cut : Cut (List ℕ) → Cut ℕ
count_cut not_refused = not_refused
count_cut (cut_to bs) = cut_to (length bs)

-- the output after it
unfoldable pub output_cut : Answer (Cut (List ℕ)) → List ℕ → List ℕ
output_cut (refused q) out = out
output_cut (accepted not_refused) out = out
output_cut (accepted (cut_to bs)) out = written bs out

-- the call `cut`: its answer, and the two areas and the output after it
pub record Cutting : Type 0 where
  pub answer : Answer (Cut ℕ)
  pub area₁ : List ℕ
  pub area₂ : List ℕ
  pub output : List ℕ

unfoldable pub cut_call : Limits → List ℕ → List ℕ → List ℕ → List ℕ → Cutting
cut_call l tree area₁ area₂ output =
    let a = cut_answer l (length area₁) (length area₂) (length output) tree in
    record {
      answer = when_accepted a (λ c. accepted (count_cut c));
      area₁ = area_after (length area₁) (length area₂) area₁;
      area₂ = area_after (length area₁) (length area₂) area₂;
      output = output_cut a output;
    }
