-- R-11: the order of two accepted trees.
use Rattle.std.specs.Prelude.{ℕ, true, false, List, [], ◌∷◌, length, eqb, ltb}
use Rattle.definitions.specs.Bytes.{Answer, refused, accepted, when_accepted}
use Rattle.definitions.specs.Tree.{Block}
use Rattle.definitions.specs.Parse.{read_tree}
use Rattle.definitions.specs.Module.{Limits, lower_block}
use Rattle.definitions.specs.Calls.{areas_fit, area_after}
use Rattle.definitions.specs.TreeBytes.{tree_bytes}
use Rattle.definitions.specs.Rests.{rest}

pub data Ordering : Type 0 where
  less equal greater : Ordering

-- byte by byte, unsigned, a proper beginning first
unfoldable pub compare_bytes : List ℕ → List ℕ → Ordering
compare_bytes [] [] = equal
compare_bytes [] (y ∷ ys) = less
compare_bytes (x ∷ xs) [] = greater
compare_bytes (x ∷ xs) (y ∷ ys) =
    elim (eqb x y) [
      | true ↦ compare_bytes xs ys
      | false ↦
          elim (ltb x y) [ true ↦ less | false ↦ greater ]
    ]

-- the order of two trees: that of the bytes of their rests, counts and header mended
unfoldable pub order : Block → Block → Ordering
order a b = compare_bytes (tree_bytes (rest a)) (tree_bytes (rest b))

-- ---- the call

-- the block of a tree that is accepted: questions 2 to 15
unfoldable pub accepted_tree : Limits → List ℕ → Answer Block
accepted_tree l tree = when_accepted (read_tree tree) (λ b. when_accepted (lower_block l b) (λ t. accepted b))

-- question 1, then the first tree's, then the second's; by the lengths of the areas
unfoldable pub order_answer : Limits → ℕ → ℕ → List ℕ → List ℕ → Answer Ordering
order_answer l m n first second =
    elim (areas_fit m n) [
      | false ↦ refused 1
      | true ↦ when_accepted (accepted_tree l first) (λ a. when_accepted (accepted_tree l second) (λ b. accepted (order a b)))
    ]

-- the call `order`: its answer, and the two areas after it; the trees are only read
pub record Sorting : Type 0 where
  pub answer : Answer Ordering
  pub area₁ : List ℕ
  pub area₂ : List ℕ

unfoldable pub order_call : Limits → List ℕ → List ℕ → List ℕ → List ℕ → Sorting
order_call l first second area₁ area₂ =
    record {
      answer = order_answer l (length area₁) (length area₂) first second;
      area₁ = area_after (length area₁) (length area₂) area₁;
      area₂ = area_after (length area₁) (length area₂) area₂;
    }
