-- What each way out of the order shows.
use mathlib.Core.Path.{◌≡◌, refl, sym, ap, ◌∙◌}
use mathlib.Core.Bool.{false}
use mathlib.Core.List.{List}
use Prim.Native.Nat.{ℕ, ◌<◌, ◌≤◌}
use lib.ListN.{length}
use Rattle.std.specs.Prelude.{Result, Ok, Err}
use Rattle.std.specs.declared.cmp.Ordering.{Ordering as Place}
use Rattle.definitions.specs.Bytes.{Answer, refused, accepted, when_accepted}
use Rattle.definitions.specs.Tree.{Block}
use Rattle.definitions.specs.Module.{Limits as DefinedLimits}
use Rattle.definitions.specs.Calls.{zeros, areas_fit}
use Rattle.definitions.specs.Order.{Ordering, order, accepted_tree, order_answer, Sorting, order_call}
use Rattle.questions.specs.declared.Question.{Question}
use Rattle.questions.specs.declared.Question.TheVariants.{WorkAreas}
use Rattle.questions.specs.Numbers.{number}
use Rattle.state.specs.State.{limits_of}
use Rattle.state.specs.declared.Limits.{Limits}
use Rattle.areas.proofs.Lent.{areas-fit, first_short, second_short, area-left, area-cleared}
use Rattle.limits.specs.Sets.{limits_for}
use Rattle.limits.specs.declared.Limits.{Limits as Set}
use Rattle.compile.specs.Compiled.{tree_block}
use Rattle.settle.specs.Settles.{told, Accepts}
use Rattle.order.specs.Ordered.{place, order_said, Sorts}

-- ---- the two answers about a tree

accepts-refused : {r : Result (Unit {0}) Question} {q : Question} {tree : List ℕ} {l : Limits} → Accepts r tree l → r ≡ Err q → accepted_tree (limits_of l) tree ≡ refused (number q)
unfolding told
accepts-refused {tree = tree} A e = A.answer ∙ ap (λ (r : Result (Unit {0}) Question). told r (tree_block tree)) e

accepts-fine : {r : Result (Unit {0}) Question} {u : Unit {0}} {tree : List ℕ} {l : Limits} → Accepts r tree l → r ≡ Ok u → accepted_tree (limits_of l) tree ≡ accepted (tree_block tree)
unfolding told
accepts-fine {tree = tree} A e = A.answer ∙ ap (λ (r : Result (Unit {0}) Question). told r (tree_block tree)) e

-- ---- the answer, question 1 being answered yes

module _ (l : Limits) (m n : ℕ) (x y : List ℕ) (h : 16384 ≤ m) (k : 16384 ≤ n) where
  abbrev answer : Answer Ordering
  answer = order_answer (limits_of l) m n x y

  abbrev trees : Answer Block → Answer Block → Answer Ordering
  trees one other = when_accepted one (λ a. when_accepted other (λ b. accepted (order a b)))

  answer-is : answer ≡ trees (accepted_tree (limits_of l) x) (accepted_tree (limits_of l) y)
  unfolding order_answer
  answer-is = rw (areas-fit m n h k, order_answer)

  -- the first tree's refusal
  pub first-refused : {s : Result Place Question} {r : Result (Unit {0}) Question} {q : Question} → s ≡ Err q → Accepts r x l → r ≡ Err q → order_said s ≡ answer
  unfolding order_said when_accepted
  first-refused i A e = ap order_said i ∙ sym (answer-is ∙ ap (λ (a : Answer Block). trees a (accepted_tree (limits_of l) y)) (accepts-refused A e))

  module _ {r : Result (Unit {0}) Question} {u : Unit {0}} (A : Accepts r x l) (e : r ≡ Ok u) where
    first_good : answer ≡ when_accepted (accepted_tree (limits_of l) y) (λ b. accepted (order (tree_block x) b))
    unfolding when_accepted
    first_good = answer-is ∙ ap (λ (a : Answer Block). trees a (accepted_tree (limits_of l) y)) (accepts-fine A e)

    -- then the second's
    pub second-refused : {t : Result Place Question} {s : Result (Unit {0}) Question} {q : Question} → t ≡ Err q → Accepts s y l → s ≡ Err q → order_said t ≡ answer
    unfolding order_said when_accepted
    second-refused i B f = ap order_said i ∙ sym (first_good ∙ ap (λ (a : Answer Block). when_accepted a (λ b. accepted (order (tree_block x) b))) (accepts-refused B f))

    -- then the order
    pub both-accepted : (o : Place) {s : Result (Unit {0}) Question} {v : Unit {0}} → Accepts s y l → s ≡ Ok v → place o ≡ order (tree_block x) (tree_block y) → order_said (Ok o) ≡ answer
    unfolding order_said when_accepted
    both-accepted o B f g = ap accepted g ∙ sym (first_good ∙ ap (λ (a : Answer Block). when_accepted a (λ b. accepted (order (tree_block x) b))) (accepts-fine B f))

-- ---- the whole call

module _ (s : Set) (x y area₁ area₂ : List ℕ) where
  abbrev whole : Sorting
  whole = order_call (limits_for s) x y area₁ area₂

  areas-no : areas_fit (length area₁) (length area₂) ≡ false → Sorts (Err WorkAreas) area₁ area₂ whole
  unfolding order_call order_answer order_said number
  areas-no e = record { answer = rw (e, order_answer) refl; first = area-left _ _ area₁ e; second = area-left _ _ area₂ e }

  pub sorts-first : length area₁ < 16384 → Sorts (Err WorkAreas) area₁ area₂ whole
  sorts-first h = areas-no (first_short (length area₁) (length area₂) h)

  pub sorts-second : 16384 ≤ length area₁ → length area₂ < 16384 → Sorts (Err WorkAreas) area₁ area₂ whole
  sorts-second g h = areas-no (second_short (length area₁) (length area₂) g h)

  pub sorts-all : {l : DefinedLimits} → l ≡ limits_for s → 16384 ≤ length area₁ → 16384 ≤ length area₂ → {r : Result Place Question} {end₁ end₂ : List ℕ} (mid₁ mid₂ : List ℕ)
      → order_said r ≡ order_answer l (length area₁) (length area₂) x y
      → length mid₁ ≡ length area₁ → length mid₂ ≡ length area₂ → end₁ ≡ zeros mid₁ → end₂ ≡ zeros mid₂ → Sorts r end₁ end₂ whole
  unfolding order_call
  sorts-all z g h mid₁ mid₂ a p q v w =
      let e = areas-fit (length area₁) (length area₂) g h in
      record {
        answer = a ∙ ap (λ (k : DefinedLimits). order_answer k (length area₁) (length area₂) x y) z;
        first = area-cleared _ _ area₁ mid₁ e p v;
        second = area-cleared _ _ area₂ mid₂ e q w;
      }
