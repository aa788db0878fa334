-- The view of an accepted tree. Assumes nothing.
use Prim.Native.Nat.{ℕ, zero, suc, ◌+◌, ◌*◌, ◌-◌, ◌<◌, ◌≤◌}
use mathlib.Core.Path.{◌≡◌, refl, sym, ap, ◌∙◌}
use mathlib.Core.Bool.{Bool, true, false}
use mathlib.Core.Option.{Option, none, some}
use mathlib.Core.List.{List, [], ◌∷◌}
use mathlib.Core.Logic.{⊎_elim}
use native.Mathlib.Omega.{arith}
use lib.ListN.{length, drop, get_or}
use lib.Seq.{drop-length}
use Rattle.definitions.specs.Bytes.{Answer, refused, accepted, when_accepted, Parsed, got, failed}
use Rattle.definitions.specs.Tree.{Block, []ᵇ}
use Rattle.definitions.specs.Parse.{parse_stmt, block_of, whole_block, read_tree}
use Rattle.definitions.specs.Wellformed.{ask_block, block_questions, first_no, refused_by, well_formed, check_tree}
use Rattle.tree_view.specs.Places.{Node, node}
use Rattle.tree_view.proofs.Nodes.{got-node, got-reads}
use Rattle.tree.specs.Settled.{tree_said, without_block, settled, Headed}
use Rattle.tree_view.specs.StmtAt.{block_at, BlockReads, TreeAt}
use Rattle.std.specs.Prelude.{Ok, Err}
use Rattle.questions.specs.declared.Question.{Question}
use Rattle.questions.specs.Numbers.{number}
use Rattle.tree.proofs.TreeLaws.{head-two, head_three, head-count, head-four, head-version, head-fine}
use Rattle.definitions.proofs.Begins.{le-or-gt}
use Rattle.std.proofs.lemmas.Bool.{cases_eq}

never : {A C : Type 0} {q : ℕ} {a : A} → refused q ≡ accepted a → C
never e = let z : ◌≡◌ {A = ℕ} 0 1 = cc in absurd (omega arith)

-- ---- questions 2 to 6

module _ (t : List ℕ) (b : Block) (e : read_tree t ≡ accepted b) where
  abbrev high : ℕ
  high = get_or t 0 0 * 256 + get_or t 1 0

  abbrev low : ℕ
  low = get_or t 2 0 * 256 + get_or t 3 0

  small : length t ≤ 32768
  unfolding Headed
  small = ⊎_elim (λ (h : length t ≤ 32768). h) (λ (h : 32768 < length t). never (sym (head-two t h) ∙ e)) (le-or-gt (length t) 32768)

  four : 4 ≤ length t
  unfolding Headed
  four = ⊎_elim (λ (h : 4 ≤ length t). h) (λ (h : length t < 4). never (sym (head_three t small h) ∙ e)) (le-or-gt 4 (length t))

  counts : high * 65536 + low ≡ length t - 4
  unfolding Headed
  counts = ⊎_elim
      (λ (h : high * 65536 + low ≡ length t - 4). h)
      (λ (h : high * 65536 + low ≡ length t - 4 → ⊥). never (sym (head-count t high low small four refl refl h) ∙ e))
      (cases_eq (high * 65536 + low) (length t - 4))

  five : 5 ≤ length t
  unfolding Headed
  five = ⊎_elim (λ (h : 5 ≤ length t). h) (λ (h : length t < 5). never (sym (head-four t high low small four refl refl counts h) ∙ e)) (le-or-gt 5 (length t))

  version : get_or t 4 0 ≡ 1
  unfolding Headed
  version = ⊎_elim (λ (h : get_or t 4 0 ≡ 1). h) (λ (h : get_or t 4 0 ≡ 1 → ⊥). never (sym (head-version t high low small four refl refl counts five h) ∙ e)) (cases_eq (get_or t 4 0) 1)

  whole_is : (g : Parsed Block) → whole_block g ≡ accepted b → g ≡ got b []
  unfolding whole_block
  whole_is (got a []) h = ap (λ (a : Block). got a []) (let x : a ≡ b = cc in x)
  whole_is (got a (x ∷ xs)) h = never h
  whole_is (failed q) h = never h

  body-got : block_of (parse_stmt 32) (drop 5 t) ≡ got b (drop (length t) t)
  unfolding Headed
  body-got = whole_is (block_of (parse_stmt 32) (drop 5 t)) (sym (head-fine t high low small four refl refl counts tt five version).1 ∙ e) ∙ ap (got b) (sym (drop-length t))

-- ---- questions 7 to 13

all_yes : (f : ℕ → Bool) (qs : List ℕ) → first_no f qs ≡ none → (k : ℕ) → k < length qs → f (get_or qs k 0) ≡ true
unfolding first_no
all_yes f [] e k h = absurd (omega arith)
all_yes f (q ∷ qs) e k h = go (f q) refl e k h (all_yes f qs)
  where
    go : (x : Bool) → f q ≡ x → ◌≡◌ {A = Option ℕ} (elim x as (λ _. Option ℕ) [ true ↦ first_no f qs | false ↦ some q ]) none → (k : ℕ) → k < length (q ∷ qs) →
        (first_no f qs ≡ none → (k : ℕ) → k < length qs → f (get_or qs k 0) ≡ true) → f (get_or (q ∷ qs) k 0) ≡ true
    go false y n k h i = let z : ◌≡◌ {A = ℕ} 0 1 = cc in absurd (omega arith)
    go true y n zero h i = y
    go true y n (suc k) h i = i n k (omega arith)

-- ---- the whole

-- an accepted block is the one that was read, and no question is answered no
formed : (a : Answer Block) (b : Block) → when_accepted a well_formed ≡ accepted b → (a ≡ accepted b) × (first_no (λ q. ask_block q false b) block_questions ≡ none)
unfolding when_accepted well_formed refused_by
formed (refused q) b e = never e
formed (accepted c) b e = go (first_no (λ q. ask_block q false c) block_questions) refl e
  where
    go : (o : Option ℕ) → first_no (λ q. ask_block q false c) block_questions ≡ o → refused_by o c ≡ accepted b → (accepted c ≡ accepted b) × (first_no (λ q. ask_block q false b) block_questions ≡ none)
    go none x h = (h, ap (λ (d : Block). first_no (λ q. ask_block q false d) block_questions) (let z : b ≡ c = cc in z) ∙ x)
    go (some q) x h = never h

-- a tree that is read: its block stands at byte 5 and ends with the bytes
pub record ReadAt (t : List ℕ) (b : Block) : Type 0 where
  pub small : length t ≤ 32768
  pub block : BlockReads 32 t 5
  pub node : block_at 32 t 5 ≡ node b (length t)

pub view-read : (t : List ℕ) (b : Block) → read_tree t ≡ accepted b → ReadAt t b
view-read t b e =
    let g = body-got t b e in
    record {
      small = small t b e;
      block = got-reads (block_of (parse_stmt 32)) t 5 b (drop (length t) t) (five t b e) g;
      node = got-node []ᵇ (block_of (parse_stmt 32)) t 5 b (length t) (omega arith) g;
    }

pub view-tree : (t : List ℕ) (b : Block) → check_tree t ≡ accepted b → TreeAt t
unfolding check_tree
view-tree t b e =
    let f = formed (read_tree t) b e in
    let R = view-read t b f.0 in
    let v : b ≡ (block_at 32 t 5).value = sym (ap (λ (x : Node Block). x.value) R.node) in
    record {
      small = R.small;
      block = R.block;
      whole = ap (λ (x : Node Block). x.end) R.node;
      answer = e ∙ ap accepted v;
      yes = λ k h. ap (λ (c : Block). ask_block (get_or block_questions k 0) false c) (sym v) ∙ all_yes (λ q. ask_block q false b) block_questions f.1 k h;
    }

-- what the code's answer says of the tree
settled-accepted : (a : Answer Block) → without_block a ≡ accepted tt → (b : Block) × (a ≡ accepted b)
unfolding without_block when_accepted
settled-accepted (refused q) e = never e
settled-accepted (accepted b) e = (b, refl)

settled-refused : (a : Answer Block) (q : ℕ) → without_block a ≡ refused q → a ≡ refused q
unfolding without_block when_accepted
settled-refused (refused n) q e = ap refused (let z : n ≡ q = cc in z)
settled-refused (accepted b) q e = never (sym e)

pub answer-accepted : (t : List ℕ) (u : Unit {0}) → tree_said (Ok u) ≡ settled t → TreeAt t
unfolding tree_said settled
answer-accepted t u h = let a = settled-accepted (check_tree t) (sym h) in view-tree t a.0 a.1

pub answer-refused : (t : List ℕ) (q : Question) → tree_said (Err q) ≡ settled t → check_tree t ≡ refused (number q)
unfolding tree_said settled
answer-refused t q h = settled-refused (check_tree t) (number q) (sym h)
