-- What each way out of the cut shows.
use Prim.Native.Nat.{ℕ, ◌<◌, ◌≤◌}
use mathlib.Core.Path.{◌≡◌, refl, sym, ap, ◌∙◌, subst}
use mathlib.Core.Bool.{Bool, true, false}
use mathlib.Core.Option.{Option as MaybeNo, some}
use mathlib.Core.List.{List, [], ◌∷◌}
use native.Mathlib.Omega.{arith}
use lib.Dec.{leb}
use lib.ListN.{length}
use lib.Pow.{are_bytes}
use borrow.Author.Tests.{le-leb, lt-leb, leb-true}
use Rattle.std.specs.Prelude.{Option, Some, None, Result, Ok, Err}
use Rattle.definitions.specs.Bytes.{Answer, refused, accepted, when_accepted, all}
use Rattle.definitions.specs.Tree.{Block, []ᵇ}
use Rattle.definitions.specs.Parse.{read_tree}
use Rattle.definitions.specs.Wellformed.{first_no, block_questions, refused_by, well_formed, check_tree}
use Rattle.definitions.specs.Tables.{Tables}
use Rattle.definitions.specs.Lower.{compile}
use Rattle.definitions.specs.Module.{Limits as DefinedLimits, tables_fit, lower_block}
use Rattle.definitions.specs.Calls.{zeros, areas_fit, written}
use Rattle.definitions.specs.TreeBytes.{tree_bytes}
use Rattle.definitions.specs.Order.{accepted_tree}
use Rattle.definitions.specs.Cut.{stretch_of, cut_block, failing, Cut, not_refused, cut_to, cut_by, cut_answer, count_cut, output_cut, Cutting, cut_call}
use Rattle.definitions.proofs.Truth.{left, right}
use Rattle.definitions.proofs.Refusals.{read-refused}
use Rattle.definitions.proofs.RestAsked.{first_of}
use Rattle.definitions.proofs.CutShape.{cut-within}
use Rattle.definitions.proofs.CutSingle.{single_enough, single-cut}
use Rattle.definitions.proofs.CutLeast.{sets-room}
use Rattle.definitions.proofs.CutTables.{by-tables}
use Rattle.definitions.proofs.CutWritten.{cuts}
use Rattle.questions.specs.declared.Question.{Question}
use Rattle.questions.specs.declared.Question.TheVariants.{WorkAreas, Limits as Limits15, CutRoom}
use Rattle.questions.specs.Numbers.{number}
use Rattle.questions.proofs.Named.{number-same}
use Rattle.tree_view.specs.Places.{Node}
use Rattle.tree_view.specs.StmtAt.{StmtsRead}
use Rattle.tree.proofs.TreeViews.{ReadAt, view-read, view-tree}
use Rattle.state.specs.State.{limits_of}
use Rattle.state.specs.declared.Limits.{Limits}
use Rattle.areas.proofs.Lent.{areas-fit, first_short, second_short, area-left, area-cleared}
use Rattle.limits.specs.Sets.{set_number, limits_for}
use Rattle.limits.specs.declared.Limits.{Limits as Set}
use Rattle.writing.specs.Wrote.{Wrote}
use Rattle.compile.specs.Compiled.{tree_block, stretch_block}
use Rattle.compile.specs.declared.Stretch.{Stretch}
use Rattle.settle.specs.Settles.{told, Accepts}
use Rattle.cut.specs.Tops.{TopAt, CutAt, alone}
use Rattle.cut.specs.Seeking.{Large, Least}
use Rattle.cut.specs.Answered.{cut_said, CutsIn, CutsDown}
use Rattle.cut.proofs.Stretches.{size-tree, stretch-reads, stretch-value}
use Rattle.cut.proofs.Sifting.{first-refused, alone-failing}

-- ---- a tree that was read and is refused

-- by a question of its block
pub record Refuses (l : DefinedLimits) (tree : List ℕ) (q : ℕ) : Type 0 where
  pub read : read_tree tree ≡ accepted (tree_block tree)
  pub lower : lower_block l (tree_block tree) ≡ refused q
  pub at : ReadAt tree (tree_block tree)

read-is : (tree : List ℕ) (b : Block) → read_tree tree ≡ accepted b → b ≡ tree_block tree
read-is tree b e = sym (ap (λ (x : Node Block). x.value) (view-read tree b e).node)

refuses : {l : DefinedLimits} {tree : List ℕ} {q : ℕ} (b : Block) → read_tree tree ≡ accepted b → lower_block l b ≡ refused q → Refuses l tree q
refuses {l} {tree} {q} b e f =
    let z = read-is tree b e in
    record {
      read = e ∙ ap accepted z;
      lower = ap (lower_block l) (sym z) ∙ f;
      at = subst (ReadAt tree) z (view-read tree b e);
    }

-- each question of a block comes after 6
late-of : (f : ℕ → Bool) (qs : List ℕ) (q : ℕ) → all (leb 7) qs ≡ true → first_no f qs ≡ some q → 7 ≤ q
unfolding all first_no
late-of f [] q a e = let z : ◌≡◌ {A = ℕ} 0 1 = cc in absurd (omega arith)
late-of f (k ∷ qs) q a e = go (f k) e (late-of f qs q (right (leb 7 k) (all (leb 7) qs) a))
  where
    go : (c : Bool) → ◌≡◌ {A = MaybeNo ℕ} (elim c as (λ z. MaybeNo ℕ) [ true ↦ first_no f qs | false ↦ some k ]) (some q) → (first_no f qs ≡ some q → 7 ≤ q) → 7 ≤ q
    go true e r = r e
    go false e r = let z : k ≡ q = cc in let w = leb-true 7 k (left (leb 7 k) (all (leb 7) qs) a) in omega arith

late : (l : DefinedLimits) (b : Block) (q : ℕ) → lower_block l b ≡ refused q → q ≤ 6 → ⊥
unfolding first_of block_questions all
late l b q e h = let w = late-of _ block_questions q refl (first-refused l q b e (λ z. omega arith) (λ z. omega arith)) in omega arith

-- ---- the answer, questions 1 and 38 being answered yes

module _ (l : DefinedLimits) (m n room : ℕ) (tree : List ℕ) (h : 16384 ≤ m) (k : 16384 ≤ n) where
  abbrev answer : Answer (Cut (List ℕ))
  answer = cut_answer l m n room tree

  -- 38
  pub cut-no-room : {before : List ℕ} → room < length tree → CutsIn (Err CutRoom) before before answer
  unfolding cut_answer cut_said number when_accepted output_cut
  cut-no-room g = record { answer = rw (areas-fit m n h k, cut_answer) (rw (lt-leb (length tree) room g)); output = rw (areas-fit m n h k, cut_answer) (rw (lt-leb (length tree) room g)) }

  module _ (g : length tree ≤ room) where
    abbrev by_block : Answer Block → Answer (Cut (List ℕ))
    by_block r = when_accepted r (λ b. accepted (cut_by l b (lower_block l b)))

    answer-is : answer ≡ by_block (read_tree tree)
    unfolding cut_answer
    answer-is = rw (areas-fit m n h k, cut_answer) (rw (le-leb (length tree) room g))

    cuts-as : {r : Result (Option ℕ) Question} {before after : List ℕ} {a : Answer (Cut (List ℕ))} → answer ≡ a → cut_said r ≡ when_accepted a (λ c. accepted (count_cut c)) → after ≡ output_cut a before → CutsIn r before after answer
    cuts-as {before = before} e f i = record { answer = f ∙ ap (λ (a : Answer (Cut (List ℕ))). when_accepted a (λ c. accepted (count_cut c))) (sym e); output = i ∙ ap (λ (a : Answer (Cut (List ℕ))). output_cut a before) (sym e) }

    module _ {limits : Limits} (same : limits_of limits ≡ l) {r : Result (Unit {0}) Question} (A : Accepts r tree limits) where
      settled : {o : Result (Unit {0}) Question} → r ≡ o → accepted_tree l tree ≡ told o (tree_block tree)
      settled e = ap (λ (x : DefinedLimits). accepted_tree x tree) (sym same) ∙ A.answer ∙ ap (λ (x : Result (Unit {0}) Question). told x (tree_block tree)) e

      -- the tree is accepted
      pub cut-none : {u : Unit {0}} {before : List ℕ} → r ≡ Ok u → CutsIn (Ok None) before before answer
      unfolding accepted_tree when_accepted told cut_said cut_by count_cut output_cut
      cut-none {before = before} e = go (read_tree tree) refl (settled e)
        where
          inner : (b : Block) (a : Answer Tables) → lower_block l b ≡ a → when_accepted a (λ t. accepted b) ≡ accepted (tree_block tree) → cut_by l b (lower_block l b) ≡ not_refused
          inner b (refused q) f e = let z : ◌≡◌ {A = ℕ} 0 1 = cc in absurd (omega arith)
          inner b (accepted t) f e = rw f

          go : (a : Answer Block) → read_tree tree ≡ a → when_accepted a (λ b. when_accepted (lower_block l b) (λ t. accepted b)) ≡ accepted (tree_block tree) → CutsIn (Ok None) before before answer
          go (refused q) f e = let z : ◌≡◌ {A = ℕ} 0 1 = cc in absurd (omega arith)
          go (accepted b) f e = cuts-as (answer-is ∙ ap by_block f ∙ ap accepted (inner b (lower_block l b) refl e)) refl refl

      -- or refused by 2 to 6
      pub cut-refused : {q : Question} {before : List ℕ} {s : Result (Option ℕ) Question} → r ≡ Err q → s ≡ Err q → number q ≤ 6 → CutsIn s before before answer
      unfolding accepted_tree when_accepted told cut_said output_cut
      cut-refused {q} {before} {s} e f h = go (read_tree tree) refl (settled e)
        where
          inner : (b : Block) (a : Answer Tables) → when_accepted a (λ t. accepted b) ≡ refused (number q) → a ≡ refused (number q)
          inner b (refused p) e = cc
          inner b (accepted t) e = let z : ◌≡◌ {A = ℕ} 0 1 = cc in absurd (omega arith)

          go : (a : Answer Block) → read_tree tree ≡ a → when_accepted a (λ b. when_accepted (lower_block l b) (λ t. accepted b)) ≡ refused (number q) → CutsIn s before before answer
          go (refused p) g e = cuts-as (answer-is ∙ ap by_block (g ∙ e)) (ap cut_said f) refl
          go (accepted b) g e = absurd (late l b (number q) (inner b (lower_block l b) e) h)

      -- or by a later one
      pub cut-later : {q : Question} → r ≡ Err q → 6 < number q → Refuses l tree (number q)
      unfolding accepted_tree when_accepted told
      cut-later {q} e h = go (read_tree tree) refl (settled e)
        where
          inner : (b : Block) (a : Answer Tables) → when_accepted a (λ t. accepted b) ≡ refused (number q) → a ≡ refused (number q)
          inner b (refused p) e = cc
          inner b (accepted t) e = let z : ◌≡◌ {A = ℕ} 0 1 = cc in absurd (omega arith)

          go : (a : Answer Block) → read_tree tree ≡ a → when_accepted a (λ b. when_accepted (lower_block l b) (λ t. accepted b)) ≡ refused (number q) → Refuses l tree (number q)
          go (refused p) g e = let z : p ≡ number q = cc in let w = read-refused tree p g in absurd (omega arith)
          go (accepted b) g e = refuses b g (inner b (lower_block l b) e)

    module _ {q : ℕ} (R : Refuses l tree q) where
      answer-cut : answer ≡ accepted (cut_to (tree_bytes (cut_block l q (tree_block tree))))
      unfolding when_accepted cut_by
      answer-cut = answer-is ∙ ap by_block R.read ∙ ap (λ (a : Answer Tables). accepted (cut_by l (tree_block tree) a)) R.lower

      module _ {s : Stretch} (C : CutAt tree (cut_block l q (tree_block tree)) s) where
        cut-reads : StmtsRead 32 s.count tree s.at
        cut-reads = stretch-reads C.top s.count C.within

        cut-bytes : tree_bytes (stretch_block tree s) ≡ tree_bytes (cut_block l q (tree_block tree))
        cut-bytes = ap tree_bytes (stretch-value C.top s.count C.within ∙ sym C.is)

        -- there is room for the stretch, whose bytes are then written
        pub cut-fits : are_bytes tree ≡ true → (length tree ≤ 32768) × StmtsRead 32 s.count tree s.at × (length (tree_bytes (stretch_block tree s)) ≤ room)
        cut-fits o = (R.at.small, cut-reads, omega (arith, ap length cut-bytes, (cuts l m n room tree _ o answer-cut).short, g))

        pub cut-written : {i : ℕ} {before after : List ℕ} → Wrote i (tree_bytes (stretch_block tree s)) before after → CutsIn (Ok (Some i)) before after answer
        unfolding cut_said when_accepted count_cut output_cut
        cut-written {before = before} W =
            cuts-as answer-cut (ap (λ (n : ℕ). accepted (cut_to n)) (W.count ∙ ap length cut-bytes)) (W.out ∙ ap (λ (bs : List ℕ). written bs before) cut-bytes)

-- ---- the stretch

module _ {l : DefinedLimits} {tree : List ℕ} where
  -- 15
  pub refuses-large : Refuses l tree 15 → tables_fit l (compile []ᵇ).tables ≡ true → Large l tree
  unfolding check_tree when_accepted well_formed refused_by first_of
  refuses-large R room =
      let b = tree_block tree in
      record {
        tree = view-tree tree b (ap (λ (a : Answer Block). when_accepted a well_formed) R.read ∙ ap (λ (o : MaybeNo ℕ). refused_by o b) (by-tables l b R.lower).asked);
        refused = R.lower;
        room = room;
      }

  -- any other
  pub single-at : {q p : ℕ} → Refuses l tree q → (q ≡ 15 → ⊥) → TopAt tree (tree_block tree) (failing (alone q) (tree_block tree)) p → CutAt tree (cut_block l q (tree_block tree)) (record { at = p; count = 1 })
  single-at {q} {p} R h T =
      let b = tree_block tree in
      let e = alone-failing l q b R.lower h in
      let O = single_enough l q b R.lower h in
      record {
        start = failing (alone q) b;
        top = T;
        within = omega (arith, e, rw (O.fewest, O.start) at (cut-within l q b R.lower), size-tree R.at.block);
        is = single-cut l q b R.lower h ∙ ap (λ (i : ℕ). stretch_of i 1 b) (sym e);
      }

  -- by the code's question
  pub cut-large : {q : Question} → q ≡ Limits15 → Refuses l tree (number q) → tables_fit l (compile []ᵇ).tables ≡ true → Large l tree
  unfolding number
  cut-large e R room = refuses-large (subst (λ (p : Question). Refuses l tree (number p)) e R) room

  pub cut-least : {q : Question} {s s' : Stretch} → Refuses l tree (number q) → q ≡ Limits15 → s' ≡ s → Least l tree s → CutAt tree (cut_block l (number q) (tree_block tree)) s'
  unfolding number
  cut-least {q = q} {s = s} R e f L =
      subst (λ (x : Stretch). CutAt tree (cut_block l (number q) (tree_block tree)) x) (sym f) (subst (λ (p : Question). CutAt tree (cut_block l (number p) (tree_block tree)) s) (sym e) L)

  pub cut-single : {q : Question} {p : ℕ} {s : Stretch} → Refuses l tree (number q) → (q ≡ Limits15 → ⊥) → s ≡ record { at = p; count = 1 }
      → TopAt tree (tree_block tree) (failing (alone (number q)) (tree_block tree)) p → CutAt tree (cut_block l (number q) (tree_block tree)) s
  unfolding number
  cut-single {q} R n f T =
      subst (λ (x : Stretch). CutAt tree (cut_block l (number q) (tree_block tree)) x) (sym f) (single-at R (λ z. n (number-same q Limits15 z)) T)

-- ---- the whole call

-- a set's limits have room for an empty tree
pub room-of : (s : Set) {l : DefinedLimits} → l ≡ limits_for s → tables_fit l (compile []ᵇ).tables ≡ true
room-of s e = ap (λ (k : DefinedLimits). tables_fit k (compile []ᵇ).tables) e ∙ sets-room (set_number s)

module _ (s : Set) (tree area₁ area₂ out : List ℕ) where
  abbrev whole : Cutting
  whole = cut_call (limits_for s) tree area₁ area₂ out

  areas-no : areas_fit (length area₁) (length area₂) ≡ false → CutsDown (Err WorkAreas) area₁ area₂ out whole
  unfolding cut_call cut_answer cut_said number when_accepted output_cut
  areas-no e = record { answer = rw (e, cut_answer) refl; first = area-left _ _ area₁ e; second = area-left _ _ area₂ e; output = rw (e, cut_answer) refl }

  pub cuts-first : length area₁ < 16384 → CutsDown (Err WorkAreas) area₁ area₂ out whole
  cuts-first h = areas-no (first_short (length area₁) (length area₂) h)

  pub cuts-second : 16384 ≤ length area₁ → length area₂ < 16384 → CutsDown (Err WorkAreas) area₁ area₂ out whole
  cuts-second g h = areas-no (second_short (length area₁) (length area₂) g h)

  pub cuts-all : {l : DefinedLimits} → l ≡ limits_for s → 16384 ≤ length area₁ → 16384 ≤ length area₂ → {r : Result (Option ℕ) Question} {end₁ end₂ after : List ℕ} (mid₁ mid₂ : List ℕ)
      → CutsIn r out after (cut_answer l (length area₁) (length area₂) (length out) tree)
      → length mid₁ ≡ length area₁ → length mid₂ ≡ length area₂ → end₁ ≡ zeros mid₁ → end₂ ≡ zeros mid₂ → CutsDown r end₁ end₂ after whole
  unfolding cut_call
  cuts-all {l} z g h mid₁ mid₂ C p q v w =
      let e = areas-fit (length area₁) (length area₂) g h in
      let same : (λ (k : DefinedLimits). cut_answer k (length area₁) (length area₂) (length out) tree) l ≡ cut_answer (limits_for s) (length area₁) (length area₂) (length out) tree
      = ap (λ (k : DefinedLimits). cut_answer k (length area₁) (length area₂) (length out) tree) z in
      record {
        answer = C.answer ∙ ap (λ (a : Answer (Cut (List ℕ))). when_accepted a (λ c. accepted (count_cut c))) same;
        first = area-cleared _ _ area₁ mid₁ e p v;
        second = area-cleared _ _ area₂ mid₂ e q w;
        output = C.output ∙ ap (λ (a : Answer (Cut (List ℕ))). output_cut a out) same;
      }
