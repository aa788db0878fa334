-- The lowering refuses by the first question answered no, and accepts where none is: the definitions, stage by stage, as a chain of questions.
use mathlib.Core.Path.{◌≡◌, refl, sym, ap, ◌∙◌}
use mathlib.Core.Bool.{Bool, true, false, ◌&&◌}
use mathlib.Core.Option.{Option, some}
use mathlib.Core.List.{List, [], ◌∷◌, ◌++◌}
use Prim.Native.Nat.{ℕ, suc, ◌≤◌}
use native.Mathlib.Omega.{arith}
use lib.ListN.{length, get_or, drop}
use lib.Dec.{eqb, eqb-suc-zero, leb, le→leb}
use Rattle.definitions.specs.Bytes.{Answer, refused, accepted, when_accepted, Parsed, got, failed, ◌>>=◌, give, byte, field, unhouse, counts_rest, version_is}
use Rattle.definitions.specs.Tree.{Block}
use Rattle.definitions.specs.Parse.{block_of, parse_stmt, whole_block, tree_version, read_tree}
use Rattle.definitions.specs.Wellformed.{ask_block, block_questions, first_no, refused_by, well_formed}
use Rattle.definitions.specs.Tables.{Tables}
use Rattle.definitions.specs.Lower.{compile}
use Rattle.definitions.specs.Module.{Limits, module_bytes, slots_fit, tables_fit, fits, lower_formed, lower_block, lower_bytes}
use Rattle.definitions.specs.Calls.{areas_fit, fits_room, lower_answer}
use Rattle.definitions.specs.Order.{accepted_tree, order_answer}
use Rattle.definitions.specs.Cut.{cut_answer}
use Rattle.definitions.specs.Statements.{parsed, head_counts, reads_whole, not_too_deep, block_read, module_of, Question, tree_questions, lower_questions, order_questions, cut_questions, first_refusal, Refusals, OrderRefusals, CutRefusals}
use Rattle.definitions.proofs.Truth.{is_true}
use Rattle.definitions.proofs.Accepted.{tables-read}
use Rattle.definitions.proofs.Fails.{FiveOrSix, five, six, fails-tree}

-- ---- questions one after another

-- question q, then what follows it
unfoldable pub ask : {A : Type 0} → Bool → ℕ → Answer A → Answer A
ask true q a = a
ask false q a = refused q

-- the questions of a list, then what follows them
unfoldable asks : {A : Type 0} → (ℕ → Bool) → List ℕ → Answer A → Answer A
asks asked [] a = a
asks asked (q ∷ qs) a = ask (asked q) q (asks asked qs a)

-- a test of the definitions is a question
pub ask-is : {A : Type 0} (c : Bool) (q : ℕ) (a : Answer A) → (elim c as (λ z. Answer A) [ true ↦ a | false ↦ refused q ]) ≡ ask c q a
unfolding ask
ask-is true q a = refl
ask-is false q a = refl

-- what is accepted was answered yes
pub ask-accepted : {A : Type 0} (c : Bool) (q : ℕ) (a : Answer A) (t : A) → ask c q a ≡ accepted t → (c ≡ true) × (a ≡ accepted t)
unfolding ask
ask-accepted true q a t e = (refl, e)
ask-accepted false q a t e = let z : ◌≡◌ {A = ℕ} 0 1 = cc in absurd (omega arith)

-- the first no of a list
asks-is : {A : Type 0} (asked : ℕ → Bool) (qs : List ℕ) (a : A) → refused_by (first_no asked qs) a ≡ asks asked qs (accepted a)
unfolding refused_by first_no asks ask
asks-is asked [] a = refl
asks-is {A} asked (q ∷ qs) a = go (asked q) (asks-is asked qs a)
  where
    go : (c : Bool) → refused_by (first_no asked qs) a ≡ asks asked qs (accepted a)
        → refused_by (elim c as (λ z. Option ℕ) [ true ↦ first_no asked qs | false ↦ some q ]) a ≡ ask c q (asks asked qs (accepted a))
    go true e = e
    go false e = refl

-- what goes on from an accepted answer comes after the questions
pub when-ask : {A B : Type 0} (c : Bool) (q : ℕ) (a : Answer A) (f : A → Answer B) → when_accepted (ask c q a) f ≡ ask c q (when_accepted a f)
unfolding ask when_accepted
when-ask true q a f = refl
when-ask false q a f = refl

when-asks : {A B : Type 0} (asked : ℕ → Bool) (qs : List ℕ) (a : Answer A) (f : A → Answer B) → when_accepted (asks asked qs a) f ≡ asks asked qs (when_accepted a f)
unfolding asks
when-asks asked [] a f = refl
when-asks asked (q ∷ qs) a f = when-ask (asked q) q (asks asked qs a) f ∙ ap (ask (asked q) q) (when-asks asked qs a f)

-- ---- the head of a record: 3 and 4 of a tree, 17 and 18 of a module

pub head-asked : {A : Type 0} (w p q : ℕ) (body : List ℕ → Answer A) (bs : List ℕ)
    → unhouse w p q body bs ≡ ask (head_counts bs) p (ask (leb 5 (length bs) && eqb (get_or bs 4 0) w) q (body (drop 5 bs)))
unfolding unhouse counts_rest version_is head_counts ask field byte give ◌>>=◌
head-asked w p q body [] = refl
head-asked w p q body (a ∷ []) = refl
head-asked w p q body (a ∷ b ∷ []) = refl
head-asked w p q body (a ∷ b ∷ c ∷ []) = refl
head-asked w p q body (a ∷ b ∷ c ∷ d ∷ []) = ask-is (head_counts (a ∷ b ∷ c ∷ d ∷ [])) p (refused q)
head-asked {A} w p q body (a ∷ b ∷ c ∷ d ∷ v ∷ rest) =
    let five = is_true (leb 5 (suc (suc (suc (suc (suc (length rest))))))) (le→leb 5 (suc (suc (suc (suc (suc (length rest)))))) (omega arith)) in
    let head = head_counts (a ∷ b ∷ c ∷ d ∷ v ∷ rest) in
    rw five (ask-is head p (version_is w q body (v ∷ rest)) ∙ ap (ask head p) (ask-is (eqb v w) q (body rest)))

-- ---- 5 and 6: the block

block-asked : (r : Parsed Block) → ((q : ℕ) → r ≡ failed q → FiveOrSix q) → whole_block r ≡ ask (reads_whole r) 5 (ask (not_too_deep r) 6 (accepted (block_read r)))
unfolding whole_block reads_whole not_too_deep block_read ask
block-asked (got b []) h = refl
block-asked (got b (x ∷ xs)) h = rw (eqb-suc-zero (length xs), ask)
block-asked (failed q) h = go q (h q refl)
  where
    go : (k : ℕ) → FiveOrSix k → whole_block (failed k) ≡ ask (reads_whole (failed k)) 5 (ask (not_too_deep (failed k)) 6 (accepted (block_read (failed k))))
    go k five = refl
    go k six = refl

-- ---- 2 to 6: the tree

tree-asked : (tree : List ℕ)
    → read_tree tree ≡ ask (leb (length tree) 32768) 2 (ask (head_counts tree) 3 (ask (leb 5 (length tree) && eqb (get_or tree 4 0) tree_version) 4
    (ask (reads_whole (parsed tree)) 5 (ask (not_too_deep (parsed tree)) 6 (accepted (block_read (parsed tree)))))))
unfolding read_tree parsed
tree-asked tree =
    ask-is (leb (length tree) 32768) 2 _
    ∙ ap (ask (leb (length tree) 32768) 2) (head-asked tree_version 3 4 (λ rest. whole_block (block_of (parse_stmt 32) rest)) tree
    ∙ ap (λ (z : Answer Block). ask (head_counts tree) 3 (ask (leb 5 (length tree) && eqb (get_or tree 4 0) tree_version) 4 z)) (block-asked (parsed tree) ((fails-tree 32).at (drop 5 tree))))

-- ---- 7 to 16: the block

fits-asked : (l : Limits) (t : Tables) → fits l t ≡ ask (slots_fit t) 14 (ask (tables_fit l t) 15 (accepted t))
unfolding fits
fits-asked l t = ask-is (slots_fit t) 14 _ ∙ ap (ask (slots_fit t) 14) (ask-is (tables_fit l t) 15 (accepted t))

room-asked : (room : ℕ) (bs : List ℕ) → fits_room room bs ≡ ask (leb (length bs) room) 16 (accepted bs)
unfolding fits_room
room-asked room bs = ask-is (leb (length bs) room) 16 (accepted bs)

module _ (l : Limits) (room : ℕ) where
  -- what tables are answered
  unfoldable finish : Answer Tables → Answer (List ℕ)
  finish a = when_accepted (when_accepted a (λ t. accepted (module_bytes t))) (fits_room room)

  finish-asked : (t : Tables) → finish (fits l t) ≡ ask (slots_fit t) 14 (ask (tables_fit l t) 15 (ask (leb (length (module_bytes t)) room) 16 (accepted (module_bytes t))))
  unfolding finish when_accepted
  finish-asked t = simp (fits-asked, when-ask, room-asked)

  finish-block : (b : Block) → finish (lower_block l b) ≡ asks (λ q. ask_block q false b) block_questions (finish (fits l (compile b).tables))
  unfolding finish lower_block lower_formed well_formed when_accepted
  finish-block b = rw (asks-is, when-asks, when-asks, when-asks)

  finish-tree : (tree : List ℕ)
      → finish (when_accepted (read_tree tree) (lower_block l))
      ≡ ask (leb (length tree) 32768) 2 (ask (head_counts tree) 3 (ask (leb 5 (length tree) && eqb (get_or tree 4 0) tree_version) 4
      (ask (reads_whole (parsed tree)) 5 (ask (not_too_deep (parsed tree)) 6 (finish (lower_block l (block_read (parsed tree))))))))
  unfolding finish when_accepted
  finish-tree tree = rw tree-asked (simp when-ask)

-- ---- 1 to 16

-- the questions of the whole list
unfoldable pub questioned : {A : Type 0} → List Question → Answer A → Answer A
questioned [] a = a
questioned (q ∷ qs) a = ask q.yes q.number (questioned qs a)

pub first-is : {A : Type 0} (qs : List Question) (a : A) → first_refusal qs a ≡ questioned qs (accepted a)
unfolding first_refusal questioned
first-is [] a = refl
first-is (q ∷ qs) a = ask-is q.yes q.number (first_refusal qs a) ∙ ap (ask q.yes q.number) (first-is qs a)

pub refusals : Refusals
unfolding lower_answer lower_bytes finish lower_questions tree_questions questioned block_questions asks module_of
refusals l m n room tree =
    rw first-is (ask-is (areas_fit m n) 1 _ ∙ ap (ask (areas_fit m n) 1) (rw (tables-read, finish-tree, finish-block, finish-asked)))

-- ---- the order: 1, and 2 to 15 of each tree

-- what follows a list of questions
when-questioned : {A B : Type 0} (qs : List Question) (a : Answer A) (f : A → Answer B) → when_accepted (questioned qs a) f ≡ questioned qs (when_accepted a f)
unfolding questioned
when-questioned [] a f = refl
when-questioned (q ∷ qs) a f = when-ask q.yes q.number (questioned qs a) f ∙ ap (ask q.yes q.number) (when-questioned qs a f)

questioned-append : {A : Type 0} (qs rs : List Question) (a : Answer A) → questioned (qs ++ rs) a ≡ questioned qs (questioned rs a)
unfolding questioned
questioned-append [] rs a = refl
questioned-append (q ∷ qs) rs a = ap (ask q.yes q.number) (questioned-append qs rs a)

module _ (l : Limits) where
  block-settled : (b : Block) → when_accepted (lower_block l b) (λ t. accepted b)
      ≡ asks (λ q. ask_block q false b) block_questions (ask (slots_fit (compile b).tables) 14 (ask (tables_fit l (compile b).tables) 15 (accepted b)))
  unfolding lower_block lower_formed well_formed when_accepted
  block-settled b = rw (asks-is, when-asks, when-asks, fits-asked) (simp when-ask)

  -- a tree that is accepted answers its questions yes
  tree-settled : (tree : List ℕ) → accepted_tree l tree ≡ questioned (tree_questions l tree) (accepted (block_read (parsed tree)))
  unfolding accepted_tree tree_questions questioned asks block_questions when_accepted
  tree-settled tree = rw tree-asked (simp when-ask (rw block-settled))

pub order_refusals : OrderRefusals
unfolding order_answer order_questions questioned when_accepted
order_refusals l m n first second =
    rw first-is (ask-is (areas_fit m n) 1 _ ∙ ap (ask (areas_fit m n) 1)
    (rw (tree-settled l first, tree-settled l second, when-questioned, when-questioned) (sym (questioned-append (tree_questions l first) (tree_questions l second) _))))

-- ---- the cut: 1, 38, and 2 to 6 of the tree

pub cut_refusals : CutRefusals
unfolding cut_answer cut_questions tree_questions questioned when_accepted
cut_refusals l m n room tree =
    rw first-is (ask-is (areas_fit m n) 1 _ ∙ ap (ask (areas_fit m n) 1)
    (ask-is (leb (length tree) room) 38 _ ∙ ap (ask (leb (length tree) room) 38) (rw tree-asked (simp when-ask))))

-- a tree is refused before its block by 2 to 6 alone
pub read-refused : (tree : List ℕ) (q : ℕ) → read_tree tree ≡ refused q → q ≤ 6
unfolding ask
read-refused tree q e = go (leb (length tree) 32768) (head_counts tree) _ (reads_whole (parsed tree)) (not_too_deep (parsed tree)) (sym (tree-asked tree) ∙ e)
  where
    go : (a b c d f : Bool) → ask a 2 (ask b 3 (ask c 4 (ask d 5 (ask f 6 (accepted (block_read (parsed tree))))))) ≡ refused q → q ≤ 6
    go false b c d f e = let z : 2 ≡ q = cc in omega arith
    go true false c d f e = let z : 3 ≡ q = cc in omega arith
    go true true false d f e = let z : 4 ≡ q = cc in omega arith
    go true true true false f e = let z : 5 ≡ q = cc in omega arith
    go true true true true false e = let z : 6 ≡ q = cc in omega arith
    go true true true true true e = let z : ◌≡◌ {A = ℕ} 0 1 = cc in absurd (omega arith)
