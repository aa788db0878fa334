-- R-13: for every question but 15, a single top statement is enough: the first that fails the question.
use mathlib.Core.Path.{◌≡◌, refl, sym, ap, ◌∙◌, fun_ext}
use mathlib.Core.Bool.{Bool, true, false, not, ◌&&◌}
use mathlib.Core.Option.{Option, none, some}
use mathlib.Core.List.{List, [], ◌∷◌}
use Prim.Native.Nat.{ℕ, zero, suc, ◌-◌, ◌<◌}
use native.Mathlib.Omega.{arith}
use lib.Dec.{eqb}
use borrow.Author.Tests.{eqb-false, ne_eqb, not-true}
use Rattle.definitions.specs.Bytes.{Answer, refused, accepted, all}
use Rattle.definitions.specs.Tree.{Stmt, Block, []ᵇ, ◌∷ᵇ◌}
use Rattle.definitions.specs.Wellformed.{ask_stmt, ask_block, block_questions, first_no, refused_by, well_formed}
use Rattle.definitions.specs.Tables.{Tables}
use Rattle.definitions.specs.Lower.{compile}
use Rattle.definitions.specs.Module.{Limits, slots_fit, tables_fit, fits, lower_block}
use Rattle.definitions.specs.TreeBytes.{size}
use Rattle.definitions.specs.Fits.{fits_stmt, fits_block}
use Rattle.definitions.specs.Cut.{skip, front, stretch_of, refused_with, refused_stretch, first_start, fewest, cut_block, failing, passes}
use Rattle.definitions.specs.Statements.{Single, SingleEnough}
use Rattle.std.proofs.Math.Bool.{and-true}
use Rattle.definitions.proofs.Truth.{left, right, and, true-false}
use Rattle.definitions.proofs.RestAsked.{none-no, verdict, first_of, lower-is}
use Rattle.definitions.proofs.SlotsFit.{slots-fit, targets-asked}
use Rattle.definitions.proofs.CutShape.{first-is, true-refused}

-- ---- the first no of a list of questions

-- it is answered no
pub first-no : (f : ℕ → Bool) (qs : List ℕ) (q : ℕ) → first_no f qs ≡ some q → f q ≡ false
unfolding first_no
first-no f [] q e = let z : ◌≡◌ {A = ℕ} 0 1 = cc in absurd (omega arith)
first-no f (k ∷ qs) q e = go (f k) refl e (first-no f qs q)
  where
    go : (c : Bool) → f k ≡ c → ◌≡◌ {A = Option ℕ} (elim c as (λ z. Option ℕ) [ true ↦ first_no f qs | false ↦ some k ]) (some q) → (first_no f qs ≡ some q → f q ≡ false) → f q ≡ false
    go true h e r = r e
    go false h e r = let z : k ≡ q = cc in rw (← z) h

-- it is one of the list
first-of : (p f : ℕ → Bool) (qs : List ℕ) (q : ℕ) → first_no f qs ≡ some q → all p qs ≡ true → p q ≡ true
unfolding first_no all
first-of p f [] q e a = let z : ◌≡◌ {A = ℕ} 0 1 = cc in absurd (omega arith)
first-of p f (k ∷ qs) q e a = go (f k) e (first-of p f qs q)
  where
    go : (c : Bool) → ◌≡◌ {A = Option ℕ} (elim c as (λ z. Option ℕ) [ true ↦ first_no f qs | false ↦ some k ]) (some q) → (first_no f qs ≡ some q → all p qs ≡ true → p q ≡ true) → p q ≡ true
    go true e r = r e (right (p k) (all p qs) a)
    go false e r = let z : k ≡ q = cc in rw (← z) (left (p k) (all p qs) a)

-- where others answer yes to whatever is answered yes, and no to that one, it is their first no
first-same : (f g : ℕ → Bool) → ((q : ℕ) → f q ≡ true → g q ≡ true) → (qs : List ℕ) (q : ℕ) → first_no f qs ≡ some q → g q ≡ false → first_no g qs ≡ some q
unfolding first_no
first-same f g h [] q e n = let z : ◌≡◌ {A = ℕ} 0 1 = cc in absurd (omega arith)
first-same f g h (k ∷ qs) q e n = go (f k) (g k) refl refl e (first-same f g h qs q)
  where
    go : (c d : Bool) → f k ≡ c → g k ≡ d → ◌≡◌ {A = Option ℕ} (elim c as (λ z. Option ℕ) [ true ↦ first_no f qs | false ↦ some k ]) (some q)
        → (first_no f qs ≡ some q → g q ≡ false → first_no g qs ≡ some q) → ◌≡◌ {A = Option ℕ} (elim d as (λ z. Option ℕ) [ true ↦ first_no g qs | false ↦ some k ]) (some q)
    go true true x y e r = r e n
    go true false x y e r = true-false (h k x) y
    go false true x y e r = let z : k ≡ q = cc in true-false y (rw z n)
    go false false x y e r = e

-- ---- stretches answer yes where the tree does

ask-front : (q : ℕ) (o : Bool) (n : ℕ) (b : Block) → ask_block q o b ≡ true → ask_block q o (front n b) ≡ true
unfolding front ask_block
ask-front q o zero b e = refl
ask-front q o (suc n) []ᵇ e = e
ask-front q o (suc n) (s ∷ᵇ b) e = and (left (ask_stmt q o s) (ask_block q o b) e) (ask-front q o n b (right (ask_stmt q o s) (ask_block q o b) e))

ask-skip : (q : ℕ) (o : Bool) (i : ℕ) (b : Block) → ask_block q o b ≡ true → ask_block q o (skip i b) ≡ true
unfolding skip ask_block
ask-skip q o zero b e = e
ask-skip q o (suc i) []ᵇ e = e
ask-skip q o (suc i) (s ∷ᵇ b) e = ask-skip q o i b (right (ask_stmt q o s) (ask_block q o b) e)

pub ask-stretch : (i n : ℕ) (b : Block) (q : ℕ) → ask_block q false b ≡ true → ask_block q false (stretch_of i n b) ≡ true
unfolding stretch_of
ask-stretch i n b q e = ask-front q false n (skip i b) (ask-skip q false i b e)

pub none-stretch : (i n : ℕ) (b : Block) → first_of b ≡ none → first_of (stretch_of i n b) ≡ none
unfolding first_of
none-stretch i n b e = none-no (λ q. ask_block q false b) (λ q. ask_block q false (stretch_of i n b)) (ask-stretch i n b) block_questions e

-- the first no of the whole is that of each statement that it is answered no of
pub first-fails : (b : Block) (q i : ℕ) (s : Stmt) (c : Block) → first_of b ≡ some q → skip i b ≡ s ∷ᵇ c → ask_stmt q false s ≡ false
    → first_no (λ k. ask_stmt k false s) block_questions ≡ some q
unfolding first_of ask_block
first-fails b q i s c e r n =
    first-same (λ k. ask_block k false b) (λ k. ask_stmt k false s) (λ k y. left (ask_stmt k false s) (ask_block k false c) (rw r at (ask-skip k false i b y))) block_questions q e n

slots-front : (n : ℕ) (b : Block) → fits_block [] b ≡ true → fits_block [] (front n b) ≡ true
unfolding front fits_block
slots-front zero b e = refl
slots-front (suc n) []ᵇ e = e
slots-front (suc n) (s ∷ᵇ b) e = and (left (fits_stmt [] s) (fits_block [] b) e) (slots-front n b (right (fits_stmt [] s) (fits_block [] b) e))

slots-skip : (i : ℕ) (b : Block) → fits_block [] b ≡ true → fits_block [] (skip i b) ≡ true
unfolding skip fits_block
slots-skip zero b e = e
slots-skip (suc i) []ᵇ e = e
slots-skip (suc i) (s ∷ᵇ b) e = slots-skip i b (right (fits_stmt [] s) (fits_block [] b) e)

pub slots-stretch : (i n : ℕ) (b : Block) → fits_block [] b ≡ true → fits_block [] (stretch_of i n b) ≡ true
unfolding stretch_of
slots-stretch i n b e = slots-front n (skip i b) (slots-skip i b e)

-- ---- the first statement that fails

all-stmts : (Stmt → Bool) → Block → Bool
all-stmts test []ᵇ = true
all-stmts test (s ∷ᵇ b) = test s && all-stmts test b

record At (test : Stmt → Bool) (c : Bool) (i : ℕ) (b : Block) : Type 0 where
  stmt : Stmt
  stretch : stretch_of i 1 b ≡ stmt ∷ᵇ []ᵇ
  answer : test stmt ≡ c

record Found (test : Stmt → Bool) (f : ℕ) (b : Block) : Type 0 where
  within : f < size b
  here : At test false f b
  before : (i : ℕ) → i < f → At test true i b

later : {test : Stmt → Bool} {c : Bool} {i : ℕ} {b : Block} (s : Stmt) → At test c i b → At test c (suc i) (s ∷ᵇ b)
unfolding stretch_of skip
later s A = record { stmt = A.stmt; stretch = A.stretch; answer = A.answer }

at-once : (test : Stmt → Bool) (c : Bool) (s : Stmt) (b : Block) → test s ≡ c → At test c 0 (s ∷ᵇ b)
unfolding stretch_of skip front
at-once test c s b h = record { stmt = s; stretch = refl; answer = h }

found-later : (test : Stmt → Bool) (f : ℕ) (s : Stmt) (b : Block) → test s ≡ true → Found test f b → Found test (suc f) (s ∷ᵇ b)
unfolding size
found-later test f s b h F = record { within = omega (arith, F.within); here = later s F.here; before = go }
  where
    go : (i : ℕ) → i < suc f → At test true i (s ∷ᵇ b)
    go zero k = at-once test true s b h
    go (suc i) k = later s (F.before i (omega arith))

found : (test : Stmt → Bool) (b : Block) → all-stmts test b ≡ false → Found test (failing test b) b
unfolding all-stmts failing size
found test []ᵇ e = true-false refl e
found test (s ∷ᵇ b) e = go (test s) refl e (found test b)
  where
    go : (c : Bool) → test s ≡ c → (c && all-stmts test b) ≡ false → (all-stmts test b ≡ false → Found test (failing test b) b)
        → Found test (elim c as (λ z. ℕ) [ true ↦ suc (failing test b) | false ↦ 0 ]) (s ∷ᵇ b)
    go true h e r = found-later test (failing test b) s b h (r e)
    go false h e r = record { within = omega arith; here = at-once test false s b h; before = λ i k. absurd (omega arith) }

-- Where a single statement is refused exactly if it fails the test, and nothing is not: one statement, the first that fails
module _ (l : Limits) (q : ℕ) (b : Block) (test : Stmt → Bool) (fails : all-stmts test b ≡ false)
    (single : (i : ℕ) (s : Stmt) → stretch_of i 1 b ≡ s ∷ᵇ []ᵇ → refused_with q (lower_block l (s ∷ᵇ []ᵇ)) ≡ not (test s))
    (empty : refused_with q (lower_block l []ᵇ) ≡ false) where
  stretch-is : (c : Bool) (i : ℕ) → At test c i b → refused_stretch l q b 1 i ≡ not c
  unfolding refused_stretch
  stretch-is c i A = rw A.stretch (single i A.stmt A.stretch ∙ ap not A.answer)

  one-start : first_start l q b 1 ≡ failing test b
  unfolding first_start
  one-start =
      let F = found test b fails in
      first-is (refused_stretch l q b 1) (size b - 1) 0 (failing test b) (omega arith) (omega (arith, F.within)) (stretch-is false (failing test b) F.here) (λ i h k. stretch-is true i (F.before i k))

  no-stretch : (i : ℕ) → refused_stretch l q b 0 i ≡ false
  unfolding refused_stretch stretch_of front
  no-stretch i = empty

  one-fewest : fewest l q b ≡ 1
  unfolding fewest
  one-fewest =
      let F = found test b fails in
      first-is (λ n. refused_stretch l q b n (first_start l q b n)) (size b) 0 1 (omega arith) (omega (arith, F.within)) (rw one-start (stretch-is false (failing test b) F.here))
      (λ i h k. let z : i ≡ 0 = omega arith in rw z (no-stretch (first_start l q b 0)))

-- ---- the questions

-- no question of a block is 14 or 15
pub record Apart (q : ℕ) : Type 0 where
  pub slots : q ≡ 14 → ⊥
  pub tables : q ≡ 15 → ⊥

pub apart : (f : ℕ → Bool) (q : ℕ) → first_no f block_questions ≡ some q → Apart q
unfolding block_questions all
apart f q e =
    let h = first-of (λ q. not (eqb q 14) && not (eqb q 15)) f block_questions q e refl in
    record {
      slots = eqb-false q 14 (not-true (eqb q 14) (left (not (eqb q 14)) (not (eqb q 15)) h));
      tables = eqb-false q 15 (not-true (eqb q 15) (right (not (eqb q 14)) (not (eqb q 15)) h));
    }

ask-all : (q : ℕ) (b : Block) → ask_block q false b ≡ all-stmts (ask_stmt q false) b
unfolding ask_block all-stmts
ask-all q []ᵇ = refl
ask-all q (s ∷ᵇ b) = ap (λ (z : Bool). ask_stmt q false s && z) (ask-all q b)

slots-all : (b : Block) → fits_block [] b ≡ all-stmts (fits_stmt []) b
unfolding fits_block all-stmts
slots-all []ᵇ = refl
slots-all (s ∷ᵇ b) = ap (λ (z : Bool). fits_stmt [] s && z) (slots-all b)

ask-single : (q : ℕ) (s : Stmt) → ask_block q false (s ∷ᵇ []ᵇ) ≡ ask_stmt q false s
unfolding ask_block
ask-single q s = and-true (ask_stmt q false s)

slots-one : (s : Stmt) → fits_block [] (s ∷ᵇ []ᵇ) ≡ fits_stmt [] s
unfolding fits_block
slots-one s = and-true (fits_stmt [] s)

-- what 14 and 15 refuse is refused by them
fits-other : (l : Limits) (t : Tables) (q : ℕ) → Apart q → refused_with q (fits l t) ≡ false
unfolding fits refused_with
fits-other l t q e = go (slots_fit t) (tables_fit l t)
  where
    go : (c d : Bool) → refused_with {A = Tables} q (elim c as (λ z. Answer Tables) [ false ↦ refused 14 | true ↦ elim d as (λ z. Answer Tables) [ false ↦ refused 15 | true ↦ accepted t ] ]) ≡ false
    go true true = refl
    go true false = ne_eqb 15 q (λ z. e.tables (sym z))
    go false d = ne_eqb 14 q (λ z. e.slots (sym z))

-- 14 refuses exactly where a function has too many slots
fits-slots : (l : Limits) (t : Tables) (c : Bool) → slots_fit t ≡ c → refused_with 14 (fits l t) ≡ not c
unfolding fits refused_with
fits-slots l t c e = go (slots_fit t) (tables_fit l t) ∙ ap not e
  where
    go : (c d : Bool) → refused_with {A = Tables} 14 (elim c as (λ z. Answer Tables) [ false ↦ refused 14 | true ↦ elim d as (λ z. Answer Tables) [ false ↦ refused 15 | true ↦ accepted t ] ]) ≡ not c
    go true true = refl
    go true false = refl
    go false d = refl

refused-other : {q : ℕ} (k : ℕ) → (k ≡ q → ⊥) → refused_with {A = Tables} q (refused k) ≡ false
unfolding refused_with
refused-other {q = q} k h = ne_eqb k q h

-- and nothing has no function but main
empty-none : first_of []ᵇ ≡ none
unfolding first_of first_no block_questions ask_block
empty-none = refl

empty-fits : (l : Limits) (q : ℕ) → refused_with q (fits l (compile []ᵇ).tables) ≡ false → refused_with q (lower_block l []ᵇ) ≡ false
unfolding verdict
empty-fits l q e = rw (lower-is l []ᵇ, empty-none) e

-- a single statement, by a question of a block
block-single : (l : Limits) (q : ℕ) (b : Block) → first_of b ≡ some q → (i : ℕ) (s : Stmt) → stretch_of i 1 b ≡ s ∷ᵇ []ᵇ → refused_with q (lower_block l (s ∷ᵇ []ᵇ)) ≡ not (ask_stmt q false s)
unfolding first_of verdict
block-single l q b e i s r = rw (lower-is l (s ∷ᵇ []ᵇ)) (go (ask_stmt q false s) refl (first_no asked block_questions) refl)
  where
    asked : ℕ → Bool
    asked k = ask_block k false (s ∷ᵇ []ᵇ)

    go : (c : Bool) → ask_stmt q false s ≡ c → (o : Option ℕ) → first_no asked block_questions ≡ o → refused_with q (verdict o (fits l (compile (s ∷ᵇ []ᵇ)).tables)) ≡ not c
    go false h o g =
        let z : first_no asked block_questions ≡ some q = first-same (λ k. ask_block k false b) asked (λ k y. rw r at (ask-stretch i 1 b k y)) block_questions q e (ask-single q s ∙ h) in
        rw (sym g ∙ z) (true-refused {A = Tables} q (refused q) refl)
    go true h none g = fits-other l (compile (s ∷ᵇ []ᵇ)).tables q (apart (λ k. ask_block k false b) q e)
    go true h (some k) g = other k (first-no asked block_questions k g)
      where
        other : (k : ℕ) → asked k ≡ false → refused_with {A = Tables} q (refused k) ≡ false
        other k n = refused-other k (λ z. true-false (ask-single q s ∙ h) (rw z at n))

-- where no question is answered no, question 10 is answered yes, so 14 is asked of the tree alone
pub tree-slots : (b : Block) → first_of b ≡ none → slots_fit (compile b).tables ≡ fits_block [] b
unfolding first_of well_formed refused_by
tree-slots b e = slots-fit b (targets-asked b b (ap (λ (o : Option ℕ). refused_by o b) e))

-- a single statement, by 14
slots-single : (l : Limits) (b : Block) → first_of b ≡ none → (i : ℕ) (s : Stmt) → stretch_of i 1 b ≡ s ∷ᵇ []ᵇ → refused_with 14 (lower_block l (s ∷ᵇ []ᵇ)) ≡ not (fits_stmt [] s)
unfolding verdict
slots-single l b e i s r =
    let z : first_of (s ∷ᵇ []ᵇ) ≡ none = rw r at (none-stretch i 1 b e) in
    rw (lower-is l (s ∷ᵇ []ᵇ), z) (fits-slots l (compile (s ∷ᵇ []ᵇ)).tables (fits_stmt [] s) (tree-slots (s ∷ᵇ []ᵇ) z ∙ slots-one s))

passes-ask : (q : ℕ) → (q ≡ 14 → ⊥) → passes q ≡ ask_stmt q false
unfolding passes
passes-ask q h = fun_ext (λ s. rw (ne_eqb q 14 h, passes))

passes-slots : passes 14 ≡ fits_stmt []
unfolding passes
passes-slots = fun_ext (λ s. refl)

one-block : (l : Limits) (q : ℕ) (b : Block) → first_of b ≡ some q → Single l q b
unfolding first_of
one-block l q b e =
    let A = apart (λ k. ask_block k false b) q e in
    let n : all-stmts (ask_stmt q false) b ≡ false = sym (ask-all q b) ∙ first-no (λ k. ask_block k false b) block_questions q e in
    let y = empty-fits l q (fits-other l (compile []ᵇ).tables q A) in
    record {
      fewest = one-fewest l q b (ask_stmt q false) n (block-single l q b e) y;
      start = one-start l q b (ask_stmt q false) n (block-single l q b e) y ∙ ap (λ (z : Stmt → Bool). failing z b) (sym (passes-ask q A.slots));
    }

empty-slots : fits_block [] []ᵇ ≡ true
unfolding fits_block
empty-slots = refl

one-slots : (l : Limits) (b : Block) → first_of b ≡ none → slots_fit (compile b).tables ≡ false → Single l 14 b
one-slots l b e f =
    let n : all-stmts (fits_stmt []) b ≡ false = sym (slots-all b) ∙ sym (tree-slots b e) ∙ f in
    let y = empty-fits l 14 (fits-slots l (compile []ᵇ).tables true (tree-slots []ᵇ empty-none ∙ empty-slots)) in
    record {
      fewest = one-fewest l 14 b (fits_stmt []) n (slots-single l b e) y;
      start = one-start l 14 b (fits_stmt []) n (slots-single l b e) y ∙ ap (λ (z : Stmt → Bool). failing z b) (sym passes-slots);
    }

refused-same : {A : Type 0} {p q : ℕ} → ◌≡◌ {A = Answer A} (refused p) (refused q) → p ≡ q
refused-same e = cc

-- every refusal but by 15 is cut down to one statement
pub single_enough : SingleEnough
unfolding verdict fits
single_enough l q b e h = go (first_of b) refl (sym (lower-is l b) ∙ e)
  where
    tables : first_of b ≡ none → (c d : Bool) → slots_fit (compile b).tables ≡ c
        → ◌≡◌ {A = Answer Tables} (elim c as (λ z. Answer Tables) [ false ↦ refused 14 | true ↦ elim d as (λ z. Answer Tables) [ false ↦ refused 15 | true ↦ accepted (compile b).tables ] ]) (refused q)
        → Single l q b
    tables n false d s r = let z : 14 ≡ q = refused-same r in rw (← z) (one-slots l b n s)
    tables n true false s r = absurd (h (sym (refused-same r)))
    tables n true true s r = let z : ◌≡◌ {A = ℕ} 0 1 = cc in absurd (omega arith)

    go : (o : Option ℕ) → first_of b ≡ o → verdict o (fits l (compile b).tables) ≡ refused q → Single l q b
    go (some k) n r = let z : k ≡ q = refused-same r in one-block l q b (rw z at n)
    go none n r = tables n (slots_fit (compile b).tables) (tables_fit l (compile b).tables) refl r

-- the cut is that statement
pub single-cut : (l : Limits) (q : ℕ) (b : Block) → lower_block l b ≡ refused q → (q ≡ 15 → ⊥) → cut_block l q b ≡ stretch_of (failing (passes q) b) 1 b
unfolding cut_block
single-cut l q b e h = let O = single_enough l q b e h in rw (O.fewest, O.start)
