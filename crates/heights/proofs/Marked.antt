-- The test of a place by its mark and the marks of the places after it, and of all places of a function's code. Assumes nothing.
use Prim.Native.Nat.{ℕ, zero, suc, ◌+◌, ◌-◌, ◌<◌, ◌≤◌}
use mathlib.Core.Path.{◌≡◌, refl, sym, ap, ap₂, ◌∙◌, subst}
use mathlib.Core.Bool.{Bool, true, false, ◌&&◌}
use mathlib.Core.List.{List, [], ◌∷◌}
use native.Mathlib.Omega.{arith}
use native.Mathlib.Numerals.{add-one}
use lib.Dec.{eqb, leb}
use lib.ListN.{length, drop, get_or, length-drop, drop_of_length-le, get_or-eq_default}
use lib.Seq.{drop-cons, get_or-drop, get_or-take}
use borrow.Author.Tests.{le-leb, lt-leb}
use Rattle.definitions.specs.Instruction.{Instr, instr, Return, Flow, straight, jump, returns, question, flow}
use Rattle.definitions.specs.Tables.{Function}
use Rattle.definitions.specs.Reader.{landing, code_stands}
use Rattle.definitions.specs.Run.{way}
use Rattle.definitions.specs.Search.{Next, straight_on, jumps_to, on_no, on_yes, Swept}
use Rattle.definitions.specs.Stack.{pops, height_after}
use Rattle.definitions.specs.Heights.{by_height, is_next, is_level, are_level, heights_hold}
use Rattle.definitions.proofs.Flows.{stop-jumps, flow-jump, flow-returns, flow-question}
use Rattle.definitions.proofs.Stays.{Lands}
use Rattle.definitions.proofs.HeightsDecided.{level-decides, heights_decided}
use Rattle.reader.specs.View.{instructions_of}
use Rattle.run.specs.Tables.{Coded}
use Rattle.search.specs.View.{marks_of}
use Rattle.search.proofs.Expanding.{coded-lands}
use Rattle.heights.specs.Holding.{level_at}
use Rattle.heights.proofs.Instructions.{here, Met}

-- ---- a mark in the area

pub mark-past : (area : List ℕ) (q : ℕ) → length area - 65536 ≤ q → 0 ≡ get_or (drop 65536 area) q 0
mark-past area q h = let l = length-drop 65536 area in sym (get_or-eq_default (drop 65536 area) 0 (let z : length (drop 65536 area) ≤ q = omega arith in z))

pub mark-here : (area : List ℕ) (q : ℕ) → get_or area (65536 + q) 0 ≡ get_or (drop 65536 area) q 0
mark-here area q = sym (get_or-drop 65536 area q 0)

-- ---- the places after one place, by its opcode

module _ (op a p v : ℕ) (marks : List ℕ) where
  by : (f : Flow) → flow op ≡ f → is_next (flow op) (instr op a 0) p v marks ≡ is_next f (instr op a 0) p v marks
  by f e = ap (λ (g : Flow). is_next g (instr op a 0) p v marks) e

  pub next-return : op ≡ 33 → true ≡ is_next (flow op) (instr op a 0) p v marks
  unfolding is_next
  next-return e = sym (by returns (flow-returns op e))

  pub next-straight : flow op ≡ straight → {m : ℕ} → m ≡ get_or marks (p + 1) 0 → eqb m v ≡ is_next (flow op) (instr op a 0) p v marks
  unfolding is_next
  next-straight e k = ap (λ (x : ℕ). eqb x v) (k ∙ ap (λ (q : ℕ). get_or marks q 0) (add-one p)) ∙ sym (by straight e)

  module _ {to : ℕ} (t : to ≡ landing p a) where
    pub next-jump : op ≡ 28 → {m : ℕ} → m ≡ get_or marks to 0 → eqb m v ≡ is_next (flow op) (instr op a 0) p v marks
    unfolding is_next
    next-jump e k = ap (λ (x : ℕ). eqb x v) (k ∙ ap (λ (q : ℕ). get_or marks q 0) t) ∙ sym (by jump (flow-jump op e))

    module _ (s : flow op ≡ straight → ⊥) (r : op ≡ 33 → ⊥) (j : op ≡ 28 → ⊥) where
      asks : is_next (flow op) (instr op a 0) p v marks ≡ (eqb (get_or marks (suc p) 0) v && eqb (get_or marks (landing p a) 0) v)
      unfolding is_next
      asks = let w = stop-jumps op s r in by (question (eqb op 30)) (flow-question op w.0 w.1 j)

      pub next-asks : {m n : ℕ} → m ≡ get_or marks (p + 1) 0 → n ≡ get_or marks to 0 → eqb m v ≡ true → eqb n v ≡ is_next (flow op) (instr op a 0) p v marks
      next-asks {m} {n} k l e =
          ap (λ (x : ℕ). eqb x v) (l ∙ ap (λ (q : ℕ). get_or marks q 0) t)
          ∙ sym (asks ∙ ap (λ (b : Bool). b && eqb (get_or marks (landing p a) 0) v) (ap (λ (x : ℕ). eqb x v) (sym (k ∙ ap (λ (q : ℕ). get_or marks q 0) (add-one p))) ∙ e))

      pub next-not : {m : ℕ} → m ≡ get_or marks (p + 1) 0 → eqb m v ≡ false → false ≡ is_next (flow op) (instr op a 0) p v marks
      next-not {m} k e =
          sym (asks ∙ ap (λ (b : Bool). b && eqb (get_or marks (landing p a) 0) v) (ap (λ (x : ℕ). eqb x v) (sym (k ∙ ap (λ (q : ℕ). get_or marks q 0) (add-one p))) ∙ e))

-- the second operand does not matter
next-first : (f : Flow) (op a b p v : ℕ) (marks : List ℕ) → is_next f (instr op a 0) p v marks ≡ is_next f (instr op a b) p v marks
unfolding is_next
next-first straight op a b p v marks = refl
next-first jump op a b p v marks = refl
next-first returns op a b p v marks = refl
next-first (question c) op a b p v marks = refl

-- ---- the test of a place

module _ (c area : List ℕ) (number p m : ℕ) (k : m ≡ get_or (drop 65536 area) p 0) where
  pub level-none : m ≡ 0 → true ≡ level_at c area number p
  unfolding is_level
  level-none e = sym (ap (is_level number (drop 65536 area) p (here c p)) (sym k ∙ e))

  module _ (n : m ≡ 0 → ⊥) where
    tests : level_at c area number p
        ≡ (leb (pops (here c p)) (m - 1) && leb (height_after (here c p) (m - 1)) number && is_next (flow (here c p).op) (here c p) p (suc (height_after (here c p) (m - 1))) (drop 65536 area))
    unfolding is_level
    tests = ap (is_level number (drop 65536 area) p (here c p)) (sym k ∙ (let z : m ≡ suc (m - 1) = omega arith in z))

    pub level-few : {g : ℕ} → g ≡ pops (here c p) → m - 1 < g → false ≡ level_at c area number p
    level-few {g} e l =
        sym (tests ∙ ap (λ (b : Bool). b && leb (height_after (here c p) (m - 1)) number && is_next (flow (here c p).op) (here c p) p (suc (height_after (here c p) (m - 1))) (drop 65536 area))
        (lt-leb (pops (here c p)) (m - 1) (subst (λ (x : ℕ). m - 1 < x) e l)))

    module _ {g : ℕ} (e : g ≡ pops (here c p)) (l : g ≤ m - 1) where
      enough : leb (pops (here c p)) (m - 1) ≡ true
      enough = le-leb (pops (here c p)) (m - 1) (subst (λ (x : ℕ). x ≤ m - 1) e l)

      pub level-over : {r : ℕ} → r ≡ height_after (here c p) (m - 1) → number < r → false ≡ level_at c area number p
      level-over {r} f h =
          sym (tests ∙ ap₂ (λ (x y : Bool). x && y && is_next (flow (here c p).op) (here c p) p (suc (height_after (here c p) (m - 1))) (drop 65536 area)) enough
          (lt-leb (height_after (here c p) (m - 1)) number (subst (λ (x : ℕ). number < x) f h)))

      pub level-next : {op a b r : ℕ} {s : Bool} → Met c p op a b → r ≡ height_after (here c p) (m - 1) → r ≤ number
          → s ≡ is_next (flow op) (instr op a 0) p (r + 1) (drop 65536 area) → s ≡ level_at c area number p
      level-next {op} {a} {b} {r} M f h w =
          w ∙ next-first (flow op) op a b p (r + 1) (drop 65536 area)
          ∙ ap₂ (λ (i : Instr) (x : ℕ). is_next (flow i.op) i p x (drop 65536 area)) M.is (add-one r ∙ ap (λ (x : ℕ). suc x) f)
          ∙ sym (tests ∙ ap₂ (λ (x y : Bool). x && y && is_next (flow (here c p).op) (here c p) p (suc (height_after (here c p) (m - 1))) (drop 65536 area)) enough
          (le-leb (height_after (here c p) (m - 1)) number (subst (λ (x : ℕ). x ≤ number) f h)))

-- ---- all places

pub below : {p n m : ℕ} → n ≡ m → p < n → p < m
below e l = omega arith

pub above : {p n m : ℕ} → n ≡ m → n ≤ p → m ≤ p
above e l = omega arith

module _ (c area : List ℕ) (number : ℕ) where
  -- the places from p on
  abbrev pub level_from : ℕ → Bool
  level_from p = are_level number (drop 65536 area) p (drop p (instructions_of c))

  module _ {p : ℕ} (h : p < length (instructions_of c)) where
    one-more : level_from p ≡ (level_at c area number p && level_from (p + 1))
    unfolding are_level
    one-more =
        ap (are_level number (drop 65536 area) p) (drop-cons (instructions_of c) p Return h)
        ∙ ap (λ (q : ℕ). level_at c area number p && are_level number (drop 65536 area) q (drop q (instructions_of c))) (sym (add-one p))

    pub level-on : {s : Bool} → s ≡ level_at c area number p → s ≡ true → level_from p ≡ level_from (p + 1)
    level-on e f = one-more ∙ ap (λ (b : Bool). b && level_from (p + 1)) (sym e ∙ f)

    pub level-falls : {s : Bool} → s ≡ level_at c area number p → s ≡ false → level_from p ≡ false
    level-falls e f = one-more ∙ ap (λ (b : Bool). b && level_from (p + 1)) (sym e ∙ f)

  pub level-end : {p : ℕ} → length (instructions_of c) ≤ p → level_from p ≡ true
  unfolding are_level
  level-end {p} h = ap (are_level number (drop 65536 area) p) (drop_of_length-le (instructions_of c) h)

-- ---- the marks of the search are those of its places

-- marks that are the same after place p
next-same : (f : Flow) (i : Instr) (p v : ℕ) (xs ys : List ℕ) → ((k q : ℕ) → Next f p i.a k q → get_or xs q 0 ≡ get_or ys q 0) → is_next f i p v xs ≡ is_next f i p v ys
unfolding is_next way
next-same straight i p v xs ys h = ap (λ (x : ℕ). eqb x v) (h 0 (suc p) straight_on)
next-same jump i p v xs ys h = ap (λ (x : ℕ). eqb x v) (h 0 (landing p i.a) jumps_to)
next-same returns i p v xs ys h = refl
next-same (question true) i p v xs ys h = ap₂ (λ (x y : ℕ). eqb x v && eqb y v) (h 1 (suc p) on_no) (h 2 (landing p i.a) on_yes)
next-same (question false) i p v xs ys h = ap₂ (λ (x y : ℕ). eqb x v && eqb y v) (h 2 (suc p) on_yes) (h 1 (landing p i.a) on_no)

level-same : (number : ℕ) (xs ys : List ℕ) (p : ℕ) (i : Instr) → get_or xs p 0 ≡ get_or ys p 0 → ((k q : ℕ) → Next (flow i.op) p i.a k q → get_or xs q 0 ≡ get_or ys q 0)
    → is_level number xs p i (get_or xs p 0) ≡ is_level number ys p i (get_or ys p 0)
unfolding is_level
level-same number xs ys p i e h = ap (is_level number xs p i) e ∙ go (get_or ys p 0)
  where
    go : (m : ℕ) → is_level number xs p i m ≡ is_level number ys p i m
    go zero = refl
    go (suc m) = ap (λ (b : Bool). leb (pops i) m && leb (height_after i m) number && b) (next-same (flow i.op) i p (suc (height_after i m)) xs ys h)

module _ (code : List Instr) (L : Lands code) (xs ys : List ℕ) (same : (q : ℕ) → q < length code → get_or xs q 0 ≡ get_or ys q 0) (number : ℕ) where
  levels-same : (is : List Instr) (p : ℕ) → p + length is ≡ length code → ((j : ℕ) → get_or is j Return ≡ get_or code (p + j) Return) → are_level number xs p is ≡ are_level number ys p is
  unfolding are_level
  levels-same [] p l h = refl
  levels-same (i ∷ is) p l h =
      let z : p + 0 ≡ p = omega arith in
      let at : i ≡ get_or code p Return = h 0 ∙ ap (λ (q : ℕ). get_or code q Return) z in
      let few : p < length code = omega arith in
      ap₂ (λ (a b : Bool). a && b)
      (level-same number xs ys p i (same p few) (λ k q x. same q (L.at p few k q (subst (λ (j : Instr). Next (flow j.op) p j.a k q) at x))))
      (levels-same is (suc p) (omega arith) (λ j. h (suc j) ∙ ap (λ (q : ℕ). get_or code q Return) (let y : p + suc j ≡ suc p + j = omega arith in y)))

same_truth : (a b : Bool) → (a ≡ true → b ≡ true) → (b ≡ true → a ≡ true) → a ≡ b
same_truth true b f g = sym (f refl)
same_truth false true f g = g refl
same_truth false false f g = refl

-- a search that is done decides
pub holds-is : (c : List ℕ) → Coded c → {n : ℕ} → n ≡ length (instructions_of c) → (area : List ℕ) → Swept (by_height (instructions_of c)) (instructions_of c) (marks_of n area)
    → (number : ℕ) {s : Bool} → s ≡ are_level number (drop 65536 area) 0 (instructions_of c) → s ≡ heights_hold number (instructions_of c)
unfolding marks_of code_stands
holds-is c C {n} count area S number e =
    let is = instructions_of c in
    let f : Function = record { symbol = 0; arity = 0; locals = 0; height = 0; code = is } in
    let stands : code_stands f ≡ true = ap₂ (λ (a b : Bool). a && b) C.ends C.land in
    let level = level-decides number is (marks_of n area) S in
    let holds = heights_decided number f stands in
    e
    ∙ levels-same is (coded-lands c C) (drop 65536 area) (marks_of n area) (λ q h. sym (get_or-take n (drop 65536 area) q 0 (omega arith))) number is 0 (omega arith)
    (λ j. ap (λ (q : ℕ). get_or is q Return) (let z : j ≡ 0 + j = omega arith in z))
    ∙ same_truth (are_level number (marks_of n area) 0 is) (heights_hold number is) (λ x. holds.1 (level.0 x)) (λ x. level.1 (holds.0 x))
