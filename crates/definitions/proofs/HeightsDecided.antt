-- The search decides whether a function's heights hold.
use mathlib.Core.Path.{◌≡◌, refl, sym, ap, ◌∙◌, subst}
use mathlib.Core.Bool.{Bool, true, false, ◌&&◌}
use mathlib.Core.List.{List, [], ◌∷◌}
use Prim.Native.Nat.{ℕ, zero, suc, ◌+◌, ◌-◌, ◌≤◌, ◌<◌}
use native.Mathlib.Omega.{arith}
use lib.ListN.{length, get_or, replicate, length-replicate}
use lib.Dec.{eqb, leb, ltb}
use borrow.Author.Tests.{eq-eqb, eqb-true, le-leb, leb-true, ltb-true, ltb-false}
use Rattle.definitions.specs.Instruction.{Instr, Return, Flow, straight, jump, returns, question, flow}
use Rattle.definitions.specs.Stack.{pops, height_after}
use Rattle.definitions.specs.Tables.{Function}
use Rattle.definitions.specs.Reader.{landing, code_stands}
use Rattle.definitions.specs.Run.{way}
use Rattle.definitions.specs.Search.{Next, straight_on, jumps_to, on_no, on_yes, Table, expand, Chain, begins, goes, Swept}
use Rattle.definitions.specs.Heights.{HeightsHold, mark_after, marks_after, by_height, climb, height_marks, is_next, is_level, are_level, heights_hold}
use Rattle.definitions.specs.Statements.{HeightsDecided}
use Rattle.definitions.proofs.Truth.{left, right, both}
use Rattle.definitions.proofs.Stays.{Lands, ends_some, function-ends, function-lands}
use Rattle.definitions.proofs.Sweeping.{Sweeping, mark_of, Given, sweep-on, swept, sweep-start}
use Rattle.definitions.proofs.Reached.{zeros-at}
use Rattle.definitions.proofs.Spots.{settles-hold, Trail, here, trail-on, trail-met}

-- ---- the test of an instruction, as facts

-- a place with a mark: it pops no more than is there, leaves no more than the number, and each place after it has the mark of what it leaves
pub record Level (number : ℕ) (marks : List ℕ) (p : ℕ) (i : Instr) : Type 0 where
  pub enough : pops i ≤ get_or marks p 0 - 1
  pub most : height_after i (get_or marks p 0 - 1) ≤ number
  pub next : (k q : ℕ) → Next (flow i.op) p i.a k q → get_or marks q 0 ≡ suc (height_after i (get_or marks p 0 - 1))

next-told : (f : Flow) (i : Instr) (p v : ℕ) (marks : List ℕ) → is_next f i p v marks ≡ true → (k q : ℕ) → Next f p i.a k q → get_or marks q 0 ≡ v
unfolding is_next way
next-told straight i p v marks e k q straight_on = eqb-true _ v e
next-told jump i p v marks e k q jumps_to = eqb-true _ v e
next-told returns i p v marks e k q x = elim x [ ]
next-told (question true) i p v marks e k q on_no = eqb-true _ v (left _ _ e)
next-told (question false) i p v marks e k q on_no = eqb-true _ v (right (eqb (get_or marks (suc p) 0) v) _ e)
next-told (question true) i p v marks e k q on_yes = eqb-true _ v (right (eqb (get_or marks (suc p) 0) v) _ e)
next-told (question false) i p v marks e k q on_yes = eqb-true _ v (left _ _ e)

next-tells : (f : Flow) (i : Instr) (p v : ℕ) (marks : List ℕ) → ((k q : ℕ) → Next f p i.a k q → get_or marks q 0 ≡ v) → is_next f i p v marks ≡ true
unfolding is_next way
next-tells straight i p v marks h = eq-eqb _ v (h 0 (suc p) straight_on)
next-tells jump i p v marks h = eq-eqb _ v (h 0 (landing p i.a) jumps_to)
next-tells returns i p v marks h = refl
next-tells (question true) i p v marks h = rw (eq-eqb (get_or marks (suc p) 0) v (h 1 (suc p) on_no), eq-eqb (get_or marks (landing p i.a) 0) v (h 2 (landing p i.a) on_yes))
next-tells (question false) i p v marks h = rw (eq-eqb (get_or marks (suc p) 0) v (h 2 (suc p) on_yes), eq-eqb (get_or marks (landing p i.a) 0) v (h 1 (landing p i.a) on_no))

module _ (number : ℕ) (marks : List ℕ) where
  level-told : (p : ℕ) (i : Instr) → is_level number marks p i (get_or marks p 0) ≡ true → (get_or marks p 0 ≡ 0 → ⊥) → Level number marks p i
  unfolding is_level
  level-told p i = go (get_or marks p 0) refl
    where
      go : (m : ℕ) → get_or marks p 0 ≡ m → is_level number marks p i m ≡ true → (m ≡ 0 → ⊥) → Level number marks p i
      go zero e t n = absurd (n refl)
      go (suc h) e t n =
          let u = both (leb (pops i) h && leb (height_after i h) number) (is_next (flow i.op) i p (suc (height_after i h)) marks) t in
          let v = both (leb (pops i) h) (leb (height_after i h) number) u.0 in
          let d : get_or marks p 0 - 1 ≡ h = omega arith in
          record {
            enough = rw d (leb-true (pops i) h v.0);
            most = rw d (leb-true (height_after i h) number v.1);
            next = λ k q x. next-told (flow i.op) i p (suc (height_after i h)) marks u.1 k q x ∙ ap (λ (g : ℕ). suc (height_after i g)) (sym d);
          }

  level-tells : (p : ℕ) (i : Instr) → ((get_or marks p 0 ≡ 0 → ⊥) → Level number marks p i) → is_level number marks p i (get_or marks p 0) ≡ true
  unfolding is_level
  level-tells p i f = go (get_or marks p 0) refl
    where
      go : (m : ℕ) → get_or marks p 0 ≡ m → is_level number marks p i m ≡ true
      go zero e = refl
      go (suc h) e =
          let L = f (λ z. omega arith) in
          let d : get_or marks p 0 - 1 ≡ h = omega arith in
          let x : pops i ≤ h = rw d at L.enough in
          let y : height_after i h ≤ number = rw d at L.most in
          rw (le-leb (pops i) h x, le-leb (height_after i h) number y)
          (next-tells (flow i.op) i p (suc (height_after i h)) marks (λ k q z. L.next k q z ∙ ap (λ (g : ℕ). suc (height_after i g)) d))

  are-told : (p : ℕ) (is : List Instr) → are_level number marks p is ≡ true → (j : ℕ) → j < length is → (get_or marks (p + j) 0 ≡ 0 → ⊥) → Level number marks (p + j) (get_or is j Return)
  unfolding are_level
  are-told p [] e j g n = absurd (omega arith)
  are-told p (i ∷ is) e zero g n =
      let z : p + 0 ≡ p = omega arith in
      rw z (level-told p i (left (is_level number marks p i (get_or marks p 0)) (are_level number marks (suc p) is) e) (rw z at n))
  are-told p (i ∷ is) e (suc j) g n =
      let z : p + suc j ≡ suc p + j = omega arith in
      rw z (are-told (suc p) is (right (is_level number marks p i (get_or marks p 0)) (are_level number marks (suc p) is) e) j (omega arith) (rw z at n))

  are-tells : (p : ℕ) (is : List Instr) → ((j : ℕ) → j < length is → (get_or marks (p + j) 0 ≡ 0 → ⊥) → Level number marks (p + j) (get_or is j Return)) → are_level number marks p is ≡ true
  unfolding are_level
  are-tells p [] h = refl
  are-tells p (i ∷ is) h =
      let z : p + 0 ≡ p = omega arith in
      rw (level-tells p i (rw z at (h 0 (omega arith))))
      (are-tells (suc p) is (λ j g. let y : p + suc j ≡ suc p + j = omega arith in rw y at (h (suc j) (omega arith))))

-- ---- a search that is done decides

marked-inside : (marks : List ℕ) (p : ℕ) → (get_or marks p 0 ≡ 0 → ⊥) → p < length marks
marked-inside [] p n = absurd (n refl)
marked-inside (m ∷ marks) zero n = omega arith
marked-inside (m ∷ marks) (suc p) n = let z = marked-inside marks p n in omega arith

module _ (number : ℕ) (code : List Instr) (marks : List ℕ) (S : Swept (by_height code) code marks) where
  -- a place, and the height that its mark tells
  abbrev Told : ℕ → ℕ → Type 0
  Told p h = get_or marks p 0 ≡ suc h

  module _ (e : are_level number marks 0 code ≡ true) where
    levels : (p h : ℕ) → Told p h → Level number marks p (get_or code p Return)
    levels p h t =
        let z : 0 + p ≡ p = omega arith in
        let n : get_or marks p 0 ≡ 0 → ⊥ = λ y. omega arith in
        let g : p < length code = subst (λ (k : ℕ). p < k) S.long (marked-inside marks p n) in
        rw z at (are-told number marks 0 code e p g) n

    told-holds : HeightsHold number code
    told-holds = settles-hold {R = Told} (record {
      start = S.root;
      closed = λ p h k q t x. let d : get_or marks p 0 - 1 ≡ h = omega arith in rw d at ((levels p h t).next k q x);
      single = λ p h k t u. omega arith;
      within = λ p h t.
          let d : get_or marks p 0 - 1 ≡ h = omega arith in
          record { enough = rw d at (levels p h t).enough; most = rw d at (levels p h t).most };
    })

  -- the way that the marks show, with its heights
  trail : {q n : ℕ} {ys : List ℕ} → Chain (by_height code) code marks q ys n → Trail code 0 0 q (get_or marks q 0 - 1)
  unfolding mark_after
  trail (begins e) = let z : 0 ≡ get_or marks 0 0 - 1 = omega arith in subst (λ (h : ℕ). Trail code 0 0 0 h) z here
  trail (goes {p} {q} x e c) =
      let z : height_after (get_or code p Return) (get_or marks p 0 - 1) ≡ get_or marks q 0 - 1 = omega arith in
      subst (λ (h : ℕ). Trail code 0 0 q h) z (trail-on (trail c) x)

  trail-to : (q : ℕ) → (get_or marks q 0 ≡ 0 → ⊥) → Trail code 0 0 q (get_or marks q 0 - 1)
  trail-to q n = trail (S.ways q n).chain

  holds-level : HeightsHold number code → (p : ℕ) → (get_or marks p 0 ≡ 0 → ⊥) → Level number marks p (get_or code p Return)
  holds-level H p n =
      let h = get_or marks p 0 - 1 in
      let W = H.within p h (trail-met (trail-to p n)) in
      record {
        enough = W.enough;
        most = W.most;
        next = λ k q x.
            let m = S.closed p k q n x in
            let z = H.single q (get_or marks q 0 - 1) (height_after (get_or code p Return) h) (trail-met (trail-to q m)) (trail-met (trail-on (trail-to p n) x)) in
            omega arith;
      }

  pub level-decides : (are_level number marks 0 code ≡ true → HeightsHold number code) × (HeightsHold number code → are_level number marks 0 code ≡ true)
  level-decides = (told-holds, λ H. are-tells number marks 0 code (λ j g n. let z : 0 + j ≡ j = omega arith in rw z (holds-level H j (rw z at n))))

-- ---- the search ends

given_by : (code : List Instr) (m p : ℕ) (f : Flow) (a k q : ℕ) → Next f p a k q → mark_of (marks_after code m p) k ≡ mark_after code m p
unfolding mark_of
given_by code m p straight a k q straight_on = refl
given_by code m p jump a k q jumps_to = refl
given_by code m p returns a k q x = elim x [ ]
given_by code m p (question b) a k q on_no = refl
given_by code m p (question b) a k q on_yes = refl

pub height-given : (code : List Instr) (m p : ℕ) → Given (by_height code) code (marks_after code m p) m p
height-given code m p = record { links = λ k q x. given_by code m p (flow (get_or code p Return).op) (get_or code p Return).a k q x }

climb-swept : (code : List Instr) → Lands code → (n head : ℕ) (s : Table) → Sweeping (by_height code) code head s → length code ≤ n + head → Swept (by_height code) code (climb n code head s).marks
unfolding climb
climb-swept code L zero head s W l = swept (by_height code) code head s W (let w = W.searching.within in omega arith)
climb-swept code L (suc n) head s W l = go (ltb head s.tail) refl (λ h. climb-swept code L n (head + 1) on (sweep-on (by_height code) code L head s W h (marks_after code m p) (height-given code m p)) (omega arith))
  where
    p : ℕ
    p = get_or s.queue head 0

    m : ℕ
    m = get_or s.marks p 0

    on : Table
    on = expand code (marks_after code m p) p s

    go : (b : Bool) → ltb head s.tail ≡ b → (head < s.tail → Swept (by_height code) code (climb n code (head + 1) on).marks)
        → Swept (by_height code) code (elim b as (λ z. Table) [ false ↦ s | true ↦ climb n code (head + 1) on ]).marks
    go false e f = swept (by_height code) code head s W (ltb-false head s.tail e)
    go true e f = f (ltb-true head s.tail e)

pub heights-swept : (g : Function) → code_stands g ≡ true → Swept (by_height g.code) g.code (height_marks g.code)
unfolding height_marks
heights-swept g e =
    let n = length g.code in
    let z = replicate {A = ℕ} n 0 in
    climb-swept g.code (function-lands g e) n 0 _
    (sweep-start (by_height g.code) g.code z z (length-replicate n 0) (length-replicate n 0) (ends_some g.code (function-ends g e)) (zeros-at n)) (omega arith)

pub heights_decided : HeightsDecided
unfolding heights_hold
heights_decided number f e = level-decides number f.code (height_marks f.code) (heights-swept f e)
