-- The search whose marks are one more than heights: a mark is small. Assumes nothing.
use Prim.Native.Nat.{ℕ, ◌+◌, ◌-◌, ◌*◌, ◌<◌, ◌≤◌}
use mathlib.Core.Path.{◌≡◌, sym, ap, ◌∙◌, subst}
use mathlib.Core.List.{List}
use native.Mathlib.Omega.{arith}
use lib.ListN.{length, get_or}
use lib.Seq.{get_or-take}
use Rattle.definitions.specs.Instruction.{Instr, Return}
use Rattle.definitions.specs.Stack.{pushes, height_after}
use Rattle.definitions.specs.Search.{Chain, begins, goes}
use Rattle.definitions.specs.Heights.{mark_after, by_height}
use Rattle.definitions.proofs.Sweeping.{Given}
use Rattle.definitions.proofs.HeightsDecided.{height-given}
use Rattle.reader.specs.View.{instructions_of}
use Rattle.search.specs.View.{marks_of, table_in, Searchable}
use Rattle.search.proofs.Looping.{Going, head_few, place-few}
use Rattle.search.proofs.Viewing.{mark-at}
use Rattle.heights.specs.Holding.{Standing}
use Rattle.definitions.proofs.NumberFew.{pushes-two}

-- an instruction leaves at most two values more than it met
after-most : (i : Instr) (h : ℕ) → height_after i h ≤ h + 2
unfolding height_after pushes
after-most i h = omega (arith, pushes-two i.op)

-- a mark tells of at most two values a step
chain-low : (code : List Instr) (marks : List ℕ) {q n : ℕ} {ys : List ℕ} → Chain (by_height code) code marks q ys n → get_or marks q 0 ≤ 1 + 2 * n
unfolding mark_after
chain-low code marks (begins e) = omega arith
chain-low code marks (goes {p} {q} x e c) = let i = chain-low code marks c in let a = after-most (get_or code p Return) (get_or marks p 0 - 1) in omega arith

module _ {c table start : List ℕ} {n : ℕ} (S : Searchable c table start n) {area₀ area : List ℕ} {head tail : ℕ} (G : Going (by_height (instructions_of c)) c n area₀ area head tail)
    (l : head < tail) {p : ℕ} (e : p ≡ get_or area head 0) where
  inside : p < n
  inside = place-few S (by_height (instructions_of c)) G l p e

  pub place-stands : Standing c table p
  place-stands = record { coded = S.coded; starts = S.starts; inside = let a = inside in let b = S.count in omega arith }

  pub mark-place : 65536 + p < length area
  mark-place = let a = inside in let b = S.count in let f = S.coded.few in let w = G.wide in omega arith

  -- the mark of the next place of the queue
  pub mark-is : {m : ℕ} → m ≡ get_or area (65536 + p) 0 → m ≡ get_or (marks_of n area) p 0
  mark-is k = k ∙ sym (mark-at n area p inside)

  marked : get_or (marks_of n area) p 0 ≡ 0 → ⊥
  unfolding table_in
  marked =
      let W = G.sweeping.searching in
      let h = head_few S (by_height (instructions_of c)) G l in
      subst (λ (x : ℕ). get_or (marks_of n area) x 0 ≡ 0 → ⊥) (get_or-take n area head 0 h ∙ sym e) (W.listed head l)

  pub mark-small : {m : ℕ} → m ≡ get_or area (65536 + p) 0 → (0 < m) × (m < 1048576)
  unfolding table_in
  mark-small {m} k =
      let W = G.sweeping.searching in
      let T = W.routes p marked in
      let u = chain-low (instructions_of c) (marks_of n area) T.chain in
      let s = T.soon in let d = T.listed in let w = W.within in let f = S.coded.few in
      let x = mark-is k in let z = marked in
      (some m x z, omega arith)
    where
      some : (m : ℕ) → m ≡ get_or (marks_of n area) p 0 → (get_or (marks_of n area) p 0 ≡ 0 → ⊥) → 0 < m
      some m x f = omega arith

  -- the marks that the next place gives
  pub marks-given : {m r : ℕ} → m ≡ get_or area (65536 + p) 0 → r ≡ mark_after (instructions_of c) m p
      → Given (by_height (instructions_of c)) (instructions_of c) (record { on = r; no₀ = r; yes₁ = r }) (get_or (marks_of n area) p 0) p
  marks-given k e =
      subst (λ (x : ℕ). Given (by_height (instructions_of c)) (instructions_of c) (record { on = x; no₀ = x; yes₁ = x }) (get_or (marks_of n area) p 0) p)
      (sym (e ∙ ap (λ (x : ℕ). mark_after (instructions_of c) x p) (mark-is k))) (height-given (instructions_of c) (get_or (marks_of n area) p 0) p)
