-- Question 21 keeps a run in the code.
use Prim.Native.Nat.{ℕ, zero, suc, ◌+◌, ◌<◌}
use mathlib.Core.Path.{◌≡◌, refl, sym, ◌∙◌, subst}
use mathlib.Core.Bool.{Bool, true, false, ◌||◌, not}
use mathlib.Core.List.{List, [], ◌∷◌}
use native.Mathlib.Omega.{arith}
use lib.Dec.{ltb}
use lib.ListN.{length, get_or}
use borrow.Author.Tests.{ltb-true, eqb-true}
use Rattle.definitions.specs.Instruction.{Instr, Return, Flow, straight, jump, returns, question, flow}
use Rattle.definitions.specs.Tables.{Function}
use Rattle.definitions.specs.Reader.{ends_in_return, jumps_land, is_jump, landing, code_stands}
use Rattle.definitions.specs.Run.{way}
use Rattle.definitions.specs.Search.{Next, straight_on, jumps_to, on_no, on_yes, Step}
use Rattle.definitions.proofs.Truth.{left, right}
use Rattle.definitions.proofs.Flows.{stop-jumps, is-jump, flow-returns, way-below}
use Rattle.std.proofs.Math.Arith.{lt_of_le-ne}

last-return : (is : List Instr) (k : ℕ) → ends_in_return is ≡ true → k + 1 ≡ length is → (get_or is k Return).op ≡ 33
unfolding ends_in_return
last-return [] k e l = absurd (omega arith)
last-return (i ∷ []) zero e l = eqb-true i.op 33 e
last-return (i ∷ []) (suc k) e l = absurd (omega arith)
last-return (i ∷ j ∷ is) zero e l = absurd (omega arith)
last-return (i ∷ j ∷ is) (suc k) e l = last-return (j ∷ is) k e (omega arith)

one : (x y : Bool) → (not x || y) ≡ true → x ≡ true → y ≡ true
one true true e f = refl
one true false e f = e
one false y e f = let z : ◌≡◌ {A = ℕ} 0 1 = cc in absurd (omega arith)

lands-at : (n : ℕ) (is : List Instr) (p k : ℕ) → jumps_land n p is ≡ true → k < length is → is_jump (get_or is k Return).op ≡ true → landing (p + k) (get_or is k Return).a < n
unfolding jumps_land
lands-at n [] p k e l j = absurd (omega arith)
lands-at n (i ∷ is) p zero e l j =
    let z = one (is_jump i.op) (ltb (landing p i.a) n) (left (not (is_jump i.op) || ltb (landing p i.a) n) (jumps_land n (suc p) is) e) j in
    subst (λ (x : ℕ). landing x i.a < n) (let y : p ≡ p + 0 = omega arith in y) (ltb-true (landing p i.a) n z)
lands-at n (i ∷ is) p (suc k) e l j =
    subst (λ (x : ℕ). landing x (get_or is k Return).a < n) (let y : suc p + k ≡ p + suc k = omega arith in y)
    (lands-at n is (suc p) k (right (not (is_jump i.op) || ltb (landing p i.a) n) (jumps_land n (suc p) is) e) (omega arith) j)

-- there is an instruction
pub ends_some : (is : List Instr) → ends_in_return is ≡ true → 0 < length is
unfolding ends_in_return
ends_some [] e = let z : ◌≡◌ {A = ℕ} 0 1 = cc in absurd (omega arith)
ends_some (i ∷ is) e = omega arith

-- what is no Return is not the last instruction
pub not_last : (is : List Instr) → ends_in_return is ≡ true → (k : ℕ) → k < length is → ((get_or is k Return).op ≡ 33 → ⊥) → k + 1 < length is
not_last is e k l f = lt_of_le-ne {i = k + 1} {k = length is} (omega arith) (λ z. f (last-return is k e z))

-- a jump lands in the code
pub jump-inside : (is : List Instr) → jumps_land (length is) 0 is ≡ true → (k : ℕ) → k < length is → is_jump (get_or is k Return).op ≡ true → landing k (get_or is k Return).a < length is
jump-inside is e k l j =
    subst (λ (x : ℕ). landing x (get_or is k Return).a < length is) (let y : 0 + k ≡ k = omega arith in y) (lands-at (length is) is 0 k e l j)

-- ---- from a place of the code a run goes to a place of the code

pub record Lands (code : List Instr) : Type 0 where
  pub at : (p : ℕ) → p < length code → (k q : ℕ) → Step code p k q → q < length code

module _ (is : List Instr) (ends : ends_in_return is ≡ true) (land : jumps_land (length is) 0 is ≡ true) (p : ℕ) (l : p < length is) where
  module _ (f : Flow) (e : flow (get_or is p Return).op ≡ f) (n : f ≡ returns → ⊥) where
    no_return : (get_or is p Return).op ≡ 33 → ⊥
    no_return z = n (sym e ∙ flow-returns (get_or is p Return).op z)

    on : p + 1 < length is
    on = not_last is ends p l no_return

    over : (f ≡ straight → ⊥) → landing p (get_or is p Return).a < length is
    over s =
        let r = stop-jumps (get_or is p Return).op (λ z. s (sym e ∙ z)) no_return in
        jump-inside is land p l (is-jump (get_or is p Return).op r.0 r.1)

    asked : (f ≡ straight → ⊥) → (b x : Bool) → way b x p (get_or is p Return).a < length is
    asked s b x = way-below (length is) p (get_or is p Return).a b x (over s) on

  lands-by : (f : Flow) → flow (get_or is p Return).op ≡ f → (k q : ℕ) → Next f p (get_or is p Return).a k q → q < length is
  lands-by straight e k q straight_on = let z = on straight e (λ y. let x : ◌≡◌ {A = ℕ} 0 1 = cc in omega arith) in omega arith
  lands-by jump e k q jumps_to = over jump e (λ y. let x : ◌≡◌ {A = ℕ} 0 1 = cc in omega arith) (λ y. let x : ◌≡◌ {A = ℕ} 0 1 = cc in omega arith)
  lands-by (question b) e k q on_no =
      asked (question b) e (λ y. let x : ◌≡◌ {A = ℕ} 0 1 = cc in omega arith) (λ y. let x : ◌≡◌ {A = ℕ} 0 1 = cc in omega arith) b false
  lands-by (question b) e k q on_yes =
      asked (question b) e (λ y. let x : ◌≡◌ {A = ℕ} 0 1 = cc in omega arith) (λ y. let x : ◌≡◌ {A = ℕ} 0 1 = cc in omega arith) b true
  lands-by returns e k q x'' = elim x'' [ ]

pub code-lands : (is : List Instr) → ends_in_return is ≡ true → jumps_land (length is) 0 is ≡ true → Lands is
code-lands is ends land = record { at = λ p l k q x. lands-by is ends land p l (flow (get_or is p Return).op) refl k q x }

-- of a function that stands
pub function-ends : (g : Function) → code_stands g ≡ true → ends_in_return g.code ≡ true
unfolding code_stands
function-ends g e = left (ends_in_return g.code) (jumps_land (length g.code) 0 g.code) e

pub function-lands : (g : Function) → code_stands g ≡ true → Lands g.code
unfolding code_stands
function-lands g e = code-lands g.code (function-ends g e) (right (ends_in_return g.code) (jumps_land (length g.code) 0 g.code) e)
