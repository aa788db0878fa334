-- The heights in the order of the code; where structured code has a level, they are those that runs meet, and the number is not passed.
use mathlib.Core.Path.{◌≡◌, refl, sym, ap, ◌∙◌, subst}
use mathlib.Core.Bool.{true, false}
use mathlib.Core.List.{List, [], ◌∷◌}
use Prim.Native.Nat.{ℕ, zero, suc, ◌+◌, ◌≤◌, ◌<◌}
use native.Mathlib.Omega.{arith}
use lib.ListN.{length, get_or}
use Rattle.definitions.specs.Instruction.{Instr, Return, Flow, straight, jump, returns, question, flow}
use Rattle.definitions.specs.Reader.{ends_in_return, jumps_land}
use Rattle.definitions.specs.Run.{way}
use Rattle.definitions.specs.Search.{Next, straight_on, jumps_to, on_no, on_yes}
use Rattle.definitions.specs.Stack.{height_after, following, tallest, height_number, height_at}
use Rattle.definitions.proofs.Shape.{Code, pend, flat, Ok, length-pend, pend-flat}
use Rattle.definitions.proofs.Follow.{Has, has-whole}
use Rattle.definitions.proofs.Level.{Level, Onward, Keeps, Steady, no_steady, steady, steady-flat}
use Rattle.definitions.proofs.Stays.{code-lands}
use Rattle.definitions.proofs.Spots.{Settles}

pub height-next : (h : ℕ) (W : List Instr) (p : ℕ) → p < length W → height_at h W (suc p) ≡ following (flow (get_or W p Return).op) (get_or W p Return) (height_at h W p)
height-next h [] p g = absurd (omega arith)
height-next h (i ∷ is) zero g = refl
height-next h (i ∷ is) (suc p) g = height-next (following (flow i.op) i h) is p (omega arith)

pub height-most : (h : ℕ) (W : List Instr) (p : ℕ) → p < length W → height_after (get_or W p Return) (height_at h W p) ≤ tallest h W
unfolding tallest
height-most h [] p g = absurd (omega arith)
height-most h (i ∷ is) zero g = omega arith
height-most h (i ∷ is) (suc p) g = omega (arith, height-most (following (flow i.op) i h) is p (omega arith))

steady-at : {H : ℕ → ℕ} {is : List Instr} (p : ℕ) → Steady H p is → (j : ℕ) → j < length is → Keeps H (get_or is j Return) (p + j)
steady-at p no_steady j g = absurd (omega arith)
steady-at {H} p (steady {i} k a) zero g =
    let z : p + 0 ≡ p = omega arith in
    rw z k
steady-at {H} p (steady {is} k a) (suc j) g =
    let z : p + suc j ≡ suc p + j = omega arith in
    rw z (steady-at (suc p) a j (omega arith))

-- a place, and its height in the order of the code
abbrev pub Placed : List Instr → ℕ → ℕ → Type 0
Placed W p h = (p < length W) × (h ≡ height_at 0 W p)

onward-goes : (H : ℕ → ℕ) (f : Flow) (i : Instr) (p k q : ℕ) → Onward H f i p → Next f p i.a k q → H q ≡ height_after i (H p)
unfolding way
onward-goes H straight i p k q g straight_on = g
onward-goes H jump i p k q g jumps_to = g
onward-goes H returns i p k q g x = elim x [ ]
onward-goes H (question true) i p k q g on_no = g.0
onward-goes H (question false) i p k q g on_no = g.1
onward-goes H (question true) i p k q g on_yes = g.1
onward-goes H (question false) i p k q g on_yes = g.0

-- heights that every place keeps to are met
steady-settles : (W : List Instr) → ends_in_return W ≡ true → jumps_land (length W) 0 W ≡ true → 1 ≤ length W → Steady (height_at 0 W) 0 W → Settles (Placed W) (height_number W) W
unfolding height_number
steady-settles W ends lands some S = record {
  start = (some, refl);
  closed = λ p h k q r x. (
    (code-lands W ends lands).at p r.0 k q x,
    ap (height_after (get_or W p Return)) r.1 ∙ sym (onward-goes (height_at 0 W) (flow (get_or W p Return).op) (get_or W p Return) p k q (keeps p r.0).goes x),
  );
  single = λ p h k a b. a.1 ∙ sym b.1;
  within = λ p h r. rw r.1 (record { enough = (keeps p r.0).enough; most = height-most 0 W p r.0 });
}
  where
    keeps : (p : ℕ) → p < length W → Keeps (height_at 0 W) (get_or W p Return) p
    keeps p g =
        let z : 0 + p ≡ p = omega arith in
        rw z at (steady-at 0 S p g)

-- structured code that starts at 0 and has a level: runs meet its places at the heights in the order of the code
pub level-settles : (c : Code) → Ok false c → (k : ℕ) → Level c 0 k → ends_in_return (pend c) ≡ true → jumps_land (length (pend c)) 0 (pend c) ≡ true → 1 ≤ length (pend c) → length (pend c) < 4294967296
    → Settles (Placed (pend c)) (height_number (pend c)) (pend c)
level-settles c o k v ends lands some room = steady-settles W ends lands some (subst (λ (l : List Instr). Steady H 0 l) (sym (pend-flat c o 0 0 0)) all)
  where
    W : List Instr
    W = pend c

    H : ℕ → ℕ
    H = height_at 0 W

    all : Steady H 0 (flat c 0 0 0)
    all =
        steady-flat W H (height-next 0 W) room c false o k v 0 1 0 0 0 0 refl refl (λ t. absurd t) (omega (arith, length-pend c))
        (subst (λ (l : List Instr). Has W 0 l) (pend-flat c o 0 0 0) (has-whole W)) refl
