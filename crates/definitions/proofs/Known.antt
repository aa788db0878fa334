-- What is known of the tables of a block that is accepted.
use mathlib.Core.Path.{◌≡◌, sym, ◌∙◌, subst}
use mathlib.Core.Bool.{Bool, true, false}
use mathlib.Core.List.{List, ◌∷◌, []}
use Prim.Native.Nat.{ℕ, ◌≤◌}
use native.Mathlib.Omega.{arith}
use lib.Dec.{leb}
use Rattle.definitions.specs.Bytes.{all}
use Rattle.definitions.specs.Tree.{Block}
use Rattle.definitions.specs.Tables.{Function, Tables, Source}
use Rattle.definitions.specs.Module.{office, instructions, slots_fit}
use Rattle.definitions.proofs.Truth.{left, right, at_most}
use Rattle.definitions.proofs.Asked.{ok-B}
use Rattle.definitions.proofs.Shape.{Settled, settled-flat, pend-flat}
use Rattle.definitions.proofs.Grows.{Pairs, no_pairs, pair}
use Rattle.definitions.proofs.PartStmt.{all-good}
use Rattle.definitions.proofs.Every.{Every, no_every, every}
use Rattle.definitions.proofs.Accepted.{Within, Accepted}
use Rattle.definitions.proofs.Fit.{FitB}
use Rattle.definitions.proofs.Bounds.{Lean, Small}
use Rattle.definitions.proofs.BoundedTree.{Bounded, tree-bounded}

-- no break or continue is pending in a function's code
pub record Settles (f : Function) : Type 0 where
  pub settles : Settled f.code

settle-functions : {fs : List Function} {gs : List Source} → Pairs fs gs → Every Settles fs
settle-functions no_pairs = no_every
settle-functions (pair g ps) =
    let M = g.meaning in
    every (record { settles = subst Settled (sym (M.emitted ∙ pend-flat M.code M.ok 0 0 0)) (settled-flat M.code false M.ok 0 0 0) }) (settle-functions ps)

lean-functions : (fs : List Function) → all (λ (f : Function). leb f.locals 255) fs ≡ true → instructions fs ≤ 8192 → Every Lean fs
unfolding all instructions
lean-functions [] e h = no_every
lean-functions (f ∷ fs) e h =
    let test : Function → Bool = λ f. leb f.locals 255 in
    every {a = f} (record { slots = at_most f.locals 255 (left (leb f.locals 255) (all test fs) e); code = omega arith }) (lean-functions fs (right (leb f.locals 255) (all test fs) e) (omega arith))

-- its tree has the measure n
pub record Known (n : ℕ) (t : Tables) : Type 0 where
  pub limits : Within office t
  pub lean : Every Lean t.functions
  pub settled : Every Settles t.functions
  pub bounded : Bounded n t

pub known : {n : ℕ} (b : Block) (t : Tables) → Accepted b t → FitB b n → Known n t
unfolding slots_fit office
known {n} b t A F =
    let lean = lean-functions t.functions A.slots A.limits.instructions in
    record {
      limits = A.limits;
      lean = lean;
      settled = rw A.tables (settle-functions (all-good b (ok-B false b A.loops)));
      bounded = subst (λ (u : Tables). Bounded n u) (sym A.tables) (tree-bounded b F (subst (λ (u : Tables). Small u 0) A.tables (record { place = omega arith; count = A.limits.functions; lean = lean })));
    }
