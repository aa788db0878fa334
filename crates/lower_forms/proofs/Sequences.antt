-- The laws of answers that statements need beside those of the state.
use Prim.Native.Nat.{ℕ}
use mathlib.Core.Path.{◌≡◌, refl, sym, ap, ◌∙◌, subst}
use mathlib.Core.Bool.{Bool, true, false}
use mathlib.Core.List.{List, [], ◌∷◌}
use native.Mathlib.Omega.{arith}
use Rattle.definitions.specs.Bytes.{Name, same}
use Rattle.definitions.specs.Instruction.{Instr, instr}
use Rattle.definitions.specs.Tables.{emits, one}
use Rattle.definitions.specs.Wellformed.{init}
use Rattle.definitions.specs.Lower.{method_end}
use Rattle.definitions.specs.Reader.{jumps, is_jump}
use Rattle.definitions.specs.Open.{flows}
use Rattle.tree_view.specs.Places.{Node}
use Rattle.definitions.specs.Tree.{Branches, else}
use Rattle.tree_view.specs.StmtAt.{block_at, branches_at, else_at}
use Rattle.state.specs.State.{State, emit_at}
use Rattle.state.proofs.Emission.{at_more}
use Rattle.lower_emit.specs.Ops.{special, Plain}
use Rattle.lower_forms.proofs.Unpacking.{plain_of}
use Rattle.lower_forms.specs.Lowering.{end_of, BlockLowerable, BranchesLowerable}

pub plain-break : Plain 46 0 0
unfolding special is_jump jumps flows
plain-break = plain_of 46 (omega arith) refl

pub plain-continue : Plain 47 0 0
unfolding special is_jump jumps flows
plain-continue = plain_of 47 (omega arith) refl

pub plain-pop : Plain 7 0 0
unfolding special is_jump jumps flows
plain-pop = plain_of 7 (omega arith) refl

pub plain-return : Plain 33 0 0
unfolding special is_jump jumps flows
plain-return = plain_of 33 (omega arith) refl

pub plain-object : Plain 9 0 0
unfolding special is_jump jumps flows
plain-object = plain_of 9 (omega arith) refl

-- ---- a function's end

pub end-plain : (b : Bool) → b ≡ false → one (instr 33 0 0) ≡ emits (end_of b)
unfolding end_of
end-plain b e = ap (λ (x : Bool). emits (end_of x)) (sym e)

-- the object is loaded, and then returned
pub end-init : (b : Bool) (base : ℕ) (s : State) → b ≡ true → emit_at base (one (instr 33 0 0)) (emit_at base (one (instr 9 0 0)) s) ≡ emit_at base (emits (end_of b)) s
unfolding end_of
end-init b base s e = sym (at_more base (instr 9 0 0) (instr 33 0 0 ∷ []) s) ∙ ap (λ (x : Bool). emit_at base (emits (end_of x)) s) (sym e)

pub method-end : (x : Name) → end_of (same x init) ≡ method_end x
unfolding method_end end_of
method-end x = go (same x init)
  where
    go : (b : Bool) → end_of b ≡ (elim b as (λ z. List Instr) [ true ↦ instr 9 0 0 ∷ instr 33 0 0 ∷ [] | false ↦ instr 33 0 0 ∷ [] ])
    go true = refl
    go false = refl

-- ---- by another word for the position

pub block-at : (d : ℕ) (t : List ℕ) (p q : ℕ) → q ≡ p → BlockLowerable d t p → BlockLowerable d t q
block-at d t p q e r = subst (BlockLowerable d t) (sym e) r

pub elifs-at : (d n m : ℕ) (t : List ℕ) (p q : ℕ) → m ≡ n → q ≡ p → BranchesLowerable d n t p → BranchesLowerable d m t q
elifs-at d n m t p q e f r = subst (λ (x : ℕ). BranchesLowerable d x t q) (sym e) (subst (BranchesLowerable d n t) (sym f) r)

pub elifs-end : (d n : ℕ) (t : List ℕ) (p q : ℕ) → q ≡ p → (branches_at d n t q).end ≡ (branches_at d n t p).end
elifs-end d n t p q e = ap (λ (x : ℕ). (branches_at d n t x).end) e

pub else-value : (d : ℕ) (t : List ℕ) (x : Node Branches) (p : ℕ) → x ≡ else_at d t p → x.value ≡ else (block_at d t p).value
unfolding else_at
else-value d t x p e = ap (λ (n : Node Branches). n.value) e

pub else-ends : (d : ℕ) (t : List ℕ) (x : Node Branches) (p : ℕ) → x ≡ else_at d t p → x.end ≡ (block_at d t p).end
unfolding else_at
else-ends d t x p e = ap (λ (n : Node Branches). n.end) e
