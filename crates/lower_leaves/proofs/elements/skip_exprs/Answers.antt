use Prim.Native.Nat.{ℕ, ◌-◌, ◌+◌}
use mathlib.Core.Path.{◌≡◌, refl, subst, ◌∙◌}
use native.Mathlib.Omega.{arith}
use Rattle.lower_forms.specs.Elements.{ElementsRead, elements_end}
use Rattle.lower_forms.proofs.Unpacking.{elements-more, end_none, step-again}
use Rattle.lower_leaves.proofs.elements.skip_exprs.Goals as goal

pub loop-init : goal.loop-init
loop-init c =
    let a = c.args in
    let e : a.n ≡ a.n - 0 = omega arith in
    subst (λ (k : ℕ). ElementsRead a.depth a.tree.now k a.at × (elements_end a.depth a.tree.now k a.at ≡ elements_end a.depth a.tree.now a.n a.at)) e (c.requires, refl)

pub skip_expr-p-requires : goal.skip_expr-p-requires
skip_expr-p-requires c = (elements-more _ _ _ _ (omega (arith, c.loop-test.true)) c.loop.invariant.0).0

pub loop-preserved : goal.loop-preserved
loop-preserved c =
    let a = c.args in
    let e : a.n - c.loop.counter - 1 ≡ a.n - (c.loop.counter + 1) = omega arith in
    subst (λ (k : ℕ). ElementsRead a.depth a.tree.now k c.skip_expr-p.result × (elements_end a.depth a.tree.now k c.skip_expr-p.result ≡ elements_end a.depth a.tree.now a.n a.at)) e
    (step-again _ _ _ _ _ _ (omega (arith, c.loop-test.true)) c.skip_expr-p.ensures c.loop.invariant.0 c.loop.invariant.1)

pub returns : goal.returns
returns c = end_none _ _ _ _ (omega (arith, c.loop-test.false)) ∙ c.loop.invariant.1
