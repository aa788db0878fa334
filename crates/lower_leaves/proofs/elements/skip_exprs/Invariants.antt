use Prim.Native.Nat.{◌-◌}
use mathlib.Core.Path.{◌≡◌}
use Rattle.lower_forms.specs.Elements.{ElementsRead, elements_end}
use Rattle.lower_leaves.proofs.elements.skip_exprs.Given as goal

abbrev pub invariant-loop : goal.invariant-loop
invariant-loop l = ElementsRead l.depth l.tree (l.n - l.counter) l.p × (elements_end l.depth l.tree (l.n - l.counter) l.p ≡ elements_end l.depth l.tree l.n l.at)
