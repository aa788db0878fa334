-- the head and the sections
use native.Mathlib.Omega.{arith}
use mathlib.Core.Path.{ap₂, ◌∙◌}
use Prim.Native.Nat.{ℕ, ◌+◌}
use Rattle.module.proofs.Whole.{length-module}
use Rattle.module.proofs.sections.Lowered.size.Goals as goal

pub returns : goal.returns
returns c =
    let a = c.args.self.now in (
      ap₂ (λ (x y : ℕ). 5 + x + y) c.texts_size.ensures.0 c.bodies_size.ensures.0 ∙ length-module a.tree.now a.made.now a.code.now a.tables.now a.counts,
      omega (arith, c.texts_size.ensures.1, c.bodies_size.ensures.1),
    )
