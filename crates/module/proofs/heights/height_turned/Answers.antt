use native.Mathlib.Omega.{arith}
use mathlib.Core.Path.{◌∙◌}
use Rattle.module.proofs.Rising.{next-jump, next-return}
use Rattle.module.proofs.heights.height_turned.Goals as goal

pub returns-in-28 : goal.returns-in-28
returns-in-28 c =
    let s = c.saturating_sub.ensures in
    (λ t. s ∙ next-jump _ _ (c.opcode.ensures.0 t) c.in-28.is, omega arith)

pub returns-in_default : goal.returns-in_default
returns-in_default c = (λ t. next-return _ _ (c.opcode.ensures.0 t) (c.requires t) (λ e. omega arith), omega arith)
