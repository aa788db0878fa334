-- below the jumps, a jump, and above them
use native.Mathlib.Omega.{arith}
use mathlib.Core.Path.{sym, ◌∙◌}
use Rattle.module.proofs.Encoding.{first-low, first-high, first-jump}
use Rattle.module.proofs.words.first_operand.Goals as goal
use Rattle.module.proofs.words.first_operand.Goals.{in_default-via-then-w-lt28, in_default-via-else-w-lt28+else-this-lt31}

pub returns-in-28-to-30 : goal.returns-in-28-to-30
returns-in-28-to-30 c = λ t. c.widened.ensures ∙ sym (first-jump t _ (omega arith) (omega arith))

pub returns-in_default : goal.returns-in_default
returns-in_default c t = elim c.in_default.branch [ in_default-via-then-w-lt28 w ↦ sym (first-low t _ c.requires (omega arith)) | in_default-via-else-w-lt28+else-this-lt31 w ↦ sym (first-high t _ (omega arith)) ]
