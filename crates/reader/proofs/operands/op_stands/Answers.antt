use mathlib.Core.Path.{sym, ap, ◌∙◌}
use native.Mathlib.Omega.{arith}
use lib.Dec.{ltb}
use Prim.Native.Nat.{ℕ}
use Rattle.reader.proofs.Tested.{last-says, jump-lands, no-jump-below, no-jump-above}
use Rattle.reader.proofs.operands.op_stands.Goals as goal

pub returns-then-place-n : goal.returns-then-place-n
returns-then-place-n c = sym (last-says _ _ _ _ c.if-place-n.true)

pub returns-in-28-to-30 : goal.returns-in-28-to-30
returns-in-28-to-30 c = ap (λ (k : ℕ). ltb k c.args.n) c.jump_target.ensures ∙ sym (jump-lands _ _ _ _ c.if-place-n.false (omega arith) (omega arith))

pub returns-in_default : goal.returns-in_default
returns-in_default c = sym (no-jump-below _ _ _ _ c.if-place-n.false (omega arith))

pub returns-in_default-2 : goal.returns-in_default-2
returns-in_default-2 c = sym (no-jump-above _ _ _ _ c.if-place-n.false (omega arith))
