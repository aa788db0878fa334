use Prim.Native.Nat.{◌+◌}
use native.Mathlib.Omega.{arith}
use mathlib.Core.Path.{refl, ◌∙◌}
use Rattle.names.proofs.Spelling.{name-past, name-here, points-start}
use Rattle.names.proofs.spell.name_part.Goals as goal

pub returns-then-bytes-at : goal.returns-then-bytes-at
returns-then-bytes-at c = let a = c.args in record { result_value = name-past _ _ c.if-bytes-at.true; begins = points-start _ a.bytes.ref_ptr a.bytes.now (a.at + 1) refl (omega arith) (omega arith) }

pub overflow_cast-n : goal.overflow_cast-n
overflow_cast-n c = omega (arith, c.shared_slice_known-2-1.given c.args.at)

pub returns : goal.returns
returns c = let a = c.args in record { result_value = c.part.ensures.result_value ∙ name-here a.at a.bytes.now; begins = c.part.ensures.begins }
