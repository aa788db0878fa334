use Prim.Native.Nat.{◌+◌}
use native.Mathlib.Omega.{arith}
use mathlib.Core.Path.{refl, ◌∙◌}
use Rattle.names.proofs.Spelling.{text-past, text-here, points-start}
use Rattle.names.proofs.spell.text_part.Goals as goal

pub returns-then-bytes-at : goal.returns-then-bytes-at
returns-then-bytes-at c = let a = c.args in record { result_value = text-past _ _ c.if-bytes-at.true; begins = points-start _ a.bytes.ref_ptr a.bytes.now (a.at + 2) refl (omega arith) (omega arith) }

pub returns : goal.returns
returns c = let a = c.args in record { result_value = c.part.ensures.result_value ∙ text-here a.at _ a.bytes.now c.count_at-n.ensures.0; begins = c.part.ensures.begins }
