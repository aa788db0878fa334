use native.Mathlib.Omega.{arith}
use Rattle.slots.proofs.Skipping.{text-done}
use Rattle.slots.proofs.skip.text_end.Goals as goal

pub overflow_add-result : goal.overflow_add-result
overflow_add-result c = let h = c.requires.count.bytes in omega arith

pub u16_at-requires : goal.u16_at-requires
u16_at-requires c = c.requires.count

pub overflow_add-result-2 : goal.overflow_add-result-2
overflow_add-result-2 c = let h = c.requires.bytes in let e = c.u16_at.ensures.0 in omega arith

pub returns : goal.returns
returns c = text-done _ _ _ c.u16_at.ensures.0
