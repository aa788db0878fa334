use native.Mathlib.Omega.{arith}
use mathlib.Core.Path.{refl}
use Rattle.names.proofs.Spelling.{past_end, cut-end, whole_part, points-start, points-part}
use Rattle.names.proofs.spell.part.Goals as goal

pub returns-then-bytes-from : goal.returns-then-bytes-from
returns-then-bytes-from c = let a = c.args in record { result_value = past_end a.n a.from a.bytes.now (omega arith); begins = points-start _ a.bytes.ref_ptr a.bytes.now a.from refl (omega arith) c.if-bytes-from.true }

pub returns-then-bytes-from-2 : goal.returns-then-bytes-from-2
returns-then-bytes-from-2 c = let a = c.args in record { result_value = cut-end a.n a.from a.bytes.now c.if-bytes-from-2.true; begins = points-part _ a.bytes.ref_ptr a.bytes.now a.from refl (omega arith) (omega arith) }

pub returns : goal.returns
returns c = let a = c.args in record { result_value = whole_part a.n a.from a.bytes.now; begins = points-part _ a.bytes.ref_ptr a.bytes.now a.from refl (omega arith) (omega arith) }
