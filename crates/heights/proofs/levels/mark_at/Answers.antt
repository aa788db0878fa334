use native.Mathlib.Omega.{arith}
use Prim.Native.Nat.{◌+◌}
use Rattle.heights.proofs.Marked.{mark-past, mark-here}
use Rattle.heights.proofs.levels.mark_at.Goals as goal

pub returns-then-area-le-MARKS : goal.returns-then-area-le-MARKS
returns-then-area-le-MARKS c = let h = c.if-area-le-MARKS.true in (mark-past c.args.area.now c.args.q (omega arith), omega arith)

pub returns-then-area-q : goal.returns-then-area-q
returns-then-area-q c = let h = c.if-area-q.true in (mark-past c.args.area.now c.args.q (omega arith), omega arith)

pub returns : goal.returns
returns c = let f = (c.type_inv.area (65536 + c.args.q)).fits in (mark-here c.args.area.now c.args.q, omega arith)
