use native.Mathlib.Omega.{arith}
use Rattle.names.proofs.Spelling.{count-is}
use Rattle.names.proofs.spell.count_at.Goals as goal

pub returns : goal.returns
returns c = let a = c.args in (count-is a.bytes.now a.at _ _ c.byte-high.ensures c.byte-low.ensures, omega arith)
