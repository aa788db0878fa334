use native.Mathlib.Omega.{arith}
use Rattle.names.specs.Made.{made_name}
use Rattle.names.proofs.Pasting.{stands_set}
use Rattle.names.proofs.making.write_made.Goals as goal

pub returns : goal.returns
returns c = let a = c.args in let e = c.paste_name-end.ensures.0 in (omega arith, stands_set (made_name a.m) a.at _ a.bytes.now _ c.requires.0 c.paste_name-end.ensures.1 (omega arith))
