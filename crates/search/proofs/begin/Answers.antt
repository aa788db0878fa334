use Prim.Native.Nat.{◌+◌, ◌-◌}
use native.Mathlib.Omega.{arith}
use lib.ListN.{length-set}
use Rattle.search.proofs.Viewing.{begins}
use Rattle.search.proofs.begin.Goals as goal

pub bounds-area-65536 : goal.bounds-area-65536
bounds-area-65536 c = simp length-set (let l = c.requires.long in let e = c.area-1.given.1 in omega arith)

pub returns : goal.returns
returns c = begins _ _ _ (65536 + c.args.n - 65536) _ c.requires (omega arith) c.clear.ensures
