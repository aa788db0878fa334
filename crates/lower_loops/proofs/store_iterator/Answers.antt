use native.Mathlib.Omega.{arith}
use Rattle.lower_names.proofs.Naming.{plain_op}
use Rattle.lower_loops.proofs.Storing.{slot-stored, global-kept}
use Rattle.lower_loops.proofs.store_iterator.Goals as goal

pub store_kept-requires : goal.store_kept-requires
store_kept-requires c = let h = c.if-slot-lt-IN_GLOBALS.true in (plain_op 10 _ (omega arith) (omega arith) (omega arith), plain_op 9 _ (omega arith) (omega arith) (omega arith))

pub returns-then-slot-lt-IN_GLOBALS : goal.returns-then-slot-lt-IN_GLOBALS
returns-then-slot-lt-IN_GLOBALS c = slot-stored _ c.requires c.if-slot-lt-IN_GLOBALS.true c.store_kept.ensures

pub returns : goal.returns
returns c = global-kept c.if-slot-lt-IN_GLOBALS.false c.store_global.ensures
