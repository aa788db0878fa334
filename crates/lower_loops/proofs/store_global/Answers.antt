use native.Mathlib.Omega.{arith}
use Rattle.lower_names.proofs.Naming.{plain_op}
use Rattle.lower_names.proofs.Symbols.{naming-sound}
use Rattle.lower_loops.proofs.Calling.{short-iterator}
use Rattle.lower_loops.proofs.Storing.{global-over, global-stored}
use Rattle.lower_loops.proofs.store_global.Goals as goal

pub intern_made-requires : goal.intern_made-requires
intern_made-requires c = (naming-sound c.requires, short-iterator _ (let k = c.args.e.now.code in omega (arith, k.code_size, k.code_limit)))

pub returns-in_err-global : goal.returns-in_err-global
returns-in_err-global c = global-over c.requires c.intern_made.ensures c.in_err-global.was c.from_residual.ensures

pub store_kept-requires : goal.store_kept-requires
store_kept-requires c =
    let h = c.intern_made.ensures.below _ c.in_ok-global.was in
    (plain_op 12 _ (omega arith) (omega arith) (omega arith), plain_op 11 _ (omega arith) (omega arith) (omega arith))

pub returns : goal.returns
returns c = global-stored c.requires c.intern_made.ensures c.in_ok-global.was c.store_kept.ensures
