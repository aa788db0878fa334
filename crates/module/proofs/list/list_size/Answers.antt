-- element by element
use native.Mathlib.Omega.{arith}
use Rattle.module.proofs.Pieces.{elements_next, elements-none, measured-count, measured-as, measured-fits, measured-next, measured-done}
use Rattle.module.proofs.list.list_size.Goals as goal

pub loop-i-init : goal.loop-i-init
loop-i-init g c = (omega arith, measured-count _)

pub overflow_add-size : goal.overflow_add-size
overflow_add-size g c =
    let here = measured-as c.loop-i.invariant.1 (elements_next _ c.loop-i.i (omega arith)) in
    omega (arith, measured-fits here, c.size_at-size.ensures, c.requires)

pub loop-i-preserved : goal.loop-i-preserved
loop-i-preserved g c =
    let here = measured-as c.loop-i.invariant.1 (elements_next _ c.loop-i.i (omega arith)) in
    (omega arith, measured-next here _ c.size_at-size.ensures)

pub returns : goal.returns
returns g c = measured-done (measured-as c.loop-i.invariant.1 (elements-none _ c.loop-i.i (omega arith)))
