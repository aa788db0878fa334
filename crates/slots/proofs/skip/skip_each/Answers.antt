use native.Mathlib.Omega.{arith}
use Rattle.slots.specs.Steps.{at_start, one_more}
use Rattle.slots.proofs.Walks.{all-gone}
use Rattle.slots.proofs.skip.skip_each.Goals as goal

pub loop-init : goal.loop-init
loop-init g c = at_start

pub each-p-requires : goal.each-p-requires
each-p-requires g c = c.requires c.loop.counter c.loop.p (let m = c.loop-test.true in omega arith) c.loop.invariant

pub loop-preserved : goal.loop-preserved
loop-preserved g c = one_more c.loop.invariant c.each-p.ensures

pub returns : goal.returns
returns g c = all-gone (let m = c.loop-test.false in omega arith) c.loop.invariant
