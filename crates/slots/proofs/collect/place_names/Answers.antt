use native.Mathlib.Omega.{arith}
use Rattle.slots.proofs.Params.{params-start, params-head, params-next, params-done}
use Rattle.slots.proofs.collect.place_names.Goals as goal

pub loop-place-init : goal.loop-place-init
loop-place-init c = params-start _ _ _ _ c.requires.1

pub overflow_cast-place : goal.overflow_cast-place
overflow_cast-place c = omega (arith, (params-head _ _ _ _ _ _ c.loop-place.invariant c.loop-place-test.true).byte, c.requires.0)

pub name_end-p-requires : goal.name_end-p-requires
name_end-p-requires c = params-head _ _ _ _ _ _ c.loop-place.invariant c.loop-place-test.true

pub loop-place-preserved : goal.loop-place-preserved
loop-place-preserved c = params-next _ _ _ _ _ _ c.loop-place.invariant _ c.loop-place-test.true (omega (arith, c.loop-place.auto.places)) c.name_end-p.ensures

pub returns : goal.returns
returns c = params-done _ _ _ _ _ _ c.loop-place.invariant c.loop-place-test.false c.loop-place.auto.places
