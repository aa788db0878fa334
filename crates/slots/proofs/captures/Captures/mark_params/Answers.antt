use native.Mathlib.Omega.{arith}
use mathlib.Core.Path.{refl}
use Rattle.slots.proofs.Marking.{mark-start, mark-there, mark-next, mark-done}
use Rattle.slots.proofs.captures.Captures.mark_params.Goals as goal

pub loop-init : goal.loop-init
loop-init c = mark-start _ _ _ c.requires c.u16_at-count.ensures.0 _ (omega arith)

pub name_end-p-requires : goal.name_end-p-requires
name_end-p-requires c = mark-there _ _ _ _ _ _ c.loop.invariant (omega (arith, c.loop-test.true)) _ _ c.mark.ensures

pub loop-preserved : goal.loop-preserved
loop-preserved c = mark-next _ _ _ _ _ _ c.loop.invariant (omega (arith, c.loop-test.true)) _ _ c.mark.ensures c.name_end-p.ensures _ (omega arith)

pub returns : goal.returns
returns c = mark-done _ _ _ _ _ _ c.loop.invariant _ (omega (arith, c.loop-test.false)) refl c.u16_at-count.ensures.0
