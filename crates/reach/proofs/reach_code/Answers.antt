use native.Mathlib.Omega.{arith}
use lib.ListN.{length-replicate}
use Rattle.reach.proofs.Seeking.{ready, no_way, marked}
use Rattle.reach.proofs.reach_code.Goals as goal

pub fill_places-requires : goal.fill_places-requires
fill_places-requires c = let p = c.requires in (p.coded, (let f = p.coded.few in simp length-replicate (omega arith)))

pub sweep-requires : goal.sweep-requires
sweep-requires c = ready c.requires c.fill_places.ensures

pub returns-then-area-place-eq0 : goal.returns-then-area-place-eq0
returns-then-area-place-eq0 c = no_way c.requires _ c.sweep.auto.area c.sweep.ensures c.if-area-place-eq0.true

pub write_answers-requires : goal.write_answers-requires
write_answers-requires c = marked c.requires _ c.sweep.auto.area c.sweep.ensures c.fill_places.ensures c.if-area-place-eq0.false
