use mathlib.Core.Path.{refl}
use Prim.Native.Nat.{◌+◌}
use native.Mathlib.Omega.{arith}
use Rattle.parts.specs.Search.{PutsName}
use Rattle.tree_view.proofs.NameLaws.{same-as}
use Rattle.parts.proofs.SearchLaws.{seek-start, put-twice, put_next, put-here, entry-low}
use Rattle.parts.proofs.distinct.put_name.Goals as goal

pub loop-k-init : goal.loop-k-init
unfolding PutsName
loop-k-init c = (c.requires.0, seek-start _ _ _ _ _ c.requires.0)

pub name_part-requires : goal.name_part-requires
unfolding PutsName
name_part-requires c = c.loop-k.invariant.1.entry.there

pub name_part-requires-in-loop-k : goal.name_part-requires-in-loop-k
unfolding PutsName
name_part-requires-in-loop-k c = c.requires.1

pub returns-then-same_bytes : goal.returns-then-same_bytes
unfolding PutsName
returns-then-same_bytes c = put-twice _ _ _ _ c.loop-k.invariant.1.entry (same-as _ _ _ _ _ _ c.same_bytes.ensures c.name_part.ensures.result_value c.name_part-in-loop-k.ensures.result_value c.if-same_bytes.true)

pub turn-requires : goal.turn-requires
unfolding PutsName
turn-requires c = c.requires.1

pub overflow_add-slot : goal.overflow_add-slot
unfolding PutsName
overflow_add-slot c = let h = c.loop-k.invariant.1.entry.low in let z = c.turn.ensures.1 in omega arith

pub offset_bounds-table-slot : goal.offset_bounds-table-slot
unfolding PutsName
offset_bounds-table-slot c = let h = c.loop-k.invariant.1.entry.low in let z = c.turn.ensures.1 in omega arith

pub bounds-table-slot : goal.bounds-table-slot
unfolding PutsName
bounds-table-slot c = let h = c.loop-k.invariant.1.entry.low in let z = c.turn.ensures.1 in omega arith

pub overflow_cast-next : goal.overflow_cast-next
unfolding PutsName
overflow_cast-next c = let h = entry-low _ _ _ _ (c.loop-k.p + c.turn.result) c.loop-k.invariant.0 in omega arith

pub overflow_cast-table : goal.overflow_cast-table
unfolding PutsName
overflow_cast-table c = let h = c.requires.2 in omega arith

pub offset_bounds-table-slot-then-next-eq0 : goal.offset_bounds-table-slot-then-next-eq0
unfolding PutsName
offset_bounds-table-slot-then-next-eq0 c = let h = c.loop-k.invariant.1.entry.low in let z = c.turn.ensures.1 in omega arith

pub bounds-table-slot-then-next-eq0 : goal.bounds-table-slot-then-next-eq0
unfolding PutsName
bounds-table-slot-then-next-eq0 c = let h = c.loop-k.invariant.1.entry.low in let z = c.turn.ensures.1 in omega arith

pub returns-then-next-eq0 : goal.returns-then-next-eq0
unfolding PutsName
returns-then-next-eq0 c =
    let o = same-as _ _ _ _ _ _ c.same_bytes.ensures c.name_part.ensures.result_value c.name_part-in-loop-k.ensures.result_value c.if-same_bytes.false in
    let z = c.requires in
    let h = c.loop-k.invariant.1.entry.low in
    let y = c.turn.ensures.1 in
    put-here _ _ _ _ _ _ _ _ c.loop-k.invariant.0 c.loop-k.invariant.1 o c.turn.ensures.0 _ c.if-next-eq0.true z.1 z.2 z.3 refl (omega arith)

pub loop-k-preserved : goal.loop-k-preserved
unfolding PutsName
loop-k-preserved c =
    let o = same-as _ _ _ _ _ _ c.same_bytes.ensures c.name_part.ensures.result_value c.name_part-in-loop-k.ensures.result_value c.if-same_bytes.false in
    put_next _ _ _ _ _ _ _ _ c.loop-k.invariant.0 c.loop-k.invariant.1 o c.turn.ensures.0 (let q = c.if-next-eq0.false in omega arith)

pub returns : goal.returns
unfolding PutsName
returns c = tt
