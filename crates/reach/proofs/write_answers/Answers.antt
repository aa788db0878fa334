use mathlib.Core.Path.{refl, sym, ◌∙◌}
use native.Mathlib.Omega.{arith}
use Rattle.reach.proofs.Seeking.{place_at, op-at, traceable, count_fits, marked-in, no_own, own_room, own-written}
use Rattle.reach.proofs.write_answers.Goals as goal

pub way_length-count-requires : goal.way_length-count-requires
way_length-count-requires c = traceable c.requires

pub write_way-requires : goal.write_way-requires
write_way-requires c = let e = c.way_length-count.ensures in (traceable c.requires, e, count_fits c.requires _ e)

pub offset_bounds-places-place : goal.offset_bounds-places-place
offset_bounds-places-place c = let p = marked-in c.requires in let f = c.requires.coded.few in omega arith

pub bounds-places-place : goal.bounds-places-place
bounds-places-place c = let p = marked-in c.requires in let l = c.requires.starts.long in omega arith

pub bounds-code-at : goal.bounds-code-at
bounds-code-at c = let M = c.requires in place_at M.coded M.starts (marked-in M) refl

pub returns-then-not-is_question : goal.returns-then-not-is_question
returns-then-not-is_question c =
    let M = c.requires in let o = op-at M.coded M.starts (marked-in M) refl in let k = c.way_length-count.ensures in let w = c.write_way.ensures in
    no_own M o k w (sym c.is_question.ensures ∙ c.if-not-is_question.true)

pub bounds-out-count : goal.bounds-out-count
bounds-out-count c = let M = c.requires in let o = op-at M.coded M.starts (marked-in M) refl in let k = c.way_length-count.ensures in let w = c.write_way.ensures in own_room M o k w (sym c.is_question.ensures ∙ c.if-not-is_question.false)

pub overflow_add-result : goal.overflow_add-result
overflow_add-result c =
    let M = c.requires in let o = op-at M.coded M.starts (marked-in M) refl in let k = c.way_length-count.ensures in let w = c.write_way.ensures in let r = own_room M o k w (sym c.is_question.ensures ∙ c.if-not-is_question.false) in
    omega arith

pub returns : goal.returns
returns c = let M = c.requires in let o = op-at M.coded M.starts (marked-in M) refl in let k = c.way_length-count.ensures in let w = c.write_way.ensures in own-written M o k w (sym c.is_question.ensures ∙ c.if-not-is_question.false) refl
