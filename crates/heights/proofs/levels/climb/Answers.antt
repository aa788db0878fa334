use Prim.Native.Nat.{ℕ}
use mathlib.Core.Path.{refl, sym, ◌∙◌, subst}
use mathlib.Core.List.{List}
use native.Mathlib.Omega.{arith}
use Rattle.definitions.specs.Search.{Swept}
use Rattle.definitions.specs.Heights.{by_height, mark_some}
use Rattle.reader.specs.View.{instructions_of}
use Rattle.search.specs.View.{marks_of}
use Rattle.search.proofs.Looping.{beginning, going_start, head_few, expandable, going_on, going_end}
use Rattle.heights.proofs.Climbing.{place-stands, mark-place, mark-small, marks-given}
use Rattle.heights.proofs.levels.climb.Goals as goal

pub begin-requires : goal.begin-requires
begin-requires c = beginning c.requires

pub loop-head-init : goal.loop-head-init
loop-head-init c = record { going = going_start c.requires (by_height _) _ c.begin.auto.area c.begin.ensures; same_area = refl }

pub bounds-table-p : goal.bounds-table-p
bounds-table-p c = mark-place c.requires c.loop-head.invariant.going c.loop-head-test.true refl

pub mark_after-mark-requires : goal.mark_after-mark-requires
mark_after-mark-requires c =
    let G = c.loop-head.invariant.going in let l = c.loop-head-test.true in let m = mark-small c.requires G l refl refl in
    (place-stands c.requires G l refl, m.0, m.1)

pub expand-requires : goal.expand-requires
expand-requires c = expandable c.requires (by_height _) c.loop-head.invariant.going c.loop-head-test.true _ refl _ (mark_some _ _ _ _ c.mark_after-mark.ensures)

pub loop-head-smaller : goal.loop-head-smaller
loop-head-smaller c =
    let h = head_few c.requires (by_height _) c.loop-head.invariant.going c.loop-head-test.true in
    let f = c.requires.coded.few in let k = c.requires.count in omega arith

pub loop-head-preserved : goal.loop-head-preserved
loop-head-preserved c =
    let G = c.loop-head.invariant.going in let l = c.loop-head-test.true in let e = c.expand.ensures in
    let m = marks-given c.requires G l refl refl c.mark_after-mark.ensures in
    record { going = going_on c.requires (by_height _) G l _ refl _ m e.long e.expands; same_area = e.same_area ∙ c.loop-head.invariant.same_area }

pub returns : goal.returns
returns c =
    let i = c.loop-head.invariant in let e = c.area-in-loop-head-1.given.1.1 (sym i.same_area) in
    subst (λ (xs : List ℕ). Swept (by_height (instructions_of c.args.code.now)) (instructions_of c.args.code.now) (marks_of c.args.n xs)) (sym e)
    (going_end c.requires (by_height _) i.going c.loop-head-test.false)
