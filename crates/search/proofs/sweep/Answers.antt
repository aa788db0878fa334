use Prim.Native.Nat.{ℕ}
use mathlib.Core.Path.{refl, sym, ◌∙◌, subst}
use mathlib.Core.List.{List}
use native.Mathlib.Omega.{arith}
use Rattle.definitions.specs.Search.{by_link, Swept}
use Rattle.definitions.proofs.Reached.{links_from, links-given}
use Rattle.reader.specs.View.{instructions_of}
use Rattle.search.specs.View.{marks_of}
use Rattle.search.proofs.Looping.{beginning, going_start, head_few, place-few, expandable, going_on, going_end}
use Rattle.search.proofs.sweep.Goals as goal

pub begin-requires : goal.begin-requires
begin-requires c = beginning c.requires

pub loop-head-init : goal.loop-head-init
loop-head-init c = record { going = going_start c.requires by_link _ c.begin.auto.area c.begin.ensures; same_area = refl }

pub expand-requires : goal.expand-requires
expand-requires c = expandable c.requires by_link c.loop-head.invariant.going c.loop-head-test.true _ refl (links_from _) (λ z. omega arith)

pub loop-head-smaller : goal.loop-head-smaller
loop-head-smaller c = let h = head_few c.requires by_link c.loop-head.invariant.going c.loop-head-test.true in let f = c.requires.coded.few in let k = c.requires.count in omega arith

pub loop-head-preserved : goal.loop-head-preserved
loop-head-preserved c =
    let e = c.expand.ensures in
    record {
      going = going_on c.requires by_link c.loop-head.invariant.going c.loop-head-test.true _ refl (links_from _) (links-given _ _ _) e.long e.expands;
      same_area = e.same_area ∙ c.loop-head.invariant.same_area;
    }

pub returns : goal.returns
returns c =
    let i = c.loop-head.invariant in let e = c.area-in-loop-head-1.given.1.1 (sym i.same_area) in
    subst (λ (xs : List ℕ). Swept by_link (instructions_of c.args.code.now) (marks_of c.args.n xs)) (sym e) (going_end c.requires by_link i.going c.loop-head-test.false)

pub overflow_mul-mark : goal.overflow_mul-mark
overflow_mul-mark c = let h = place-few c.requires by_link c.loop-head.invariant.going c.loop-head-test.true _ refl in let f = c.requires.coded.few in let k = c.requires.count in omega arith

pub overflow_add-mark : goal.overflow_add-mark
overflow_add-mark c = let h = place-few c.requires by_link c.loop-head.invariant.going c.loop-head-test.true _ refl in let f = c.requires.coded.few in let k = c.requires.count in omega arith

pub overflow_add-marks : goal.overflow_add-marks
overflow_add-marks c = let h = place-few c.requires by_link c.loop-head.invariant.going c.loop-head-test.true _ refl in let f = c.requires.coded.few in let k = c.requires.count in omega arith

pub overflow_add-marks-in-loop-head : goal.overflow_add-marks-in-loop-head
overflow_add-marks-in-loop-head c = let h = place-few c.requires by_link c.loop-head.invariant.going c.loop-head-test.true _ refl in let f = c.requires.coded.few in let k = c.requires.count in omega arith
