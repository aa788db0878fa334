use Rattle.tree_view.proofs.NameLaws.{there-first}
use Rattle.parts.proofs.SearchLaws.{sift-start, sift-asks, sift-there, sift-next, sift-twice, sift-end, puts-new, puts-twice}
use Rattle.parts.proofs.distinct.distinct_many.Goals as goal

pub name_end-p-requires : goal.name_end-p-requires
name_end-p-requires c = there-first _ _ _ c.requires.1 c.requires.0

pub loop-count-init : goal.loop-count-init
loop-count-init c = sift-start _ _ _ c.requires.0 c.requires.1 c.requires.2 c.requires.3 _ c.name_end-p.ensures

pub put_name-requires : goal.put_name-requires
put_name-requires c = sift-asks _ _ _ c.requires.0 c.requires.1 c.requires.2 c.requires.3 _ _ _ c.loop-count.invariant c.loop-count-test.true

pub name_end-p-requires-in-New : goal.name_end-p-requires-in-New
name_end-p-requires-in-New c = sift-there _ _ _ c.requires.0 c.requires.1 c.requires.2 c.requires.3 _ _ _ c.loop-count.invariant c.loop-count-test.true

pub loop-count-preserved : goal.loop-count-preserved
loop-count-preserved c = sift-next _ _ _ c.requires.0 c.requires.1 c.requires.2 c.requires.3 _ _ _ c.loop-count.invariant c.loop-count-test.true _ _ c.name_end-p-in-New.ensures (puts-new _ _ _ _ _ _ c.put_name.ensures c.in-New.is)

pub returns-in-Twice : goal.returns-in-Twice
returns-in-Twice c = sift-twice _ _ _ c.requires.0 c.requires.1 c.requires.2 c.requires.3 _ _ _ c.loop-count.invariant c.loop-count-test.true (puts-twice _ _ _ _ _ _ c.put_name.ensures c.in-Twice.is)

pub distinct_few-requires : goal.distinct_few-requires
distinct_few-requires c = c.requires.0

pub returns-in-Lost : goal.returns-in-Lost
returns-in-Lost c = c.distinct_few.ensures

pub returns : goal.returns
returns c = sift-end _ _ _ c.requires.0 c.requires.1 c.requires.2 c.requires.3 _ _ _ c.loop-count.invariant c.loop-count-test.false
