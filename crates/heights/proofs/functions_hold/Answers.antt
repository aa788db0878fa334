use native.Mathlib.Omega.{arith}
use mathlib.Core.Path.{refl}
use Prim.Native.Nat.{◌-◌, ◌<◌}
use Rattle.tally.proofs.Walking.{function-head}
use Rattle.heights.proofs.Checking.{first, parted, holding-begins, holding-on, holding-goes, holding-falls, holding-done}
use Rattle.heights.proofs.functions_hold.Goals as goal

pub number_at-number-requires : goal.number_at-number-requires
number_at-number-requires c =
    let l = c.loop in let t = c.loop-test.true in let left : 0 < c.args.count - l.counter = omega arith in
    let h = function-head _ _ _ left l.invariant.0.rest.functions in (omega arith, omega arith)

pub number_at-n-requires : goal.number_at-n-requires
number_at-n-requires c =
    let l = c.loop in let t = c.loop-test.true in let left : 0 < c.args.count - l.counter = omega arith in
    let h = function-head _ _ _ left l.invariant.0.rest.functions in (omega arith, omega arith)

pub count_code-end-requires : goal.count_code-end-requires
count_code-end-requires c =
    let l = c.loop in let t = c.loop-test.true in let left : 0 < c.args.count - l.counter = omega arith in
    let h = function-head _ _ _ left l.invariant.0.rest.functions in
    (first l.invariant.0 left c.number_at-n.ensures.0 c.number_at-number.ensures.0).code

pub overflow_sub-part : goal.overflow_sub-part
overflow_sub-part c =
    let l = c.loop in let t = c.loop-test.true in let left : 0 < c.args.count - l.counter = omega arith in
    let h = function-head _ _ _ left l.invariant.0.rest.functions in
    let x = (first l.invariant.0 left c.number_at-n.ensures.0 c.number_at-number.ensures.0).code.read.from in let e = c.count_code-end.ensures.ends in omega arith

pub part_holds-requires : goal.part_holds-requires
part_holds-requires c =
    let l = c.loop in let t = c.loop-test.true in let left : 0 < c.args.count - l.counter = omega arith in
    let h = function-head _ _ _ left l.invariant.0.rest.functions in let b = c.number_at-n.ensures.1 in
    (parted l.invariant.0 left c.number_at-n.ensures.0 c.number_at-number.ensures.0 c.count_code-end.ensures.ends (omega arith), l.invariant.1)

pub returns-then-not-part_holds : goal.returns-then-not-part_holds
returns-then-not-part_holds c =
    let l = c.loop in let t = c.loop-test.true in let left : 0 < c.args.count - l.counter = omega arith in
    let h = function-head _ _ _ left l.invariant.0.rest.functions in
    holding-falls l.invariant.0 left c.number_at-n.ensures.0 c.number_at-number.ensures.0 c.count_code-end.ensures.ends c.if-not-part_holds.ensures refl

pub loop-preserved : goal.loop-preserved
loop-preserved c =
    let l = c.loop in let t = c.loop-test.true in let left : 0 < c.args.count - l.counter = omega arith in
    let h = function-head _ _ _ left l.invariant.0.rest.functions in
    let k = c.part_holds.auto.area in let w = l.invariant.1 in
    (holding-goes _ (holding-on l.invariant.0 left c.number_at-n.ensures.0 c.number_at-number.ensures.0 c.count_code-end.ensures.ends c.if-not-part_holds.ensures refl), omega arith)

pub loop-init : goal.loop-init
loop-init c = (holding-begins c.requires.0, c.requires.1)

pub returns : goal.returns
returns c = holding-done c.loop.invariant.0 (let t = c.loop-test.false in omega arith)
