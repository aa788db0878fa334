use Prim.Native.Nat.{ℕ, ◌-◌, ◌+◌, ◌<◌}
use native.Mathlib.Omega.{arith}
use mathlib.Core.Path.{◌≡◌, subst}
use Rattle.tally.proofs.Walking.{function-head, function-here}
use Rattle.tally.proofs.Counting.{Summing, summing_start, summing-next, summing-done}
use Rattle.tally.proofs.count_functions.Goals as goal

pub loop-init : goal.loop-init
loop-init c = subst (λ (j : ℕ). Summing c.args.count c.args.bytes.now c.args.at j c.args.at 0) (let z : c.args.count ≡ c.args.count - 0 = omega arith in z) (summing_start _ _ _ c.requires)

pub overflow_add-p : goal.overflow_add-p
overflow_add-p c = let l = c.loop in let h : 0 < c.args.count - l.counter = (let m = c.loop-test.true in omega arith) in let k = function-head _ _ _ h l.invariant.rest in omega arith

pub number_at-n-requires : goal.number_at-n-requires
number_at-n-requires c = let l = c.loop in let h : 0 < c.args.count - l.counter = (let m = c.loop-test.true in omega arith) in let k = function-head _ _ _ h l.invariant.rest in (omega arith, omega arith)

pub overflow_add-p-in-loop : goal.overflow_add-p-in-loop
overflow_add-p-in-loop c = let l = c.loop in let h : 0 < c.args.count - l.counter = (let m = c.loop-test.true in omega arith) in let k = function-head _ _ _ h l.invariant.rest in omega arith

pub count_code-p-requires : goal.count_code-p-requires
count_code-p-requires c = let l = c.loop in let h : 0 < c.args.count - l.counter = (let m = c.loop-test.true in omega arith) in (function-here _ (c.args.count - l.counter) l.p _ h l.invariant.rest c.number_at-n.ensures.0).code

pub overflow_add-total : goal.overflow_add-total
overflow_add-total c = let l = c.loop.invariant in let f = l.few in let h = l.rest.here in let b = c.number_at-n.ensures.1 in omega arith

pub loop-preserved : goal.loop-preserved
loop-preserved c =
    let l = c.loop in
    let h : 0 < c.args.count - l.counter = (let m = c.loop-test.true in omega arith) in
    let f = function-here _ (c.args.count - l.counter) l.p _ h l.invariant.rest c.number_at-n.ensures.0 in
    subst (λ (j : ℕ). Summing c.args.count c.args.bytes.now c.args.at j c.count_code-p.result.at (l.total + c.number_at-n.result))
    (let z : c.args.count - l.counter - 1 ≡ c.args.count - (l.counter + 1) = omega arith in z)
    (summing-next _ _ _ (c.args.count - l.counter) l.p _ _ _ h l.invariant f c.count_code-p.ensures.ends)

pub returns : goal.returns
returns c = let l = c.loop in summing-done _ _ _ (c.args.count - l.counter) l.p _ (let m = c.loop-test.false in omega arith) l.invariant
