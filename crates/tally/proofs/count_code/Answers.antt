use Prim.Native.Nat.{ℕ, ◌+◌, ◌-◌, ◌<◌}
use native.Mathlib.Omega.{arith}
use mathlib.Core.Path.{◌≡◌, refl, sym, ◌∙◌, subst}
use Rattle.definitions.specs.Sheet.{is_question, is_call}
use Rattle.tally.proofs.Walking.{not-nothing}
use Rattle.tally.proofs.Counting.{Counting, one-more, counting-start, counting-next, counting-done}
use Rattle.tally.proofs.count_code.Goals as goal

pub loop-init : goal.loop-init
loop-init c = subst (λ (j : ℕ). Counting c.args.n c.args.bytes.now c.args.at j c.args.at 0 0) (let z : c.args.n ≡ c.args.n - 0 = omega arith in z) (counting-start _ _ _ c.requires)

pub returns-in_default : goal.returns-in_default
returns-in_default c = let l = c.loop in let h : 0 < c.args.n - l.counter = (let m = c.loop-test.true in omega arith) in absurd (not-nothing _ _ l.tallied.at h l.invariant.rest (sym c.instruction_at.ensures ∙ c.in_default.is))

pub loop-preserved : goal.loop-preserved
loop-preserved c =
    let l = c.loop in let h : 0 < c.args.n - l.counter = (let m = c.loop-test.true in omega arith) in
    let q = one-more is_question _ _ _ c.is_question.ensures c.from.ensures in let k = one-more is_call _ _ _ c.is_call.ensures c.from-in-loop.ensures in
    subst (λ (j : ℕ). Counting c.args.n c.args.bytes.now c.args.at j c.in-Some.instruction.next (l.tallied.questions + c.from.result) (l.tallied.calls + c.from-in-loop.result))
    (let z : c.args.n - l.counter - 1 ≡ c.args.n - (l.counter + 1) = omega arith in z)
    (counting-next _ _ _ (c.args.n - l.counter) l.tallied.at _ _ h l.invariant _ _ _ _ _ _ (sym c.instruction_at.ensures ∙ c.in-Some.is) q.0 q.1 k.0 k.1)

pub returns : goal.returns
returns c = let l = c.loop in counting-done _ _ _ (c.args.n - l.counter) l.tallied.at _ _ (let m = c.loop-test.false in omega arith) l.invariant _ refl refl refl
