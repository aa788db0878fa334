use Prim.Native.Nat.{ℕ, ◌+◌, ◌^◌, ◌<◌, ◌≤◌}
use mathlib.Core.Path.{◌≡◌, sym, ◌∙◌, subst}
use native.Mathlib.Omega.{arith}
use Rattle.reader.proofs.NumberLaws.{horner, grows, small_one, number-all}
use Rattle.reader.proofs.numbers.long_number.Goals as goal

pub overflow_mul-n : goal.overflow_mul-n
overflow_mul-n c = let l = c.loop-i in let h = c.loop-i-test.true in let k = c.requires.1 in let s = small_one l.n l.i c.args.width h k l.invariant.0 in omega arith

pub overflow_add-n-in-loop-i : goal.overflow_add-n-in-loop-i
overflow_add-n-in-loop-i c = let l = c.loop-i in let h = c.loop-i-test.true in let k = c.requires.1 in let s = small_one l.n l.i c.args.width h k l.invariant.0 in omega (arith, c.type_inv.bytes (c.args.at + l.i))

pub loop-i-preserved : goal.loop-i-preserved
loop-i-preserved c = let l = c.loop-i in let a = c.args in (grows l.n _ l.i l.invariant.0 (omega (arith, c.type_inv.bytes (a.at + l.i))), l.invariant.1 ∙ horner a.bytes.now a.at a.width l.i l.n c.loop-i-test.true)

pub returns : goal.returns
returns c =
    let l = c.loop-i in
    let a = c.args in
    let h : a.width ≤ l.i = c.loop-i-test.false in
    let k : l.i ≤ a.width = omega arith in
    let e : l.i ≡ a.width = omega arith in
    (sym (l.invariant.1 ∙ number-all a.bytes.now a.at a.width l.i l.n k h), subst (λ (k : ℕ). l.n < 256 ^ k) e l.invariant.0)
