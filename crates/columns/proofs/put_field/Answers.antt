use native.Mathlib.Omega.{arith}
use Prim.Native.Nat.{ℕ, ◌+◌, ◌-◌}
use mathlib.Core.Path.{◌≡◌, sym, ap, ◌∙◌, subst}
use mathlib.Core.List.{◌++◌}
use lib.ListN.{drop, replicate}
use lib.Seq.{length-take-le}
use Rattle.definitions.specs.Calls.{written}
use Rattle.definitions.specs.Columns.{right_in}
use Rattle.columns.specs.Fields.{field_text}
use Rattle.columns.proofs.Splitting.{field-start, field_next, field-done, field-blank}
use Rattle.columns.proofs.put_field.Goals as goal

pub loop-i-init : goal.loop-i-init
loop-i-init c = field-start _ _ _ c.requires.0 c.requires.1

pub returns-in-Blank : goal.returns-in-Blank
returns-in-Blank c =
    let l = c.loop-i in
    let next : l.i ≡ l.i - 1 + 1 = let z = c.loop-i-test.true in omega arith in
    let size = length-take-le (l.i - 1 + 1) l.out (let z = l.auto in let y = c.requires.1 in omega arith) ∙ sym next in
    let spaces = c.fill.ensures.after (λ y h. h) ∙ ap (λ (n : ℕ). replicate n 32) size in
    subst (λ (k : ℕ). c.fill.new.self ++ drop k l.out ≡ written (right_in c.args.w (field_text c.args.f)) c.args.out.now) next
    (field-blank _ _ l.out c.fill.new.self l.i _ c.in-Blank.is spaces l.invariant.2)

pub loop-i-preserved : goal.loop-i-preserved
loop-i-preserved c = let l = c.loop-i in let n = field_next _ _ _ l.i _ _ c.loop-i-test.true l.invariant.1 l.invariant.2 c.last_of-last.ensures in (omega arith, n.0, n.1)

pub returns : goal.returns
returns c = let l = c.loop-i in field-done _ _ _ l.i _ c.loop-i-test.false l.invariant.1 l.invariant.2
