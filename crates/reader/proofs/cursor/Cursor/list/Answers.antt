use mathlib.Core.Path.{◌≡◌, sym, ap, ◌∙◌}
use native.Mathlib.Omega.{arith}
use Prim.Native.Nat.{ℕ, ◌-◌, ◌+◌}
use mathlib.Core.List.{List}
use Rattle.std.specs.Prelude.{Some, None}
use Rattle.reader.specs.View.{steps_by, list_by}
use Rattle.reader.proofs.ListLaws.{list-cut, list-starts, steps-next, steps-stop, steps-end}
use Rattle.reader.proofs.Cursoring.{none-steps}
use Rattle.reader.proofs.cursor.Cursor.list.Goals as goal

pub returns-in_err-count : goal.returns-in_err-count
returns-in_err-count g c = λ step h.
    let s = c.args.self.now in
    none-steps (λ t. list_by (step t) t) c.from_residual.result s c.number.new.self c.from_residual.ensures (list-cut (step s.bytes.now) s.bytes.now s.at c.in_err-count.ensures)

pub returns-in_err-each : goal.returns-in_err-each
returns-in_err-each g c = λ step h.
    let s = c.args.self.now in let t = s.bytes.now in let l = c.loop.c in let i = c.loop.invariant step h in let k = c.in_ok-count.ensures in
    none-steps (λ t. list_by (step t) t) c.from_residual-in_err-each.result s c.number.new.self c.from_residual-in_err-each.ensures
    (list-starts (step t) t s.at c.in_ok-count.count k.0.room k.1 ∙ i.1
    ∙ steps-stop (step t) _ l.at (let m = c.loop-test.true in omega arith) (ap (λ (u : List ℕ). step u l.at) (sym i.0) ∙ h _ None _ c.in_err-each.ensures))

pub loop-preserved : goal.loop-preserved
loop-preserved g c = λ step h.
    let t = c.args.self.now.bytes.now in let l = c.loop.c in let i = c.loop.invariant step h in let e = c.each.new.arg2 in
    let q = h _ (Some tt) _ c.in_ok-each.ensures in (
      q.bytes ∙ i.0,
      i.1 ∙ steps-next (step t) _ l.at e.at (let m = c.loop-test.true in omega arith) (ap (λ (u : List ℕ). step u l.at) (sym i.0) ∙ q.to)
          ∙ ap (λ (k : ℕ). steps_by (step t) k e.at) (let z : c.in_ok-count.count - c.loop.counter - 1 ≡ c.in_ok-count.count - (c.loop.counter + 1) = omega arith in z),
    )

pub returns : goal.returns
returns g c = λ step h.
    let s = c.args.self.now in let t = s.bytes.now in let l = c.loop.c in let i = c.loop.invariant step h in let k = c.in_ok-count.ensures in
    record { bytes = i.0; to = list-starts (step t) t s.at c.in_ok-count.count k.0.room k.1 ∙ i.1 ∙ steps-end (step t) _ l.at (let m = c.loop-test.false in omega arith) }
